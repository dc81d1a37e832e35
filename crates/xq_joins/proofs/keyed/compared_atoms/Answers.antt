use Rattle.std.proofs.Common.{List, Option, subst}
use Rattle.std.specs.Prelude.{IfSome}
use Rattle.xq_trees.specs.Tree.{Tree}
use Rattle.xq_tuples.specs.Views.{values_of}
use Rattle.xq_joins.specs.declared.keyed.KeyedTest.{KeyedTest}
use Rattle.xq_joins.specs.Keyed.{IsKeyedTest}
use Rattle.xq_joins.specs.private.AtomKeys.{IsAtomsTest}
use Rattle.xq_joins.proofs.AtomKeys.{atoms_first, atoms_second}
use Rattle.xq_joins.proofs.Lists.{if_some}
use Rattle.xq_joins.proofs.keyed.compared_atoms.Goals as goal

pub returns-in-Some-2 : goal.returns-in-Some-2
returns-in-Some-2 c = λ f.
    let slots = values_of c.args.slots.now in
    let first = c.in-Some.first.now in
    let second = c.in-Some.second.now in
    let is = subst (λ (o : Option KeyedTest). IfSome o (λ test. IsAtomsTest slots test first second)) c.in-Some-2.is c.in_ok-test.ensures in
    atoms_second slots c.in-Some-2.test first second is c.args.predicate.now c.in-Some.ensures f

pub returns : goal.returns
returns c =
    let slots = values_of c.args.slots.now in
    let first = c.in-Some.first.now in
    let second = c.in-Some.second.now in
    let p = c.args.predicate.now in
    if_some (λ (test : KeyedTest). IsAtomsTest slots test second first) (λ (test : KeyedTest). (f : List Tree) → IsKeyedTest f slots test p) c.atoms_test-2.result
    (λ test is f. atoms_first slots test second first is p c.in-Some.ensures f) c.atoms_test-2.ensures
