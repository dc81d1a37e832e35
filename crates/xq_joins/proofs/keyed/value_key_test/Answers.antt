use Rattle.std.proofs.Common.{Option, subst}
use Rattle.std.specs.Prelude.{IfSome}
use Rattle.xq_tuples.specs.Views.{values_of}
use Rattle.xq_joins.specs.declared.keyed.KeyedTest.{KeyedTest}
use Rattle.xq_joins.specs.Keyed.{IsValueKeyTest}
use Rattle.xq_joins.specs.private.AtomKeys.{IsAttributeKey}
use Rattle.xq_joins.proofs.AtomKeys.{keeps_by_key}
use Rattle.xq_joins.proofs.Lists.{if_some}
use Rattle.xq_joins.proofs.ValueTests.{value_first, value_second}
use Rattle.xq_joins.proofs.keyed.value_key_test.Goals as goal

pub returns-in-Some-2 : goal.returns-in-Some-2
returns-in-Some-2 c =
    let slots = values_of c.args.slots.now in
    let first = c.in-Some.first.now in
    let second = c.in-Some.second.now in
    let p = c.args.predicate.now in
    let is = subst (λ (o : Option KeyedTest). IfSome o (λ test. IsAttributeKey slots test first second)) c.in-Some-2.is c.in_ok-test.ensures in
    keeps_by_key slots c.in-Some-2.test first second p is (value_first slots is.test first second is.is p c.in-Some.ensures)

pub returns : goal.returns
returns c =
    let slots = values_of c.args.slots.now in
    let first = c.in-Some.first.now in
    let second = c.in-Some.second.now in
    let p = c.args.predicate.now in
    if_some (λ (test : KeyedTest). IsAttributeKey slots test second first) (λ (test : KeyedTest). IsValueKeyTest slots test p) c.attribute_key-2.result
    (λ test is. keeps_by_key slots test second first p is (value_second slots is.test second first is.is p c.in-Some.ensures)) c.attribute_key-2.ensures
