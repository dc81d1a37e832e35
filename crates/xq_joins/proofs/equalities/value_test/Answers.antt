use Rattle.xq_tuples.specs.Views.{values_of}
use Rattle.xq_joins.specs.Equalities.{IsValueTest}
use Rattle.xq_joins.specs.private.Texts.{IsAttributeTest}
use Rattle.xq_joins.specs.declared.equalities.TextTest.{TextTest}
use Rattle.xq_joins.proofs.Lists.{if_held}
use Rattle.xq_joins.proofs.ValueTests.{value_first, value_second}
use Rattle.xq_joins.proofs.equalities.value_test.Goals as goal

pub returns-in-Some : goal.returns-in-Some
returns-in-Some c =
    value_first (values_of c.args.slots.now) c.in-Some.found c.in_ok-first.first.now c.in_ok-first.second.now c.in-Some.ensures c.args.predicate.now c.in_ok-first.ensures

pub returns : goal.returns
returns c =
    let slots = values_of c.args.slots.now in
    let first = c.in_ok-first.first.now in
    let second = c.in_ok-first.second.now in
    let p = c.args.predicate.now in
    if_held (λ (found : TextTest). IsAttributeTest slots found second first) (λ (found : TextTest). IsValueTest slots found p) c.attribute_test-2.result
    (λ found is. value_second slots found second first is p c.in_ok-first.ensures) c.attribute_test-2.ensures
