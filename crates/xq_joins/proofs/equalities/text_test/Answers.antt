use Rattle.xq_tuples.specs.Views.{values_of}
use Rattle.xq_joins.proofs.TextTests.{step_first, step_second}
use Rattle.xq_joins.proofs.equalities.text_test.Goals as goal

pub returns-in-Some : goal.returns-in-Some
returns-in-Some c =
    step_first (values_of c.args.slots.now) (record { axis = c.in-Some.axis; test = c.in-Some.test; text = c.in_ok-text.text }) c.in_ok-first.first.now c.in_ok-first.second.now
    c.in-Some.ensures.step c.in-Some.ensures.forward c.in_ok-text.ensures c.args.predicate.now c.in_ok-first.ensures

pub returns : goal.returns
returns c =
    step_second (values_of c.args.slots.now) (record { axis = c.in_ok-axis.axis; test = c.in_ok-axis.test; text = c.in_ok-text-2.text }) c.in_ok-first.second.now c.in_ok-first.first.now
    c.in_ok-axis.ensures.step c.in_ok-axis.ensures.forward c.in_ok-text-2.ensures c.args.predicate.now c.in_ok-first.ensures
