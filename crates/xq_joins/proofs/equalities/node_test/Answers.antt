use Rattle.xq_joins.proofs.TextTests.{near_first, near_second}
use Rattle.xq_joins.proofs.equalities.node_test.Goals as goal

pub returns-in-Some : goal.returns-in-Some
returns-in-Some c =
    let w = c.with_text.ensures in
    near_first c.args.frame c.with_text.result c.in-Some.step c.in_ok-text.text.now c.in_ok-first.first.now c.in_ok-first.second.now (record { node = w.node; axis = w.axis; test = w.test; text = w.text })
    c.in-Some.ensures c.in_ok-text.ensures c.args.plan.now c.in_ok-first.ensures

pub returns : goal.returns
returns c =
    let w = c.with_text-2.ensures in
    near_second c.args.frame c.with_text-2.result c.in_ok-step.step c.in_ok-text-2.text.now c.in_ok-first.second.now c.in_ok-first.first.now (record { node = w.node; axis = w.axis; test = w.test; text = w.text })
    c.in_ok-step.ensures c.in_ok-text-2.ensures c.args.plan.now c.in_ok-first.ensures
