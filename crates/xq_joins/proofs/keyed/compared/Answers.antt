use Rattle.xq_joins.proofs.Keying.{key_first, key_second}
use Rattle.xq_joins.proofs.keyed.compared.Goals as goal

pub returns-in-Some : goal.returns-in-Some
returns-in-Some c =
    key_second (record { axis = c.in-Some.axis; test = c.in-Some.test; key = c.in_ok-key.key }) c.in_ok-first.first.now c.in_ok-first.second.now
    c.in-Some.ensures.step c.in-Some.ensures.forward c.in_ok-key.ensures c.args.predicate.now c.in_ok-first.ensures

pub returns : goal.returns
returns c =
    key_first (record { axis = c.in_ok-axis.axis; test = c.in_ok-axis.test; key = c.in_ok-key-2.key }) c.in_ok-first.second.now c.in_ok-first.first.now
    c.in_ok-axis.ensures.step c.in_ok-axis.ensures.forward c.in_ok-key-2.ensures c.args.predicate.now c.in_ok-first.ensures
