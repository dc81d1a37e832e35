use Rattle.xq_joins.proofs.Meanings.{tests_first, tests_second}
use Rattle.xq_joins.proofs.pairs.keys_of.Goals as goal

pub returns-then-second-next-clause-test : goal.returns-then-second-next-clause-test
returns-then-second-next-clause-test c = tests_first c.in_ok-first.first.now c.in_ok-first.second.now c.args.test.now c.in_ok-first-2.first c.in_ok-second.second c.in_ok-first-2.ensures c.in_ok-second.ensures c.in_ok-first.ensures

pub returns-then-first-next-2-clause-test : goal.returns-then-first-next-2-clause-test
returns-then-first-next-2-clause-test c = tests_second c.in_ok-first.first.now c.in_ok-first.second.now c.args.test.now c.in_ok-first-2.first c.in_ok-second.second c.in_ok-first-2.ensures c.in_ok-second.ensures c.in_ok-first.ensures
