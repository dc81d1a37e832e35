use Rattle.xq_eval.proofs.Picking.{constant}
use Rattle.xq_eval.proofs.at_hand.is_literal.Goals as goal

pub returns-in-Int : goal.returns-in-Int
returns-in-Int c = λ _. constant c.args.plan.now c.in-Int.is

pub returns-in-Int-2 : goal.returns-in-Int-2
returns-in-Int-2 c = λ _. constant c.args.plan.now c.in-Int.is

pub returns-in-Int-3 : goal.returns-in-Int-3
returns-in-Int-3 c = λ _. constant c.args.plan.now c.in-Int.is
