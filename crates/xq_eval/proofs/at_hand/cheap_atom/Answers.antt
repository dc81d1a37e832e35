use Rattle.std.proofs.Common.{Ok, Err, ap, ◌∙◌, sym}
use Rattle.xq_meaning.specs.declared.plans.Plan.TheVariants as plan
use Rattle.xq_meaning.specs.PlanMeaning.{plan_mean}
use Rattle.xq_meaning.proofs.PlanEquations.{plan-Call}
use Rattle.xq_eval.proofs.AtHand.{told_chain, number_told, number_refused}
use Rattle.xq_eval.proofs.at_hand.cheap_atom.Goals as goal

pub returns-in_ok-number_of_chain-in-Chain : goal.returns-in_ok-number_of_chain-in-Chain
returns-in_ok-number_of_chain-in-Chain c = λ trees frame env.
    (let is = c.in-Chain.is ∙ ap (λ p. plan.Chain p c.in-Chain.rest) (sym c.get.ensures) ∙ ap (λ rs. plan.Chain c.get.result.now rs) (sym c.as_slice.ensures) in
    let found = c.in_ok-number_of_chain-in-Chain.field-0 in
    number_told (plan_mean c.args.plan.now frame trees) trees found (told_chain c.args.plan.now c.get.result.now c.as_slice.result.now frame trees (Ok found) is (c.in_ok-number_of_chain-in-Chain.ensures trees frame env)))

pub returns-in_err-number_of_chain-in-Chain : goal.returns-in_err-number_of_chain-in-Chain
returns-in_err-number_of_chain-in-Chain c = λ trees frame env.
    (let is = c.in-Chain.is ∙ ap (λ p. plan.Chain p c.in-Chain.rest) (sym c.get.ensures) ∙ ap (λ rs. plan.Chain c.get.result.now rs) (sym c.as_slice.ensures) in
    let code = c.in_err-number_of_chain-in-Chain.field-0.0 in
    number_refused (plan_mean c.args.plan.now frame trees) trees code c.from_residual-in_err-number_of_chain-in-Chain.result c.from_residual-in_err-number_of_chain-in-Chain.ensures.1
    (told_chain c.args.plan.now c.get.result.now c.as_slice.result.now frame trees (Err code) is (c.in_err-number_of_chain-in-Chain.ensures trees frame env)))

pub returns-in-Call : goal.returns-in-Call
returns-in-Call c = λ trees frame env.
    rw (c.in-Call.is, plan-Call c.in-Call.function c.in-Call.parts, ← c.as_slice-in-Call.ensures) (c.concatenated.ensures trees frame env)
