use Rattle.std.proofs.Common.{◌++◌, ◌∷◌, [], refl, ap, ◌∙◌}
use Rattle.xq_meaning.specs.declared.plans.Plan.TheVariants as plan
use Rattle.xq_meaning.specs.declared.plans.PlanClause.TheVariants as clause
use Rattle.xq_optimise.proofs.Conditionals.{may_before, stand_at}
use Rattle.xq_optimise.proofs.returns.conditional.Goals as goal

pub returns : goal.returns
returns c =
    let may = stand_at c.args.known.now c.get.result.now c.get-2.result.now c.get-3.result.now c.args.test c.args.positive c.args.negative c.get.ensures c.get-2.ensures c.get-3.ensures (c.if-not-may_stand.ensures refl) in
    λ outer. may_before outer c.args.known.now c.args.list c.in_ok-list.list c.args.test c.args.positive c.args.negative (plan.Flwor c.in_ok-list.list c.args.positive) may
    (c.in_ok-list.ensures ∙ ap (λ t. c.args.list ++ clause.Where t ∷ []) c.into_inner.ensures) refl
