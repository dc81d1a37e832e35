use Rattle.std.proofs.Common.{refl, subst}
use Rattle.std.proofs.lemmas.Result.{IfOk-weaker}
use Rattle.std.specs.List.{AllByRecursion}
use Rattle.xq_meaning.specs.declared.plans.Plan.TheVariants as plan
use Rattle.xq_optimise.specs.Sure.{SurelyDecides}
use Rattle.xq_optimise.proofs.Splitting.{one_stays}
use Rattle.xq_optimise.proofs.predicates.with_conjuncts.Goals as goal

pub split-requires : goal.split-requires
split-requires c =
    subst (AllByRecursion (SurelyDecides c.args.known.now)) c.as_slice.ensures (c.if-are_sure.ensures refl)

pub returns-else-are_sure : goal.returns-else-are_sure
returns-else-are_sure c =
    IfOk-weaker c.pushed.result _ _
    (λ after h. one_stays c.args.known.now (plan.And c.args.parts) c.args.found after h) c.pushed.ensures
