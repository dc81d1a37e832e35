use Rattle.std.proofs.Common.{◌∷◌, [], Option, refl, subst}
use Rattle.std.specs.Prelude.{IfSome}
use Rattle.xq_meaning.specs.declared.plans.Plan.{Plan}
use Rattle.xq_meaning.specs.declared.plans.Plan.TheVariants as plan
use Rattle.xq_optimise.specs.private.FirstTests.{SameAtNode}
use Rattle.xq_optimise.proofs.FirstTests.{pair_decides}
use Rattle.xq_optimise.proofs.first_tests.with_left.Goals as goal

pub returns-in_ok-pair-in-Some : goal.returns-in_ok-pair-in-Some
returns-in_ok-pair-in-Some c =
    let side = c.in-Some.side in
    let test = plan.Chain c.args.left ((c.args.operator, c.args.right) ∷ []) in
    let told = subst (λ (o : Option Plan). IfSome o (λ s. SameAtNode c.args.slot c.args.right s)) c.in-Some.is c.in_ok-side.ensures in
    pair_decides c.args.slot c.args.operator c.args.left c.args.right c.args.left side test c.in_ok-pair-in-Some.field-0 c.requires.values refl c.in_ok-pair-in-Some.ensures c.requires.same told
