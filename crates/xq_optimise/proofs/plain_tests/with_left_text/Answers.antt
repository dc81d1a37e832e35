use Rattle.std.proofs.Common.{◌∷◌, [], ap, subst, ◌∙◌}
use Rattle.std.proofs.lemmas.Result.{IfOk-weaker}
use Rattle.xq_meaning.specs.declared.plans.Plan.TheVariants as plan
use Rattle.xq_optimise.specs.private.PlainTests.{IsSide}
use Rattle.xq_optimise.proofs.PlainTests.{right_text}
use Rattle.xq_optimise.proofs.plain_tests.with_left_text.Goals as goal

pub returns-in-StringOf : goal.returns-in-StringOf
returns-in-StringOf c =
    let side = subst (IsSide c.args.right) c.in-StringOf.is c.in_ok-part.ensures in
    let test = plan.Chain c.args.left ((c.args.operator, c.args.right) ∷ []) in
    let is = ap (λ o. plan.Chain c.args.left ((o, c.args.right) ∷ [])) c.requires.equals in
    IfOk-weaker c.pair.result _ _
    (λ found h. right_text test c.args.right c.in-StringOf.part c.args.left found is side.0 side.1 c.requires.text
    (h ∙ ap (λ o. plan.Chain c.args.left ((o, c.in-StringOf.part) ∷ [])) c.value_equals.ensures)) c.pair.ensures
