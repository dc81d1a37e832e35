use Rattle.std.proofs.Common.{◌∷◌, []}
use Rattle.std.proofs.lemmas.Result.{IfOk-weaker}
use Rattle.xq_meaning.specs.declared.plans.Plan.TheVariants as plan
use Rattle.xq_optimise.proofs.PlainTests.{pair_keeps, then_keeps}
use Rattle.xq_optimise.proofs.plain_tests.plain_pair.Goals as goal

pub returns : goal.returns
returns c =
    let op = c.args.operator in
    let left = c.in_ok-left.left in
    let right = c.in_ok-right.right in
    let p = plan.Chain c.args.left ((op, c.args.right) ∷ []) in
    let q = plan.Chain left ((op, right) ∷ []) in
    IfOk-weaker c.with_text.result _ _
    (λ found h. then_keeps p q found (pair_keeps op c.requires.values c.args.left c.args.right left right c.requires.leaves c.in_ok-left.ensures c.in_ok-right.ensures) h) c.with_text.ensures
