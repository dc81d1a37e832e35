use Rattle.std.proofs.Common.{◌∙◌, sym}
use Rattle.std.proofs.lemmas.Option.{IfSome_then}
use Rattle.xq_meaning.specs.declared.plans.Plan.TheVariants as plan
use Rattle.xq_joins.proofs.TextTests.{path_step, context_step}
use Rattle.xq_joins.proofs.equalities.step_at.Goals as goal

pub returns-in-Path : goal.returns-in-Path
returns-in-Path c =
    let start = c.get.ensures in
    let steps = c.as_slice.ensures in
    IfSome_then c.short_path.result c.short_path.ensures
    (λ found h. path_step c.args.frame c.args.plan.now c.get.result.now c.as_slice.result.now found (c.in-Path.is ∙ (λ i. plan.Path (sym start i) (sym steps i))) h.0 h.1)

pub returns : goal.returns
returns c =
    context_step c.args.frame c.args.plan.now (record { node = c.in_ok-node.node; axis = c.in_ok-axis.axis; test = c.in_ok-axis.test }) c.in_ok-axis.ensures.step c.in_ok-axis.ensures.forward c.in_ok-node.ensures
