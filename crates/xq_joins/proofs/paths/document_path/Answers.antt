use Rattle.std.proofs.Common.{◌∙◌, sym}
use Rattle.xq_meaning.specs.declared.plans.Plan.TheVariants as plan
use Rattle.xq_joins.proofs.DocumentPaths.{path_from}
use Rattle.xq_joins.proofs.paths.document_path.Goals as goal

pub returns : goal.returns
returns c =
    let start = sym c.get.ensures ∙ c.in_ok-address.ensures in
    let steps = c.as_slice.ensures in
    path_from c.args.frame c.args.plan.now c.in_ok-address.address.now (record { document = c.in_ok-document.document; steps = c.as_slice.result })
    (c.in-Path.is ∙ (λ i. plan.Path (start i) (sym steps i))) c.in_ok-document.ensures
