use Rattle.xq_server.proofs.Evaluating.{over_trees, read_from_none}
use Rattle.xq_server.specs.private.Work.{Makes}
use Rattle.xq_queries.specs.Values.{plan_value}
use Rattle.xq_server.proofs.evaluations.run_on_view.Goals as goal

pub returns-clause-made : goal.returns-clause-made
returns-clause-made g c = λ clean fits.
    over_trees (λ trees. Makes g.P.Product.makes (plan_value c.args.plan.now c.args.addresses.now trees) c.of-product.result) _ _ _
    c.new-world.ensures.forest (c.of-product.ensures.made clean) fits

pub returns-clause-reads : goal.returns-clause-reads
returns-clause-reads g c = λ clean fits.
    read_from_none (g.P.Product.has_read c.args.plan.now c.args.addresses.now) _ _ _ _ _ _
    c.new-world.ensures.forest c.new-world.ensures.meter c.requires (c.of-product.ensures.reads clean) fits
