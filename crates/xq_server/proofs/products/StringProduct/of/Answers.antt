use Rattle.xq_server.proofs.Evaluating.{text_made}
use Rattle.xq_server.proofs.products.StringProduct.of.Goals as goal

pub returns-clause-made : goal.returns-clause-made
returns-clause-made g c = λ clean fits. text_made _ c.ask.result (c.ask.ensures.gives clean fits) (c.ask.ensures.in_range clean fits)
