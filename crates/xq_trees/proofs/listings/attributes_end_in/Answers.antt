use Rattle.std.proofs.Common.{◌∙◌}
use Rattle.xq_trees.proofs.AttributeRuns.{names_listed}
use Rattle.xq_trees.proofs.listings.attributes_end_in.Goals as goal

pub returns-clause-names : goal.returns-clause-names
returns-clause-names c = c.attributes_end.ensures.names ∙ names_listed c.args.rows.now c.args.from c.attributes_end.result
