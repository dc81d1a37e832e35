use Rattle.std.specs.Prelude.{codes}
use Rattle.xq_trees.proofs.Texts.{contains-holds}
use Rattle.xq_trees.proofs.values.holds_an_end.Goals as goal

pub returns : goal.returns
returns c = contains-holds c.contains.result (codes "?>") c.args.text.now c.contains.ensures.cases
