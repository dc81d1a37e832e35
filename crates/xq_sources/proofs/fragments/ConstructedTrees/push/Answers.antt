use Rattle.std.specs.Prelude.{slice_get}
use Rattle.xq_sources.proofs.ReadRows.{no_rows}
use Rattle.xq_sources.proofs.fragments.ConstructedTrees.push.Goals as goal

pub returns-in_err-tree-clause-lent : goal.returns-in_err-tree-clause-lent
returns-in_err-tree-clause-lent c = no_rows (slice_get c.args.self.now.trees 0)
