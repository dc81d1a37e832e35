use Rattle.std.specs.Prelude.{slice_get}
use Rattle.xq_sources.proofs.ReadRows.{no_rows}
use Rattle.xq_sources.proofs.fragments.ConstructedTrees.pop.Goals as goal

pub returns-clause-lent : goal.returns-clause-lent
returns-clause-lent c = no_rows (slice_get c.pop.new.self 0)

pub returns-in_err-tree-clause-lent : goal.returns-in_err-tree-clause-lent
returns-in_err-tree-clause-lent c = no_rows (slice_get c.pop.new.self 0)
