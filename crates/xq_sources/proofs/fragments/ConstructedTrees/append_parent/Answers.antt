use Rattle.std.specs.Prelude.{slice_get}
use Rattle.xq_sources.proofs.ReadRows.{no_rows}
use Rattle.xq_sources.proofs.fragments.ConstructedTrees.append_parent.Goals as goal

pub returns-clause-lent : goal.returns-clause-lent
returns-clause-lent c = no_rows (slice_get c.append_parent.new.self 0)
