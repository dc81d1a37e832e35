use Rattle.std.specs.Prelude.{slice_get}
use Rattle.xq_sources.proofs.ReadRows.{no_rows}
use Rattle.xq_sources.proofs.fragments.ConstructedTrees.push_lone.Goals as goal

pub returns-clause-lent : goal.returns-clause-lent
returns-clause-lent c = no_rows (slice_get c.push_lone.new.self 0)
