-- How much is read to print one item.
use Rattle.std.specs.Prelude.{List}
use Rattle.xq_trees.specs.Tree.{Tree}
use Rattle.xq_sources.specs.Meters.{Readings}
use Rattle.xq_meaning.specs.Items.{Item}
use Rattle.xq_build.specs.Reads.{ReadsAtMost, rows_below, own_rows}

-- the rows below it by ranges, each once, and its own singly
abbrev pub ReadsItem : List Tree → Item → Readings → Readings → Type 0
ReadsItem trees x before after = ReadsAtMost before after (rows_below trees x) (own_rows x)
