-- How much is read to copy items.
use Rattle.std.specs.Prelude.{◌+◌, List, sum_by}
use Rattle.xq_trees.specs.Tree.{Tree}
use Rattle.xq_sources.specs.Meters.{Readings}
use Rattle.xq_meaning.specs.Items.{Item}
use Rattle.xq_build.specs.Reads.{ReadsAtMost, rows_below, own_rows}

-- the rows below each and its own by ranges, and its own singly
abbrev pub CopiesItems : List Tree → List Item → Readings → Readings → Type 0
CopiesItems trees xs before after =
    ReadsAtMost before after (sum_by (rows_below trees) xs + sum_by own_rows xs)
    (sum_by own_rows xs)
