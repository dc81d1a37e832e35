use Rattle.std.proofs.Common.{List, map, take}
use Rattle.std.specs.Prelude.{string_bytes}
use Rattle.xq_trees.specs.Items.{item_view}
use Rattle.xq_trees.specs.Tree.{Tree}
use Rattle.xq_meaning.specs.Items.{atomized}
use Rattle.xq_meaning.specs.Readings.{items_at}
use Rattle.xq_joins.specs.private.JoinKeys.{AreTexts}
use Rattle.xq_joins.proofs.join_keys.texts_in.Given as goal

abbrev pub invariant-loop-item : goal.invariant-loop-item
invariant-loop-item l = (trees : List Tree) → AreTexts (atomized trees (items_at trees (map item_view (take l.item-index l.items)))) (map string_bytes l.texts.items)
