use Rattle.std.proofs.Common.{◌≡◌, ℕ, Bool, map, take}
use Rattle.std.specs.Prelude.{filter}
use Rattle.xq_trees.specs.Items.{item_view, item_views, ItemView, Place as NodeAt}
use Rattle.xq_axes.specs.Many.{spot}
use Rattle.xq_axes.specs.private.Hits.{is_among, IsRising}
use Rattle.xq_axes.proofs.owners.keep_at.Given as goal

-- of the items so far those at the places were kept
abbrev pub invariant-loop-item : goal.invariant-loop-item
invariant-loop-item l = record {
  kept : IsRising l.places → (wanted : ItemView → Bool) → ((k : ℕ) → wanted (NodeAt (spot l.tree k)) ≡ is_among l.places k)
      → item_views l.kept ≡ filter wanted (map item_view (take l.item-index l.items));
}
