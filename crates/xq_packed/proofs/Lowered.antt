-- Packed rows that are copied one level further down, below a root.
use Rattle.std.proofs.Common.{◌≡◌, ◌+◌, ◌-◌, ◌<◌, ℕ, List, ◌∷◌, map, ap, subst, arith}
use Rattle.std.specs.Prelude.{All}
use Rattle.std.proofs.lemmas.List.Elements.{All-weaker}
use Rattle.xq_trees.specs.Tree.{Label, Tree, IsTree, most_levels}
use Rattle.xq_trees.specs.Rows.{Row, rows}
use Rattle.xq_trees.specs.Beside.{lowered, lowered_rows, root_row, rooted, IsLow, MayMeet}
use Rattle.xq_trees.proofs.Beside.{lowered_by, are-rows-rooted}
use Rattle.xq_packed.specs.Packed.{Packed}
use Rattle.xq_packed.specs.Changes.{moved, AreMovable}
use Rattle.xq_packed.specs.PackedTrees.{Packs}
use Rattle.xq_packed.proofs.Trees.{packs}

-- rows that are moved from the level of a root to that of its children are lowered
pub rows-lowered : (rs : List Row) → map (moved 0 1) rs ≡ map lowered rs
rows-lowered rs = lowered_by (moved 0 1) one_level rs
  where
    one_level : (r : Row) → moved 0 1 r ≡ lowered r
    one_level r =
        let e : r.level - 0 + 1 ≡ r.level + 1 = omega arith in
        ap (λ l. record { size = r.size; level = l; label = r.label }) e

-- a tree whose rows could be moved so may stand below a root
pub low-movable : (t : Tree) (rs : List Row) → IsTree t → rs ≡ rows t → AreMovable 0 1 rs → IsLow t
low-movable t rs is e may = record {
  is_tree = is;
  levels = subst (All (λ (r : Row). r.level + 1 < most_levels)) e (All-weaker (λ (r : Row). r.level - 0 + 1 < most_levels) (λ (r : Row). r.level + 1 < most_levels) (λ r l. one_level r.level l) rs may);
}
  where
    one_level : (l : ℕ) → l - 0 + 1 < most_levels → l + 1 < most_levels
    one_level l h = omega arith

-- packed rows of trees that may meet below a root, with its row in front
pub packs-rooted : (p : Packed) (root : Label) (ts : List Tree) → MayMeet root ts → p.rows ≡ root_row root ts ∷ lowered_rows ts → Packs p (rooted root ts)
packs-rooted p root ts meet e = packs p (rooted root ts) (are-rows-rooted root ts p.rows meet e)
