-- What single reads, and those of a node with all that is below it, add to a meter.
use Rattle.std.proofs.Common.{◌≡◌, ℕ, ◌+◌, ◌-◌, ◌≤◌, min, List, ap, arith}
use Rattle.xq_trees.specs.Forest.{count}
use Rattle.xq_trees.specs.Rows.{rows, row_at, Row}
use Rattle.xq_trees.specs.Tree.{Tree, nodes}
use Rattle.xq_sources.specs.declared.lent.LentRow.{LentRow}
use Rattle.xq_trees.specs.declared.items.Node.{Node as Spot}
use Rattle.xq_sources.specs.Lent.{placed_lent}
use Rattle.xq_sources.specs.Meters.{Readings, with_singles}
use Rattle.xq_sources.specs.Sources.{tree_at, HasNode}
use Rattle.xq_meaning.specs.Items.{tree_below}
use Rattle.xq_meaning.specs.Readings.{node_at}
use Rattle.xq_axes.specs.Reads.{span, span_end}
use Rattle.xq_axes.proofs.Sizes.{node_of}

pub one_single : (old new : Readings) → new ≡ with_singles old 1 → new.singles ≤ old.singles + 1
one_single old new e = let s = ap (λ (r : Readings). r.singles) e in omega (arith, s)

-- the rows from a node on, as many as its row says, are those of its subtree
pub copy_counted : (trees : List Tree) (node : Spot) (x : LentRow) (t : Tree) (high old mid new : ℕ) → HasNode trees node.tree node.pre
    → placed_lent x ≡ (node.pre, row_at (rows (tree_at trees node.tree)) node.pre) → high ≡ min (node.pre + x.size) 4294967295 → mid ≡ old
    → new ≤ mid + (span_end t (span node.pre high) - node.pre) → new ≤ old + count (nodes (tree_below trees (node_at trees node)))
copy_counted trees node x t high old mid new there read h same r =
    let d = node_of (tree_at trees node.tree) node.pre there.node_in in
    let s = d.size in
    let e = ap (λ (p : ℕ × Row). p.1.size) read in
    omega (arith, s, e, h, same, r)
