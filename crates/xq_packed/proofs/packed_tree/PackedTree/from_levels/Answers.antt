use Rattle.std.proofs.Common.{map, sym, ap, ◌∙◌}
use Rattle.std.proofs.lemmas.Bool.{true≢false}
use Rattle.xq_trees.specs.Rows.{tree_of}
use Rattle.xq_trees.specs.Levels.{flat}
use Rattle.xq_trees.proofs.SizedRows.{levels_are_rows}
use Rattle.xq_packed.specs.PackedTrees.{Packs}
use Rattle.xq_packed.proofs.Trees.{packs, packs-tree_of}
use Rattle.xq_packed.proofs.packed_tree.PackedTree.from_levels.Goals as goal
use Rattle.xq_packed.proofs.packed_tree.PackedTree.from_levels.Goals.{Then-branch}

packed : (c : Then-branch) → Packs c.set_sizes.new.rows (tree_of c.set_sizes.new.rows.rows)
packed c =
    let of = c.in_ok-is_tree.ensures.tree.0 c.if-branch.true in
    packs-tree_of c.set_sizes.new.rows of.0 (packs c.set_sizes.new.rows of.0 of.1)

pub invariant_of-result : goal.invariant_of-result
invariant_of-result c = packed c

pub returns-then-branch-clause-some : goal.returns-then-branch-clause-some
returns-then-branch-clause-some c = sym c.set_sizes.ensures.same ∙ ap (map flat) (packed c).rows

pub returns-else-branch-clause-none : goal.returns-else-branch-clause-none
returns-else-branch-clause-none c = λ _ t is levels.
    true≢false (sym (c.in_ok-is_tree.ensures.tree.1 (t, levels_are_rows c.set_sizes.new.rows.rows t is c.set_sizes.ensures.sized (c.set_sizes.ensures.same ∙ levels))) ∙ c.if-branch.false)
