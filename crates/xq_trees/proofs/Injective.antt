-- Two trees with equal rows are equal.
use Rattle.std.proofs.Common.{◌≡◌, sym, ◌∙◌, ap}
use Rattle.xq_trees.specs.Tree.{Tree}
use Rattle.xq_trees.specs.Rows.{rows, tree_of}
use Rattle.xq_trees.specs.Nesting.{tree_of-rows}

pub rows-injective : (t u : Tree) → rows t ≡ rows u → t ≡ u
rows-injective t u e = sym (tree_of-rows t) ∙ ap tree_of e ∙ tree_of-rows u
