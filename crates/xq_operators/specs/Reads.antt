-- How much of a tree a call reads.
use Rattle.std.specs.Prelude.{ℕ, ◌≡◌, ◌+◌, ◌<◌, ◌≤◌, List, length, Bool, true, false}
use Rattle.std.specs.List.{AllByRecursion}
use Rattle.xq_trees.specs.Forest.{count}
use Rattle.xq_trees.specs.Items.{ItemView, Place as NodeAt, Value}
use Rattle.xq_trees.specs.Tree.{Tree, nodes}
use Rattle.xq_sources.specs.Meters.{Readings, SeesAtMost}
use Rattle.xq_sources.specs.Sources.{tree_at, HasTree}
use Rattle.xq_expressions.specs.declared.signatures.Function.{Function}
use Rattle.xq_expressions.specs.declared.signatures.Function.TheVariants as function

-- how many rows the tree with this number has
abbrev pub rows_of : List Tree → ℕ → ℕ
rows_of trees tree = count (nodes (tree_at trees tree))

-- the item is a node of that tree
abbrev pub IsOf : List Tree → ℕ → ItemView → Type 0
IsOf trees tree (NodeAt n) = (n.tree ≡ tree) × (n.pre < rows_of trees tree)
IsOf trees tree (Value a) = ⊥

-- the items are nodes of one tree that is there, and no more than it has
pub record AreOf (trees : List Tree) (tree : ℕ) (xs : List ItemView) : Type 0 where
  pub has_tree : HasTree trees tree
  pub of_tree : AllByRecursion (IsOf trees tree) xs
  pub few : length xs ≤ rows_of trees tree

-- so many rows at most were given by ranges, so many singly, and so many by ranges or looked at
pub record HasGrown (before after : Readings) (most : ℕ) : Type 0 where
  pub rows : after.rows ≤ before.rows + most
  pub singles : after.singles ≤ before.singles + most
  pub sees : SeesAtMost before after most

-- the function only asks how many items there are
abbrev pub only_counts : Function → Bool
only_counts function.Count = true
only_counts function.Exists = true
only_counts function.Empty = true
only_counts function.Boolean = true
only_counts function.Not = true
only_counts other = false

-- the item is an atom
abbrev pub IsAtom : ItemView → Type 0
IsAtom (NodeAt n) = ⊥
IsAtom (Value a) = Unit {0}
