-- Trees that are put together where they are kept: a root, and below it the nodes of others.
use Rattle.std.specs.Prelude.{ℕ, ◌≡◌, ◌++◌, ◌∷◌, [], List}
use Rattle.std.specs.List.{AllByRecursion}
use Rattle.xq_trees.specs.Forest.{Forest, end, node, join}
use Rattle.xq_trees.specs.Items.{ItemView, Place, Value}
use Rattle.xq_trees.specs.Tree.{Label, Tree, IsTree, nodes}
use Rattle.xq_trees.specs.declared.Kind.{Kind}
use Rattle.xq_trees.specs.declared.Kind.TheVariants.{Element, Text}
use Rattle.xq_sources.specs.Sources.{tree_at, HasTree}

-- # Trees of few nodes

-- a tree of one node
abbrev pub lone : Kind → List ℕ → List ℕ → Tree
lone kind name value =
    record { root = record { kind = kind; name = name; value = value }; below = end }

-- a root without a value, and these nodes below it
abbrev pub rooted : Kind → List ℕ → Forest Label → Tree
rooted kind name below =
    record { root = record { kind = kind; name = name; value = [] }; below = below }

-- an element with one text below it
abbrev pub around_text : List ℕ → List ℕ → Tree
around_text name value =
    rooted Element name (node (record { kind = Text; name = []; value = value }) end end)

-- # Trees of others

-- the item is the root of one of the trees
abbrev pub IsRoot : List Tree → ItemView → Type 0
IsRoot trees (Place n) = HasTree trees n.tree × (n.pre ≡ 0)
IsRoot trees (Value a) = ⊥

-- the nodes of the trees whose roots the items are, side by side
abbrev pub side_by_side : List Tree → List ItemView → Forest Label
side_by_side trees [] = end
side_by_side trees (Place n ∷ items) =
    join (nodes (tree_at trees n.tree)) (side_by_side trees items)
side_by_side trees (Value a ∷ items) = side_by_side trees items

-- a root of this kind and name, and below it the trees whose roots the items are, have become one
-- tree more
pub record Grafts (kind : Kind) (name : List ℕ) (items : List ItemView) (old new : List Tree)
    : Type 0 where
  pub roots : AllByRecursion (IsRoot old) items
  pub is_tree : IsTree (rooted kind name (side_by_side old items))
  pub grown : new ≡ old ++ rooted kind name (side_by_side old items) ∷ []
