-- Trees that are copied below a root, one after another.
use Rattle.std.specs.Prelude.{ℕ, ◌≡◌, ◌-◌, ◌<◌, ◌≤◌, ◌++◌, ◌∷◌, [], List, drop, map, IsTrue, true}
use Rattle.std.specs.List.{AllByRecursion, IsDistinct}
use Rattle.std.specs.Str.{bytes_eq}
use Rattle.xq_packed.specs.Packed.{NoneNamed}
use Rattle.xq_trees.specs.Beside.{beside, root_of, root_row, lowered, lowered_rows, rooted, IsLow}
use Rattle.xq_trees.specs.Forest.{count}
use Rattle.xq_trees.specs.Items.{ItemView, Place, Value}
use Rattle.xq_trees.specs.Rows.{Row, rows}
use Rattle.xq_trees.specs.Tree.{Label, Tree, IsTree, is_attribute, is_content, has_text, may_follow, may_stand, attribute_names, most_nodes}
use Rattle.xq_trees.specs.declared.Kind.{Kind}
use Rattle.xq_sources.specs.private.Planted.{trees_after}
use Rattle.xq_sources.specs.Sources.{no_tree, tree_at, HasTree}

-- # The trees that are meant

-- the tree whose root the item is, among trees that are numbered from a number on
abbrev pub picked : ℕ → List Tree → ItemView → Tree
picked first trees (Place n) = tree_at trees (n.tree - first)
picked first trees (Value a) = no_tree

-- the item is the root of one of them
abbrev pub IsPicked : ℕ → List Tree → ItemView → Type 0
IsPicked first trees (Place n) = (n.pre ≡ 0) × ((first ≤ n.tree) × HasTree trees (n.tree - first))
IsPicked first trees (Value a) = ⊥

-- the trees whose roots the items are
abbrev pub all_picked : ℕ → List Tree → List ItemView → List Tree
all_picked first trees items = map (picked first trees) items

-- # Where they meet

-- a node may come next below a parent, after one of the last kind, where all before it have these
-- rows: an attribute with another name than each of them
pub record MayCome (parent last : Kind) (others : List Row) (a : Label) : Type 0 where
  pub stands : IsTrue (may_stand parent a.kind)
  pub some : IsTrue (has_text a.kind a.value)
  pub follows : IsTrue (may_follow last a.kind)
  pub apart : is_attribute a.kind ≡ true → NoneNamed others a.name

-- the tree with a number, among trees that are planted in the first rows, was copied after rows
pub record IsNext (front : List Row) (ends : List ℕ) (tree under : ℕ) (parent last kind : Kind) (old new : List Row) : Type 0 where
  pub there : HasTree (trees_after front 0 ends) tree
  pub of_root : kind ≡ (tree_at (trees_after front 0 ends) tree).root.kind
  pub may_come : MayCome parent last (drop under old) (tree_at (trees_after front 0 ends) tree).root
  pub low : IsLow (tree_at (trees_after front 0 ends) tree)
  pub copied : new ≡ old ++ map lowered (rows (tree_at (trees_after front 0 ends) tree))

-- the items' trees have met below the root
pub record HaveMet (root : Label) (ts : List Tree) : Type 0 where
  pub content : IsTrue (is_content root (map root_of ts))
  pub names : IsDistinct bytes_eq (attribute_names (map root_of ts))
  pub low : AllByRecursion IsLow ts

-- a root and below it the trees whose roots the items are have become one tree more
pub record IsGrafted (first : ℕ) (root : Label) (items : List ItemView) (old new : List Tree) : Type 0 where
  pub picks : AllByRecursion (IsPicked first old) items
  pub is_tree : IsTree (rooted root (all_picked first old items))
  pub grown : new ≡ old ++ rooted root (all_picked first old items) ∷ []

-- the items' trees were copied after rows, one level further down, and may stand below the root
pub record AreMet (first : ℕ) (root : Label) (items : List ItemView) (trees : List Tree) (old new : List Row) : Type 0 where
  pub picks : AllByRecursion (IsPicked first trees) items
  pub met : HaveMet root (all_picked first trees items)
  pub copied : new ≡ old ++ lowered_rows (all_picked first trees items)

-- a root, and below it the items' trees, were added after rows
pub record AreRooted (first : ℕ) (root : Label) (items : List ItemView) (trees : List Tree) (old new : List Row) : Type 0 where
  pub picks : AllByRecursion (IsPicked first trees) items
  pub met : HaveMet root (all_picked first trees items)
  pub room : count (beside (all_picked first trees items)) < most_nodes
  pub grown : new ≡ old ++ root_row root (all_picked first trees items) ∷ lowered_rows (all_picked first trees items)
