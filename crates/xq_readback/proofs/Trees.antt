-- The texts of trees hold characters: string values, typed values and names of their nodes.
use Rattle.std.proofs.Common.{◌≡◌, ℕ, zero, suc, true, List, [], ◌∷◌, ◌++◌, get_or, refl, sym, subst, arith, ◌⊎◌, inl, inr}
use Rattle.std.specs.Prelude.{IsTrue, bytes_eq}
use Rattle.std.specs.List.{AllByRecursion, IsDistinct}
use Rattle.std.specs.Str.{chars, IsUtf8}
use Rattle.std.proofs.lemmas.Bool.{and_parts, false≢true}
use Rattle.xq_atoms.specs.Characters.{is_name}
use Rattle.xq_atoms.specs.Text.{Text}
use Rattle.xq_atoms.specs.Atom.{Atomic, Integer, Decimal, String, Boolean, Untyped}
use Rattle.xq_trees.specs.declared.Kind.{Kind}
use Rattle.xq_trees.specs.declared.Kind.TheVariants as kind
use Rattle.xq_trees.specs.Names.{is_empty, are_characters, is_attribute_name, is_target}
use Rattle.xq_trees.specs.Forest.{Forest, end, node, EachNode}
use Rattle.xq_trees.specs.Tree.{Label, Tree, nodes, no_label, is_legal, IsText, IsTree, attribute_names}
use Rattle.xq_trees.specs.Node.{HasPath, label_at, below_at, subtree}
use Rattle.xq_trees.specs.Value.{text_of, texts, string_value_by, string_value, typed_by}
use Rattle.xq_trees.proofs.Subtrees.{subtrees_are_trees}
use Rattle.xq_sources.specs.Sources.{no_tree, tree_at}
use Rattle.xq_meaning.specs.Items.{Place, Item, Node, Atom, tree_below, atomic_value, atom_of, atomized}
use Rattle.xq_meaning.specs.Items as items
use Rattle.xq_meaning.specs.Printable.{IsCharacters, IsValue, ArePrintable}
use Rattle.xq_meaning.specs.Functions.{item_text}
use Rattle.xq_readback.specs.Legible.{IsLegible, IsLegibleItem, AreLegible, AreTrees}
use Rattle.xq_readback.specs.Results.{LegibleIsPrintable, IsInRange, AreInRange}
use Rattle.xq_readback.proofs.Characters.{none, both, cast_text, name_characters}

-- ---- every node is the root of a tree

pub no_names : IsDistinct bytes_eq (attribute_names [])
unfolding IsDistinct
no_names = tt

-- a place without a node counts as an empty document
pub no_tree_is : IsTree no_tree
no_tree_is = record {
  texts = ((none.0, none.0), (tt, tt));
  legal = (refl, (tt, tt));
  content = (refl, (tt, tt));
  names = (no_names, (tt, tt));
  height = (tt, tt);
  room = omega arith;
}

-- a path leads to a node, or nowhere
record Nowhere (f : Forest Label) (path : List ℕ) : Type 0 where
  label : label_at no_label f path ≡ no_label
  below : below_at f path ≡ end

leads : (f : Forest Label) (path : List ℕ) → HasPath f path ⊎ Nowhere f path
leads end path = inr (record { label = refl; below = refl })
leads (node a below beside) [] = inr (record { label = refl; below = refl })
leads (node a below beside) (zero ∷ []) = inl tt
leads (node a below beside) (zero ∷ i ∷ path) = elim (leads below (i ∷ path)) [
  | inl has ↦ inl has
  | inr no_node ↦ inr (record { label = no_node.label; below = no_node.below })
]
leads (node a below beside) (suc i ∷ path) = elim (leads beside (i ∷ path)) [
  | inl has ↦ inl has
  | inr no_node ↦ inr (record { label = no_node.label; below = no_node.below })
]

subtree_is : (t : Tree) (path : List ℕ) → IsTree t → IsTree (subtree t path)
subtree_is t path is = elim (leads (nodes t) path) [
  | inl has ↦ subtrees_are_trees t path is has
  | inr no_node ↦
      let same : subtree t path ≡ no_tree = λ i. record { root = no_node.label i; below = no_node.below i } in
      subst IsTree (sym same) no_tree_is
]

at_number : (trees : List Tree) (n : ℕ) → AreTrees trees → IsTree (get_or trees n no_tree)
at_number [] n are = no_tree_is
at_number (t ∷ ts) zero are = are.0
at_number (t ∷ ts) (suc n) are = at_number ts n are.1

pub below_is : (trees : List Tree) → AreTrees trees → (p : Place) → IsTree (tree_below trees p)
below_is trees are p = subtree_is (tree_at trees p.tree) p.path (at_number trees p.tree are)

-- ---- the texts of a tree

-- what the nodes of trees say of themselves
abbrev AreTexts : Forest Label → Type 0
AreTexts f = EachNode (λ a below. IsText a) f

abbrev AreLegal : Forest Label → Type 0
AreLegal f = EachNode (λ a below. IsTrue (is_legal a.kind a.name a.value)) f

empty_text : (t : Text) → is_empty t ≡ true → IsCharacters t
empty_text [] h = none
empty_text (c ∷ cs) h = absurd (false≢true h)

-- the value of a node
value_text : (k : Kind) (name value : Text) → IsUtf8 value → is_legal k name value ≡ true → IsCharacters value
value_text kind.Document name value u h = empty_text value (and_parts (is_empty name) (is_empty value) h).1
value_text kind.Element name value u h = empty_text value (and_parts (is_name (chars name)) (is_empty value) h).1
value_text kind.Attribute name value u h = (u, (and_parts (is_attribute_name name) (are_characters value) h).1)
value_text kind.Text name value u h = (u, (and_parts (is_empty name) (are_characters value) h).1)
value_text kind.Comment name value u h = (u, (and_parts (are_characters value) _ (and_parts (is_empty name) _ h).1).0)
value_text kind.ProcessingInstruction name value u h = (u, (and_parts (are_characters value) _ (and_parts (is_target name) _ h).1).0)

-- the name of a node
name_text : (k : Kind) (name value : Text) → IsUtf8 name → is_legal k name value ≡ true → IsCharacters name
name_text kind.Document name value u h = empty_text name (and_parts (is_empty name) (is_empty value) h).0
name_text kind.Element name value u h = (u, name_characters (chars name) (and_parts (is_name (chars name)) (is_empty value) h).0)
name_text kind.Attribute name value u h =
    (u, name_characters (chars name) (and_parts (is_name (chars name)) _ (and_parts (is_attribute_name name) (are_characters value) h).0).0)
name_text kind.Text name value u h = empty_text name (and_parts (is_empty name) (are_characters value) h).0
name_text kind.Comment name value u h = empty_text name (and_parts (is_empty name) _ h).0
name_text kind.ProcessingInstruction name value u h =
    (u, name_characters (chars name) (and_parts (is_name (chars name)) _ (and_parts (is_target name) _ h).0).0)

-- what a node adds to the string value of a node above it
added_text : (k : Kind) (name value : Text) → IsUtf8 value → is_legal k name value ≡ true → IsCharacters (text_of k value)
added_text kind.Text name value u h = value_text kind.Text name value u h
added_text kind.Document name value u h = none
added_text kind.Element name value u h = none
added_text kind.Attribute name value u h = none
added_text kind.Comment name value u h = none
added_text kind.ProcessingInstruction name value u h = none

texts_text : (f : Forest Label) → AreTexts f → AreLegal f → IsCharacters (texts f)
texts_text end t l = none
texts_text (node a below beside) t l =
    both (text_of a.kind a.value) (texts below ++ texts beside) (added_text a.kind a.name a.value t.0.1 l.0)
    (both (texts below) (texts beside) (texts_text below t.1.0 l.1.0) (texts_text beside t.1.1 l.1.1))

value_or_texts : (k : Kind) (value joined : Text) → IsCharacters value → IsCharacters joined → IsCharacters (string_value_by k value joined)
value_or_texts kind.Document value joined h k = k
value_or_texts kind.Element value joined h k = k
value_or_texts kind.Attribute value joined h k = h
value_or_texts kind.Text value joined h k = h
value_or_texts kind.Comment value joined h k = h
value_or_texts kind.ProcessingInstruction value joined h k = h

pub string_text : (t : Tree) → IsTree t → IsCharacters (string_value t)
string_text t is =
    value_or_texts t.root.kind t.root.value (texts t.below) (value_text t.root.kind t.root.name t.root.value is.texts.0.1 is.legal.0)
    (texts_text t.below is.texts.1.0 is.legal.1.0)

typed_legible : (k : Kind) (t : Text) → IsCharacters t → IsLegible (atomic_value (typed_by k t))
typed_legible kind.Document t h = h
typed_legible kind.Element t h = h
typed_legible kind.Attribute t h = h
typed_legible kind.Text t h = h
typed_legible kind.Comment t h = h
typed_legible kind.ProcessingInstruction t h = h

-- ---- items over trees

-- a value whose text holds characters, and whose number is in range
value_is : (a : Atomic) → IsLegible a → IsInRange a → IsValue a
value_is (Integer n) h r = r
value_is (Decimal m) h r = r
value_is (String t) h r = h
value_is (Boolean b) h r = tt
value_is (Untyped t) h r = h

module _ (trees : List Tree) (are : AreTrees trees) where
  pub name_at : (p : Place) → IsCharacters (items.label_at trees p).name
  name_at p =
      let is = below_is trees are p in
      let root : Label = items.label_at trees p in
      name_text root.kind root.name root.value is.texts.0.0 is.legal.0

  pub atom_legible : (x : Item) → IsLegibleItem x → IsLegible (atom_of trees x)
  atom_legible (Node p) h = typed_legible (tree_below trees p).root.kind (string_value (tree_below trees p)) (string_text (tree_below trees p) (below_is trees are p))
  atom_legible (Atom a) h = h

  pub atoms_legible : (xs : List Item) → AreLegible xs → AllByRecursion IsLegible (atomized trees xs)
  atoms_legible [] h = tt
  atoms_legible (x ∷ xs) h = (atom_legible x h.0, atoms_legible xs h.1)

  pub item_characters : (x : Item) → IsLegibleItem x → IsCharacters (item_text trees x)
  item_characters (Node p) h = string_text (tree_below trees p) (below_is trees are p)
  item_characters (Atom a) h = cast_text a h

  printable : (xs : List Item) → AreLegible xs → AreInRange xs → ArePrintable trees xs
  printable [] h r = tt
  printable (Node p ∷ xs) h r = (below_is trees are p, printable xs h.1 r.1)
  printable (Atom a ∷ xs) h r = (value_is a h.0 r.0, printable xs h.1 r.1)

pub legible_is_printable : LegibleIsPrintable
legible_is_printable = λ trees xs are legible in_range. printable trees are xs legible in_range
