-- Trees of nodes: XDM 3.1, section 6.
use Rattle.std.specs.Prelude.{ℕ, ◌≡◌, ◌≤◌, List, [], ◌∷◌, Bool, true, false, not, ◌&&◌, map, filter, IsTrue}
use Rattle.std.specs.List.{IsDistinct}
use Rattle.std.specs.Str.{bytes_eq, chars, IsUtf8}
use Rattle.xq_atoms.specs.Characters.{is_name}
use Rattle.xq_trees.specs.Names.{is_empty, are_characters, is_attribute_name, is_comment, is_target, is_instruction}
use Rattle.xq_trees.specs.Forest.{Forest, end, node, count, EachNode, IsWithinHeight}
use Rattle.xq_trees.specs.declared.Kind.{Kind}
use Rattle.xq_trees.specs.declared.Kind.TheVariants.{Document, Element, Attribute, Text, Comment, ProcessingInstruction}

-- what stands at a node: its kind, its name and its value, as UTF-8
pub record Label : Type 0 where
  pub kind : Kind
  pub name : List ℕ
  pub value : List ℕ

-- what stands for a label where there is no node
abbrev pub no_label : Label
no_label = record { kind = Document; name = []; value = [] }

-- a root, and what is below it: the attributes of an element come before its children
pub record Tree : Type 0 where
  pub root : Label
  pub below : Forest Label

-- the nodes of a tree, with the root alone at the top
abbrev pub nodes : Tree → Forest Label
nodes t = node t.root t.below end

-- # What may stand where

-- the kind is that of attributes
abbrev pub is_attribute : Kind → Bool
is_attribute Attribute = true
is_attribute kind = false

-- a node of the first kind may have a child or an attribute of the second
abbrev pub may_stand : Kind → Kind → Bool
may_stand Element Document = false
may_stand Element child = true
may_stand Document Document = false
may_stand Document Attribute = false
may_stand Document child = true
may_stand parent child = false

-- a node of the second kind may stand right beside one of the first: attributes come first, and no
-- text comes after a text
abbrev pub may_follow : Kind → Kind → Bool
may_follow Text Text = false
may_follow Attribute second = true
may_follow kind Attribute = false
may_follow kind second = true

-- a node of the kind may stand right before these, where there are any
abbrev pub may_precede : Kind → List Label → Bool
may_precede kind [] = true
may_precede kind (next ∷ labels) = may_follow kind next.kind

-- only a text below a parent has to have a value
abbrev pub has_text : Kind → List ℕ → Bool
has_text Text value = not (is_empty value)
has_text kind value = true

-- these may be the attributes and the children of a node
abbrev pub is_content : Label → List Label → Bool
is_content parent [] = true
is_content parent (a ∷ labels) =
    may_stand parent.kind a.kind
    && (has_text a.kind a.value && (may_precede a.kind labels && is_content parent labels))

-- the names of the attributes among these
abbrev pub attribute_names : List Label → List (List ℕ)
attribute_names labels = map (λ (a : Label). a.name)
    (filter (λ (a : Label). is_attribute a.kind) labels)

-- a node of the kind may have the name and the value
abbrev pub is_legal : Kind → List ℕ → List ℕ → Bool
is_legal Document name value = is_empty name && is_empty value
is_legal Element name value = is_name (chars name) && is_empty value
is_legal Attribute name value = is_attribute_name name && are_characters value
is_legal Text name value = is_empty name && are_characters value
is_legal Comment name value = is_empty name && is_comment value
is_legal ProcessingInstruction name value = is_target name && is_instruction value

-- # Trees

-- the name and the value are UTF-8
abbrev pub IsText : Label → Type 0
IsText a = IsUtf8 a.name × IsUtf8 a.value

-- levels are 0, that of the root, to 100
abbrev pub most_levels : ℕ
most_levels = 101

-- the most nodes of a tree, attributes counted
abbrev pub most_nodes : ℕ
most_nodes = 1000000

-- what a tree has to be: XDM 3.1, section 6, with the bounds on levels and nodes
pub record IsTree (t : Tree) : Type 0 where
  pub texts : EachNode (λ a below. IsText a) (nodes t)
  pub legal : EachNode (λ a below. IsTrue (is_legal a.kind a.name a.value)) (nodes t)
  pub content : EachNode (λ a below. IsTrue (is_content a below)) (nodes t)
  pub names : EachNode (λ a below. IsDistinct bytes_eq (attribute_names below)) (nodes t)
  pub height : IsWithinHeight most_levels (nodes t)
  pub room : count (nodes t) ≤ most_nodes

-- a tree with a document at its root
pub record IsDocument (t : Tree) : Type 0 where
  pub is_tree : IsTree t
  pub root : t.root.kind ≡ Document

-- no attribute comes after a node that is none
abbrev pub are_attributes_first : List Label → Bool
are_attributes_first [] = true
are_attributes_first (a ∷ labels) = may_precede a.kind labels && are_attributes_first labels
