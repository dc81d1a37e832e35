-- The values of nodes: XDM 3.1, section 6 (`dm:string-value`, `dm:typed-value`).
use Rattle.std.specs.Prelude.{ℕ, List, [], ◌++◌}
use Rattle.xq_trees.specs.Forest.{Forest, end, node}
use Rattle.xq_trees.specs.Tree.{Label, Tree}
use Rattle.xq_trees.specs.declared.Kind.{Kind}
use Rattle.xq_trees.specs.declared.Kind.TheVariants.{Document, Element, Text, Comment, ProcessingInstruction}

-- what a node adds to the string value of a node above it: a text its characters
abbrev pub text_of : Kind → List ℕ → List ℕ
text_of Text value = value
text_of kind value = []

-- the texts of the nodes, joined in document order
abbrev pub texts : Forest Label → List ℕ
texts end = []
texts (node a below beside) = text_of a.kind a.value ++ (texts below ++ texts beside)

-- the string value of a node, given what is below it
abbrev pub string_value_by : Kind → List ℕ → List ℕ → List ℕ
string_value_by Document value joined = joined
string_value_by Element value joined = joined
string_value_by kind value joined = value

-- the string value of a tree's root (`dm:string-value`)
abbrev pub string_value : Tree → List ℕ
string_value t = string_value_by t.root.kind t.root.value (texts t.below)

-- a typed value: a string, or untyped data
pub data TypedValue : Type 0 where
  string : List ℕ → TypedValue
  untyped : List ℕ → TypedValue

-- the typed value of a node of the kind, given its string value
abbrev pub typed_by : Kind → List ℕ → TypedValue
typed_by Comment text = string text
typed_by ProcessingInstruction text = string text
typed_by kind text = untyped text

-- one item for each node, since no node has a type of its own
abbrev pub typed_value : Tree → TypedValue
typed_value t = typed_by t.root.kind (string_value t)
