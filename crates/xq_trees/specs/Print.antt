-- The printed form of a tree: the computed constructors of XQuery 3.1, section 3.9.3, that make it.
use Rattle.std.specs.Prelude.{ℕ, Bool, true, false, if◌then◌else◌, List, [], ◌∷◌, ◌++◌, codes}
use Rattle.xq_atoms.specs.Print.{quoted}
use Rattle.xq_trees.specs.Forest.{Forest, end, node}
use Rattle.xq_trees.specs.Tree.{Label, Tree, nodes}
use Rattle.xq_trees.specs.declared.Kind.{Kind}
use Rattle.xq_trees.specs.declared.Kind.TheVariants.{Document, Element, Attribute, Text, Comment, ProcessingInstruction}

-- what a node of the kind begins with
abbrev pub word : Kind → List ℕ
word Document = codes "document {"
word Element = codes "element "
word Attribute = codes "attribute "
word Text = codes "text {"
word Comment = codes "comment {"
word ProcessingInstruction = codes "processing-instruction "

-- the constructor of a node of the kind has a name
abbrev pub is_named : Kind → Bool
is_named Element = true
is_named Attribute = true
is_named ProcessingInstruction = true
is_named kind = false

-- the constructor of a node of the kind has the value of the node between its braces
abbrev pub is_valued : Kind → Bool
is_valued Document = false
is_valued Element = false
is_valued kind = true

-- the name and the brace after it, where a node of the kind has a name
abbrev pub heading : Kind → List ℕ → List ℕ
heading kind name = if is_named kind then name ++ codes " {" else []

-- the value as a string literal, where a node of the kind has one
abbrev pub content : Kind → List ℕ → List ℕ
content kind value = if is_valued kind then quoted value else []

-- what stands at a node before its attributes and children
abbrev pub opening : Label → List ℕ
opening a = word a.kind ++ (heading a.kind a.name ++ content a.kind a.value)

-- what stands between two nodes side by side
abbrev pub comma : List ℕ
comma = codes ", "

-- the nodes, with `before` in front of the first and a comma in front of each other
abbrev pub listed : List ℕ → Forest Label → List ℕ
listed before end = []
listed before (node a below beside) = before
    ++ (opening a ++ (listed [] below ++ 125 ∷ listed comma beside))

-- a tree as computed constructors (XQuery 3.1, 3.9.3)
abbrev pub print : Tree → List ℕ
print t = listed [] (nodes t)
