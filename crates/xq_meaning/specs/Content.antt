-- What constructors build: XQuery 3.1, 3.9.3.
use Rattle.std.proofs.Common.{zero, suc}
use Rattle.std.specs.Prelude.{ℕ, List, [], ◌∷◌, ◌++◌, map, Bool, true, false, not, ◌&&◌, ◌==◌, nat_le, Option, Some, None, Ok, Err, codes, if◌then◌else◌}
use Rattle.std.specs.List.{list_any, before_first, after_first}
use Rattle.std.specs.Str.{chars}
use Rattle.xq_atoms.specs.declared.refusals.Code.{Code}
use Rattle.xq_atoms.specs.declared.refusals.Code.TheVariants.{XPTY0004, XQTY0024, XQDY0025, XQDY0026, XQDY0041, XQDY0044, XQDY0064, XQDY0072, XQDY0074, ProfPrefix, ProfLevel, ProfNodes}
use Rattle.xq_expressions.specs.declared.operators.NamedNode.{NamedNode}
use Rattle.xq_expressions.specs.declared.operators.NamedNode.TheVariants as named
use Rattle.xq_expressions.specs.declared.operators.UnnamedNode.{UnnamedNode}
use Rattle.xq_expressions.specs.declared.operators.UnnamedNode.TheVariants as unnamed
use Rattle.xq_trees.specs.declared.Kind.{Kind}
use Rattle.xq_trees.specs.declared.Kind.TheVariants as kind
use Rattle.xq_atoms.specs.Judged.{Judged, ◌>>=◌, only_if}
use Rattle.xq_atoms.specs.Text.{Text, is_empty, text_eq}
use Rattle.xq_atoms.specs.Characters.{is_space, is_name}
use Rattle.xq_atoms.specs.Spaces.{trimmed, after_leading}
use Rattle.xq_atoms.specs.Atom.{Atomic, String, Untyped}
use Rattle.xq_atoms.specs.Cast.{text_of}
use Rattle.xq_trees.specs.Names.{is_xml, holds, ends_with_dash}
use Rattle.xq_trees.specs.Forest.{Forest, end, node, count, tops, join}
use Rattle.xq_trees.specs.Tree.{Label, Tree, nodes, is_attribute, most_levels, most_nodes}
use Rattle.xq_meaning.specs.Texts.{joined}
use Rattle.xq_meaning.specs.Items.{Item, Node, Atom, tree_below, atomized}

-- # Names

-- the code point of a colon
abbrev pub is_colon : ℕ → Bool
is_colon c = c == 58

-- two names with one colon between them, by their characters
abbrev pub is_prefixed : List ℕ → Bool
is_prefixed cs = is_name (before_first is_colon cs) && is_name (after_first is_colon cs)

-- 3.9.3.1: the name of a new element; the profile refuses one with a prefix
abbrev pub element_name : Text → Judged Text
element_name t =
    if is_name (chars t) then Ok t
    else if is_prefixed (chars t) then Err ProfPrefix
    else Err XQDY0074

-- the name of a new node of that kind: no attribute is named `xmlns`, and no processing
-- instruction `xml` in any case
abbrev pub judged_name : NamedNode → Text → Judged Text
judged_name named.Element t = element_name t
judged_name named.Attribute t = if text_eq t (codes "xmlns") then Err XQDY0044 else element_name t
judged_name named.ProcessingInstruction t =
    if not (is_name (chars t)) then Err XQDY0041
    else if is_xml t then Err XQDY0064
    else Ok t

-- 3.9.3.1, 3.9.3.2, 3.9.3.5: one string or untyped value, without white space at its ends
abbrev pub name_of : NamedNode → List Atomic → Judged Text
name_of node_kind (String t ∷ []) = judged_name node_kind (trimmed t)
name_of node_kind (Untyped t ∷ []) = judged_name node_kind (trimmed t)
name_of node_kind values = Err XPTY0004

-- # Content of elements and documents: 3.9.1.3

-- a node's kind, name and value put together
abbrev pub label : Kind → Text → Text → Label
label node_kind name value = record { kind = node_kind; name = name; value = value }

-- what stands at a text node with that value
abbrev pub text_label : Text → Label
text_label t = label kind.Text [] t

-- the kind of text nodes
abbrev pub is_text : Kind → Bool
is_text kind.Text = true
is_text other = false

-- values as strings, with a space between them
abbrev pub spaced : List Atomic → Text
spaced values = joined (codes " ") (map text_of values)

-- First the items as nodes: a run of atomic values is one text; a node is copied with all below it,
-- and of a document its children are

-- atomic values as one text node, and nothing for no values
abbrev pub run : List Atomic → Forest Label
run [] = end
run (a ∷ as') = node (text_label (spaced (a ∷ as'))) end end

-- what is copied of a tree, if its root counts as that kind: of a document what is below the root
abbrev pub copied_as : Kind → Tree → Forest Label
copied_as kind.Document t = t.below
copied_as other t = nodes t

-- what is copied of a tree: of a document what is below the root, of any other one all nodes
abbrev pub copied : Tree → Forest Label
copied t = copied_as t.root.kind t

-- after a run of atomic values that is not closed yet
abbrev pub flattened_after : List Tree → List Atomic → List Item → Forest Label
flattened_after trees open_run [] = run open_run
flattened_after trees open_run (Atom a ∷ xs) = flattened_after trees (open_run ++ a ∷ []) xs
flattened_after trees open_run (Node p ∷ xs) =
    join (run open_run) (join (copied (tree_below trees p)) (flattened_after trees [] xs))

-- 3.9.1.3: the items of the content as nodes
abbrev pub flattened : List Tree → List Item → Forest Label
flattened trees xs = flattened_after trees [] xs

-- Then adjacent texts become one

-- a node in front of others
abbrev pub in_front : Label → Forest Label → Forest Label → Forest Label
in_front a below end = node a below end
in_front a below (node b below_b beside) =
    if is_text a.kind && is_text b.kind then node (text_label (a.value ++ b.value)) end beside
    else node a below (node b below_b beside)

-- the same nodes, with each run of adjacent texts at the top as one text
abbrev pub merged : Forest Label → Forest Label
merged end = end
merged (node a below beside) = in_front a below (merged beside)

-- Then empty texts are deleted

-- a text node without a character
abbrev pub is_empty_text : Label → Bool
is_empty_text a = is_text a.kind && is_empty a.value

-- a node in front of others, or the others alone where it is left out
abbrev pub in_front_unless : Bool → Label → Forest Label → Forest Label → Forest Label
in_front_unless true a below others = others
in_front_unless false a below others = node a below others

-- the same nodes without the empty texts at the top
abbrev pub without_empty_texts : Forest Label → Forest Label
without_empty_texts end = end
without_empty_texts (node a below beside) =
    in_front_unless (is_empty_text a) a below (without_empty_texts beside)

-- 3.9.1.3: the attributes and children that the items give, before they are judged
abbrev pub content : List Tree → List Item → Forest Label
content trees xs = without_empty_texts (merged (flattened trees xs))

-- Then the attributes are judged, in order

-- an attribute of that name, after attributes with these names, and perhaps after other nodes
abbrev pub attribute_fault : Kind → List Text → Bool → Text → Option Code
attribute_fault kind.Document names late name = Some XPTY0004
attribute_fault parent names true name = Some XQTY0024
attribute_fault parent names false name =
    if list_any (text_eq name) names then Some XQDY0025 else None

-- the first code, or the other one where there is no first one
abbrev pub or_else : Option Code → Option Code → Option Code
or_else (Some code) other = Some code
or_else None other = other

-- the code for the first attribute here that may not stand, after attributes with these names, and
-- perhaps after other nodes
abbrev pub first_fault : Kind → List Text → Bool → List Label → Option Code
first_fault parent names late [] = None
first_fault parent names late (a ∷ labels) =
    if is_attribute a.kind
    then or_else
    (attribute_fault parent names late a.name)
    (first_fault parent (a.name ∷ names) late labels)
    else first_fault parent names true labels

-- Last the limits: no level over 100, where the root has 0, and at most a million nodes

-- the nodes stand on at most n levels
abbrev pub is_within_height : {A : Type 0} → ℕ → Forest A → Bool
is_within_height n end = true
is_within_height zero (node a below beside) = false
is_within_height (suc n) (node a below beside) =
    is_within_height n below && is_within_height (suc n) beside

-- the tree, unless it has too many levels or too many nodes
abbrev pub within_limits : Tree → Judged Tree
within_limits t =
    if not (is_within_height most_levels (nodes t)) then Err ProfLevel
    else if not (nat_le (count (nodes t)) most_nodes) then Err ProfNodes
    else Ok t

-- the code of a fault; where there is none, the tree within the limits
abbrev pub unless_fault : Option Code → Tree → Judged Tree
unless_fault (Some code) t = Err code
unless_fault None t = within_limits t

-- the tree with that root and that content, if no attribute and no limit refuses it
abbrev pub built : Label → Forest Label → Judged Tree
built root below =
    let whole : Tree = record { root = root; below = below } in
    unless_fault (first_fault root.kind [] false (tops below)) whole

-- XQuery 3.1, 3.9.3.1: the new element with that name and content
abbrev pub element_tree : Text → List Tree → List Item → Judged Tree
element_tree name trees xs = built (label kind.Element name []) (content trees xs)

-- XQuery 3.1, 3.9.3.3: the new document with that content
abbrev pub document_tree : List Tree → List Item → Judged Tree
document_tree trees xs = built (label kind.Document [] []) (content trees xs)

-- # Content of the others: 3.9.3.2, 3.9.3.4, 3.9.3.5, 3.9.3.6

-- a tree of one node
abbrev pub lone : Kind → Text → Text → Tree
lone node_kind name value = record { root = label node_kind name value; below = end }

-- XQuery 3.1, 3.9.3.2: the new attribute with that name and value
abbrev pub attribute_tree : Text → Text → Tree
attribute_tree name value = lone kind.Attribute name value

-- XQuery 3.1, 3.9.3.4: the new text node with that value
abbrev pub text_tree : Text → Tree
text_tree value = lone kind.Text [] value

-- 3.9.3.6: there is no `--` in the value, and no `-` at its end
abbrev pub may_be_comment : Text → Bool
may_be_comment value = not (holds (codes "--") value) && not (ends_with_dash value)

-- XQuery 3.1, 3.9.3.6: the new comment with that value
abbrev pub comment_tree : Text → Judged Tree
comment_tree value = only_if (may_be_comment value) XQDY0072 (lone kind.Comment [] value)

-- without white space in front
abbrev pub instruction_tree : Text → Text → Judged Tree
instruction_tree name value = do
  good ← only_if (not (holds (codes "?>") value)) XQDY0026 value
  Ok (lone kind.ProcessingInstruction name (after_leading is_space good))

-- # The constructors, from a name that was judged and the value of the content

-- the new element, attribute or processing instruction
abbrev pub named_tree : NamedNode → Text → List Tree → List Item → Judged Tree
named_tree named.Element name trees xs = element_tree name trees xs
named_tree named.Attribute name trees xs = Ok (attribute_tree name (spaced (atomized trees xs)))
named_tree named.ProcessingInstruction name trees xs =
    instruction_tree name (spaced (atomized trees xs))

-- no text for an empty content
abbrev pub text_of_content : List Atomic → Option Tree
text_of_content [] = None
text_of_content (a ∷ as') = Some (text_tree (spaced (a ∷ as')))

-- a tree that there is, or its refusal
abbrev pub some_tree : Judged Tree → Judged (Option Tree)
some_tree result = do
  t ← result
  Ok (Some t)

-- the new document, text node or comment; an empty content gives no text node
abbrev pub unnamed_tree : UnnamedNode → List Tree → List Item → Judged (Option Tree)
unnamed_tree unnamed.Document trees xs = some_tree (document_tree trees xs)
unnamed_tree unnamed.Text trees xs = Ok (text_of_content (atomized trees xs))
unnamed_tree unnamed.Comment trees xs = some_tree (comment_tree (spaced (atomized trees xs)))
