-- Steps from a node, which evaluate nothing: XQuery 3.1, 3.3.2.
use Rattle.std.proofs.Common.{suc}
use Rattle.std.specs.Prelude.{ℕ, List, [], ◌∷◌, map, filter, length, reverse, Bool, true, false, Option, Some, None, Ok, Err, if◌then◌else◌}
use Rattle.xq_atoms.specs.declared.refusals.Code.TheVariants.{XPDY0002, XPDY0050, XPTY0020}
use Rattle.xq_trees.specs.declared.Kind.{Kind}
use Rattle.xq_trees.specs.declared.Kind.TheVariants as kind
use Rattle.xq_trees.specs.declared.Axis.{Axis}
use Rattle.xq_trees.specs.declared.Axis.TheVariants as axis
use Rattle.xq_meaning.specs.declared.node_tests.Test.{Test}
use Rattle.xq_meaning.specs.declared.node_tests.Test.TheVariants as test
use Rattle.xq_atoms.specs.Judged.{Judged}
use Rattle.xq_atoms.specs.Text.{Text, text_eq}
use Rattle.xq_trees.specs.Tree.{Tree}
use Rattle.xq_trees.specs.AxisTests.{on_axis}
use Rattle.xq_meaning.specs.Items.{Place, place, Item, Node, root_of, paths, nodes_at, label_at}
use Rattle.xq_meaning.specs.Arguments.{node_or}
use Rattle.xq_meaning.specs.Functions.{Focus}

-- # The focus: XQuery 3.1, 2.1.2

-- the items, each with its position, from that one on, and with that last position
abbrev pub focuses_from : ℕ → ℕ → List Item → List Focus
focuses_from position last [] = []
focuses_from position last (x ∷ xs) =
    record { item = x; position = position; last = last } ∷ focuses_from (suc position) last xs

-- the items, each with its position, from 1, and the last
abbrev pub focuses : List Item → List Focus
focuses xs = focuses_from 1 (length xs) xs

-- XQuery 3.1, 3.1.4: the context item; without a focus, XPDY0002
abbrev pub context_item : Option Focus → Judged (List Item)
context_item None = Err XPDY0002
context_item (Some focus) = Ok (focus.item ∷ [])

-- the node that a step starts from
abbrev pub context_node : Option Focus → Judged Place
context_node None = Err XPDY0002
context_node (Some focus) = node_or XPTY0020 focus.item

-- # 3.3.2.2: node tests

-- the name is the wanted one, or none is wanted
abbrev pub has_name : Option Text → Text → Bool
has_name None name = true
has_name (Some wanted) name = text_eq wanted name

-- XQuery 3.1, 3.3.2.2: a node of that kind and with that name passes the test
abbrev pub passes : Test → Kind → Text → Bool
passes test.Any node_kind name = true
passes test.Text kind.Text name = true
passes test.Comment kind.Comment name = true
passes test.Document kind.Document name = true
passes (test.ProcessingInstruction wanted) kind.ProcessingInstruction name = has_name wanted name
passes (test.Element wanted) kind.Element name = has_name wanted name
passes (test.Attribute wanted) kind.Attribute name = has_name wanted name
passes other node_kind name = false

-- the node passes the test
abbrev pub passes_at : List Tree → Test → Place → Bool
passes_at trees node_test p = passes node_test (label_at trees p).kind (label_at trees p).name

-- # 3.3.2.1: axes

-- the nodes on the axis from this one, in document order
abbrev pub on_axis_from : List Tree → Axis → Place → List Place
on_axis_from trees direction p =
    let below = nodes_at trees p.tree in
    map (place p.tree) (filter (on_axis direction below p.path) (paths below))

-- those of them that pass the test
abbrev pub axis_nodes : List Tree → Axis → Test → Place → List Place
axis_nodes trees direction node_test p =
    filter (passes_at trees node_test) (on_axis_from trees direction p)

-- XQuery 3.1, 3.3.2.1: the reverse axes
abbrev pub is_reverse : Axis → Bool
is_reverse axis.Parent = true
is_reverse axis.Ancestor = true
is_reverse axis.AncestorOrSelf = true
is_reverse axis.Preceding = true
is_reverse axis.PrecedingSibling = true
is_reverse direction = false

-- from document order to the order in which predicates count, and back
abbrev pub in_axis_order : {A : Type 0} → Axis → List A → List A
in_axis_order direction xs = if is_reverse direction then reverse xs else xs

-- # A leading /: the root, which has to be a document

-- the kind of document nodes
abbrev pub is_document : Kind → Bool
is_document kind.Document = true
is_document other = false

-- the root of the node's tree; one that is no document is refused
abbrev pub document_root : List Tree → Place → Judged (List Item)
document_root trees p =
    if is_document (label_at trees (root_of p.tree)).kind then Ok (Node (root_of p.tree) ∷ [])
    else Err XPDY0050
