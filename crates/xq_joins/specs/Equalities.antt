-- Predicates that ask whether a step from the item leads to a node with a given text.
use Rattle.std.specs.Prelude.{◌≡◌, ℕ, List, map, Bool, false, Ok}
use Rattle.std.specs.List.{list_any}
use Rattle.xq_atoms.specs.Text.{Text, text_eq}
use Rattle.xq_trees.specs.Items.{ItemView, Place as NodeAt, Value}
use Rattle.xq_trees.specs.Tree.{Tree, IsTree}
use Rattle.xq_trees.specs.Tuples.{Tuple}
use Rattle.xq_meaning.specs.declared.plans.Plan.{Plan}
use Rattle.xq_meaning.specs.Arguments.{boolean}
use Rattle.xq_meaning.specs.Forms as Forms
use Rattle.xq_meaning.specs.Items.{Place, Node}
use Rattle.xq_meaning.specs.PlanMeaning.{Frame, plan_mean}
use Rattle.xq_meaning.specs.Readings.{node_at}
use Rattle.xq_meaning.specs.Steps.{axis_nodes}
use Rattle.xq_sources.specs.Sources.{tree_at, HasNode}
use Rattle.xq_operators.specs.declared.contexts.EvalContext.{EvalContext as HeldFrame}
use Rattle.xq_operators.specs.Views.{tuple_at, frame_at, FrameIn}
use Rattle.xq_joins.specs.declared.equalities.NodeTest.{NodeTest}
use Rattle.xq_joins.specs.declared.equalities.TextTest.{TextTest}
use Rattle.xq_joins.specs.Keys.{text_at}

-- one of the nodes has the text
abbrev pub have_text : List Tree → Text → List Place → Bool
have_text trees text ps = list_any (text_eq text) (map (text_at trees) ps)

-- the step of the test leads from the node to one that has its text
abbrev pub leads_to_text : List Tree → TextTest → Place → Bool
leads_to_text trees found p =
    have_text trees found.text.now (axis_nodes trees found.axis found.test.now p)

-- what is asked of nodes, of an item that code holds: it has to be one
abbrev pub on_nodes : List Tree → (Place → Bool) → ItemView → Bool
on_nodes trees passes (NodeAt n) = passes (node_at trees n)
on_nodes trees passes (Value a) = false

-- the test, of an item that code holds
abbrev pub passes_text : List Tree → TextTest → ItemView → Bool
passes_text trees found = on_nodes trees (leads_to_text trees found)

-- the frame with a node as its context item
abbrev pub at_node : Frame → Place → ℕ → ℕ → Frame
at_node frame p position last =
    Forms.in_focus frame (record { item = Node p; position = position; last = last })

-- over these trees, where the slots hold these values, the plan says of a node whether it passes,
-- and refuses and constructs nothing
pub record Asks (trees : List Tree) (slots : Tuple ItemView) (passes : Place → Bool) (p : Plan)
    : Type 0 where
  pub says : (frame : Frame) (place : Place) (position last : ℕ) → frame.env ≡ tuple_at trees slots
      → plan_mean p (at_node frame place position last) trees
      ≡ (Ok (boolean (passes place)), trees)

-- it says whether it passes the test, over these trees
abbrev pub IsTextTestIn : List Tree → Tuple ItemView → TextTest → Plan → Type 0
IsTextTestIn trees slots found p = Asks trees slots (leads_to_text trees found) p

-- the same over any trees
abbrev pub IsTextTest : Tuple ItemView → TextTest → Plan → Type 0
IsTextTest slots found p = (trees : List Tree) → IsTextTestIn trees slots found p

-- # Of the nodes of some trees

-- over these trees, where the slots hold these values, the predicate keeps a node just where it
-- passes, and refuses and constructs nothing; its tree has one of the numbers
pub record Keeps (trees : List Tree) (slots : Tuple ItemView) (among : ℕ → Type 0)
    (passes : Place → Bool) (p : Plan) : Type 0 where
  pub says : (frame : Frame) (place : Place) (position last : ℕ) → frame.env ≡ tuple_at trees slots
      → among place.tree
      → Forms.passed (plan_mean p) frame
      (record { item = Node place; position = position; last = last }) trees
      ≡ (Ok (Forms.kept_if (Node place) (passes place)), trees)

-- what has this number is a tree
abbrev pub IsTreeAt : List Tree → ℕ → Type 0
IsTreeAt trees n = IsTree (tree_at trees n)

-- over any trees, it keeps those of their nodes that pass the test
abbrev pub IsValueTest : Tuple ItemView → TextTest → Plan → Type 0
IsValueTest slots found p =
    (trees : List Tree) → Keeps trees slots (IsTreeAt trees) (leads_to_text trees found) p

-- the item is a node, and its tree has one of the numbers
abbrev pub IsNodeOf : (ℕ → Type 0) → ItemView → Type 0
IsNodeOf among (NodeAt n) = among n.tree
IsNodeOf among (Value a) = ⊥

-- # With a node at hand

-- in the frame, over any trees that have its nodes, the node is there, and the plan says whether it
-- passes the test, and refuses and constructs nothing
pub record IsNodeTest (frame : HeldFrame) (found : NodeTest) (p : Plan) : Type 0 where
  pub there : (trees : List Tree) → FrameIn trees frame
      → HasNode trees found.node.tree found.node.pre
  pub says : (trees : List Tree) → FrameIn trees frame
      → plan_mean p (frame_at trees frame) trees
      ≡ (Ok (boolean (leads_to_text trees found.test (node_at trees found.node))), trees)
