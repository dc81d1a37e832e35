-- What the values of an evaluation stand for over a list of trees, and what its calls give.
use Rattle.std.specs.Prelude.{◌≡◌, ◌≤◌, ◌∷◌, [], ℕ, length, List, map, take, Option, Some, None, Result, Ok, Err, String, string_bytes}
use Rattle.std.specs.List.{AllByRecursion}
use Rattle.std.specs.Global.{Global, Vec}
use Rattle.xq_atoms.specs.declared.refusals.Fault.{Fault}
use Rattle.xq_atoms.specs.declared.refusals.Fault.TheVariants.{Code as OfCode, Want as OfWant}
use Rattle.xq_atoms.specs.Judged.{Judged}
use Rattle.xq_trees.specs.declared.items.Item.{Item as Held}
use Rattle.xq_trees.specs.declared.items.Node.{Node as HeldNode}
use Rattle.xq_trees.specs.Items.{ItemView, Place as NodeAt, item_view, item_views}
use Rattle.xq_trees.specs.Tree.{Tree}
use Rattle.xq_trees.specs.Tuples.{Tuple, ordered}
use Rattle.xq_expressions.specs.declared.signatures.Function.{Function}
use Rattle.xq_atoms.specs.Atom.{Atomic}
use Rattle.xq_expressions.specs.declared.operators.OrderModifier.{OrderModifier}
use Rattle.xq_axes.specs.Nodes.{last_of}
use Rattle.xq_tuples.specs.Views.{values_of}
use Rattle.xq_meaning.specs.Items.{Item, Node}
use Rattle.xq_meaning.specs.Functions.{Focus as Spot, called}
use Rattle.xq_meaning.specs.Readings.{node_at, item_at, items_at, IsIn, AreIn, Extends}
use Rattle.xq_atoms.specs.Text.{Text}
use Rattle.xq_expressions.specs.declared.operators.NamedNode.{NamedNode}
use Rattle.xq_expressions.specs.declared.operators.UnnamedNode.{UnnamedNode}
use Rattle.xq_trees.specs.declared.Axis.{Axis}
use Rattle.xq_trees.specs.declared.Axis.TheVariants.{Child, DescendantOrSelf, Parent}
use Rattle.xq_meaning.specs.declared.node_tests.Test.{Test}
use Rattle.xq_meaning.specs.declared.node_tests.Test.TheVariants.{Any}
use Rattle.xq_meaning.specs.Content.{named_tree, unnamed_tree}
use Rattle.xq_meaning.specs.Steps.{context_node, axis_nodes, in_axis_order}
use Rattle.xq_meaning.specs.Doing.{Doing, Outcome, ◌>>=◌, give, judged, on_trees}
use Rattle.xq_meaning.specs.Forms as Forms
use Rattle.xq_meaning.specs.declared.plans.Plan.{Plan}
use Rattle.xq_meaning.specs.PlanMeaning.{Frame as Meant, Meaning, plan_mean}
use Rattle.xq_operators.specs.declared.contexts.Focus.{Focus}
use Rattle.xq_operators.specs.declared.contexts.EvalContext.{EvalContext}

-- a tuple that code holds, with the items that it stands for over these trees
abbrev pub tuple_at : List Tree → Tuple ItemView → Tuple Item
tuple_at trees tuple = map (items_at trees) tuple

-- the same of several tuples
abbrev pub tuples_at : List Tree → List (Tuple ItemView) → List (Tuple Item)
tuples_at trees tuples = map (tuple_at trees) tuples

-- the lists of items that code holds, as contracts see them
abbrev pub lists_of : Vec (Vec Held) → Tuple ItemView
lists_of lists = map item_views lists.items

-- a focus that code holds, with the item that it stands for over these trees
abbrev pub spot_at : List Tree → Focus → Spot
spot_at trees f =
    record { item = item_at trees (item_view f.item.now); position = f.position; last = f.last }

-- the same, where there is a focus
abbrev pub focus_at : List Tree → Option Focus → Option Spot
focus_at trees None = None
focus_at trees (Some f) = Some (spot_at trees f)

-- a frame that code holds, as the frame of a plan over these trees
abbrev pub frame_at : List Tree → EvalContext → Meant
frame_at trees f = record {
  env = tuple_at trees (values_of f.slots.now);
  focus = focus_at trees f.focus;
  addresses = f.addresses.now;
}

-- the nodes of a tree at these places, in their order
abbrev pub nodes_in : List Tree → ℕ → List ℕ → List Item
nodes_in trees tree places =
    map (λ p. Node (node_at trees (record { tree = tree; pre = p }))) places

-- # Nodes are those of the trees

abbrev pub TupleIn : List Tree → Tuple ItemView → Type 0
TupleIn trees tuple = AllByRecursion (AreIn trees) tuple

-- the nodes of all these tuples are
abbrev pub TuplesIn : List Tree → List (Tuple ItemView) → Type 0
TuplesIn trees tuples = AllByRecursion (TupleIn trees) tuples

-- the context item is, where there is one and it is a node
abbrev pub FocusIn : List Tree → Option Focus → Type 0
FocusIn trees None = Unit {0}
FocusIn trees (Some f) = IsIn trees (item_view f.item.now)

-- the nodes of a frame are, and it has no more addresses than there are trees
pub record FrameIn (trees : List Tree) (frame : EvalContext) : Type 0 where
  pub slots_in : TupleIn trees (values_of frame.slots.now)
  pub focus_in : FocusIn trees frame.focus
  -- the documents are the first trees
  pub addresses_in : length frame.addresses.now ≤ length trees

-- # What a call does and gives

-- what any call does to a world: trees are added, and what is clean now was clean before
pub record Goes (old new : List Tree) (old_clean new_clean : Type 0) : Type 0 where
  pub grows : Extends old new
  pub was_clean : new_clean → old_clean

-- the result is what the outcome says: a value over the trees that are left, or a code
abbrev pub GivesAs : {R S B : Type 0} → (R → S) → (List Tree → S → B) →
    (List Tree → S → Type 0) → Outcome B → List Tree → Result R Fault → Type 0
GivesAs view read In outcome trees (Ok r) =
    In trees (view r) × (outcome ≡ (Ok (read trees (view r)), trees))
GivesAs view read In outcome trees (Err (OfCode code)) = outcome.0 ≡ Err code
GivesAs view read In outcome trees (Err (OfWant want)) = Unit {0}

-- a sequence of items
abbrev pub GivesSequence : Outcome (List Item) → List Tree → Result (Vec Held) Fault → Type 0
GivesSequence = GivesAs item_views items_at AreIn

-- a sequence of one node, which is answered in no list
abbrev pub GivesNode : Outcome (List Item) → List Tree → Result HeldNode Fault → Type 0
GivesNode = GivesAs (λ node. NodeAt node ∷ []) items_at AreIn

-- the node, where there is one, as items
abbrev pub node_if_any : Option HeldNode → List ItemView
node_if_any None = []
node_if_any (Some node) = NodeAt node ∷ []

-- a sequence of one node or none
abbrev pub GivesNodeIfAny : Outcome (List Item) → List Tree → Result (Option HeldNode) Fault →
    Type 0
GivesNodeIfAny = GivesAs node_if_any items_at AreIn

-- a list of tuples
abbrev pub GivesTuples : Outcome (List (Tuple Item)) → List Tree →
    Result (List (Tuple ItemView)) Fault → Type 0
GivesTuples = GivesAs (λ ts. ts) tuples_at TuplesIn

-- whether a judgement refuses
abbrev pub forget : {A : Type 0} → Judged A → Judged (Unit {0})
forget (Ok x) = Ok tt
forget (Err code) = Err code

-- a text, in which no tree has a part
abbrev pub GivesText : Outcome (List ℕ) → List Tree → Result (String Global) Fault → Type 0
GivesText = GivesAs string_bytes (λ trees t. t) (λ trees t. Unit {0})

-- # Parts of forms, from values

-- a call from the values of its arguments
abbrev pub calling : Function → Meant → List (List Item) → Doing (List Item)
calling function frame values =
    on_trees (λ trees. called function trees frame.addresses frame.focus values)

-- the specifications of an order by clause
abbrev pub order_specs : List (Plan × OrderModifier) → List (Meaning × OrderModifier)
order_specs specs = map (λ (part, modifier). (plan_mean part, modifier)) specs

-- an order by clause from the keys of each tuple
abbrev pub ordering : List (Plan × OrderModifier) → List (Tuple Item) →
    List (List (List Atomic)) → Doing (List (Tuple Item))
ordering specs tuples rows =
    judged (ordered
    (Forms.rules_of (order_specs specs))
    tuples
    (Forms.key_columns (length (order_specs specs)) rows))

-- the nodes of a step, before its predicates
abbrev pub on_axis : Axis → Test → Option Spot → Doing (List Item)
on_axis axis test focus = do
  p ← judged (context_node focus)
  on_trees (λ trees. Ok (map Node (in_axis_order axis (axis_nodes trees axis test p))))

-- the first of them, so many at most
abbrev pub first_on_axis : ℕ → Axis → Test → Option Spot → Doing (List Item)
first_on_axis most axis test focus = do
  xs ← on_axis axis test focus
  give (take most xs)

-- the last of them, where there is one
abbrev pub last_on_axis : Axis → Test → Option Spot → Doing (List Item)
last_on_axis axis test focus = do
  xs ← on_axis axis test focus
  give (last_of xs)

-- `//` and a step to children: descendant-or-self::node(), and then that step
abbrev pub after_double_slash : Test → List Item → Doing (List Item)
after_double_slash test xs = do
  all ← Forms.scan DescendantOrSelf Any xs
  Forms.scan Child test all

-- of the nodes that `//` leads to, those with a child that passes the test
abbrev pub parents_below : Test → List Item → Doing (List Item)
parents_below test xs = do
  found ← after_double_slash test xs
  Forms.scan Parent Any found

-- a named node, built from its name and the value of its content
abbrev pub plant_named : NamedNode → Text → List Item → Doing (List Item)
plant_named kind name xs = do
  tree ← on_trees (λ trees. named_tree kind name trees xs)
  Forms.planted tree

-- a node without a name, built from the value of its content
abbrev pub plant_unnamed : UnnamedNode → List Item → Doing (List Item)
plant_unnamed kind xs = do
  tree ← on_trees (λ trees. unnamed_tree kind trees xs)
  Forms.planted_if tree
