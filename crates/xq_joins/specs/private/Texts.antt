-- Values that are one text.
use Rattle.std.specs.Prelude.{◌≡◌, List, [], ◌∷◌, map, Ok, Some}
use Rattle.xq_atoms.specs.Atom.{Atomic, String, Untyped}
use Rattle.xq_atoms.specs.Text.{Text}
use Rattle.xq_trees.specs.declared.Axis.TheVariants as axes
use Rattle.xq_trees.specs.Items.{ItemView, Place, Value}
use Rattle.xq_trees.specs.Tree.{Tree}
use Rattle.xq_trees.specs.Tuples.{Tuple}
use Rattle.xq_meaning.specs.declared.node_tests.Test.TheVariants as tests
use Rattle.xq_meaning.specs.declared.plans.Plan.{Plan}
use Rattle.xq_meaning.specs.declared.plans.Plan.TheVariants as plan
use Rattle.xq_meaning.specs.Arguments.{atomic}
use Rattle.xq_meaning.specs.PlanMeaning.{Frame, plan_mean}
use Rattle.xq_meaning.specs.Items.{Node}
use Rattle.xq_meaning.specs.Readings.{node_at}
use Rattle.xq_meaning.specs.Steps.{axis_nodes}
use Rattle.xq_sources.specs.Sources.{HasNode}
use Rattle.xq_operators.specs.declared.contexts.EvalContext.{EvalContext as HeldFrame}
use Rattle.xq_operators.specs.declared.paths.ShortPath.{ShortPath}
use Rattle.xq_operators.specs.Views.{tuple_at, frame_at, FrameIn}
use Rattle.xq_joins.specs.declared.equalities.TextTest.{TextTest}

-- a string or an untyped value with this text
abbrev pub IsText : Atomic → Text → Type 0
IsText (String s) t = s ≡ t
IsText (Untyped s) t = s ≡ t
IsText a t = ⊥

-- the item is such a value
abbrev pub IsTextItem : ItemView → Text → Type 0
IsTextItem (Value a) t = IsText a t
IsTextItem (Place n) t = ⊥

-- the items are one such value
pub record AreText (xs : List ItemView) (t : Text) : Type 0 where
  pub atom : Atomic
  pub are : xs ≡ Value atom ∷ []
  pub is_text : IsText atom t

-- where the slots hold these values, the plan gives one such value, and does nothing else
pub record GivesText (slots : Tuple ItemView) (t : Text) (p : Plan) : Type 0 where
  pub atom : Atomic
  pub is_text : IsText atom t
  pub gives : (frame : Frame) (trees : List Tree) → frame.env ≡ tuple_at trees slots
      → plan_mean p frame trees ≡ (Ok (atomic atom), trees)

-- a step to the attributes with a name, and a text: those of the test
pub record IsAttributeTest (slots : Tuple ItemView) (found : TextTest) (near other : Plan)
    : Type 0 where
  pub name : Text
  pub axis : found.axis ≡ axes.Attributes
  pub test : found.test.now ≡ tests.Attribute (Some name)
  pub step : near ≡ plan.Step found.axis found.test.now []
  pub text : GivesText slots found.text.now other

-- in the frame, over any trees that have its nodes, the plan gives what is on the axis from a node
-- at hand
pub record IsStepAt (frame : HeldFrame) (found : ShortPath) (p : Plan) : Type 0 where
  pub there : (trees : List Tree) → FrameIn trees frame
      → HasNode trees found.node.tree found.node.pre
  pub gives : (trees : List Tree) → FrameIn trees frame
      → plan_mean p (frame_at trees frame) trees
      ≡ (
        Ok (map Node (axis_nodes trees found.axis found.test.now (node_at trees found.node))),
        trees,
      )
