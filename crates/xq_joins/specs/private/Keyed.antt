-- A step and a key that a predicate compares.
use Rattle.std.specs.Prelude.{◌≡◌, ◌<◌, ℕ, List, [], ◌∷◌, map, Bool, true, false, not, ◌||◌, ◌&&◌, Ok, string_bytes}
use Rattle.std.specs.List.{AllByRecursion}
use Rattle.xq_trees.specs.declared.items.Node.{Node as Spot}
use Rattle.xq_trees.specs.Items.{ItemView}
use Rattle.xq_trees.specs.Tree.{Tree}
use Rattle.xq_trees.specs.Tuples.{Tuple, value_at}
use Rattle.xq_meaning.specs.declared.plans.Plan.{Plan}
use Rattle.xq_meaning.specs.Arguments.{boolean}
use Rattle.xq_meaning.specs.Forms as Forms
use Rattle.xq_meaning.specs.Items.{Place, Node}
use Rattle.xq_meaning.specs.PlanMeaning.{Frame, plan_mean}
use Rattle.xq_meaning.specs.Readings.{node_at}
use Rattle.xq_meaning.specs.Steps.{axis_nodes}
use Rattle.xq_sources.specs.Sources.{HasNode}
use Rattle.xq_joins.specs.declared.keyed.Keyed.{Keyed}
use Rattle.xq_joins.specs.declared.keyed.KeyedTest.{KeyedTest}
use Rattle.xq_joins.specs.Equalities.{at_node}
use Rattle.xq_joins.specs.Keys.{IsNode, text_at, meet}
use Rattle.xq_joins.specs.private.Keys.{scans, key_texts, texts_from}

-- where the slot of the key holds nodes, the plan says of a node whether the step leads from it to
-- one that has a text of the key, and refuses and constructs nothing
pub record ComparesKey (found : Keyed) (p : Plan) : Type 0 where
  pub says : (frame : Frame) (trees : List Tree) (place : Place) (position last : ℕ)
      (qs : List Place)
      → value_at found.key.slot frame.env ≡ map Node qs
      → plan_mean p (at_node frame place position last) trees
      ≡ (
        Ok (boolean (meet (key_texts trees (scans found.key.steps.now) qs)
            (map (text_at trees) (axis_nodes trees found.axis found.test.now place)))),
        trees,
      )

-- the test has the step, and the texts of the key over these trees, where the slots hold these
-- values; that of the key holds nodes
pub record HasTexts (trees : List Tree) (slots : Tuple ItemView) (found : Keyed) (test : KeyedTest)
    : Type 0 where
  pub on_axis : test.axis ≡ found.axis
  pub of_test : test.test.now ≡ found.test.now
  pub nodes : AllByRecursion IsNode (value_at found.key.slot slots)
  pub texts : map string_bytes test.texts.items
      ≡ texts_from trees found.key.steps.now (value_at found.key.slot slots)

-- # In a quantified expression

-- where so many slots are open, and the slot of the key holds nodes, the test says of a node in the
-- next slot whether the scan leads from it to one that has a text of the key, and refuses and
-- constructs nothing
pub record ComparesNext (next : ℕ) (found : Keyed) (p : Plan) : Type 0 where
  pub earlier : found.key.slot < next
  pub says : (frame : Frame) (trees : List Tree) (n : Spot) (qs : List Place)
      → HasNode trees n.tree n.pre
      → value_at next frame.env ≡ Node (node_at trees n) ∷ []
      → value_at found.key.slot frame.env ≡ map Node qs
      → Forms.tested (plan_mean p) frame trees
      ≡ (
        Ok (meet (key_texts trees (scans found.key.steps.now) qs)
            (map (text_at trees)
            (axis_nodes trees found.axis found.test.now (node_at trees n)))),
        trees,
      )

-- whether one of them is true, or else all are
abbrev pub decided : Bool → List Bool → Bool
decided wanted [] = not wanted
decided true (b ∷ bs) = b || decided true bs
decided false (b ∷ bs) = b && decided false bs
