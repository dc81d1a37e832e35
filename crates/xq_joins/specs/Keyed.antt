-- Predicates that compare a step from the item with a key.
use Rattle.std.specs.Prelude.{List, [], ◌∷◌, map, Bool, string_bytes}
use Rattle.xq_trees.specs.Items.{ItemView}
use Rattle.xq_trees.specs.Tree.{Tree}
use Rattle.xq_trees.specs.Tuples.{Tuple}
use Rattle.xq_meaning.specs.declared.plans.Plan.{Plan}
use Rattle.xq_meaning.specs.Doing.{Doing, first_that}
use Rattle.xq_meaning.specs.Forms as Forms
use Rattle.xq_meaning.specs.Items.{Place, Item}
use Rattle.xq_meaning.specs.PlanMeaning.{Frame, opened, plan_mean}
use Rattle.xq_meaning.specs.Steps.{axis_nodes}
use Rattle.xq_joins.specs.declared.keyed.KeyedTest.{KeyedTest}
use Rattle.xq_joins.specs.Equalities.{on_nodes, Asks, IsTreeAt, Keeps}
use Rattle.xq_joins.specs.Keys.{text_at, meet}

-- the step of the test leads from the node to one that has one of its texts
abbrev pub leads_to_key : List Tree → KeyedTest → Place → Bool
leads_to_key trees found p =
    meet (map string_bytes found.texts.items)
    (map (text_at trees) (axis_nodes trees found.axis found.test.now p))

-- the same of an item that code holds, which has to be a node
abbrev pub passes_key : List Tree → KeyedTest → ItemView → Bool
passes_key trees found = on_nodes trees (leads_to_key trees found)

-- over these trees, where the slots hold these values, the plan says of a node whether it passes
-- the test, and refuses and constructs nothing
abbrev pub IsKeyedTest : List Tree → Tuple ItemView → KeyedTest → Plan → Type 0
IsKeyedTest trees slots found p = Asks trees slots (leads_to_key trees found) p

-- over any trees, it keeps those of their nodes that pass the test
abbrev pub IsValueKeyTest : Tuple ItemView → KeyedTest → Plan → Type 0
IsValueKeyTest slots found p =
    (trees : List Tree) → Keeps trees slots (IsTreeAt trees) (leads_to_key trees found) p

-- # In a quantified expression

-- XQuery 3.1, 3.16: whether the test has the wanted truth with one of these items in the next slot;
-- it isn't evaluated with those after the first that has
abbrev pub first_with : Bool → Plan → List Item → Frame → Doing Bool
first_with wanted p xs frame = first_that wanted (λ x.
    Forms.tested (plan_mean p) (Forms.in_env frame (opened frame.env (x ∷ [])))) xs
