-- What a predicate that compares a key of each item is to a join.
use Rattle.std.specs.Prelude.{◌≡◌, ℕ, List, [], ◌∷◌, length, None}
use Rattle.std.specs.List.{AllByRecursion}
use Rattle.xq_trees.specs.declared.Axis.{Axis}
use Rattle.xq_trees.specs.Tree.{Tree}
use Rattle.xq_meaning.specs.declared.joins.Join.{Join}
use Rattle.xq_meaning.specs.declared.joins.JoinKey.{JoinKey}
use Rattle.xq_meaning.specs.declared.node_tests.Test.{Test}
use Rattle.xq_meaning.specs.declared.plans.Plan.{Plan}
use Rattle.xq_meaning.specs.declared.plans.PlanStep.{PlanStep}
use Rattle.xq_meaning.specs.Doing.{in_turn}
use Rattle.xq_meaning.specs.Forms
use Rattle.xq_meaning.specs.Items.{Place, Node}
use Rattle.xq_meaning.specs.PlanMeaning.{Frame, opened, key_mean, plan_mean}
use Rattle.xq_optimise.specs.declared.held.Held.{Held}
use Rattle.xq_optimise.specs.declared.held.Held.TheVariants.{Nodes}
use Rattle.xq_optimise.specs.Sure.{on_node, SamePredicates, SurelyKeeps}
use Rattle.xq_optimise.specs.private.Joins.{IsOutside, StepOutside, equal_plan}
use Rattle.xq_optimise.specs.private.Parts.{IsHeld}

-- the frame with a node in focus
abbrev pub at_node : Frame → Place → ℕ → ℕ → Frame
at_node frame place position last = Forms.in_focus frame (on_node place position last)

-- the frame with a node in the next slot
abbrev pub with_node : Frame → Place → Frame
with_node frame place = record frame { env = opened frame.env (Node place ∷ []) }

-- with a node in focus the part gives what the scans from it give
abbrev pub LeadsTo : List (Axis × Test) → Plan → Type 0
LeadsTo scans p =
    (frame : Frame) (place : Place) (position last : ℕ) (trees : List Tree) →
    plan_mean p (at_node frame place position last) trees
    ≡ in_turn (λ xs (axis, test). Forms.scan axis test xs) (Node place ∷ []) scans trees

-- where so many slots are open, the part gives with a node in focus what the key gives with it in
-- the next slot
abbrev pub IsSide : ℕ → JoinKey → Plan → Type 0
IsSide next key p =
    (frame : Frame) → length frame.env ≡ next →
    (place : Place) (position last : ℕ) (trees : List Tree) →
    plan_mean p (at_node frame place position last) trees
    ≡ key_mean key (with_node frame place) trees

-- the predicate compares these two keys, and the range of the join starts from no slot
abbrev pub ComparesItems : ℕ → Join → Plan → Type 0
ComparesItems next join p =
    (a b : Plan) × (p ≡ equal_plan join.equality a b) × (join.carried ≡ None)
    × IsSide next join.left a × IsSide next join.right b

-- a path reads no slot of the tuples, and one predicate, which keeps of the nodes of a step after it
-- and is never refused, compares a key of each
abbrev pub IsStepGroup : ℕ → List Held → Plan → List PlanStep → List Plan → Join → Type 0
IsStepGroup outer known start steps ps join =
    (p : Plan) × (ps ≡ p ∷ []) × SurelyKeeps known p × IsOutside outer start
    × AllByRecursion (StepOutside outer) steps × ComparesItems (length known) join p

-- the part gives nodes and reads no slot of the tuples, and one predicate compares a key of each
abbrev pub IsFilterGroup : ℕ → List Held → Plan → List Plan → Join → Type 0
IsFilterGroup outer known start ps join =
    (p : Plan) × (ps ≡ p ∷ []) × IsHeld known Nodes start × IsOutside outer start
    × ComparesItems (length known) join p

-- tests of the node alone that keep the same of any nodes as the others
abbrev pub KeepsAlike : List Held → List Plan → List Plan → Type 0
KeepsAlike known ps qs = AllByRecursion (SurelyKeeps known) qs × SamePredicates known ps qs
