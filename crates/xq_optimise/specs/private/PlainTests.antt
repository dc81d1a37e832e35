-- Tests of a node in a form that the values that are kept serve (XQuery 3.1, 3.3.2, 3.7.1 and 3.7.2).
use Rattle.std.specs.Prelude.{◌≡◌, ◌⊎◌, ℕ, List, [], ◌∷◌, Ok}
use Rattle.xq_expressions.specs.declared.signatures.Function.TheVariants.{String}
use Rattle.xq_trees.specs.declared.Axis.{Axis}
use Rattle.xq_trees.specs.Tree.{Tree}
use Rattle.xq_meaning.specs.declared.node_tests.Test.{Test}
use Rattle.xq_meaning.specs.declared.plans.Plan.{Plan}
use Rattle.xq_meaning.specs.declared.plans.Plan.TheVariants as plan
use Rattle.xq_meaning.specs.Doing.{go_on, judged}
use Rattle.xq_meaning.specs.Items.{Place, Item, atomized}
use Rattle.xq_meaning.specs.Operators.{keeps}
use Rattle.xq_meaning.specs.PlanMeaning.{Frame, plan_mean}
use Rattle.xq_optimise.specs.declared.plain_tests.Side.{Side}
use Rattle.xq_optimise.specs.declared.plain_tests.Side.TheVariants as side
use Rattle.xq_optimise.specs.Sure.{SurelyFinds}
use Rattle.xq_optimise.specs.private.Filters.{at_node, LeadsTo}

-- with a node in focus a part gives what another one gives, or items that atomize to the same
abbrev pub AtomizesAlike : Plan → Plan → Type 0
AtomizesAlike p q =
    (frame : Frame) (place : Place) (position last : ℕ) (trees : List Tree) →
    (plan_mean q (at_node frame place position last) trees
    ≡ plan_mean p (at_node frame place position last) trees)
    ⊎ ((xs : List Item) × (ys : List Item)
    × (plan_mean p (at_node frame place position last) trees ≡ (Ok xs, trees))
    × (plan_mean q (at_node frame place position last) trees ≡ (Ok ys, trees))
    × (atomized trees ys ≡ atomized trees xs))

-- with a node in focus one predicate keeps what the other keeps
abbrev pub KeepsAsOther : Plan → Plan → Type 0
KeepsAsOther p q =
    (frame : Frame) (place : Place) (position last : ℕ) (trees : List Tree) →
    go_on (plan_mean q (at_node frame place position last) trees)
    (λ value. judged (keeps position value))
    ≡ go_on (plan_mean p (at_node frame place position last) trees)
    (λ value. judged (keeps position value))

-- scans lead to both from the node in focus
abbrev pub LeadsAlike : Plan → Plan → Type 0
LeadsAlike p q = (scans : List (Axis × Test)) × LeadsTo scans p × LeadsTo scans q

-- a text that isn't empty
abbrev pub IsSomeText : Plan → Type 0
IsSomeText p = (c : ℕ) × (t : List ℕ) × (p ≡ plan.Str (c ∷ t))

-- a side that is the string of nodes, or as it is
abbrev pub IsSide : Plan → Side → Type 0
IsSide p (side.StringOf q) = (p ≡ plan.Call String (q ∷ [])) × SurelyFinds q
IsSide p (side.Other q) = q ≡ p
