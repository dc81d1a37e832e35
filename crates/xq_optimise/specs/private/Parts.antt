-- What the parts of a plan are to those of the plan that it becomes, where the slots are as known.
use Rattle.std.specs.Prelude.{◌≡◌, ◌≤◌, ℕ, List, [], ◌∷◌, ◌++◌, map, length, take, replicate, ◌-◌, Bool, true, false, Option, Some, slice_get, Ok, Err}
use Rattle.std.specs.List.{AllByRecursion}
use Rattle.xq_atoms.specs.Text.{Text}
use Rattle.xq_expressions.specs.declared.operators.OrderModifier.{OrderModifier}
use Rattle.xq_expressions.specs.declared.operators.Relation.{Relation}
use Rattle.xq_expressions.specs.declared.operators.ComparisonOperator.TheVariants as comparing
use Rattle.xq_expressions.specs.declared.signatures.Function.{Function}
use Rattle.xq_trees.specs.declared.Axis.{Axis}
use Rattle.xq_trees.specs.Tree.{Tree}
use Rattle.xq_trees.specs.Tuples.{Tuple}
use Rattle.xq_meaning.specs.Functions.{Focus}
use Rattle.xq_meaning.specs.Items.{Item}
use Rattle.xq_meaning.specs.declared.node_tests.Test.{Test}
use Rattle.xq_meaning.specs.declared.operators.Operator.{Operator}
use Rattle.xq_meaning.specs.declared.operators.Operator.TheVariants as operator
use Rattle.xq_meaning.specs.declared.plans.Plan.{Plan}
use Rattle.xq_meaning.specs.declared.plans.Plan.TheVariants as plan
use Rattle.xq_meaning.specs.declared.plans.PlanClause.{PlanClause}
use Rattle.xq_meaning.specs.declared.plans.PlanClause.TheVariants as clause
use Rattle.xq_meaning.specs.declared.plans.PlanStep.{PlanStep}
use Rattle.xq_meaning.specs.declared.plans.PlanStep.TheVariants as step
use Rattle.xq_meaning.specs.Doing.{Outcome, in_turn}
use Rattle.xq_meaning.specs.PlanMeaning.{Slots, next_clause, plan_mean, plan_clause_mean, plan_step_mean}
use Rattle.xq_meaning.specs.Same.{frame_of}
use Rattle.xq_optimise.specs.declared.held.Held.{Held}
use Rattle.xq_optimise.specs.declared.held.Held.TheVariants as has
use Rattle.xq_optimise.specs.declared.held.Held.TheVariants.{Anything}
use Rattle.xq_optimise.specs.Known.{Holds, Fits}
use Rattle.xq_optimise.specs.Same.{GivesSame}
use Rattle.xq_optimise.specs.Sure.{SamePredicates}

-- each of one list is to its counterpart of the other
abbrev pub AreAll : {A B : Type 0} → (A → B → Type 0) → List A → List B → Type 0
AreAll R [] [] = Unit {0}
AreAll R (x ∷ xs) (y ∷ ys) = R x y × AreAll R xs ys
AreAll R xs ys = ⊥

abbrev pub SameOperand : List Held → Operator × Plan → Operator × Plan → Type 0
SameOperand known x y = (y.0 ≡ x.0) × GivesSame known x.1 y.1

-- a call after an arrow
abbrev pub SameCall : List Held → Function × List Plan → Function × List Plan → Type 0
SameCall known x y = (y.0 ≡ x.0) × AreAll (GivesSame known) x.1 y.1

abbrev pub SameKey : List Held → Plan × OrderModifier → Plan × OrderModifier → Type 0
SameKey known x y = GivesSame known x.0 y.0 × (y.1 ≡ x.1)

abbrev pub SameStep : List Held → PlanStep → PlanStep → Type 0
SameStep known s t =
    (slots : Slots) (focus : Option Focus) (addresses : List Text) → Fits known slots →
    (xs : List Item) (trees : List Tree) →
    plan_step_mean t (frame_of slots focus addresses) xs trees
    ≡ plan_step_mean s (frame_of slots focus addresses) xs trees

-- # Predicates

-- a step without predicates
abbrev pub IsPlainStep : Plan → Type 0
IsPlainStep p = (axis : Axis) × (test : Test) × (p ≡ plan.Step axis test [])

-- predicates that are put at the end, and stand for this one
abbrev pub AddsPredicates : List Held → Plan → List Plan → List Plan → Type 0
AddsPredicates known p before after =
    (more : List Plan) × (after ≡ before ++ more) × SamePredicates known (p ∷ []) more

-- # What a part gives

-- a value is as described
abbrev pub GivesHeld : Held → Outcome (List Item) → Type 0
GivesHeld held (Ok xs, trees) = Holds held xs
GivesHeld held (Err code, trees) = Unit {0}

-- the value of the plan is as described, where there is one
abbrev pub IsHeld : List Held → Held → Plan → Type 0
IsHeld known held p =
    (slots : Slots) (focus : Option Focus) (addresses : List Text) (trees : List Tree) →
    Fits known slots → GivesHeld held (plan_mean p (frame_of slots focus addresses) trees)

-- what is known of each item alone, or of none
abbrev pub each_of : Held → Held
each_of has.Nodes = has.Node
each_of has.Node = has.Node
each_of has.Texts = has.Text
each_of has.Text = has.Text
each_of has.Item = has.Item
each_of has.Anything = has.Item

-- it says that all items are nodes
abbrev pub IsOfNodes : Held → Type 0
IsOfNodes has.Nodes = Unit {0}
IsOfNodes has.Node = Unit {0}
IsOfNodes known = ⊥

-- that all are texts
abbrev pub IsOfTexts : Held → Type 0
IsOfTexts has.Texts = Unit {0}
IsOfTexts has.Text = Unit {0}
IsOfTexts known = ⊥

-- that there is at most one
abbrev pub IsOfOne : Held → Type 0
IsOfOne has.Node = Unit {0}
IsOfOne has.Text = Unit {0}
IsOfOne has.Item = Unit {0}
IsOfOne known = ⊥

-- this is known of the slot
abbrev pub IsKnown : (Held → Type 0) → List Held → ℕ → Type 0
IsKnown P known n = (held : Held) × (slice_get known n ≡ Some held) × P held

-- a step without predicates, after a slash
abbrev pub IsScan : PlanStep → Type 0
IsScan s = (axis : Axis) × (test : Test) × (s ≡ step.Scan axis test)

-- a general comparison of two parts
abbrev pub general_comparison : Relation → Plan → Plan → Plan
general_comparison relation p q =
    plan.Chain p ((operator.Comparison (comparing.General relation), q) ∷ [])

-- what is known of the slot of a variable, and of that of its position, where it has one
abbrev pub with_position : Held → Bool → List Held
with_position held true = held ∷ Anything ∷ []
with_position held false = held ∷ []

-- # Quantified expressions: each range where the variables before it have a slot

abbrev pub SameRanges : List Held → List Plan → List Plan → List Held → Type 0
SameRanges known [] [] last = last ≡ known
SameRanges known (p ∷ ps) (q ∷ qs) last =
    (held : Held) × GivesSame known p q × IsHeld known held p
    × SameRanges (known ++ each_of held ∷ []) ps qs last
SameRanges known ps qs last = ⊥

-- # FLWOR

-- at each tuple the slots are as known, those outside before those of the tuple
abbrev pub AllFit : List Held → Slots → List (Tuple Item) → Type 0
AllFit known slots tuples = AllByRecursion (λ t. Fits known (slots ++ t)) tuples

abbrev pub GivesFitting : List Held → Slots → Outcome (List (Tuple Item)) → Type 0
GivesFitting known slots (Ok tuples, trees) = AllFit known slots tuples
GivesFitting known slots (Err code, trees) = Unit {0}

-- the same tuples or code, and the slots as known after it
pub record Follows (known : List Held) (slots : Slots) (old new : Outcome (List (Tuple Item))) :
    Type 0 where
  pub same : new ≡ old
  pub fits : GivesFitting known slots old

-- by what is known before and after a clause, where so many slots are outside

abbrev pub SameClause : ℕ → List Held → PlanClause → PlanClause → List Held → Type 0
SameClause start known c d last =
    (slots : Slots) (focus : Option Focus) (addresses : List Text) → length slots ≡ start →
    (tuples : List (Tuple Item)) (trees : List Tree) → AllFit known slots tuples →
    Follows last slots (plan_clause_mean c (frame_of slots focus addresses) tuples trees)
    (plan_clause_mean d (frame_of slots focus addresses) tuples trees)

-- a clause, and those that stand for it
abbrev pub SameMany : ℕ → List Held → PlanClause → List PlanClause → List Held → Type 0
SameMany start known c ds last =
    (slots : Slots) (focus : Option Focus) (addresses : List Text) → length slots ≡ start →
    (tuples : List (Tuple Item)) (trees : List Tree) → AllFit known slots tuples →
    Follows last slots (plan_clause_mean c (frame_of slots focus addresses) tuples trees)
    (in_turn (next_clause (frame_of slots focus addresses)) tuples (map plan_clause_mean ds) trees)

-- clauses that are put at the end, and stand for this one
abbrev pub AddsClauses : ℕ → List Held → PlanClause → List PlanClause → List PlanClause →
    List Held → Type 0
AddsClauses start known c before after last =
    (ds : List PlanClause) × (after ≡ before ++ ds) × SameMany start known c ds last

-- the same for a `where` with this test, wherever its FLWOR begins
abbrev pub AddsTests : List Held → Plan → List PlanClause → List PlanClause → Type 0
AddsTests known test before after =
    (ds : List PlanClause) × (after ≡ before ++ ds)
    × ((start : ℕ) → SameMany start known (clause.Where test) ds known)

abbrev pub SameClauses : ℕ → List Held → List PlanClause → List PlanClause → List Held → Type 0
SameClauses start known cs ds last =
    (slots : Slots) (focus : Option Focus) (addresses : List Text) → length slots ≡ start →
    (tuples : List (Tuple Item)) (trees : List Tree) → AllFit known slots tuples →
    Follows last slots
    (in_turn (next_clause (frame_of slots focus addresses)) tuples (map plan_clause_mean cs) trees)
    (in_turn (next_clause (frame_of slots focus addresses)) tuples (map plan_clause_mean ds) trees)

-- nothing is known of the slots from a place on
abbrev pub forgotten : ℕ → List Held → List Held
forgotten start known = take start known ++ replicate (length known - start) Anything

-- what is known of the slots before a place stays
pub record Extends (start : ℕ) (before after : List Held) : Type 0 where
  pub outer : take start after ≡ take start before
  pub within : start ≤ length after

-- # Paths

-- after one step more, a path that gave the same as another gives the same again
abbrev pub MovesOn : List Held → PlanStep → Plan → List PlanStep → Plan → List PlanStep → Type 0
MovesOn known s from scans from' scans' =
    (start : Plan) (taken : List PlanStep) →
    GivesSame known (plan.Path start taken) (plan.Path from scans) →
    GivesSame known (plan.Path start (taken ++ s ∷ [])) (plan.Path from' scans')
