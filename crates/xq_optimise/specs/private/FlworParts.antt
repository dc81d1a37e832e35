-- What a FLWOR returns.
use Rattle.std.specs.Prelude.{◌≡◌, ◌⊎◌, ℕ, List, [], ◌∷◌, map, length, Bool, Option}
use Rattle.xq_atoms.specs.Text.{Text}
use Rattle.xq_expressions.specs.declared.operators.AllowingEmpty.{AllowingEmpty}
use Rattle.xq_trees.specs.Tree.{Tree}
use Rattle.xq_trees.specs.Tuples.{Tuple}
use Rattle.xq_meaning.specs.Functions.{Focus}
use Rattle.xq_meaning.specs.declared.plans.Plan.{Plan}
use Rattle.xq_meaning.specs.declared.plans.Plan.TheVariants as plan
use Rattle.xq_meaning.specs.declared.plans.PlanClause.{PlanClause}
use Rattle.xq_meaning.specs.declared.plans.PlanClause.TheVariants as clause
use Rattle.xq_meaning.specs.Doing.{go_on, in_turn}
use Rattle.xq_meaning.specs.Forms
use Rattle.xq_meaning.specs.Items.{Item}
use Rattle.xq_meaning.specs.PlanMeaning.{Slots, at_tuple, next_clause, plan_mean, plan_clause_mean}
use Rattle.xq_meaning.specs.Same.{frame_of}
use Rattle.xq_optimise.specs.declared.held.Held.{Held}
use Rattle.xq_optimise.specs.Sure.{SurelyNodes, IsTest}
use Rattle.xq_optimise.specs.private.Joins.{LeavesTrees, IsOutside}
use Rattle.xq_optimise.specs.private.Parts.{AllFit, GivesFitting}

-- a slot
abbrev pub IsSlot : Plan → Type 0
IsSlot p = (n : ℕ) × (p ≡ plan.Slot n)

-- a conditional with this test and these branches may as well be a `where`: a test that is never
-- refused, or a slot that is given
abbrev pub MayStand : List Held → Plan → Plan → Plan → Type 0
MayStand known test positive negative =
    ((IsTest known test × LeavesTrees positive) ⊎ IsSlot positive) × (negative ≡ plan.Sequence [])

-- where so many slots are outside, and the slots of the tuples that come of the clauses are as
-- known, the plan gives what the FLWOR with these clauses and this part gives
abbrev pub StandsForFlwor : ℕ → List Held → List PlanClause → Plan → Plan → Type 0
StandsForFlwor outer known cs p q =
    (slots : Slots) (focus : Option Focus) (addresses : List Text) (trees : List Tree) →
    length slots ≡ outer → let frame = frame_of slots focus addresses in
    GivesFitting known slots
    (in_turn (next_clause frame) ([] ∷ []) (map plan_clause_mean cs) trees) →
    plan_mean q frame trees ≡ plan_mean (plan.Flwor cs p) frame trees

-- # A FLWOR that another one returns

-- the part gives nodes, or where so many slots are outside, reads nothing of the tuples
abbrev pub IsSteadyPart : List Held → ℕ → Plan → Type 0
IsSteadyPart known outer p = SurelyNodes known p ⊎ IsOutside outer p

-- the clause goes over each tuple by itself, and is refused at none of them or at each
abbrev pub IsSteady : List Held → ℕ → PlanClause → Type 0
IsSteady known outer c =
    ((empties : AllowingEmpty) × (at : Bool) × (p : Plan) × (c ≡ clause.For empties at p)
    × IsSteadyPart known outer p)
    ⊎ (((p : Plan) × (c ≡ clause.Let p) × IsSteadyPart known outer p)
    ⊎ ((p : Plan) × (c ≡ clause.Where p) × IsTest known p))

-- at tuples whose slots are as known, FLWORs with these clauses, one after another, give what the
-- clauses at all tuples and then the same return give, if that leaves the trees
abbrev pub AreSteady : ℕ → List Held → List PlanClause → Type 0
AreSteady outer known cs =
    (part : Plan) → LeavesTrees part →
    (slots : Slots) (focus : Option Focus) (addresses : List Text) → length slots ≡ outer →
    (tuples : List (Tuple Item)) (trees : List Tree) → AllFit known slots tuples →
    let frame = frame_of slots focus addresses in
    Forms.return_of (plan_mean (plan.Flwor cs part)) (at_tuple frame) tuples trees
    ≡ go_on (in_turn (next_clause frame) tuples (map plan_clause_mean cs) trees)
    (λ found. Forms.return_of (plan_mean part) (at_tuple frame) found)
