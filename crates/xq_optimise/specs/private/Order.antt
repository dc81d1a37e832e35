-- Clauses that give the same in another order.
use Rattle.std.specs.Prelude.{◌≡◌, ℕ, List, [], ◌∷◌, ◌++◌, map, reverse, length, false, Option, Ok, Err, ◌⊎◌}
use Rattle.std.specs.List.{AllByRecursion}
use Rattle.xq_atoms.specs.Text.{Text}
use Rattle.xq_expressions.specs.declared.operators.AllowingEmpty.TheVariants as allowing
use Rattle.xq_trees.specs.declared.Axis.{Axis}
use Rattle.xq_trees.specs.Tree.{Tree}
use Rattle.xq_trees.specs.Tuples.{Tuple}
use Rattle.xq_meaning.specs.Functions.{Focus}
use Rattle.xq_meaning.specs.Items.{Item}
use Rattle.xq_meaning.specs.declared.node_tests.Test.{Test}
use Rattle.xq_meaning.specs.declared.plans.Plan.{Plan}
use Rattle.xq_meaning.specs.declared.plans.Plan.TheVariants as plan
use Rattle.xq_meaning.specs.declared.plans.PlanClause.{PlanClause}
use Rattle.xq_meaning.specs.declared.plans.PlanClause.TheVariants as clause
use Rattle.xq_meaning.specs.Doing.{Outcome, in_turn}
use Rattle.xq_meaning.specs.PlanMeaning.{Slots, Frame, at_tuple, next_clause, plan_mean, plan_clause_mean}
use Rattle.xq_meaning.specs.Same.{frame_of}
use Rattle.xq_optimise.specs.declared.held.Held.{Held}
use Rattle.xq_optimise.specs.Sure.{SurelyNodes, ReadsBelow, IsTest}
use Rattle.xq_optimise.specs.private.Joins.{StartsAt}
use Rattle.xq_optimise.specs.private.Parts.{AllFit}

-- a test that can't be refused and reads slots that are known
abbrev pub Rises : List Held → PlanClause → Type 0
Rises known c = (p : Plan) × (c ≡ clause.Where p) × IsTest known p

-- such a test, or a variable for nodes by such slots
abbrev pub IsPassed : List Held → PlanClause → Type 0
IsPassed known c =
    Rises known c ⊎ ((p : Plan) × (c ≡ clause.Let p) × SurelyNodes known p × ReadsBelow known p)

-- or each of such nodes for a variable
abbrev pub IsEach : List Held → PlanClause → Type 0
IsEach known c =
    (p : Plan) × (c ≡ clause.For allowing.No false p) × SurelyNodes known p × ReadsBelow known p

-- a clause that any such test may go over
abbrev pub IsOver : List Held → PlanClause → Type 0
IsOver known c = IsPassed known c ⊎ IsEach known c

-- from tuples whose slots are as known, other clauses give the same
abbrev pub SameTurns : ℕ → List Held → List PlanClause → List PlanClause → Type 0
SameTurns start known cs ds =
    (slots : Slots) (focus : Option Focus) (addresses : List Text) → length slots ≡ start →
    (tuples : List (Tuple Item)) (trees : List Tree) → AllFit known slots tuples →
    in_turn (next_clause (frame_of slots focus addresses)) tuples (map plan_clause_mean ds) trees
    ≡ in_turn (next_clause (frame_of slots focus addresses)) tuples (map plan_clause_mean cs) trees

-- the same of clauses that are left, the last first
abbrev pub SameRest : ℕ → List Held → List PlanClause → List PlanClause → Type 0
SameRest start known old new = SameTurns start known (reverse old) (reverse new)

-- # Variables that are written out

-- at each tuple that comes of clauses, over the trees then
abbrev pub AtEach : (Tuple Item → List Tree → Type 0) → Outcome (List (Tuple Item)) → Type 0
AtEach P (Ok tuples, trees) = AllByRecursion (λ t. P t trees) tuples
AtEach P (Err code, trees) = Unit {0}

-- from tuples whose slots are as known, one part gives after the clauses what the other gives
abbrev pub SameAfter : List Held → List PlanClause → Plan → Plan → Type 0
SameAfter known passed p q =
    (slots : Slots) (focus : Option Focus) (addresses : List Text)
    (tuples : List (Tuple Item)) (trees : List Tree) → AllFit known slots tuples →
    let frame = frame_of slots focus addresses in
    AtEach (λ t f. plan_mean q (at_tuple frame t) f ≡ plan_mean p (at_tuple frame t) f)
    (in_turn (next_clause frame) tuples (map plan_clause_mean passed) trees)

-- the same of a clause that comes next
abbrev pub SameBehind : List Held → List PlanClause → PlanClause → PlanClause → Type 0
SameBehind known passed c d =
    (slots : Slots) (focus : Option Focus) (addresses : List Text)
    (tuples : List (Tuple Item)) (trees : List Tree) → AllFit known slots tuples →
    in_turn (next_clause (frame_of slots focus addresses)) tuples
    (map plan_clause_mean (passed ++ d ∷ [])) trees
    ≡ in_turn (next_clause (frame_of slots focus addresses)) tuples
    (map plan_clause_mean (passed ++ c ∷ [])) trees

-- where the value is that of the slot, a part gives what these scans from the slot give
abbrev pub Continues : Plan → ℕ → List (Axis × Test) → Plan → Type 0
Continues value slot scans part =
    (side : Plan) → StartsAt slot scans side → (frame : Frame) (trees : List Tree) →
    plan_mean value frame trees ≡ plan_mean (plan.Slot slot) frame trees →
    plan_mean part frame trees ≡ plan_mean side frame trees

-- the next clause stands behind those that were taken off, or a test that tells the same before
abbrev pub TakesBack : List Held → List PlanClause → List PlanClause → PlanClause →
    List PlanClause → Type 0
TakesBack known left passed next after =
    (after ≡ (left ++ next ∷ []) ++ reverse passed)
    ⊎ ((test : Plan) × IsTest known test × SameBehind known passed next (clause.Where test)
    × (after ≡ (left ++ reverse passed) ++ clause.Where test ∷ []))
