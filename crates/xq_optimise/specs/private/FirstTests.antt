-- A `where` right after the first `for`: a predicate of what the variable ranges over, whatever is
-- refused, since both test one item after another (XQuery 3.1, 3.3.3, 3.12.2 and 3.12.5).
use Rattle.std.specs.Prelude.{◌≡◌, ◌⊎◌, ℕ, List, [], ◌∷◌, length, Option, Some}
use Rattle.xq_atoms.specs.Text.{Text}
use Rattle.xq_expressions.specs.declared.operators.ComparisonOperator.TheVariants as comparing
use Rattle.xq_expressions.specs.declared.operators.Relation.{Relation}
use Rattle.xq_trees.specs.Tree.{Tree}
use Rattle.xq_meaning.specs.declared.operators.Operator.{Operator}
use Rattle.xq_meaning.specs.declared.operators.Operator.TheVariants as operator
use Rattle.xq_meaning.specs.declared.plans.Plan.{Plan}
use Rattle.xq_meaning.specs.declared.plans.Plan.TheVariants as plan
use Rattle.xq_meaning.specs.declared.plans.PlanClause.{PlanClause}
use Rattle.xq_meaning.specs.Doing.{go_on, judged}
use Rattle.xq_meaning.specs.Forms
use Rattle.xq_meaning.specs.Functions.{Focus}
use Rattle.xq_meaning.specs.Items.{Place, Node}
use Rattle.xq_meaning.specs.Operators.{keeps}
use Rattle.xq_meaning.specs.PlanMeaning.{Slots, opened, plan_mean}
use Rattle.xq_meaning.specs.Same.{frame_of}
use Rattle.xq_optimise.specs.declared.first_tests.Placed.{Placed}
use Rattle.xq_optimise.specs.declared.first_tests.Placed.TheVariants as placed
use Rattle.xq_optimise.specs.declared.held.Held.{Held}
use Rattle.xq_optimise.specs.Same.{GivesSame}
use Rattle.xq_optimise.specs.Sure.{on_node}

-- with a node in focus one part gives what the other gives with it in the slot after so many
abbrev pub SameAtNode : ℕ → Plan → Plan → Type 0
SameAtNode n p q =
    (slots : Slots) (focus : Option Focus) (addresses : List Text) (trees : List Tree) →
    length slots ≡ n → (place : Place) (position last : ℕ) →
    plan_mean q (frame_of slots (Some (on_node place position last)) addresses) trees
    ≡ plan_mean p (frame_of (opened slots (Node place ∷ [])) focus addresses) trees

-- with a node in focus the predicate keeps it where the test holds with it in that slot
abbrev pub DecidesAtNode : ℕ → Plan → Plan → Type 0
DecidesAtNode n test p =
    (slots : Slots) (focus : Option Focus) (addresses : List Text) (trees : List Tree) →
    length slots ≡ n → (place : Place) (position last : ℕ) →
    go_on (plan_mean p (frame_of slots (Some (on_node place position last)) addresses) trees)
    (λ value. judged (keeps position value))
    ≡ Forms.tested (plan_mean test) (frame_of (opened slots (Node place ∷ [])) focus addresses)
    trees

-- a value comparison or a general one
abbrev pub ComparesValues : Operator → Type 0
ComparesValues op =
    (relation : Relation) × ((op ≡ operator.Comparison (comparing.Value relation))
    ⊎ (op ≡ operator.Comparison (comparing.General relation)))

-- a FLWOR expression with these clauses gives what one with the others gives, whatever it returns
abbrev pub SameClausesOf : List Held → List PlanClause → List PlanClause → Type 0
SameClausesOf known cs ds =
    (part : Plan) → GivesSame known (plan.Flwor cs part) (plan.Flwor ds part)

-- a test as a predicate that decides as it, or as it is
abbrev pub IsPlaced : ℕ → Plan → Placed → Type 0
IsPlaced n test (placed.Predicate p) = DecidesAtNode n test p
IsPlaced n test (placed.Test other) = other ≡ test
