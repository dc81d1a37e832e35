-- What a `where` after a `for` is to a predicate of what the variable ranges over.
use Rattle.std.specs.Prelude.{◌≡◌, ◌≤◌, ℕ, List, [], ◌∷◌, length, Bool, Option, Some, Ok}
use Rattle.std.specs.List.{AllByRecursion}
use Rattle.xq_atoms.specs.Text.{Text}
use Rattle.xq_trees.specs.Tree.{Tree}
use Rattle.xq_meaning.specs.declared.plans.Plan.{Plan}
use Rattle.xq_meaning.specs.declared.plans.PlanClause.{PlanClause}
use Rattle.xq_meaning.specs.Forms
use Rattle.xq_meaning.specs.Functions.{Focus}
use Rattle.xq_meaning.specs.Items.{Place, Item, Node, atomized}
use Rattle.xq_meaning.specs.PlanMeaning.{Slots, opened, plan_mean}
use Rattle.xq_meaning.specs.Same.{frame_of}
use Rattle.xq_optimise.specs.declared.held.Held.{Held}
use Rattle.xq_optimise.specs.declared.held.Held.TheVariants.{Nodes}
use Rattle.xq_optimise.specs.Known.{IsText, Fits}
use Rattle.xq_optimise.specs.Sure.{KeepsBy, on_node}
use Rattle.xq_optimise.specs.private.Joins.{LeavesTrees}
use Rattle.xq_optimise.specs.private.Order.{SameRest}
use Rattle.xq_optimise.specs.private.Parts.{IsHeld}

-- with a node in focus the part gives what the other gives with it in the next slot, items that
-- atomize to texts; neither is refused
abbrev pub IsNodeSide : List Held → Plan → Plan → Type 0
IsNodeSide known side part =
    (slots : Slots) (focus : Option Focus) (addresses : List Text) (trees : List Tree) →
    Fits known slots → (place : Place) →
    (xs : List Item) × AllByRecursion IsText (atomized trees xs)
    × (plan_mean side (frame_of (opened slots (Node place ∷ [])) focus addresses) trees
    ≡ (Ok xs, trees))
    × ((position last : ℕ) →
    plan_mean part (frame_of slots (Some (on_node place position last)) addresses) trees
    ≡ (Ok xs, trees))

-- with a node in focus the predicate has the truth that the test has with it in the next slot, and
-- neither is refused
abbrev pub TellsOfNode : List Held → Plan → Plan → Type 0
TellsOfNode known test p =
    (slots : Slots) (focus : Option Focus) (addresses : List Text) (trees : List Tree) →
    Fits known slots →
    (truth : Place → Bool) × KeepsBy slots addresses trees (plan_mean p) (λ place position. truth place)
    × ((place : Place) →
    Forms.tested (plan_mean test) (frame_of (opened slots (Node place ∷ [])) focus addresses) trees
    ≡ (Ok (truth place), trees))

-- clauses that are left, the last first, give the same, and are no more
pub record IsNarrower (known : List Held) (old new : List PlanClause) : Type 0 where
  pub same : (start : ℕ) → SameRest start known old new
  pub long : length new ≤ length old

-- they do where the range gives nodes and makes none
abbrev pub Narrows : List Held → Plan → List PlanClause → List PlanClause → Type 0
Narrows known range old new = IsHeld known Nodes range → LeavesTrees range → IsNarrower known old new
