-- A part of a predicate that is the same at each item (XQuery 3.1, 2.3.4 and 3.3.3).
use Rattle.std.specs.Prelude.{◌≡◌, ◌⊎◌, ℕ, List, [], ◌∷◌, length, Bool, true, false, Option, Some, None, Ok, Err}
use Rattle.std.specs.List.{AllByRecursion}
use Rattle.xq_atoms.specs.Judged.{Judged}
use Rattle.xq_atoms.specs.Text.{Text}
use Rattle.xq_atoms.specs.declared.refusals.Code.{Code}
use Rattle.xq_trees.specs.declared.Axis.{Axis}
use Rattle.xq_trees.specs.Tree.{Tree}
use Rattle.xq_expressions.specs.declared.signatures.Function.TheVariants.{Head}
use Rattle.xq_meaning.specs.declared.operators.Operator.{Operator}
use Rattle.xq_meaning.specs.declared.plans.Plan.{Plan}
use Rattle.xq_meaning.specs.declared.plans.Plan.TheVariants as plan
use Rattle.xq_meaning.specs.declared.plans.PlanClause.TheVariants as clause
use Rattle.xq_meaning.specs.Functions.{Focus}
use Rattle.xq_meaning.specs.Items.{Item, Place}
use Rattle.xq_meaning.specs.PlanMeaning.{Slots, opened, plan_mean}
use Rattle.xq_meaning.specs.Same.{frame_of}
use Rattle.xq_meaning.specs.Steps.{is_reverse}
use Rattle.xq_optimise.specs.declared.held.Held.{Held}
use Rattle.xq_optimise.specs.declared.invariants.Lifted.{Lifted}
use Rattle.xq_optimise.specs.declared.invariants.Lifted.TheVariants as lifted
use Rattle.xq_optimise.specs.Known.{Fits}
use Rattle.xq_optimise.specs.Sure.{on_node, IgnoresBy, IgnoresFocus, IgnoresPosition, SurelyFinds}
use Rattle.xq_optimise.specs.private.Joins.{IsOutside, LeavesTrees}

-- with these slots and over these trees the part gives this value or code, whatever the focus is
abbrev pub GivesThere : Slots → List Text → List Tree → Plan → Judged (List Item) → Type 0
GivesThere slots addresses trees part given =
    (focus : Option Focus) → plan_mean part (frame_of slots focus addresses) trees ≡ (given, trees)

-- the slots, and after them one for the items and one for the value of the part
abbrev pub with_both : Slots → List Item → List Item → Slots
with_both slots xs value = opened (opened slots xs) value

-- the first thing that the predicate may be refused for is the near part, and the next one the part;
-- where the part has a value, the predicate gives what the other one gives with the value in the
-- second slot from here
pub record IsLifted (known : List Held) (near p part q : Plan) : Type 0 where
  pub outside : IsOutside (length known) part
  pub free : IgnoresFocus part
  pub leaves : LeavesTrees p
  pub near_outside : IsOutside (length known) near
  pub near_free : IgnoresPosition near
  pub alike :
      (slots : Slots) (addresses : List Text) (trees : List Tree) (xs value : List Item) →
      Fits known slots → GivesThere slots addresses trees part (Ok value) →
      (focus : Option Focus) →
      plan_mean q (frame_of (with_both slots xs value) focus addresses) trees
      ≡ plan_mean p (frame_of slots focus addresses) trees
  pub stops :
      (slots : Slots) (addresses : List Text) (trees : List Tree) (code : Code) →
      Fits known slots → (place : Place) (position last : ℕ) →
      plan_mean near (frame_of slots (Some (on_node place position last)) addresses) trees
      ≡ (Err code, trees) →
      plan_mean p (frame_of slots (Some (on_node place position last)) addresses) trees
      ≡ (Err code, trees)
  pub refused :
      (slots : Slots) (addresses : List Text) (trees : List Tree) (code : Code) →
      Fits known slots → GivesThere slots addresses trees part (Err code) →
      (place : Place) (position last : ℕ) (zs : List Item) →
      plan_mean near (frame_of slots (Some (on_node place position last)) addresses) trees
      ≡ (Ok zs, trees) →
      plan_mean p (frame_of slots (Some (on_node place position last)) addresses) trees
      ≡ (Err code, trees)

-- what is evaluated before the part where that stands on the right: nothing where the left side can't
-- be refused, else the left side
abbrev pub IsNear : Plan → Plan → Type 0
IsNear left near =
    (SurelyFinds left × (near ≡ plan.Sequence [])) ⊎ (IgnoresPosition left × (near ≡ left))

-- something is evaluated before it only where that may be at the first item
abbrev pub IsNearBy : Bool → Plan → Type 0
IsNearBy true near = Unit {0}
IsNearBy false near = near ≡ plan.Sequence []

-- the first node that a step finds in document order is the first that it tests, or it is all one
abbrev pub IsFirstTested : Axis → Plan → Type 0
IsFirstTested axis near = (is_reverse axis ≡ false) ⊎ (near ≡ plan.Sequence [])

-- what a predicate is found to be
abbrev pub LiftsTo : List Held → Bool → Plan → Lifted → Type 0
LiftsTo known early p (lifted.Part near part q) = IsLifted known near p part q × IsNearBy early near
LiftsTo known early p (lifted.Other q) = q ≡ p

-- an operand that gives the same with any two focuses, or with any two on the same node
abbrev pub OperandIgnores : Bool → Operator × Plan → Type 0
OperandIgnores at_node x = IgnoresBy at_node x.1

-- the same of the first of some predicates, where the others read no other slots
abbrev pub LiftsFirst : List Held → Bool → List Plan → Option (Plan × Plan) → List Plan → Type 0
LiftsFirst known early ps None qs = qs ≡ ps
LiftsFirst known early ps (Some parts) qs =
    (p : Plan) × (q : Plan) × (more : List Plan) × (ps ≡ p ∷ more) × (qs ≡ q ∷ more)
    × IsLifted known parts.0 p parts.1 q × IsNearBy early parts.0
    × AllByRecursion (IsOutside (length known)) more

-- the value of one part in the next slot, and then the other part
abbrev pub let_in : Plan → Plan → Plan
let_in value whole = plan.Flwor (clause.Let value ∷ []) whole

-- the part where the test holds, else ()
abbrev pub only_if : Plan → Plan → Plan
only_if test part = plan.If test part (plan.Sequence [])

-- the first item that a part gives, and with it in focus the value of another one: a truth that is
-- refused where the other part is
abbrev pub first_with : Plan → Plan → Plan
first_with found near =
    plan.Map (plan.Call Head (found ∷ [])) (plan.Sequence (plan.ContextItem ∷ near ∷ []) ∷ [])
