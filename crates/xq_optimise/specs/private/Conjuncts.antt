-- Conjuncts of a predicate on nodes, by what they ask of the position.
use Rattle.std.proofs.Common.{suc}
use Rattle.std.specs.Prelude.{◌≡◌, ℕ, List, [], ◌∷◌, ◌++◌, map, Bool, true, false, ◌&&◌, Option, Some, Ok}
use Rattle.std.specs.List.{AllByRecursion}
use Rattle.xq_atoms.specs.Text.{Text}
use Rattle.xq_trees.specs.Tree.{Tree}
use Rattle.xq_meaning.specs.declared.plans.Plan.{Plan}
use Rattle.xq_meaning.specs.declared.plans.Plan.TheVariants as plan
use Rattle.xq_meaning.specs.Doing.{in_turn, first_that}
use Rattle.xq_meaning.specs.Forms
use Rattle.xq_meaning.specs.Functions.{Focus}
use Rattle.xq_meaning.specs.Items.{Place, Node}
use Rattle.xq_meaning.specs.PlanMeaning.{Slots, plan_mean}
use Rattle.xq_meaning.specs.Same.{frame_of}
use Rattle.xq_optimise.specs.declared.held.Held.{Held}
use Rattle.xq_optimise.specs.declared.predicates.Asks.{Asks}
use Rattle.xq_optimise.specs.declared.predicates.Asks.TheVariants.{First, Position, Nothing}
use Rattle.xq_optimise.specs.Known.{Fits}
use Rattle.xq_optimise.specs.Sure.{SurelyKeeps, SurelyDecides, KeepsFirst, on_node}

-- what a conjunct asks is as told
abbrev pub DoesAsk : List Held → Asks → Plan → Type 0
DoesAsk known First p = KeepsFirst known p
DoesAsk known Position p = Unit {0}
DoesAsk known Nothing p = SurelyKeeps known p

-- one predicate for all conjuncts, where there are some
abbrev pub as_one : List Plan → List Plan
as_one [] = []
as_one (p ∷ []) = p ∷ []
as_one (p ∷ q ∷ ps) = plan.And (p ∷ q ∷ ps) ∷ []

-- the element where it is kept, before the others
abbrev pub put : {A : Type 0} → Bool → A → List A → List A
put true x xs = x ∷ xs
put false x xs = xs

-- the nodes that are kept, where the first has this position
abbrev pub kept_from : (Place → ℕ → Bool) → ℕ → List Place → List Place
kept_from truth position [] = []
kept_from truth position (p ∷ ps) = put (truth p position) p (kept_from truth (suc position) ps)

module _ (slots : Slots) (addresses : List Text) (trees : List Tree) where
  -- with a node in focus all parts hold, or not
  abbrev pub AllHold : List Plan → (Place → ℕ → Bool) → Type 0
  AllHold ps truth =
      (place : Place) (position last : ℕ) →
      let frame = frame_of slots (Some (on_node place position last)) addresses in
      first_that false (λ part. Forms.tested part frame) (map plan_mean ps) trees
      ≡ (Ok (truth place position), trees)

  -- these predicates keep the nodes at which it holds
  abbrev pub KeepTrue : List Plan → (Place → ℕ → Bool) → Type 0
  KeepTrue ps truth =
      (focus : Option Focus) (places : List Place) →
      in_turn (Forms.filtered (frame_of slots focus addresses)) (map Node places)
      (map plan_mean ps) trees
      ≡ (Ok (map Node (kept_from truth 1 places)), trees)

  -- what all conjuncts hold, and those of each kind
  pub record Stands (taken first position tests : List Plan) : Type 0 where
    pub early : Place → ℕ → Bool
    pub placed : Place → ℕ → Bool
    pub free : Place → Bool
    pub whole : AllHold taken (λ p i. early p i && (placed p i && free p))
    pub firsts : (more : List Plan) (truth : Place → ℕ → Bool) → KeepTrue more truth →
        KeepTrue (first ++ more) (λ p i. early p i && truth p i)
    pub places : AllHold position placed
    pub frees : KeepTrue tests (λ p i. free p)

-- the conjuncts so far, by what they ask
pub record Parted (known : List Held) (taken first position tests : List Plan) : Type 0 where
  pub sure : AllByRecursion (SurelyDecides known) position
  pub stand : (slots : Slots) (addresses : List Text) (trees : List Tree) → Fits known slots →
      Stands slots addresses trees taken first position tests
