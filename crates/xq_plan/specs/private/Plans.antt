-- What the parts of a plan are to the parts of its normal form, as the functions of the walk take
-- them. The names in scope are those of the slots that are open.
use Rattle.std.specs.Prelude.{◌≡◌, ◌≤◌, ℕ, List, [], ◌∷◌, ◌++◌, map, length, take, drop, Option, Ok, Err}
use Rattle.std.specs.List.{AllByRecursion}
use Rattle.xq_atoms.specs.Text.{Text}
use Rattle.xq_expressions.specs.declared.operators.OrderModifier.{OrderModifier}
use Rattle.xq_expressions.specs.declared.signatures.Function.{Function}
use Rattle.xq_trees.specs.Tree.{Tree}
use Rattle.xq_trees.specs.Tuples.{Tuple}
use Rattle.xq_meaning.specs.Functions.{Focus}
use Rattle.xq_meaning.specs.Items.{Item}
use Rattle.xq_meaning.specs.declared.operators.Operator.{Operator}
use Rattle.xq_meaning.specs.declared.normal_forms.Core.{Core}
use Rattle.xq_meaning.specs.declared.normal_forms.Core.TheVariants as core
use Rattle.xq_meaning.specs.declared.normal_forms.CoreClause.{CoreClause}
use Rattle.xq_meaning.specs.declared.normal_forms.CoreClause.TheVariants as clause
use Rattle.xq_meaning.specs.declared.plans.Plan.{Plan}
use Rattle.xq_meaning.specs.declared.plans.PlanClause.{PlanClause}
use Rattle.xq_meaning.specs.declared.plans.PlanStep.{PlanStep}
use Rattle.xq_meaning.specs.Doing.{Outcome, in_turn}
use Rattle.xq_meaning.specs.Forms
use Rattle.xq_meaning.specs.Meaning.{Stream, clauses}
use Rattle.xq_meaning.specs.CoreMeaning.{core_mean, core_clause_mean}
use Rattle.xq_meaning.specs.PlanMeaning.{Slots, next_clause, plan_mean, plan_clause_mean, plan_step_mean}
use Rattle.xq_meaning.specs.Same.{IsPlan, frame_of, environment}

-- each of one list is to its counterpart of the other
abbrev pub AreAll : {A B : Type 0} → (A → B → Type 0) → List A → List B → Type 0
AreAll R [] [] = Unit {0}
AreAll R (x ∷ xs) (y ∷ ys) = R x y × AreAll R xs ys
AreAll R xs ys = ⊥

abbrev pub IsOperand : List Text → Operator × Core → Operator × Plan → Type 0
IsOperand names x y = (y.0 ≡ x.0) × IsPlan names x.1 y.1

-- a call after an arrow
abbrev pub IsNextCall : List Text → Function × List Core → Function × List Plan → Type 0
IsNextCall names x y = (y.0 ≡ x.0) × AreAll (IsPlan names) x.1 y.1

abbrev pub IsKey : List Text → Core × OrderModifier → Plan × OrderModifier → Type 0
IsKey names x y = IsPlan names x.0 y.0 × (y.1 ≡ x.1)

abbrev pub IsVariable : List Text → Text → Plan → Type 0
IsVariable names v p = IsPlan names (core.Variable v) p

-- # Paths

-- what a part gives after a slash
abbrev pub IsScanOrPart : Plan → PlanStep → Type 0
IsScanOrPart p s = plan_step_mean s ≡ (λ frame xs. Forms.slash frame xs (plan_mean p))

abbrev pub IsStep : List Text → Core → PlanStep → Type 0
IsStep names c s =
    (slots : Slots) (focus : Option Focus) (addresses : List Text) → length slots ≡ length names →
    (xs : List Item) (trees : List Tree) →
    plan_step_mean s (frame_of slots focus addresses) xs trees
    ≡ Forms.slash (frame_of (environment names slots) focus addresses) xs (core_mean c) trees

-- # Quantified expressions: each sequence where the variables before it are in scope

abbrev pub AreRanges : List Text → List (Text × Core) → List Plan → Type 0
AreRanges names [] [] = Unit {0}
AreRanges names (b ∷ bs) (p ∷ ps) = IsPlan names b.1 p × AreRanges (names ++ b.0 ∷ []) bs ps
AreRanges names bs ps = ⊥

-- # FLWOR

-- each tuple has so many slots
abbrev pub AreWide : ℕ → List (Tuple Item) → Type 0
AreWide n tuples = AllByRecursion (λ t. length t ≡ n) tuples

abbrev pub GivesWide : ℕ → Outcome (List (Tuple Item)) → Type 0
GivesWide n (Ok tuples, trees) = AreWide n tuples
GivesWide n (Err code, trees) = Unit {0}

abbrev pub with_names : List Text → Outcome (List (Tuple Item)) → Outcome Stream
with_names names (Ok tuples, trees) = (Ok (record { names = names; tuples = tuples }), trees)
with_names names (Err code, trees) = (Err code, trees)

-- a stream whose slots have these names, and its tuples
pub record Follows (names : List Text) (stream : Outcome Stream)
    (tuples : Outcome (List (Tuple Item))) : Type 0 where
  pub same : stream ≡ with_names names tuples
  pub wide : GivesWide (length names) tuples

module _ (outer own : List Text) (found : List Text) where
  abbrev pub ClauseLeads : CoreClause → PlanClause → Type 0
  ClauseLeads c p =
      (slots : Slots) (focus : Option Focus) (addresses : List Text) → length slots ≡ length outer →
      (tuples : List (Tuple Item)) (trees : List Tree) → AreWide (length own) tuples →
      Follows found
      (core_clause_mean c (frame_of (environment outer slots) focus addresses)
      (record { names = own; tuples = tuples }) trees)
      (plan_clause_mean p (frame_of slots focus addresses) tuples trees)

  abbrev pub ClausesLead : List CoreClause → List PlanClause → Type 0
  ClausesLead cs ps =
      (slots : Slots) (focus : Option Focus) (addresses : List Text) → length slots ≡ length outer →
      (tuples : List (Tuple Item)) (trees : List Tree) → AreWide (length own) tuples →
      Follows found
      (clauses (map core_clause_mean cs) (frame_of (environment outer slots) focus addresses)
      (record { names = own; tuples = tuples }) trees)
      (in_turn (next_clause (frame_of slots focus addresses)) tuples (map plan_clause_mean ps)
      trees)

-- by the names in scope before and after; those from a place on are of the FLWOR

abbrev pub IsClause : ℕ → List Text → CoreClause → PlanClause → List Text → Type 0
IsClause start before c p after =
    ClauseLeads (take start before) (drop start before) (drop start after) c p

abbrev pub AreClauses : ℕ → List Text → List CoreClause → List PlanClause → List Text → Type 0
AreClauses start before cs ps after =
    ClausesLead (take start before) (drop start before) (drop start after) cs ps

abbrev pub IsGroup : ℕ → List Text → List Text → PlanClause → Type 0
IsGroup start names vs p = IsClause start names (clause.Group vs) p names

-- the names before a place stay
pub record Extends (start : ℕ) (before after : List Text) : Type 0 where
  pub outer : take start after ≡ take start before
  pub within : start ≤ length after
