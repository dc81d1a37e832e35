-- Predicates whose value at an item its position tells.
use Rattle.std.specs.Prelude.{◌≡◌, ℕ, ◌+◌, ◌<◌, ◌≤◌, ℤ, pos, ◌<ℤ◌, List, [], ◌∷◌, ◌⊎◌, Bool, ◌&&◌, nat_le, nat_lt, int_le, Ok}
use Rattle.xq_atoms.specs.Atom.{Integer, Boolean}
use Rattle.xq_atoms.specs.Compare.{key, key_cmp, holds}
use Rattle.xq_trees.specs.Items.{ItemView, Value, item_views}
use Rattle.xq_trees.specs.Tree.{Tree}
use Rattle.xq_tuples.specs.declared.slots.SlotValue.{SlotValue}
use Rattle.xq_tuples.specs.Views.{values_of}
use Rattle.xq_expressions.specs.declared.operators.Relation.{Relation}
use Rattle.xq_expressions.specs.declared.operators.Relation.TheVariants as relation
use Rattle.xq_expressions.specs.declared.operators.ComparisonOperator.TheVariants as comparing
use Rattle.xq_meaning.specs.declared.operators.Operator.TheVariants as operator
use Rattle.xq_meaning.specs.declared.plans.Plan.{Plan}
use Rattle.xq_meaning.specs.declared.plans.Plan.TheVariants as plan
use Rattle.xq_meaning.specs.Forms as Forms
use Rattle.xq_meaning.specs.Functions.{Focus}
use Rattle.xq_meaning.specs.Operators.{keeps, integers_from, how_many}
use Rattle.xq_meaning.specs.PlanMeaning.{Frame, plan_mean}
use Rattle.xq_meaning.specs.Readings.{items_at}
use Rattle.xq_operators.specs.Views.{tuple_at}
use Rattle.xq_eval.specs.declared.positions.ByPosition.{ByPosition}
use Rattle.xq_eval.specs.declared.positions.ByPosition.TheVariants.{At, Same, Compared, Within}
use Rattle.xq_eval.specs.declared.positions.Span.{Span}

-- the value at a position
abbrev pub value_there : ByPosition → ℕ → List ItemView
value_there (At number) n = Value (Integer number) ∷ []
value_there (Same value) n = item_views value
value_there (Compared op number) n =
    Value (Boolean (holds op (key_cmp (key (Integer (pos n))) (key (Integer number))))) ∷ []
value_there (Within first last) n =
    Value (Boolean (int_le first (pos n) && int_le (pos n) last)) ∷ []

-- over these trees, in this frame, wherever there are so many items, the plan has this value at
-- each of them, and does nothing else
pub record IsPositionalIn (trees : List Tree) (frame : Frame) (p : Plan) (last : ℕ)
    (value : ByPosition) : Type 0 where
  pub value_is : (focus : Focus) → focus.last ≡ last
      → plan_mean p (Forms.in_focus frame focus) trees
      ≡ (Ok (items_at trees (value_there value focus.position)), trees)

-- the same over any trees, wherever the variables have the values of these slots
abbrev pub IsPositional : List SlotValue → Plan → ℕ → ByPosition → Type 0
IsPositional slots p last value = (trees : List Tree) (frame : Frame)
    → frame.env ≡ tuple_at trees (values_of slots) → IsPositionalIn trees frame p last value

-- wherever the variables have the values of these slots, and there are so many items, the plan
-- gives the integers from one number to another at each of them
abbrev pub GivesRange : List SlotValue → Plan → ℕ → ℤ → ℤ → Type 0
GivesRange slots p count first last = (trees : List Tree) (frame : Frame)
    → frame.env ≡ tuple_at trees (values_of slots) → (focus : Focus) → focus.last ≡ count
    → plan_mean p (Forms.in_focus frame focus) trees
    ≡ (Ok (integers_from first (how_many first last)), trees)

-- the plan compares two others, by pairs of their values or by their values
abbrev pub Compares : Relation → Plan → Plan → Plan → Type 0
Compares by p q r =
    (r ≡ plan.Chain p ((operator.Comparison (comparing.General by), q) ∷ []))
    ⊎ (r ≡ plan.Chain p ((operator.Comparison (comparing.Value by), q) ∷ []))

-- the relation of the right operand to the left one
abbrev pub turned : Relation → Relation
turned relation.Equal = relation.Equal
turned relation.NotEqual = relation.NotEqual
turned relation.Less = relation.Greater
turned relation.LessEqual = relation.GreaterEqual
turned relation.Greater = relation.Less
turned relation.GreaterEqual = relation.LessEqual

-- the place is one of the span
abbrev pub is_within : Span → ℕ → Bool
is_within span i = nat_le span.from i && nat_lt i span.to

-- of so many items, a predicate with this value keeps those of the span
pub record KeepsSpan (value : ByPosition) (count : ℕ) (span : Span) : Type 0 where
  pub in_order : span.from ≤ span.to
  pub to_fits : span.to ≤ count
  pub keeps_those : (trees : List Tree) (i : ℕ) → i < count
      → keeps (i + 1) (items_at trees (value_there value (i + 1))) ≡ Ok (is_within span i)

-- of so many items, those before the span have positions below the number, those in it the number
-- itself, and those behind it positions above
pub record IsPlaceOf (number : ℤ) (count : ℕ) (span : Span) : Type 0 where
  pub in_order : span.from ≤ span.to
  pub to_fits : span.to ≤ count
  pub before : (i : ℕ) → i < span.from → pos (i + 1) <ℤ number
  pub inside : (i : ℕ) → span.from ≤ i → i < span.to → pos (i + 1) ≡ number
  pub behind : (i : ℕ) → span.to ≤ i → i < count → number <ℤ pos (i + 1)
