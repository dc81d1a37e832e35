-- The value of one variable, as the argument of a call.
use Rattle.std.proofs.Common.{◌≡◌, ℕ, zero, suc, ◌<◌, List, [], ◌∷◌, length, get_or, sym, ◌∙◌, ap, subst, arith, Ok, Err, Result, Option, Some, None}
use Rattle.std.specs.Prelude.{IfOk, IfSome}
use Rattle.xq_trees.specs.Tree.{Tree}
use Rattle.xq_trees.specs.Tuples.{value_at}
use Rattle.xq_tuples.specs.Views.{slot_items, values_of}
use Rattle.xq_tuples.specs.declared.slots.SlotValue.{SlotValue}
use Rattle.xq_atoms.specs.Text.{Text}
use Rattle.xq_meaning.specs.declared.plans.Plan.{Plan}
use Rattle.xq_meaning.specs.declared.plans.Plan.TheVariants as plan
use Rattle.xq_meaning.specs.Readings.{items_at, AreIn}
use Rattle.xq_operators.specs.Views.{tuple_at, TupleIn}

pub only_one : {A : Type 0} (xs : List A) (x : A) → length xs ≡ 1 → x ≡ get_or xs 0 x → xs ≡ x ∷ []
only_one [] x h e = absurd (omega arith)
only_one (y ∷ []) x h e = ap (λ z. z ∷ []) (sym e)
only_one (y ∷ z ∷ xs) x h e = absurd (omega arith)

pub slot_value : (trees : List Tree) (slots : List SlotValue) (n : ℕ) (slot : SlotValue) → n < length slots → slot ≡ get_or slots n slot
    → value_at n (tuple_at trees (values_of slots)) ≡ items_at trees (slot_items slot)
slot_value trees [] n slot h e = absurd (omega arith)
slot_value trees (s ∷ slots) zero slot h e = ap (λ r. items_at trees (slot_items r)) (sym e)
slot_value trees (s ∷ slots) (suc n) slot h e = slot_value trees slots n slot (omega arith) e

-- the items of a variable are in the trees
pub slot_in : (trees : List Tree) (slots : List SlotValue) (n : ℕ) (slot : SlotValue) → n < length slots → slot ≡ get_or slots n slot → TupleIn trees (values_of slots) → AreIn trees (slot_items slot)
slot_in trees [] n slot h e inside = absurd (omega arith)
slot_in trees (s ∷ slots) zero slot h e inside = subst (λ r. AreIn trees (slot_items r)) (sym e) inside.0
slot_in trees (s ∷ slots) (suc n) slot h e inside = slot_in trees slots n slot (omega arith) e inside.1

pub given_so : {X E : Type 0} (r : Result (Option X) E) (P Q : X → Type 0) → ((x : X) → P x → Q x) → IfOk r (λ o. IfSome o P) → IfOk r (λ o. IfSome o Q)
given_so (Ok (Some x)) P Q k h = k x h
given_so (Ok None) P Q k h = h
given_so (Err e) P Q k h = h

-- the first of two lists that are the same
pub first_same : {A : Type 0} (x y : A) → x ∷ [] ≡ y ∷ [] → x ≡ y
first_same x y e = ap (λ l. get_or l 0 x) e

-- the only part, where it is a string literal
pub only_text : (parts : List Plan) (part : Plan) (t : Text) → parts ≡ part ∷ [] → parts ≡ plan.Str t ∷ [] → part ≡ plan.Str t
only_text parts part t one is = first_same part (plan.Str t) (sym one ∙ is)
