-- The tuples of groups are as wide as those that were grouped.
use Rattle.std.proofs.Common.{◌≡◌, ℕ, ◌<◌, List, [], ◌∷◌, map, length, Bool, true, false, not, cond, sym, subst, ◌∙◌, arith}
use Rattle.std.specs.Prelude.{Option}
use Rattle.std.specs.List.{AllByRecursion, filter, range_with_len, zip}
use Rattle.std.specs.Cmp.{IsEquivalence}
use Rattle.std.proofs.lemmas.List.{length-map}
use Rattle.std.proofs.lemmas.List.FromFn.{length-range_with_len}
use Rattle.xq_atoms.specs.Atom.{Atomic}
use Rattle.xq_trees.specs.Items.{ItemView, Value}
use Rattle.xq_trees.specs.Tuples.{Tuple, Keyed as KeyedTuple, firsts, groups, grouped_tuple, grouped_value, same_keys, slot_key}
use Rattle.xq_tuples.proofs.Placing.{laws}
use Rattle.xq_tuples.proofs.Sorting.{each_weaker}
use Rattle.xq_tuples.proofs.Laid.{AreWide}

module _ {X : Type 0} where
  all_filtered_step : (P : X → Type 0) (x : X) (xs : List X) (b : Bool) → P x → AllByRecursion P xs → AllByRecursion P (cond b (x ∷ xs) xs)
  all_filtered_step P x xs true p h = (p, h)
  all_filtered_step P x xs false p h = h

  all_filtered : (P : X → Type 0) (test : X → Bool) (xs : List X) → AllByRecursion P xs → AllByRecursion P (filter test xs)
  all_filtered P test [] h = tt
  all_filtered P test (x ∷ xs) h = all_filtered_step P x (filter test xs) (test x) h.0 (all_filtered P test xs h.1)

  longer_step : (x : X) (xs : List X) (b : Bool) → 0 < length xs → 0 < length (cond b (x ∷ xs) xs)
  longer_step x xs true l = omega arith
  longer_step x xs false l = l

-- each of the firsts is in its group
module _ {X : Type 0} {same : X → X → Bool} (equal : IsEquivalence same) where
  firsts_stand : (xs : List X) → AllByRecursion (λ x. 0 < length (filter (same x) xs)) (firsts same xs)
  firsts_stand [] = tt
  firsts_stand (y ∷ xs) =
      let itself : 0 < length (filter (same y) (y ∷ xs)) = subst (λ b. 0 < length (cond b (y ∷ filter (same y) xs) (filter (same y) xs))) (sym (equal.refl y)) (omega arith) in
      let later = each_weaker (λ x. 0 < length (filter (same x) xs)) (λ x. 0 < length (filter (same x) (y ∷ xs))) (λ x l. longer_step y (filter (same x) xs) (same x y) l) (firsts same xs) (firsts_stand xs) in
      (itself, all_filtered (λ x. 0 < length (filter (same x) (y ∷ xs))) (λ z. not (same y z)) (firsts same xs) later)

-- the tuple of a group that has one
wide_group : (slots : List ℕ) (w : ℕ) (group : List (KeyedTuple ItemView)) → 0 < length group → AllByRecursion (λ row. length row.0 ≡ w) group → length (grouped_tuple Value slots group) ≡ w
wide_group slots w [] l h = absurd (omega arith)
wide_group slots w (first ∷ others) l h =
    length-map (range_with_len 0 (length first.0)) (λ slot. grouped_value Value (slot_key slots first.1 slot) slot (first ∷ others)) ∙ length-range_with_len 0 (length first.0) ∙ h.0

wide_each : (slots : List ℕ) (w : ℕ) (rows fs : List (KeyedTuple ItemView)) → AllByRecursion (λ row. length row.0 ≡ w) rows → AllByRecursion (λ row. 0 < length (filter (same_keys row) rows)) fs
    → AreWide w (map (grouped_tuple Value slots) (map (λ row. filter (same_keys row) rows) fs))
wide_each slots w rows [] h k = tt
wide_each slots w rows (f ∷ fs) h k = (wide_group slots w (filter (same_keys f) rows) k.0 (all_filtered (λ (row : KeyedTuple ItemView). length row.0 ≡ w) (same_keys f) rows h), wide_each slots w rows fs h k.1)

-- tuples with what stands beside them
wide_beside : {K : Type 0} (w : ℕ) (stream : List (Tuple ItemView)) (ks : List K) → AreWide w stream → AllByRecursion (λ (row : Tuple ItemView × K). length row.0 ≡ w) (zip stream ks)
wide_beside w [] ks h = tt
wide_beside w (t ∷ ts) [] h = tt
wide_beside w (t ∷ ts) (k ∷ ks) h = (h.0, wide_beside w ts ks h.1)

pub wide_groups : (slots : List ℕ) (w : ℕ) (stream : List (Tuple ItemView)) (ks : List (List (Option Atomic))) → AreWide w stream → AreWide w (map (grouped_tuple Value slots) (groups same_keys (zip stream ks)))
wide_groups slots w stream ks h = wide_each slots w (zip stream ks) (firsts same_keys (zip stream ks)) (wide_beside w stream ks h) (firsts_stand laws (zip stream ks))
