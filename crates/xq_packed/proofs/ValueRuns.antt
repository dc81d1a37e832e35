-- Places with one value, beside one another.
use Rattle.std.proofs.Common.{◌≡◌, ◌<◌, ◌≤◌, ◌-◌, ℕ, zero, suc, List, [], ◌∷◌, take, drop, length, get_or, Bool, true, false, cond, inl, inr, refl, sym, ap, ◌∙◌, arith}
use Rattle.std.specs.Prelude.{◌⊎◌, filter, IfNone, None, Option, Some}
use Rattle.std.specs.Ordering.{is_le, is_lt}
use Rattle.std.specs.List.Sorted.{ties, IsPartitionPoint, IsSortedBy, IsStableBy}
use Rattle.std.proofs.lemmas.Bool.{cases_lt}
use Rattle.std.proofs.lemmas.List.Elements.{filter_agree}
use Rattle.std.proofs.lemmas.Slice.Eq.{bytes_eq-Decides}
use Rattle.xq_atoms.specs.Text.{Text}
use Rattle.xq_trees.specs.Rows.{Row}
use Rattle.xq_packed.specs.Packed.{NoneNamed}
use Rattle.xq_packed.specs.Values.{is_valued, named}
use Rattle.xq_packed.specs.Found.{value_at, value_order, comes_before, has_value, AreByValue}
use Rattle.xq_packed.proofs.ValueOrder.{equal-value, less-not-equal, greater-not-equal, between-equal, less-not-greater, tie-value}
use Rattle.xq_packed.proofs.Naming.{none-valued}
use Rattle.xq_packed.proofs.Places.{places-none, valued-among}

-- # What passes a test between two places

filter_over : (p : ℕ → Bool) (y : ℕ) (ys : List ℕ) → p y ≡ false → filter p (y ∷ ys) ≡ filter p ys
filter_over p y ys e = ap (λ b. cond b (y ∷ filter p ys) (filter p ys)) e

filter_on : (p : ℕ → Bool) (y : ℕ) (ys : List ℕ) → p y ≡ true → filter p (y ∷ ys) ≡ y ∷ filter p ys
filter_on p y ys e = ap (λ b. cond b (y ∷ filter p ys) (filter p ys)) e

-- what is known of a test along a list: it fails before one place and from another on, and holds
-- between them
record IsBetween (p : ℕ → Bool) (ys : List ℕ) (low high : ℕ) : Type 0 where
  before : (k : ℕ) (d : ℕ) → k < low → p (get_or ys k d) ≡ false
  inside : (k : ℕ) (d : ℕ) → low ≤ k → k < high → p (get_or ys k d) ≡ true
  after : (k : ℕ) (d : ℕ) → high ≤ k → k < length ys → p (get_or ys k d) ≡ false

passing_between : (p : ℕ → Bool) (ys : List ℕ) (low high : ℕ) → low ≤ high → high ≤ length ys → IsBetween p ys low high → filter p ys ≡ take (high - low) (drop low ys)
passing_between p [] zero high le h b = (let none : List ℕ = [] in let e : high - 0 ≡ 0 = omega (arith, h) in ap (λ n. take n none) (sym e))
passing_between p [] (suc low) high le h b = absurd (omega (arith, le, h))
passing_between p (y ∷ ys) zero zero le h b =
    filter_over p y ys (b.after 0 0 (omega arith) (omega arith))
    ∙ passing_between p ys zero zero (omega arith) (omega arith) (record {
      before = λ k d l. absurd (omega (arith, l));
      inside = λ k d l m. absurd (omega (arith, m));
      after = λ k d l m. b.after (suc k) d (omega arith) (omega (arith, m));
    })
passing_between p (y ∷ ys) zero (suc high) le h b =
    let e : suc (high - 0) ≡ suc high - 0 = omega arith in
    filter_on p y ys (b.inside 0 0 (omega arith) (omega arith))
    ∙ ap (λ l. y ∷ l) (passing_between p ys zero high (omega arith) (omega (arith, h)) (record {
      before = λ k d l. absurd (omega (arith, l));
      inside = λ k d l m. b.inside (suc k) d (omega arith) (omega (arith, m));
      after = λ k d l m. b.after (suc k) d (omega (arith, l)) (omega (arith, m));
    }))
    ∙ ap (λ n. take n (y ∷ ys)) e
passing_between p (y ∷ ys) (suc low) zero le h b = absurd (omega (arith, le))
passing_between p (y ∷ ys) (suc low) (suc high) le h b =
    let e : high - low ≡ suc high - suc low = omega arith in
    filter_over p y ys (b.before 0 0 (omega arith))
    ∙ passing_between p ys low high (omega (arith, le)) (omega (arith, h)) (record {
      before = λ k d l. b.before (suc k) d (omega (arith, l));
      inside = λ k d l m. b.inside (suc k) d (omega (arith, l)) (omega (arith, m));
      after = λ k d l m. b.after (suc k) d (omega (arith, l)) (omega (arith, m));
    })
    ∙ ap (λ n. take n (drop low ys)) e

-- # The places with a value

module _ (rows : List Row) (value : Text) (places : List ℕ) (low high : ℕ) (before : IsPartitionPoint (λ p. is_lt (value_order rows p value) ≡ true) (λ p. is_lt (value_order rows p value) ≡ false) places low) (up_to : IsPartitionPoint (λ p. is_le (value_order rows p value) ≡ true) (λ p. is_le (value_order rows p value) ≡ false) places high) (low_within : low ≤ length places) (high_within : high ≤ length places) where
  -- both come in their order
  pub in-order : low ≤ high
  in-order = elim (cases_lt high low) [
    | inl past ↦ absurd (less-not-greater (value_order rows (get_or places high 0) value) (before.0 high 0 (omega arith) past) (up_to.1 high 0 (omega arith) (omega (arith, past, low_within))))
    | inr fine ↦ fine
  ]

  are_between : IsBetween (has_value rows value) places low high
  are_between = record {
    before = λ k d l. sym (equal-value rows value (get_or places k d)) ∙ less-not-equal (value_order rows (get_or places k d) value) (before.0 k d (omega arith) l);
    inside = λ k d l m. sym (equal-value rows value (get_or places k d)) ∙ between-equal (value_order rows (get_or places k d) value) (before.1 k d l (omega (arith, m, high_within))) (up_to.0 k d (omega arith) m);
    after = λ k d l m. sym (equal-value rows value (get_or places k d)) ∙ greater-not-equal (value_order rows (get_or places k d) value) (up_to.1 k d l m);
  }

  pub with-value : filter (has_value rows value) places ≡ take (high - low) (drop low places)
  with-value = passing_between (has_value rows value) places low high in-order high_within are_between

-- # Places that were sorted

-- one that passes, or none
abbrev OneOrNone : (ℕ → Bool) → List ℕ → Type 0
OneOrNone p xs = ((x : ℕ) × (p x ≡ true)) ⊎ (filter p xs ≡ [])

find_step : (p : ℕ → Bool) (x : ℕ) (xs : List ℕ) (b : Bool) → p x ≡ b → OneOrNone p xs → OneOrNone p (x ∷ xs)
find_step p x xs true e rest = inl (x, e)
find_step p x xs false e (inl found) = inl found
find_step p x xs false e (inr none) = inr (filter_over p x xs e ∙ none)

find_in : (p : ℕ → Bool) (xs : List ℕ) → OneOrNone p xs
find_in p [] = inr refl
find_in p (x ∷ xs) = find_step p x xs (p x) refl (find_in p xs)

module _ (rows : List Row) (xs ys : List ℕ) (stable : IsStableBy (comes_before rows) xs ys) (value : Text) where
  same_at : (x : ℕ) → has_value rows value x ≡ true → filter (has_value rows value) ys ≡ filter (has_value rows value) xs
  same_at x e =
      let is : value_at rows x ≡ value = sym ((bytes_eq-Decides value (value_at rows x)).0 e) in
      let same = tie-value rows value x is in
      sym (filter_agree (ties (comes_before rows) x) (has_value rows value) same ys)
      ∙ stable x
      ∙ filter_agree (ties (comes_before rows) x) (has_value rows value) same xs

  pub same-places : filter (has_value rows value) ys ≡ filter (has_value rows value) xs
  same-places = elim (find_in (has_value rows value) ys) [
    | inl found ↦ same_at found.0 found.1
    | inr none ↦ elim (find_in (has_value rows value) xs) [
      | inl found ↦ same_at found.0 found.1
      | inr nothing ↦ none ∙ sym nothing
    ]
  ]

-- the places of a name, sorted, are in the order of their values
pub sorted-by-value : (rows : List Row) (name : Text) (xs ys : List ℕ) → xs ≡ named rows name → IsSortedBy (comes_before rows) ys → IsStableBy (comes_before rows) xs ys → AreByValue rows name ys
sorted-by-value rows name xs ys e up stable = record {
  rise = up;
  all = λ value. same-places rows xs ys stable value ∙ ap (filter (has_value rows value)) e ∙ valued-among rows name value;
}

-- # No place

-- what an answer says that is none
pub told-none : {A : Type 0} (P : Type 0) (r : Option A) → r ≡ None → IfNone r P → P
told-none P None e h = h
told-none P (Some x) e h = cc

-- where no row has the name, no place is found
pub nothing-found : (rows : List Row) (name : Text) → NoneNamed rows name → AreByValue rows name []
nothing-found rows name none = record {
  rise = λ k d l m. absurd (omega (arith, m));
  all = λ value. sym (places-none (is_valued name value) 0 rows (none-valued rows name value none));
}
