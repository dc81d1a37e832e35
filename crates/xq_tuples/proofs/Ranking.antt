-- Rows of first keys that are numbers stand as the numbers of their tuples do.
use Rattle.std.proofs.Common.{◌≡◌, ℕ, ℤ, ◌+◌, ◌<◌, suc, List, [], ◌∷◌, map, length, get_or, Bool, true, false, refl, ap, sym, ◌∙◌, arith}
use Rattle.std.specs.Prelude.{if◌then◌else◌}
use Rattle.std.specs.Global.{Vec}
use Rattle.std.specs.List.{AllByRecursion, enumerate_from}
use Rattle.std.specs.declared.cmp.Ordering.{Ordering}
use Rattle.std.specs.Ordering.{is_lt, int_cmp, ordering_then}
use Rattle.xq_atoms.specs.Compare.{Key, Nothing, Number}
use Rattle.xq_atoms.specs.declared.atoms.GroupKey.{GroupKey}
use Rattle.xq_trees.specs.Tuples.{rule_cmp, inserted, sorted, keys_cmp}
use Rattle.xq_tuples.specs.Orders.{rule_of}
use Rattle.xq_tuples.specs.declared.rows.OrderSpec.{OrderSpec}
use Rattle.xq_tuples.specs.declared.rows.Ranked.{Ranked}
use Rattle.xq_tuples.specs.private.Groups.{compared_of}
use Rattle.xq_tuples.specs.private.Ranks.{key_in, keys_at, first_of, number_cmp, by_numbers}
use Rattle.xq_tuples.proofs.Sorting.{each_sorted}

-- # Two orders that agree on what is sorted

module _ {X : Type 0} (P : X → Type 0) (cmp cmp' : X → X → Ordering) (same : (x y : X) → P x → P y → cmp x y ≡ cmp' x y) where
  inserted_same : (x : X) (ys : List X) → P x → AllByRecursion P ys → inserted cmp x ys ≡ inserted cmp' x ys
  inserted_same x [] p h = refl
  inserted_same x (y ∷ ys) p h = λ i. if is_lt (same y x h.0 p i) then y ∷ inserted_same x ys p h.1 i else x ∷ y ∷ ys

  pub sorted_same : (xs : List X) → AllByRecursion P xs → sorted cmp xs ≡ sorted cmp' xs
  sorted_same [] h = refl
  sorted_same (x ∷ xs) h = ap (inserted cmp x) (sorted_same xs h.1) ∙ inserted_same x (sorted cmp' xs) h.0 (each_sorted P cmp' xs h.1)

-- # Numbers stand as the keys that they are

number_rule : (descending greatest : Bool) (m n : ℤ) → (if descending then int_cmp n m else int_cmp m n) ≡ rule_cmp (record { descending = descending; greatest = greatest }) (Number m) (Number n)
number_rule true true m n = refl
number_rule true false m n = refl
number_rule false true m n = refl
number_rule false false m n = refl

abbrev pub IsFirst : Vec GroupKey → Ranked → Type 0
IsFirst column row = key_in row.number (compared_of column) ≡ Number row.first

pub by_numbers-is : (spec : OrderSpec) (later : List OrderSpec) (column : Vec GroupKey) (others : List (Vec GroupKey)) (a b : Ranked) → IsFirst column a → IsFirst column b
    → by_numbers spec later others a b ≡ keys_cmp (map rule_of (spec ∷ later)) (keys_at a.number (column ∷ others)) (keys_at b.number (column ∷ others))
by_numbers-is spec later column others a b p q =
    let first : number_cmp spec a.first b.first ≡ rule_cmp (rule_of spec) (key_in a.number (compared_of column)) (key_in b.number (compared_of column)) =
    number_rule spec.descending spec.greatest a.first b.first ∙ (λ i. rule_cmp (rule_of spec) (sym p i) (sym q i)) in
    ap (λ o. ordering_then o (keys_cmp (map rule_of later) (keys_at a.number others) (keys_at b.number others))) first

-- # What the rows name

abbrev number_in : ℕ × Key → ℕ
number_in p = p.0

abbrev key_in_pair : ℕ × Key → Key
key_in_pair p = p.1

abbrev head_or : {A : Type 0} → A → List A → A
head_or d [] = d
head_or d (x ∷ xs) = x

abbrev rest_of : {A : Type 0} → List A → List A
rest_of [] = []
rest_of (x ∷ xs) = xs

pub each_first : (column : Vec GroupKey) (rows : List Ranked) (keys : List Key) (n : ℕ)
    → ((i : ℕ) → i < length keys → get_or (compared_of column) (n + i) Nothing ≡ get_or keys i Nothing)
    → map first_of rows ≡ enumerate_from n keys → AllByRecursion (IsFirst column) rows
each_first column [] keys n h e = tt
each_first column (row ∷ rows) [] n h e = absurd (omega (arith, ap length e))
each_first column (row ∷ rows) (key ∷ keys) n h e =
    let top : first_of row ≡ (n, key) = ap (head_or (n, key)) e in
    let at : row.number ≡ n + 0 = ap number_in top ∙ omega arith in
    let here : get_or (compared_of column) row.number Nothing ≡ Number row.first = ap (λ k. get_or (compared_of column) k Nothing) at ∙ h 0 (omega arith) ∙ sym (ap key_in_pair top) in
    (here, each_first column rows keys (n + 1) (λ i l. (let s : n + 1 + i ≡ n + suc i = omega arith in ap (λ k. get_or (compared_of column) k Nothing) s ∙ h (suc i) (omega (arith, l)))) (ap rest_of e))
