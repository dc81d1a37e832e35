-- Kinds of keys, and their comparison specification by specification.
use Rattle.std.proofs.Common.{◌≡◌, ℕ, zero, suc, ◌+◌, ◌<◌, List, [], ◌∷◌, map, drop, length, get_or, Bool, true, false, not, cond, ◌&&◌, ◌||◌, Option, Some, None, refl, ap, sym, ◌∙◌, arith}
use Rattle.std.specs.declared.cmp.Ordering.{Ordering}
use Rattle.std.specs.declared.cmp.Ordering.TheVariants.{Less, Equal, Greater}
use Rattle.std.specs.Ordering.{ordering_then, is_ne}
use Rattle.std.specs.List.{list_all, find}
use Rattle.std.proofs.lemmas.Bool.{false≢true}
use Rattle.std.proofs.lemmas.List.{drop-map, drop_more}
use Rattle.xq_atoms.specs.Compare.{Key, Nothing, Number, Characters, Truth, of_one_kind}
use Rattle.xq_tuples.specs.declared.rows.OrderSpec.{OrderSpec}
use Rattle.xq_tuples.specs.Orders.{rule_of}
use Rattle.xq_tuples.proofs.Lists.{list_all-map}
use Rattle.xq_trees.specs.Tuples.{OrderRule, is_nothing, rule_cmp, first_key, later_keys, keys_cmp, are_of_one_kind}

are_of_one_kind-empty : (k : Key) (ks : List Key) → is_nothing k ≡ true → are_of_one_kind (k ∷ ks) ≡ are_of_one_kind ks
are_of_one_kind-empty Nothing ks e = refl
are_of_one_kind-empty (Number m) ks e = absurd (false≢true e)
are_of_one_kind-empty (Characters t) ks e = absurd (false≢true e)
are_of_one_kind-empty (Truth b) ks e = absurd (false≢true e)

are_of_one_kind-first : (k : Key) (ks : List Key) → is_nothing k ≡ false → are_of_one_kind (k ∷ ks) ≡ list_all (λ j. is_nothing j || of_one_kind k j) ks
are_of_one_kind-first Nothing ks e = absurd (false≢true (sym e))
are_of_one_kind-first (Number m) ks e = refl
are_of_one_kind-first (Characters t) ks e = refl
are_of_one_kind-first (Truth b) ks e = refl

like_itself : (k : Key) → (is_nothing k || of_one_kind k k) ≡ true
like_itself Nothing = refl
like_itself (Number m) = refl
like_itself (Characters t) = refl
like_itself (Truth b) = refl

-- whether the keys are empty or like the one that was found, which is the first that isn't empty
module _ {X : Type 0} (view : X → Key) where
  abbrev pub like_found : Option X → List X → Bool
  like_found None xs = true
  like_found (Some first) xs = list_all (λ x. is_nothing (view x) || of_one_kind (view first) (view x)) xs

  found_later : (found : Option X) (x : X) (xs : List X) → is_nothing (view x) ≡ true → like_found found (x ∷ xs) ≡ like_found found xs
  found_later None x xs e = refl
  found_later (Some first) x xs e = ap (λ b. (b || of_one_kind (view first) (view x)) && like_found (Some first) xs) e

  like_found_step : (x : X) (xs : List X) (found : Option X) (b : Bool) → is_nothing (view x) ≡ b → like_found found xs ≡ are_of_one_kind (map view xs)
      → like_found (cond (not b) (Some x) found) (x ∷ xs) ≡ are_of_one_kind (map view (x ∷ xs))
  like_found_step x xs found true e rest = found_later found x xs e ∙ rest ∙ sym (are_of_one_kind-empty (view x) (map view xs) e)
  like_found_step x xs found false e rest =
      ap (λ b. b && like_found (Some x) xs) (like_itself (view x)) ∙ sym (list_all-map (λ j. is_nothing j || of_one_kind (view x) j) view xs) ∙ sym (are_of_one_kind-first (view x) (map view xs) e)

  pub like_found-all : (xs : List X) → like_found (find (λ x. not (is_nothing (view x))) xs) xs ≡ are_of_one_kind (map view xs)
  like_found-all [] = refl
  like_found-all (x ∷ xs) = like_found_step x xs (find (λ y. not (is_nothing (view y))) xs) (is_nothing (view x)) refl (like_found-all xs)

first_key-drop : (ks : List Key) (i : ℕ) → first_key (drop i ks) ≡ get_or ks i Nothing
first_key-drop [] zero = refl
first_key-drop [] (suc i) = refl
first_key-drop (k ∷ ks) zero = refl
first_key-drop (k ∷ ks) (suc i) = first_key-drop ks i

later_keys-drop : (ks : List Key) (i : ℕ) → later_keys (drop i ks) ≡ drop (suc i) ks
later_keys-drop [] zero = refl
later_keys-drop [] (suc i) = refl
later_keys-drop (k ∷ ks) zero = refl
later_keys-drop (k ∷ ks) (suc i) = later_keys-drop ks i

-- from one specification on
pub keys_cmp-drop : (rules : List OrderRule) (js ks : List Key) (i : ℕ) (rule : OrderRule) → drop i rules ≡ rule ∷ drop (i + 1) rules
    → keys_cmp (drop i rules) (drop i js) (drop i ks) ≡ ordering_then (rule_cmp rule (get_or js i Nothing) (get_or ks i Nothing)) (keys_cmp (drop (i + 1) rules) (drop (i + 1) js) (drop (i + 1) ks))
keys_cmp-drop rules js ks i rule e =
    let one : suc i ≡ i + 1 = omega arith in
    ap (λ r. keys_cmp r (drop i js) (drop i ks)) e
    ∙ (λ t. ordering_then (rule_cmp rule (first_key-drop js i t) (first_key-drop ks i t)) (keys_cmp (drop (i + 1) rules) ((later_keys-drop js i ∙ ap (λ n. drop n js) one) t) ((later_keys-drop ks i ∙ ap (λ n. drop n ks) one) t)))

pub ordering_then-ne : (o p : Ordering) → is_ne o ≡ true → ordering_then o p ≡ o
ordering_then-ne Less p h = refl
ordering_then-ne Equal p h = absurd (false≢true h)
ordering_then-ne Greater p h = refl

pub ordering_then-eq : (o p : Ordering) → is_ne o ≡ false → ordering_then o p ≡ p
ordering_then-eq Less p h = absurd (false≢true (sym h))
ordering_then-eq Equal p h = refl
ordering_then-eq Greater p h = absurd (false≢true (sym h))

-- what a turn of the loop over the specifications compares
pub compared_at : (specs : List OrderSpec) (js ks : List Key) (i : ℕ) (d : OrderSpec) (j k : Key) {o : Ordering} → i < length specs
    → j ≡ get_or js i Nothing → k ≡ get_or ks i Nothing → o ≡ rule_cmp (rule_of (get_or specs i d)) j k
    → keys_cmp (map rule_of (drop i specs)) (drop i js) (drop i ks) ≡ ordering_then o (keys_cmp (map rule_of (drop (i + 1) specs)) (drop (i + 1) js) (drop (i + 1) ks))
compared_at specs js ks i d j k {o} within at_j at_k is =
    let rules = map rule_of specs in
    let rule = rule_of (get_or specs i d) in
    let split = drop-map rule_of i specs ∙ ap (map rule_of) (drop_more specs i d within) ∙ ap (λ r. rule ∷ r) (sym (drop-map rule_of (i + 1) specs)) in
    (λ t. keys_cmp (sym (drop-map rule_of i specs) t) (drop i js) (drop i ks))
    ∙ keys_cmp-drop rules js ks i rule split
    ∙ (λ t. ordering_then (rule_cmp rule (sym at_j t) (sym at_k t)) (keys_cmp (drop-map rule_of (i + 1) specs t) (drop (i + 1) js) (drop (i + 1) ks)))
    ∙ ap (λ p. ordering_then p (keys_cmp (map rule_of (drop (i + 1) specs)) (drop (i + 1) js) (drop (i + 1) ks))) (sym is)
