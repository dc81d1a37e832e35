-- Groups of a list that grows at its end.
use Rattle.std.proofs.Common.{◌≡◌, ℕ, suc, ◌+◌, List, [], ◌∷◌, ◌++◌, map, get_or, set, Bool, true, false, not, cond, ◌||◌, refl, ap, sym, ◌∙◌, arith}
use Rattle.std.specs.List.{list_any, filter, position_or_len}
use Rattle.std.specs.Cmp.{IsEquivalence}
use Rattle.std.proofs.lemmas.List.{append-nil, map-append}
use Rattle.std.proofs.lemmas.List.Elements.{filter-append}
use Rattle.std.proofs.lemmas.Bool.{false≢true, or_parts}
use Rattle.xq_trees.specs.Tuples.{firsts, groups}

pub list_any-map : {A B : Type 0} (p : B → Bool) (f : A → B) (xs : List A) → list_any p (map f xs) ≡ list_any (λ x. p (f x)) xs
list_any-map p f [] = refl
list_any-map p f (x ∷ xs) = ap (λ b. p (f x) || b) (list_any-map p f xs)

pub position_or_len-map : {A B : Type 0} (p : B → Bool) (f : A → B) (xs : List A) → position_or_len p (map f xs) ≡ position_or_len (λ x. p (f x)) xs
position_or_len-map p f [] = refl
position_or_len-map p f (x ∷ xs) = ap (λ n. cond (not (p (f x))) (1 + n) 0) (position_or_len-map p f xs)

module _ {X : Type 0} {same : X → X → Bool} (laws : IsEquivalence same) where
  abbrev others : X → List X → List X
  others y xs = filter (λ z. not (same y z)) xs

  any_other_step : (x y f : X) (fs : List X) (b : Bool) → same x y ≡ false → same y f ≡ b → list_any (same x) (others y fs) ≡ list_any (same x) fs → list_any (same x) (cond (not b) (f ∷ others y fs) (others y fs)) ≡ (same x f || list_any (same x) fs)
  any_other_step x y f fs true e h rest = rest ∙ ap (λ b. b || list_any (same x) fs) (sym (laws.symm x f ∙ sym (laws.congr y f x h) ∙ laws.symm y x ∙ e))
  any_other_step x y f fs false e h rest = ap (λ b. same x f || b) rest

  -- among those that differ from y, where x does
  any_other : (x y : X) → same x y ≡ false → (fs : List X) → list_any (same x) (others y fs) ≡ list_any (same x) fs
  any_other x y e [] = refl
  any_other x y e (f ∷ fs) = any_other_step x y f fs (same y f) e refl (any_other x y e fs)

  others_same : (x y : X) → same x y ≡ true → others y (x ∷ []) ≡ []
  others_same x y e = ap (λ b. cond (not b) (x ∷ []) []) (laws.symm y x ∙ e)

  others_other : (x y : X) → same x y ≡ false → others y (x ∷ []) ≡ x ∷ []
  others_other x y e = ap (λ b. cond (not b) (x ∷ []) []) (laws.symm y x ∙ e)

  firsts_step : (x y : X) (fs gs : List X) (c b : Bool) → same x y ≡ c → list_any (same x) fs ≡ b → gs ≡ cond b fs (fs ++ x ∷ [])
      → y ∷ others y gs ≡ cond (c || list_any (same x) (others y fs)) (y ∷ others y fs) ((y ∷ others y fs) ++ x ∷ [])
  firsts_step x y fs gs true true e h is = ap (λ l. y ∷ others y l) is
  firsts_step x y fs gs true false e h is = ap (λ l. y ∷ l) (ap (others y) is ∙ filter-append (λ z. not (same y z)) fs (x ∷ []) ∙ ap (λ l. others y fs ++ l) (others_same x y e) ∙ append-nil (others y fs))
  firsts_step x y fs gs false true e h is = ap (λ l. y ∷ others y l) is ∙ ap (λ b. cond b (y ∷ others y fs) ((y ∷ others y fs) ++ x ∷ [])) (sym (any_other x y e fs ∙ h))
  firsts_step x y fs gs false false e h is =
      ap (λ l. y ∷ l) (ap (others y) is ∙ filter-append (λ z. not (same y z)) fs (x ∷ []) ∙ ap (λ l. others y fs ++ l) (others_other x y e)) ∙ ap (λ b. cond b (y ∷ others y fs) ((y ∷ others y fs) ++ x ∷ [])) (sym (any_other x y e fs ∙ h))

  -- the firsts of a list with one more element
  pub firsts-push : (xs : List X) (x : X) → firsts same (xs ++ x ∷ []) ≡ cond (list_any (same x) (firsts same xs)) (firsts same xs) (firsts same xs ++ x ∷ [])
  firsts-push [] x = refl
  firsts-push (y ∷ xs) x = firsts_step x y (firsts same xs) (firsts same (xs ++ x ∷ [])) (same x y) (list_any (same x) (firsts same xs)) refl refl (firsts-push xs x)

  -- where no first equals it, nothing does
  none_same : (xs : List X) (x : X) → list_any (same x) (firsts same xs) ≡ false → filter (same x) xs ≡ []
  none_same [] x h = refl
  none_same (y ∷ xs) x h =
      let both = or_parts (same x y) (list_any (same x) (others y (firsts same xs))) h in
      ap (λ b. cond b (y ∷ filter (same x) xs) (filter (same x) xs)) both.0 ∙ none_same xs x (sym (any_other x y both.0 (firsts same xs)) ∙ both.1)

  one_more : (f x : X) (xs : List X) (b : Bool) → same x f ≡ b → filter (same f) (xs ++ x ∷ []) ≡ filter (same f) xs ++ cond b (x ∷ []) []
  one_more f x xs b e = filter-append (same f) xs (x ∷ []) ∙ ap (λ c. filter (same f) xs ++ cond c (x ∷ []) []) (laws.symm f x ∙ e)

  -- the filters by others stay
  others_stay : (xs : List X) (x : X) (fs : List X) → list_any (same x) fs ≡ false → map (λ f. filter (same f) (xs ++ x ∷ [])) fs ≡ map (λ f. filter (same f) xs) fs
  others_stay xs x [] h = refl
  others_stay xs x (f ∷ fs) h =
      let both = or_parts (same x f) (list_any (same x) fs) h in
      λ i. (one_more f x xs false both.0 ∙ append-nil (filter (same f) xs)) i ∷ others_stay xs x fs both.1 i

  -- a group more
  pub groups-push_new : (xs : List X) (x : X) → list_any (same x) (firsts same xs) ≡ false → groups same (xs ++ x ∷ []) ≡ groups same xs ++ (x ∷ []) ∷ []
  groups-push_new xs x h =
      ap (map (λ f. filter (same f) (xs ++ x ∷ []))) (firsts-push xs x ∙ ap (λ b. cond b (firsts same xs) (firsts same xs ++ x ∷ [])) h)
      ∙ map-append (λ f. filter (same f) (xs ++ x ∷ [])) (firsts same xs) (x ∷ [])
      ∙ (λ i. others_stay xs x (firsts same xs) h i ++ (one_more x x xs true (laws.refl x) ∙ ap (λ l. l ++ x ∷ []) (none_same xs x h)) i ∷ [])

  -- each differs from those after it
  abbrev IsApart : List X → Type 0
  IsApart [] = Unit {0}
  IsApart (f ∷ fs) = (list_any (same f) fs ≡ false) × IsApart fs

  none_filtered_step : (p q : X → Bool) (f : X) (fs : List X) (b : Bool) → p f ≡ false → list_any p (filter q fs) ≡ false → list_any p (cond b (f ∷ filter q fs) (filter q fs)) ≡ false
  none_filtered_step p q f fs true e rest = ap (λ c. c || list_any p (filter q fs)) e ∙ rest
  none_filtered_step p q f fs false e rest = rest

  none_filtered : (p q : X → Bool) (fs : List X) → list_any p fs ≡ false → list_any p (filter q fs) ≡ false
  none_filtered p q [] h = refl
  none_filtered p q (f ∷ fs) h =
      let both = or_parts (p f) (list_any p fs) h in
      none_filtered_step p q f fs (q f) both.0 (none_filtered p q fs both.1)

  none_of_others_step : (y f : X) (fs : List X) (b : Bool) → same y f ≡ b → list_any (same y) (others y fs) ≡ false → list_any (same y) (cond (not b) (f ∷ others y fs) (others y fs)) ≡ false
  none_of_others_step y f fs true e rest = rest
  none_of_others_step y f fs false e rest = ap (λ c. c || list_any (same y) (others y fs)) e ∙ rest

  none_of_others : (y : X) (fs : List X) → list_any (same y) (others y fs) ≡ false
  none_of_others y [] = refl
  none_of_others y (f ∷ fs) = none_of_others_step y f fs (same y f) refl (none_of_others y fs)

  apart_step : (y f : X) (fs : List X) (b : Bool) → list_any (same f) fs ≡ false → IsApart (others y fs) → IsApart (cond b (f ∷ others y fs) (others y fs))
  apart_step y f fs true e rest = (none_filtered (same f) (λ z. not (same y z)) fs e, rest)
  apart_step y f fs false e rest = rest

  apart_others : (y : X) (fs : List X) → IsApart fs → IsApart (others y fs)
  apart_others y [] h = h
  apart_others y (f ∷ fs) h = apart_step y f fs (not (same y f)) h.0 (apart_others y fs h.1)

  apart_firsts : (xs : List X) → IsApart (firsts same xs)
  apart_firsts [] = tt
  apart_firsts (y ∷ xs) = (none_of_others y (firsts same xs), apart_others y (firsts same xs) (apart_firsts xs))

  same_none : (x f : X) (fs : List X) → same x f ≡ true → list_any (same x) fs ≡ list_any (same f) fs
  same_none x f [] e = refl
  same_none x f (z ∷ fs) e = λ i. laws.congr x f z e i || same_none x f fs e i

  none_last : (x : X) (g : X → List X) (fs : List X) → list_any (same x) fs ≡ false → map (λ f. g f ++ cond (same x f) (x ∷ []) []) fs ≡ map g fs
  none_last x g [] h = refl
  none_last x g (f ∷ fs) h =
      let both = or_parts (same x f) (list_any (same x) fs) h in
      λ i. (ap (λ b. g f ++ cond b (x ∷ []) []) both.0 ∙ append-nil (g f)) i ∷ none_last x g fs both.1 i

  at_place_step : (x : X) (g : X → List X) (f : X) (fs : List X) (b : Bool) → same x f ≡ b → IsApart (f ∷ fs) → (b || list_any (same x) fs) ≡ true → (n : ℕ) → n ≡ cond (not b) (1 + position_or_len (same x) fs) 0
      → (list_any (same x) fs ≡ true → (n : ℕ) → n ≡ position_or_len (same x) fs → map (λ f. g f ++ cond (same x f) (x ∷ []) []) fs ≡ set (map g fs) n (get_or (map g fs) n [] ++ x ∷ []))
      → (g f ++ cond b (x ∷ []) []) ∷ map (λ f. g f ++ cond (same x f) (x ∷ []) []) fs ≡ set (g f ∷ map g fs) n (get_or (g f ∷ map g fs) n [] ++ x ∷ [])
  at_place_step x g f fs true e apart h n is rest =
      ap (λ l. (g f ++ x ∷ []) ∷ l) (none_last x g fs (same_none x f fs e ∙ apart.0)) ∙ ap (λ k. set (g f ∷ map g fs) k (get_or (g f ∷ map g fs) k [] ++ x ∷ [])) (sym is)
  at_place_step x g f fs false e apart h n is rest =
      let m = position_or_len (same x) fs in
      let more : suc m ≡ n = omega (arith, is) in
      (λ i. append-nil (g f) i ∷ rest h m refl i) ∙ ap (λ k. set (g f ∷ map g fs) k (get_or (g f ∷ map g fs) k [] ++ x ∷ [])) more

  at_place : (x : X) (g : X → List X) (fs : List X) → IsApart fs → list_any (same x) fs ≡ true → (n : ℕ) → n ≡ position_or_len (same x) fs
      → map (λ f. g f ++ cond (same x f) (x ∷ []) []) fs ≡ set (map g fs) n (get_or (map g fs) n [] ++ x ∷ [])
  at_place x g [] apart h n e = absurd (false≢true h)
  at_place x g (f ∷ fs) apart h n e = at_place_step x g f fs (same x f) refl apart h n e (at_place x g fs apart.1)

  -- one of the groups is longer
  pub groups-push_old : (xs : List X) (x : X) → list_any (same x) (firsts same xs) ≡ true → (n : ℕ) → n ≡ position_or_len (same x) (firsts same xs)
      → groups same (xs ++ x ∷ []) ≡ set (groups same xs) n (get_or (groups same xs) n [] ++ x ∷ [])
  groups-push_old xs x h n is =
      ap (map (λ f. filter (same f) (xs ++ x ∷ []))) (firsts-push xs x ∙ ap (λ b. cond b (firsts same xs) (firsts same xs ++ x ∷ [])) h)
      ∙ ap (λ g. map g (firsts same xs)) (λ i f. one_more f x xs (same x f) refl i)
      ∙ at_place x (λ f. filter (same f) xs) (firsts same xs) (apart_firsts xs) h n is
