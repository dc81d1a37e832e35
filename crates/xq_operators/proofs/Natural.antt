-- What the clauses make of tuples is the same whatever stands for the items.
use Rattle.std.proofs.Common.{◌≡◌, ℕ, ◌+◌, ◌++◌, List, [], ◌∷◌, map, Bool, true, false, refl, sym, ◌∙◌, ap}
use Rattle.std.specs.Prelude.{pos}
use Rattle.std.specs.List.{enumerate_from, zip}
use Rattle.std.proofs.lemmas.List.{map-append}
use Rattle.std.proofs.lemmas.List.Concat.{flat_map-cons}
use Rattle.xq_atoms.specs.Atom.{Atomic, Integer}
use Rattle.xq_trees.specs.Tuples.{Tuple, item_values, empty_values, with_items, expanded, numbered, bound, satisfying}

module _ {X Y : Type 0} (r : X → Y) where
  pub bound_natural : (tuples : List (Tuple X)) (values : List (List X)) → map (map (map r)) (bound tuples values) ≡ bound (map (map (map r)) tuples) (map (map r) values)
  bound_natural [] values = refl
  bound_natural (t ∷ ts) [] = refl
  bound_natural (t ∷ ts) (v ∷ vs) = let a = map-append (map r) t (v ∷ []) in let b = bound_natural ts vs in cc

pub kept_natural : {A B : Type 0} (r : A → B) (tuples : List A) (tests : List Bool) → map r (satisfying tuples tests) ≡ satisfying (map r tuples) tests
kept_natural r [] tests = refl
kept_natural r (t ∷ ts) [] = refl
kept_natural r (t ∷ ts) (true ∷ bs) = ap (λ rest. r t ∷ rest) (kept_natural r ts bs)
kept_natural r (t ∷ ts) (false ∷ bs) = kept_natural r ts bs

module _ {X Y : Type 0} (r : X → Y) (ax : Atomic → X) (ay : Atomic → Y) (same : (a : Atomic) → r (ax a) ≡ ay a) where
  item_natural : (at : Bool) (n : ℕ) (x : X) → map (map r) (item_values ax at n x) ≡ item_values ay at n (r x)
  item_natural true n x = ap (λ y. (r x ∷ []) ∷ (y ∷ []) ∷ []) (same (Integer (pos n)))
  item_natural false n x = refl

  each_natural : (at : Bool) (tuple : Tuple X) (n : ℕ) (xs : List X) → map (map (map r)) (map (λ p. tuple ++ item_values ax at p.0 p.1) (enumerate_from n xs)) ≡ map (λ p. map (map r) tuple ++ item_values ay at p.0 p.1) (enumerate_from n (map r xs))
  each_natural at tuple n [] = refl
  each_natural at tuple n (x ∷ xs) =
      let a = map-append (map r) tuple (item_values ax at n x) ∙ ap (λ v. map (map r) tuple ++ v) (item_natural at n x) in
      let b = each_natural at tuple (n + 1) xs in
      cc

  empty_natural : (at : Bool) → map (map r) (empty_values ax at) ≡ empty_values ay at
  empty_natural true = ap (λ y. [] ∷ (y ∷ []) ∷ []) (same (Integer (pos 0)))
  empty_natural false = refl

  items_natural : (allows at : Bool) (tuple : Tuple X) (xs : List X) → map (map (map r)) (with_items ax allows at tuple xs) ≡ with_items ay allows at (map (map r) tuple) (map r xs)
  items_natural true at tuple [] =
      ap (λ t. t ∷ []) (map-append (map r) tuple (empty_values ax at) ∙ ap (λ v. map (map r) tuple ++ v) (empty_natural at))
  items_natural true at tuple (x ∷ xs) = each_natural at tuple 1 (x ∷ xs)
  items_natural false at tuple xs = each_natural at tuple 1 xs

  pub expanded_natural : (allows at : Bool) (tuples : List (Tuple X)) (lists : List (List X)) → map (map (map r)) (expanded ax allows at tuples lists) ≡ expanded ay allows at (map (map (map r)) tuples) (map (map r) lists)
  expanded_natural allows at [] lists = refl
  expanded_natural allows at (t ∷ ts) [] = refl
  expanded_natural allows at (t ∷ ts) (l ∷ ls) =
      ap (map (map (map r))) (flat_map-cons (λ p. with_items ax allows at p.0 p.1) (t, l) (zip ts ls))
      ∙ map-append (map (map r)) (with_items ax allows at t l) (expanded ax allows at ts ls)
      ∙ ap (λ v. v ++ map (map (map r)) (expanded ax allows at ts ls)) (items_natural allows at t l)
      ∙ ap (λ v. with_items ay allows at (map (map r) t) (map r l) ++ v) (expanded_natural allows at ts ls)
      ∙ sym (flat_map-cons (λ p. with_items ay allows at p.0 p.1) (map (map r) t, map r l) (zip (map (map (map r)) ts) (map (map r) ls)))

  numbered_from : (n : ℕ) (tuples : List (Tuple X)) → map (map (map r)) (map (λ p. p.1 ++ (ax (Integer (pos p.0)) ∷ []) ∷ []) (enumerate_from n tuples)) ≡ map (λ p. p.1 ++ (ay (Integer (pos p.0)) ∷ []) ∷ []) (enumerate_from n (map (map (map r)) tuples))
  numbered_from n [] = refl
  numbered_from n (t ∷ ts) =
      let a = map-append (map r) t ((ax (Integer (pos n)) ∷ []) ∷ []) ∙ ap (λ y. map (map r) t ++ (y ∷ []) ∷ []) (same (Integer (pos n))) in
      let b = numbered_from (n + 1) ts in
      cc

  pub numbered_natural : (tuples : List (Tuple X)) → map (map (map r)) (numbered ax tuples) ≡ numbered ay (map (map (map r)) tuples)
  numbered_natural tuples = numbered_from 1 tuples
