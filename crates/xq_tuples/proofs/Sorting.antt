-- A stable sort gives the one arrangement that ascends and keeps the order of equals.
use Rattle.std.proofs.Common.{◌≡◌, ℕ, suc, ◌<◌, ◌≤◌, List, [], ◌∷◌, map, length, get_or, Bool, true, false, not, cond, ◌&&◌, refl, ap, sym, subst, ◌∙◌, arith}
use Rattle.std.specs.declared.cmp.Ordering.{Ordering}
use Rattle.std.specs.Ordering.{is_lt}
use Rattle.std.specs.Cmp.{IsTotalOrder, IsStrictWeakOrder, tied_itself}
use Rattle.std.specs.List.{AllByRecursion as Each, filter}
use Rattle.std.specs.List.Sorted.{IsSortedBy, IsStableBy, ties}
use Rattle.std.proofs.lemmas.List.Sorted.{ranks_by, sorted_far}
use Rattle.std.proofs.lemmas.Bool.{false≢true}
use Rattle.xq_trees.specs.Tuples.{inserted, sorted}

-- from what holds at each place
each_from : {X : Type 0} (P : X → Type 0) (xs : List X) → ((k : ℕ) (d : X) → k < length xs → P (get_or xs k d)) → Each P xs
each_from P [] h = tt
each_from P (x ∷ xs) h = (h 0 x (omega arith), each_from P xs (λ k d l. h (suc k) d (omega arith)))

pub each_weaker : {X : Type 0} (P Q : X → Type 0) → ((x : X) → P x → Q x) → (xs : List X) → Each P xs → Each Q xs
each_weaker P Q f [] h = tt
each_weaker P Q f (x ∷ xs) h = (f x h.0, each_weaker P Q f xs h.1)

-- the head of a filter
head_step : {X : Type 0} (P : X → Type 0) (x : X) (rest : List X) (w : X) (ws : List X) (b : Bool) → cond b (x ∷ rest) rest ≡ w ∷ ws → P x → (rest ≡ w ∷ ws → P w) → P w
head_step P x rest w ws true e here later = subst P (ap (λ l. get_or l 0 w) e) here
head_step P x rest w ws false e here later = later e

head_from : {X : Type 0} (P : X → Type 0) (test : X → Bool) (xs : List X) (w : X) (ws : List X) → filter test xs ≡ w ∷ ws → Each P xs → P w
head_from P test [] w ws e h = absurd (omega (arith, ap length e))
head_from P test (x ∷ xs) w ws e h = head_step P x (filter test xs) w ws (test x) e h.0 (λ later. head_from P test xs w ws later h.1)

-- the rest of equal filters of lists with one head
abbrev drop_head : {X : Type 0} → List X → List X
drop_head [] = []
drop_head (x ∷ xs) = xs

rest_step : {X : Type 0} (x y : X) (xs ys : List X) (b : Bool) → cond b (x ∷ xs) xs ≡ cond b (y ∷ ys) ys → xs ≡ ys
rest_step x y xs ys true e = ap drop_head e
rest_step x y xs ys false e = e

from_both : (a b : Bool) → (not a && not b) ≡ true → (a ≡ false) × (b ≡ false)
from_both true b e = absurd (false≢true e)
from_both false true e = absurd (false≢true e)
from_both false false e = (refl, refl)

-- what holds of each element holds of those that are sorted
module _ {X : Type 0} (P : X → Type 0) (cmp : X → X → Ordering) where
  each_inserted_step : (x y : X) (ys zs : List X) (b : Bool) → P x → P y → Each P ys → Each P zs → Each P (cond b (y ∷ zs) (x ∷ y ∷ ys))
  each_inserted_step x y ys zs true px py h k = (py, k)
  each_inserted_step x y ys zs false px py h k = (px, (py, h))

  each_inserted : (x : X) (ys : List X) → P x → Each P ys → Each P (inserted cmp x ys)
  each_inserted x [] p h = (p, tt)
  each_inserted x (y ∷ ys) p h = each_inserted_step x y ys (inserted cmp x ys) (is_lt (cmp y x)) p h.0 h.1 (each_inserted x ys p h.1)

  pub each_sorted : (xs : List X) → Each P xs → Each P (sorted cmp xs)
  each_sorted [] h = tt
  each_sorted (x ∷ xs) h = each_inserted x (sorted cmp xs) h.0 (each_sorted xs h.1)

module _ {X : Type 0} (cmp : X → X → Ordering) (o : IsTotalOrder cmp) where
  abbrev below : X → X → Bool
  below x y = is_lt (cmp x y)

  weak : IsStrictWeakOrder (λ (x : X) y. is_lt (cmp x y))
  weak = ranks_by o (λ x. x)

  not_below_itself : (x : X) → below x x ≡ false
  not_below_itself x = ap is_lt (tied_itself o x)

  ties_itself : (x : X) → ties below x x ≡ true
  ties_itself x = λ i. not (not_below_itself x i) && not (not_below_itself x i)

  ties_from : (x y : X) → below x y ≡ false → below y x ≡ false → ties below x y ≡ true
  ties_from x y p q = λ i. not (p i) && not (q i)

  abbrev Ascends : List X → Type 0
  Ascends [] = Unit {0}
  Ascends (x ∷ xs) = Each (λ y. below y x ≡ false) xs × Ascends xs

  ascends_from : (xs : List X) → ((i j : ℕ) (d : X) → i ≤ j → j < length xs → below (get_or xs j d) (get_or xs i d) ≡ false) → Ascends xs
  ascends_from [] h = tt
  ascends_from (x ∷ xs) h = (each_from (λ y. below y x ≡ false) xs (λ k d l. h 0 (suc k) d (omega arith) (omega arith)), ascends_from xs (λ i j d p q. h (suc i) (suc j) d (omega arith) (omega arith)))

  -- lists that ascend and have the same ties are equal
  same_from_ties : (ys zs : List X) → Ascends ys → Ascends zs → ((x : X) → filter (ties below x) ys ≡ filter (ties below x) zs) → ys ≡ zs
  same_from_ties [] [] p q h = refl
  same_from_ties [] (z ∷ zs) p q h = absurd (omega (arith, ap length (h z ∙ ap (λ b. cond b (z ∷ filter (ties below z) zs) (filter (ties below z) zs)) (ties_itself z))))
  same_from_ties (y ∷ ys) [] p q h = absurd (omega (arith, ap length (sym (h y) ∙ ap (λ b. cond b (y ∷ filter (ties below y) ys) (filter (ties below y) ys)) (ties_itself y))))
  same_from_ties (y ∷ ys) (z ∷ zs) p q h =
      let at_y : filter (ties below y) (y ∷ ys) ≡ y ∷ filter (ties below y) ys = ap (λ b. cond b (y ∷ filter (ties below y) ys) (filter (ties below y) ys)) (ties_itself y) in
      let at_z : filter (ties below z) (z ∷ zs) ≡ z ∷ filter (ties below z) zs = ap (λ b. cond b (z ∷ filter (ties below z) zs) (filter (ties below z) zs)) (ties_itself z) in
      let z_not : below z y ≡ false = head_from (λ w. below w y ≡ false) (ties below z) (y ∷ ys) z (filter (ties below z) zs) (h z ∙ at_z) (not_below_itself y, p.0) in
      let y_not : below y z ≡ false = head_from (λ w. below w z ≡ false) (ties below y) (z ∷ zs) y (filter (ties below y) ys) (sym (h y) ∙ at_y) (not_below_itself z, q.0) in
      let at_z_by_y : filter (ties below y) (z ∷ zs) ≡ z ∷ filter (ties below y) zs = ap (λ b. cond b (z ∷ filter (ties below y) zs) (filter (ties below y) zs)) (ties_from y z y_not z_not) in
      let heads : y ≡ z = ap (λ l. get_or l 0 y) (sym at_y ∙ h y ∙ at_z_by_y) in
      let rests : (x : X) → filter (ties below x) ys ≡ filter (ties below x) zs = λ x. rest_step y z (filter (ties below x) ys) (filter (ties below x) zs) (ties below x y) (h x ∙ ap (λ w. cond (ties below x w) (z ∷ filter (ties below x) zs) (filter (ties below x) zs)) (sym heads)) in
      λ i. heads i ∷ same_from_ties ys zs p.1 q.1 rests i

  ascends_inserted_step : (x y : X) (ys : List X) (b : Bool) → below y x ≡ b → Ascends (y ∷ ys) → Ascends (inserted cmp x ys) → Ascends (cond b (y ∷ inserted cmp x ys) (x ∷ y ∷ ys))
  ascends_inserted_step x y ys true e h rest = (each_inserted (λ w. below w y ≡ false) cmp x ys (weak.one_way y x e) h.0, rest)
  ascends_inserted_step x y ys false e h rest = ((e, each_weaker (λ w. below w y ≡ false) (λ w. below w x ≡ false) (λ w k. weak.chain w y x k e) ys h.0), h)

  ascends_inserted : (x : X) (ys : List X) → Ascends ys → Ascends (inserted cmp x ys)
  ascends_inserted x [] h = (tt, tt)
  ascends_inserted x (y ∷ ys) h = ascends_inserted_step x y ys (below y x) refl h (ascends_inserted x ys h.1)

  pub ascends_sorted : (xs : List X) → Ascends (sorted cmp xs)
  ascends_sorted [] = tt
  ascends_sorted (x ∷ xs) = ascends_inserted x (sorted cmp xs) (ascends_sorted xs)

  -- two that tie with w: neither is below the other
  tied_apart : (w x y : X) → ties below w x ≡ true → ties below w y ≡ true → below y x ≡ false
  tied_apart w x y p q = weak.chain y w x (from_both (below w y) (below y w) q).1 (from_both (below w x) (below x w) p).0

  swapped : (x y : X) (zs : List X) (a b : Bool) → (a ≡ true → b ≡ true → false ≡ true) → cond b (y ∷ cond a (x ∷ zs) zs) (cond a (x ∷ zs) zs) ≡ cond a (x ∷ cond b (y ∷ zs) zs) (cond b (y ∷ zs) zs)
  swapped x y zs true true h = absurd (false≢true (h refl refl))
  swapped x y zs true false h = refl
  swapped x y zs false b h = refl

  keeps_step : (w x y : X) (ys : List X) (b : Bool) → below y x ≡ b → filter (ties below w) (inserted cmp x ys) ≡ filter (ties below w) (x ∷ ys)
      → filter (ties below w) (cond b (y ∷ inserted cmp x ys) (x ∷ y ∷ ys)) ≡ filter (ties below w) (x ∷ y ∷ ys)
  keeps_step w x y ys true e rest =
      ap (λ l. cond (ties below w y) (y ∷ l) l) rest ∙ swapped x y (filter (ties below w) ys) (ties below w x) (ties below w y) (λ p q. sym (tied_apart w x y p q) ∙ e)
  keeps_step w x y ys false e rest = refl

  keeps_inserted : (w x : X) (ys : List X) → filter (ties below w) (inserted cmp x ys) ≡ filter (ties below w) (x ∷ ys)
  keeps_inserted w x [] = refl
  keeps_inserted w x (y ∷ ys) = keeps_step w x y ys (below y x) refl (keeps_inserted w x ys)

  keeps_sorted : (xs : List X) (w : X) → filter (ties below w) (sorted cmp xs) ≡ filter (ties below w) xs
  keeps_sorted [] w = refl
  keeps_sorted (x ∷ xs) w = keeps_inserted w x (sorted cmp xs) ∙ ap (λ l. cond (ties below w x) (x ∷ l) l) (keeps_sorted xs w)

  -- what a stable sort gives
  pub sorted_from_sort : (xs ys : List X) → IsSortedBy (λ x y. is_lt (cmp x y)) ys → IsStableBy (λ x y. is_lt (cmp x y)) xs ys → ys ≡ sorted cmp xs
  sorted_from_sort xs ys up stable =
      same_from_ties ys (sorted cmp xs) (ascends_from ys (sorted_far (λ x y. is_lt (cmp x y)) weak ys up)) (ascends_sorted xs) (λ w. stable w ∙ sym (keeps_sorted xs w))

-- by an order on what f reads
inserted-map_step : {X Y : Type 0} (f : X → Y) (x y : X) (ys zs : List X) (b : Bool) → map f (cond b (y ∷ zs) (x ∷ y ∷ ys)) ≡ cond b (f y ∷ map f zs) (f x ∷ f y ∷ map f ys)
inserted-map_step f x y ys zs true = refl
inserted-map_step f x y ys zs false = refl

inserted-map : {X Y : Type 0} (cmp : Y → Y → Ordering) (f : X → Y) (x : X) (ys : List X) → map f (inserted (λ a b. cmp (f a) (f b)) x ys) ≡ inserted cmp (f x) (map f ys)
inserted-map cmp f x [] = refl
inserted-map cmp f x (y ∷ ys) =
    inserted-map_step f x y ys (inserted (λ a b. cmp (f a) (f b)) x ys) (is_lt (cmp (f y) (f x))) ∙ ap (λ l. cond (is_lt (cmp (f y) (f x))) (f y ∷ l) (f x ∷ f y ∷ map f ys)) (inserted-map cmp f x ys)

pub sorted-map : {X Y : Type 0} (cmp : Y → Y → Ordering) (f : X → Y) (xs : List X) → map f (sorted (λ a b. cmp (f a) (f b)) xs) ≡ sorted cmp (map f xs)
sorted-map cmp f [] = refl
sorted-map cmp f (x ∷ xs) = inserted-map cmp f x (sorted (λ a b. cmp (f a) (f b)) xs) ∙ ap (inserted cmp (f x)) (sorted-map cmp f xs)
