-- Tuples that lie in one list, one after another.
use Rattle.std.proofs.Common.{◌≡◌, ℕ, zero, suc, ◌+◌, ◌-◌, ◌*◌, ◌<◌, ◌≤◌, List, [], ◌∷◌, ◌++◌, map, take, drop, length, get_or, max, Bool, true, false, refl, ap, sym, subst, ◌∙◌, arith}
use Rattle.std.specs.Prelude.{pos, slice_range}
use Rattle.std.proofs.Math.Nat.{suc-mul}
use Rattle.std.specs.List.{AllByRecursion, flat_map, zip, enumerate_from}
use Rattle.std.proofs.lemmas.List.{append-nil, length-append, length-map, length-drop, length-take-le, take_at, drop_at, drop-drop, take-map, drop-map, take_more, map_push}
use Rattle.std.proofs.lemmas.Nat.{row_fits}
use Rattle.std.proofs.lemmas.List.Concat.{flat_map-append}
use Rattle.std.proofs.lemmas.List.FromFn.{length-enumerate_from, get_or-enumerate_from}
use Rattle.xq_atoms.specs.Atom.{Integer}
use Rattle.xq_trees.specs.Items.{ItemView, Value}
use Rattle.xq_trees.specs.Tuples.{Tuple, bound, expanded, empty_values, item_values, numbered, with_each, with_each_or_empty}
use Rattle.xq_tuples.specs.Keys.{by_tuple}
use Rattle.xq_tuples.specs.private.Laid.{laid, slots_bound}
use Rattle.xq_tuples.proofs.Lists.{enumerate_push}

-- # Tuples of one width

abbrev pub AreWide : {A : Type 0} → ℕ → List (List A) → Type 0
AreWide w ts = AllByRecursion (λ t. length t ≡ w) ts

pub next_row : (n w : ℕ) → suc n * w ≡ w + n * w
next_row n w = omega (arith, suc-mul n w)

pub next_place : (n w : ℕ) → (n + 1) * w ≡ n * w + w
next_place n w = let one : n + 1 ≡ suc n = omega arith in ap (λ k. k * w) one ∙ omega (arith, next_row n w)

all_append : {X : Type 0} (P : X → Type 0) (xs ys : List X) → AllByRecursion P xs → AllByRecursion P ys → AllByRecursion P (xs ++ ys)
all_append P [] ys h k = k
all_append P (x ∷ xs) ys h k = (h.0, all_append P xs ys h.1 k)

-- what lies one after another is read back
by_tuple-laid : {A : Type 0} (w : ℕ) (ts : List (List A)) → AreWide w ts → by_tuple (length ts) w (laid ts) ≡ ts
by_tuple-laid w [] h = refl
by_tuple-laid w (t ∷ ts) h = λ i. take_at t (laid ts) w h.0 i ∷ (ap (by_tuple (length ts) w) (drop_at t (laid ts) w h.0) ∙ by_tuple-laid w ts h.1) i

length-laid : {A : Type 0} (w : ℕ) (ts : List (List A)) → AreWide w ts → length (laid ts) ≡ length ts * w
length-laid w [] h = omega arith
length-laid w (t ∷ ts) h = omega (arith, length-append t (laid ts), h.0, length-laid w ts h.1, next_row (length ts) w)

-- so a list of slots is these tuples, where it has their slots
pub record Stands {A : Type 0} (count width : ℕ) (slots : List A) (ts : List (List A)) : Type 0 where
  pub long : length slots ≡ count * width
  pub are : by_tuple count width slots ≡ ts

-- so many tuples, one after another
pub record IsLaid {A : Type 0} (count : ℕ) (slots : List A) (ts : List (List A)) : Type 0 where
  pub counted : count ≡ length ts
  pub are : slots ≡ laid ts

pub stands : {A : Type 0} (w count : ℕ) (slots : List A) (ts : List (List A)) → AreWide w ts → IsLaid count slots ts → Stands count w slots ts
stands w count slots ts h is = record {
  long = ap length is.are ∙ length-laid w ts h ∙ ap (λ n. n * w) (sym is.counted);
  are = (λ i. by_tuple (is.counted i) w (is.are i)) ∙ by_tuple-laid w ts h;
}

pub IsLaid-none : {A : Type 0} (count : ℕ) (slots : List A) (ts : List (List A)) → count ≡ 0 → slots ≡ [] → ts ≡ [] → IsLaid count slots ts
IsLaid-none count slots ts c s t = record { counted = c ∙ ap length (sym t); are = s ∙ ap laid (sym t) }

pub IsLaid-more : {A : Type 0} (count : ℕ) (slots : List A) (ts : List (List A)) (n : ℕ) (later : List A) (more all : List (List A)) → IsLaid count slots ts
    → n ≡ count + length more → later ≡ slots ++ laid more → all ≡ ts ++ more → IsLaid n later all
IsLaid-more count slots ts n later more all is c s t = record {
  counted = omega (arith, c, is.counted, ap length t, length-append ts more);
  are = s ∙ ap (λ l. l ++ laid more) is.are ∙ sym (ap laid t ∙ flat_map-append (λ x. x) ts more);
}

pub one_laid : {A : Type 0} (before t now : List A) → now ≡ before ++ t → now ≡ before ++ laid (t ∷ [])
one_laid before t now e = e ∙ ap (λ l. before ++ l) (sym (append-nil t))

-- # The tuples of a list

wide_in : {A : Type 0} (n w : ℕ) (xs : List A) → length xs ≡ n * w → AreWide w (by_tuple n w xs)
wide_in zero w xs e = tt
wide_in (suc n) w xs e =
    let all = e ∙ next_row n w in
    (length-take-le w xs (omega (arith, all)), wide_in n w (drop w xs) (omega (arith, length-drop w xs, all)))

tuple_in : {A : Type 0} (n w i : ℕ) (xs : List A) → i < n → get_or (by_tuple n w xs) i [] ≡ take w (drop (i * w) xs)
tuple_in zero w i xs l = absurd (omega arith)
tuple_in (suc n) w zero xs l = let none : 0 ≡ 0 * w = omega arith in ap (λ k. take w (drop k xs)) none
tuple_in (suc n) w (suc i) xs l = tuple_in n w i (drop w xs) (omega arith) ∙ ap (take w) (drop-drop (i * w) w xs) ∙ ap (λ k. take w (drop k xs)) (sym (next_row i w))

length-by_tuple : {A : Type 0} (n w : ℕ) (xs : List A) → length (by_tuple n w xs) ≡ n
length-by_tuple zero w xs = refl
length-by_tuple (suc n) w xs = ap suc (length-by_tuple n w (drop w xs))

pub wide_get : {A : Type 0} (w i : ℕ) (ts : List (List A)) → AreWide w ts → i < length ts → length (get_or ts i []) ≡ w
wide_get w i [] h l = absurd (omega arith)
wide_get w zero (t ∷ ts) h l = h.0
wide_get w (suc i) (t ∷ ts) h l = wide_get w i ts h.1 (omega arith)

module _ {A : Type 0} (n w : ℕ) (xs : List A) (stream : List (List A)) (is : by_tuple n w xs ≡ stream) where
  pub counted : length stream ≡ n
  counted = ap length (sym is) ∙ length-by_tuple n w xs

  pub all_wide : length xs ≡ n * w → AreWide w stream
  all_wide e = subst (AreWide w) is (wide_in n w xs e)

  pub wide_at : length xs ≡ n * w → (i : ℕ) → i < length stream → length (get_or stream i []) ≡ w
  wide_at e i l = wide_get w i stream (all_wide e) l

  pub read_at : (i : ℕ) → i < length stream → get_or stream i [] ≡ take w (drop (i * w) xs)
  read_at i l = ap (λ ts. get_or ts i []) (sym is) ∙ tuple_in n w i xs (omega (arith, counted))

-- its tuples lie within it
pub fits : (n w i : ℕ) → i < n → i * w + w ≤ n * w
fits n w i l = row_fits i w n w l (omega arith)

pub starts_within : (n w i start len : ℕ) → start ≡ i * w → i < n → len ≡ n * w → start + w ≤ len
starts_within n w i start len s l e = omega (arith, s, fits n w i l, e)

pub narrow : (n w : ℕ) → 0 < n → w ≤ n * w
narrow zero w l = absurd (omega arith)
narrow (suc n) w l = omega (arith, next_row n w)

pub few_enough : (n w : ℕ) → 0 < w → n ≤ n * w
few_enough zero w l = omega arith
few_enough (suc n) w l = omega (arith, next_row n w, few_enough n w l)

pub place_within : {A : Type 0} (n w : ℕ) (xs : List A) (stream : List (List A)) → by_tuple n w xs ≡ stream → (i len : ℕ) → i < length stream → len ≡ n * w → i * w + w ≤ len
place_within n w xs stream is i len l e = omega (arith, fits n w i (omega (arith, l, counted n w xs stream is)), e)

-- a part of a list, as f sees it
pub part_seen : {S A : Type 0} (f : S → A) (slots : List S) (start end w : ℕ) → end ≡ start + w → map f (slice_range slots start end) ≡ take w (drop start (map f slots))
part_seen f slots start end w e =
    let long : end - start ≡ w = omega (arith, e) in
    sym (take-map f (end - start) (drop start slots)) ∙ (λ i. take (long i) (sym (drop-map f start slots) i))

-- # Two lists side by side

zip_none : {A B : Type 0} (xs : List A) → zip {X = B} xs [] ≡ []
zip_none [] = refl
zip_none (x ∷ xs) = refl

zip_more : {A B : Type 0} (xs : List A) (ys : List B) (y : B) (d : A) (n : ℕ) → length ys ≡ n → n < length xs → zip xs (ys ++ y ∷ []) ≡ zip xs ys ++ (get_or xs n d, y) ∷ []
zip_more [] ys y d n e l = absurd (omega arith)
zip_more (x ∷ xs) [] y d zero e l = ap (λ ps. (x, y) ∷ ps) (zip_none xs)
zip_more (x ∷ xs) [] y d (suc n) e l = absurd (omega (arith, e))
zip_more (x ∷ xs) (z ∷ ys) y d zero e l = absurd (omega (arith, e))
zip_more (x ∷ xs) (z ∷ ys) y d (suc n) e l = ap (λ ps. (x, z) ∷ ps) (zip_more xs ys y d n (omega (arith, e)) (omega arith))

module _ {A B X : Type 0} (g : X → B) (xs : List A) (ys : List X) (y : X) (d : A) (n : ℕ) (e : length ys ≡ n) (l : n < length xs) where
  seen_more : zip xs (map g (ys ++ y ∷ [])) ≡ zip xs (map g ys) ++ (get_or xs n d, g y) ∷ []
  seen_more = ap (zip xs) (map_push g ys y) ∙ zip_more xs (map g ys) (g y) d n (length-map ys g ∙ e) l

  -- what f gives of one more
  pub flat_more : {C : Type 0} (f : A × B → List C) → flat_map f (zip xs (map g (ys ++ y ∷ []))) ≡ flat_map f (zip xs (map g ys)) ++ f (get_or xs n d, g y)
  flat_more f = ap (flat_map f) seen_more ∙ flat_map-append f (zip xs (map g ys)) _ ∙ ap (λ l. flat_map f (zip xs (map g ys)) ++ l) (append-nil (f (get_or xs n d, g y)))

  pub side_more : {C : Type 0} (f : A × B → C) → map f (zip xs (map g (ys ++ y ∷ []))) ≡ map f (zip xs (map g ys)) ++ f (get_or xs n d, g y) ∷ []
  side_more f = ap (map f) seen_more ∙ map_push f (zip xs (map g ys)) _

pub seen_none : {A B C X : Type 0} (g : X → B) (xs : List A) (f : List (A × B) → C) → f (zip xs (map g [])) ≡ f []
seen_none g xs f = ap f (zip_none xs)

-- all of them, where a loop counts them
pub seen_all : {B X : Type 0} (g : X → B) (n : ℕ) (xs : List X) → map (λ (p : ℕ × X). g p.1) (enumerate_from n xs) ≡ map g xs
seen_all g n [] = refl
seen_all g n (x ∷ xs) = ap (λ l. g x ∷ l) (seen_all g (n + 1) xs)

-- the place of one that a loop counts
pub place_of : {X : Type 0} (xs : List X) (k : ℕ) (p : ℕ × X) → k < length (enumerate_from 0 xs) → p ≡ get_or (enumerate_from 0 xs) k p → (p.0 ≡ k) × (k < length xs)
place_of {X} xs k p l e =
    let within : k < length xs = omega (arith, l, length-enumerate_from 0 xs) in
    let number : p.0 ≡ 0 + k = ap (λ (q : ℕ × X). q.0) (e ∙ get_or-enumerate_from 0 xs k p within) in
    (omega (arith, number), within)

wide_flat : {A B C : Type 0} (w v : ℕ) (f : List A × B → List (List C)) → ((t : List A) (b : B) → length t ≡ w → AreWide v (f (t, b))) → (ts : List (List A)) (bs : List B) → AreWide w ts → AreWide v (flat_map f (zip ts bs))
wide_flat w v f h [] bs k = tt
wide_flat w v f h (t ∷ ts) [] k = tt
wide_flat {A} {B} {C} w v f h (t ∷ ts) (b ∷ bs) k = all_append (λ (c : List C). length c ≡ v) (f (t, b)) (flat_map f (zip ts bs)) (h t b k.0) (wide_flat w v f h ts bs k.1)

-- # What clauses give

slots_of_item : (at : Bool) (n : ℕ) (x : ItemView) → length (item_values Value at n x) ≡ slots_bound at
slots_of_item true n x = refl
slots_of_item false n x = refl

pub some_bound : (at : Bool) → 0 < slots_bound at
some_bound true = omega arith
some_bound false = omega arith

pub few_bound : (at : Bool) → slots_bound at ≤ 2
few_bound true = omega arith
few_bound false = omega arith

slots_of_none : (at : Bool) → length (empty_values Value at) ≡ slots_bound at
slots_of_none true = refl
slots_of_none false = refl

abbrev with_item : Bool → Tuple ItemView → ℕ × ItemView → Tuple ItemView
with_item at t p = t ++ item_values Value at p.0 p.1

wide_items : (at : Bool) (w : ℕ) (t : Tuple ItemView) (n : ℕ) (items : List ItemView) → length t ≡ w → AreWide (w + slots_bound at) (map (with_item at t) (enumerate_from n items))
wide_items at w t n [] e = tt
wide_items at w t n (x ∷ items) e = (length-append t (item_values Value at n x) ∙ (λ i. e i + slots_of_item at n x i), wide_items at w t (n + 1) items e)

wide_or_empty : (at : Bool) (w : ℕ) (t : Tuple ItemView) (items : List ItemView) → length t ≡ w → AreWide (w + slots_bound at) (with_each_or_empty Value at t items)
wide_or_empty at w t [] e = (length-append t (empty_values Value at) ∙ (λ i. e i + slots_of_none at i), tt)
wide_or_empty at w t (x ∷ items) e = wide_items at w t 1 (x ∷ items) e

pub wide_expanded : (allows at : Bool) (w : ℕ) (stream : List (Tuple ItemView)) (lists : List (List ItemView)) → AreWide w stream → AreWide (w + slots_bound at) (expanded Value allows at stream lists)
wide_expanded true at w stream lists h = wide_flat w (w + slots_bound at) (λ p. with_each_or_empty Value at p.0 p.1) (λ t b e. wide_or_empty at w t b e) stream lists h
wide_expanded false at w stream lists h = wide_flat w (w + slots_bound at) (λ p. with_each Value at p.0 p.1) (λ t b e. wide_items at w t 1 b e) stream lists h

pub length-with_each : (at : Bool) (t : Tuple ItemView) (items : List ItemView) → length (with_each Value at t items) ≡ length items
length-with_each at t items = length-map (enumerate_from 1 items) (with_item at t) ∙ length-enumerate_from 1 items

pub length-or_empty : (at : Bool) (t : Tuple ItemView) (items : List ItemView) → length (with_each_or_empty Value at t items) ≡ max (length items) 1
length-or_empty at t [] = refl
length-or_empty at t (x ∷ items) = omega (arith, length-with_each at t (x ∷ items))

length_pushed : {A : Type 0} (w : ℕ) (t : List A) (x : A) → length t ≡ w → length (t ++ x ∷ []) ≡ w + 1
length_pushed w t x e = length-append t (x ∷ []) ∙ ap (λ n. n + 1) e

pub wide_bound : {X : Type 0} (w : ℕ) (stream : List (Tuple X)) (values : List (List X)) → AreWide w stream → AreWide (w + 1) (bound stream values)
wide_bound w [] values h = tt
wide_bound w (t ∷ ts) [] h = tt
wide_bound w (t ∷ ts) (v ∷ vs) h = (length_pushed w t v h.0, wide_bound w ts vs h.1)

wide_pushed : {X : Type 0} (f : ℕ → List X) (w n : ℕ) (stream : List (Tuple X)) → AreWide w stream → AreWide (w + 1) (map (λ (p : ℕ × Tuple X). p.1 ++ f p.0 ∷ []) (enumerate_from n stream))
wide_pushed f w n [] h = tt
wide_pushed f w n (t ∷ ts) h = (length_pushed w t (f n) h.0, wide_pushed f w (n + 1) ts h.1)

pub wide_numbered : (w : ℕ) (stream : List (Tuple ItemView)) → AreWide w stream → AreWide (w + 1) (numbered Value stream)
wide_numbered w stream h = wide_pushed (λ n. Value (Integer (pos n)) ∷ []) w 1 stream h

-- one tuple more with its number
pub numbered_more : (stream : List (Tuple ItemView)) (i : ℕ) → i < length stream
    → numbered Value (take (i + 1) stream) ≡ numbered Value (take i stream) ++ (get_or stream i [] ++ (Value (Integer (pos (i + 1))) ∷ []) ∷ []) ∷ []
numbered_more stream i l =
    let longer = λ (p : ℕ × Tuple ItemView). p.1 ++ (Value (Integer (pos p.0)) ∷ []) ∷ [] in
    ap (numbered Value) (take_more stream i [] l)
    ∙ ap (map longer) (enumerate_push 1 (take i stream) (get_or stream i []) (i + 1) (omega (arith, length-take-le i stream (omega (arith, l)))))
    ∙ map_push longer (enumerate_from 1 (take i stream)) (i + 1, get_or stream i [])
