-- Distinct names, and their numbers.
use Rattle.std.proofs.Common.{◌≡◌, ◌<◌, ◌+◌, ℕ, zero, suc, List, [], ◌∷◌, ◌++◌, map, length, get_or, Bool, true, false, ◌||◌, Option, Some, None, String, string_bytes, refl, sym, ap, ◌∙◌, subst, arith, if◌then◌else◌, append-nil}
use Rattle.std.specs.Prelude.{bytes_eq, slice_get, cond}
use Rattle.std.specs.Option.{option_map}
use Rattle.std.specs.List.{list_any, position, position_from, IsDistinct, AllByRecursion}
use Rattle.std.proofs.lemmas.List.{get_or-map, length-map}
use Rattle.std.proofs.lemmas.Iterator.Adapters.{position_from-zero}
use Rattle.std.proofs.lemmas.List.Quantifiers.{position-Some}
use Rattle.std.proofs.lemmas.Option.{slice_get-map, slice_get-get_or, slice_get_within, get_or_from_slice_get, none-some, same_Some}
use Rattle.std.proofs.lemmas.Slice.Eq.{bytes_eq-Decides}
use Rattle.xq_packed.specs.Packed.{with_name, IsNumbered, IsNumberOf}
use Rattle.xq_packed.specs.private.Shapes.{name_at}

abbrev Text : Type 0
Text = List ℕ

-- # A name among others

-- names are looked for among the strings that hold them
pub any-names : {Z : Type 0} (name : Text) (keys : List (String Z)) → list_any (λ k. bytes_eq name (string_bytes k)) keys ≡ list_any (bytes_eq name) (map string_bytes keys)
any-names name [] = refl
any-names name (k ∷ keys) = ap (λ b. bytes_eq name (string_bytes k) || b) (any-names name keys)

-- a name that is found stands at its number
pub found-names : {Z : Type 0} (name : Text) (keys : List (String Z)) (n : ℕ) → position (λ k. bytes_eq name (string_bytes k)) keys ≡ Some n → IsNumbered (map string_bytes keys) n name
found-names name [] n h = absurd (none-some n h)
found-names name (k ∷ keys) n h =
    let at = position-Some (λ j. bytes_eq name (string_bytes j)) (k ∷ keys) n k h in
    let inside : n < length (map string_bytes (k ∷ keys)) = omega (arith, length-map (k ∷ keys) string_bytes) in
    slice_get-get_or (map string_bytes (k ∷ keys)) n [] inside
    ∙ ap Some (get_or-map string_bytes (k ∷ keys) n k [] at.0 ∙ sym ((bytes_eq-Decides name _).0 at.1))

-- a name that a list of strings holds stands at its number
pub read-few : {Z : Type 0} (names : List (String Z)) (n : ℕ) (k : String Z) → n < length names → k ≡ get_or names n k → IsNumbered (map string_bytes names) n (string_bytes k)
read-few names n k inside is =
    slice_get-map string_bytes names n ∙ ap (option_map string_bytes) (slice_get-get_or names n k inside ∙ ap Some (sym is))

-- and so does one that a table holds
pub read-many : {Z : Type 0} (keys : List (String Z)) (n : ℕ) (k : String Z) → slice_get keys n ≡ Some k → IsNumbered (map string_bytes keys) n (string_bytes k)
read-many keys n k at = slice_get-map string_bytes keys n ∙ ap (option_map string_bytes) at

none_step : (b c : Bool) (i : ℕ) (r : Option ℕ) → cond b (Some i) r ≡ None → (r ≡ None → c ≡ false) → (b || c) ≡ false
none_step true c i r h rest = cc
none_step false c i r h rest = rest h

none_from : {X : Type 0} (p : X → Bool) (i : ℕ) (xs : List X) → position_from p i xs ≡ None → list_any p xs ≡ false
none_from p i [] h = refl
none_from p i (x ∷ xs) h = none_step (p x) (list_any p xs) i (position_from p (i + 1) xs) h (none_from p (i + 1) xs)

-- a name that has no place is not among the strings
pub none-found : {Z : Type 0} (name : Text) (names : List (String Z)) → position (λ k. bytes_eq name (string_bytes k)) names ≡ None → list_any (bytes_eq name) (map string_bytes names) ≡ false
none-found name names h =
    sym (any-names name names) ∙ none_from (λ k. bytes_eq name (string_bytes k)) 0 names (sym (position_from-zero (λ k. bytes_eq name (string_bytes k)) names) ∙ h)

-- # More names at the end

grown_step : (names : List Text) (name : Text) (b : Bool) → (more : List Text) × ((if b then names else names ++ name ∷ []) ≡ names ++ more)
grown_step names name true = ([], sym (append-nil names))
grown_step names name false = (name ∷ [], refl)

-- the names with another are those with some at the end
pub grown : (names : List Text) (name : Text) → (more : List Text) × (with_name names name ≡ names ++ more)
grown names name = grown_step names name (list_any (bytes_eq name) names)

-- a name keeps its number
pub name-stays : (names more : List Text) (n : ℕ) → n < length names → name_at (names ++ more) n ≡ name_at names n
name-stays [] more n h = absurd (omega arith)
name-stays (x ∷ names) more zero h = refl
name-stays (x ∷ names) more (suc n) h = name-stays names more n (omega arith)

-- the name that has a number
pub name-numbered : (names : List Text) (n : ℕ) (name : Text) → IsNumbered names n name → (n < length names) × (name_at names n ≡ name)
name-numbered names n name h = (slice_get_within names n name h, get_or_from_slice_get names n name [] h)

-- # Distinct names

apart_rest : (b c : Bool) → (b || c) ≡ false → c ≡ false
apart_rest true c h = cc
apart_rest false c h = h

differs : (name x : Text) → bytes_eq name x ≡ false → (b : Bool) → bytes_eq x name ≡ b → bytes_eq x name ≡ false
differs name x e false h = h
differs name x e true h =
    let same : name ≡ x = sym ((bytes_eq-Decides x name).0 h) in
    let also : bytes_eq name x ≡ true = (bytes_eq-Decides name x).1 same in
    cc

apart_first : (name x : Text) (b c : Bool) → bytes_eq name x ≡ b → (b || c) ≡ false → bytes_eq x name ≡ false
apart_first name x true c e h = cc
apart_first name x false c e h = differs name x e _ refl

-- a name that is not among them is none of them
pub apart : (names : List Text) (name : Text) → list_any (bytes_eq name) names ≡ false → AllByRecursion (λ x. bytes_eq x name ≡ false) names
apart [] name h = tt
apart (x ∷ names) name h =
    (apart_first name x _ _ refl h, apart names name (apart_rest (bytes_eq name x) _ h))

all_snoc : (x : Text) (names : List Text) (name : Text) → AllByRecursion (λ y. bytes_eq x y ≡ false) names → bytes_eq x name ≡ false → AllByRecursion (λ y. bytes_eq x y ≡ false) (names ++ name ∷ [])
all_snoc x [] name a e = (e, tt)
all_snoc x (y ∷ names) name a e = (a.0, all_snoc x names name a.1 e)

distinct_snoc : (names : List Text) (name : Text) → IsDistinct bytes_eq names → AllByRecursion (λ x. bytes_eq x name ≡ false) names → IsDistinct bytes_eq (names ++ name ∷ [])
unfolding IsDistinct
distinct_snoc [] name d a = (tt, tt)
distinct_snoc (x ∷ names) name d a = (all_snoc x names name d.0 a.0, distinct_snoc names name d.1 a.1)

-- a name that is not among them may be added
pub distinct-more : (names : List Text) (name : Text) → IsDistinct bytes_eq names → list_any (bytes_eq name) names ≡ false → IsDistinct bytes_eq (names ++ name ∷ [])
distinct-more names name d h = distinct_snoc names name d (apart names name h)

not_again : (x name : Text) (names : List Text) (m : ℕ) → x ≡ name → AllByRecursion (λ y. bytes_eq x y ≡ false) names → IsNumbered names m name → ⊥
not_again x name [] m e a h = absurd (omega (arith, slice_get_within [] m name h))
not_again x name (y ∷ names) zero e a h =
    let same : x ≡ y = e ∙ sym (same_Some y name h) in
    let also : bytes_eq x y ≡ true = (bytes_eq-Decides x y).1 same in
    let no : bytes_eq x y ≡ false = a.0 in
    cc
not_again x name (y ∷ names) (suc m) e a h = not_again x name names m e a.1 h

-- two numbers with one name are one
pub one-number : (names : List Text) → IsDistinct bytes_eq names → (n m : ℕ) (name : Text) → IsNumbered names n name → IsNumbered names m name → n ≡ m
unfolding IsDistinct
one-number [] d n m name h k = absurd (omega (arith, slice_get_within [] n name h))
one-number (x ∷ names) d zero zero name h k = refl
one-number (x ∷ names) d (suc n) (suc m) name h k = ap suc (one-number names d.1 n m name h k)
one-number (x ∷ names) d zero (suc m) name h k = absurd (not_again x name names m (same_Some x name h) d.0 k)
one-number (x ∷ names) d (suc n) zero name h k = absurd (not_again x name names n (same_Some x name k) d.0 h)

-- the number of a name among distinct names
pub number-of : (names : List Text) (n : ℕ) (name : Text) → IsDistinct bytes_eq names → IsNumbered names n name → IsNumberOf names n name
number-of names n name d h = record {
  numbered = h;
  only = λ m other k. (
    λ e. (let j : IsNumbered names n other = subst (λ i. IsNumbered names i other) e k in same_Some other name (sym j ∙ h)),
    λ e. one-number names d m n name (subst (λ t. IsNumbered names m t) e k) h,
  );
}

not_first : (b c : Bool) → b ≡ true → (b || c) ≡ false → ⊥
not_first true c e h = cc
not_first false c e h = cc

-- a name that is not among them has no number
pub unnumbered : (names : List Text) (name : Text) → list_any (bytes_eq name) names ≡ false → (n : ℕ) → n < length names → name_at names n ≡ name → ⊥
unnumbered [] name a n h e = absurd (omega arith)
unnumbered (x ∷ names) name a zero h e =
    let also : bytes_eq name x ≡ true = (bytes_eq-Decides name x).1 (sym e) in
    not_first (bytes_eq name x) _ also a
unnumbered (x ∷ names) name a (suc n) h e = unnumbered names name (apart_rest (bytes_eq name x) _ a) n (omega arith) e

-- # NameTable after others

-- a name keeps its number where others follow
pub numbered-stays : (names more : List Text) (n : ℕ) (name : Text) → IsNumbered names n name → IsNumbered (names ++ more) n name
numbered-stays [] more n name h = absurd (omega (arith, slice_get_within [] n name h))
numbered-stays (x ∷ names) more zero name h = h
numbered-stays (x ∷ names) more (suc n) name h = numbered-stays names more n name h

-- a name after others has a number that is greater by how many they are
pub numbered-after : (names more : List Text) (n : ℕ) (name : Text) → IsNumbered more n name → IsNumbered (names ++ more) (length names + n) name
numbered-after [] more n name h = (let e : n ≡ 0 + n = omega arith in subst (λ i. IsNumbered more i name) e h)
numbered-after (x ∷ names) more n name h =
    let e : suc (length names + n) ≡ suc (length names) + n = omega arith in
    subst (λ i. IsNumbered (x ∷ (names ++ more)) i name) e (numbered-after names more n name h)

-- the number of the last name
pub numbered-last : (names : List Text) (name : Text) (n : ℕ) → n ≡ length names → IsNumbered (names ++ name ∷ []) n name
numbered-last names name n e =
    let here : IsNumbered (name ∷ []) 0 name = refl in
    let at : length names + 0 ≡ n = omega arith in
    subst (λ i. IsNumbered (names ++ name ∷ []) i name) at (numbered-after names (name ∷ []) 0 name here)

-- a name that is in neither part is not among both
pub absent-both : (name : Text) (names more : List Text) → list_any (bytes_eq name) names ≡ false → list_any (bytes_eq name) more ≡ false → list_any (bytes_eq name) (names ++ more) ≡ false
absent-both name [] more a b = b
absent-both name (x ∷ names) more a b = absent_step (bytes_eq name x) (list_any (bytes_eq name) names) (list_any (bytes_eq name) (names ++ more)) a (λ rest. absent-both name names more rest b)
  where
    absent_step : (b c d : Bool) → (b || c) ≡ false → (c ≡ false → d ≡ false) → (b || d) ≡ false
    absent_step true c d h rest = cc
    absent_step false c d h rest = rest h

-- a name that is not among both is not in the second part
pub absent-after : (name : Text) (names more : List Text) → list_any (bytes_eq name) (names ++ more) ≡ false → list_any (bytes_eq name) more ≡ false
absent-after name [] more h = h
absent-after name (x ∷ names) more h = absent-after name names more (apart_rest (bytes_eq name x) _ h)
