-- NameTable are distinct where their numbers are.
use Rattle.std.proofs.Common.{◌≡◌, ◌↔◌, ◌<◌, ◌+◌, ℕ, zero, suc, List, [], ◌∷◌, ◌++◌, map, take, length, get_or, Bool, true, false, not, ◌||◌, Some, refl, sym, ap, ◌∙◌, subst, arith, if◌then◌else◌}
use Rattle.std.specs.Prelude.{bytes_eq, nat_eq, nat_lt, IsTrue, IfOk, IfNone, Option, None, Result, Ok, Err}
use Rattle.std.specs.Cmp.{nat_eq_equiv}
use Rattle.std.specs.List.{list_any, IsDistinct, AllByRecursion, IsAllAdjacentAnswer}
use Rattle.std.specs.List.Sorted.{IsStrictlyIncreasing}
use Rattle.std.proofs.lemmas.Bool.{eqb-true, eq-eqb, ne_eqb, true≢false, ltb-true}
use Rattle.std.proofs.lemmas.List.{get_or-map, length-map, take-map, map_more}
use Rattle.std.proofs.lemmas.Map.Keys.{IsDistinct-head, IsDistinct-tail, IsDistinct-cons, IsDistinct-push, IsDistinct-from_apart, apart_from_distinct, sorted_from_strictly_increasing, below_from_sorted}
use Rattle.std.proofs.lemmas.Option.{slice_get-get_or}
use Rattle.std.proofs.lemmas.Slice.Eq.{bytes_eq-Decides}
use Rattle.indexmap.specs.IndexSet.{insert_key}
use Rattle.xq_trees.specs.Rows.{Row, row_name}
use Rattle.xq_packed.specs.declared.shapes.Shape.{Shape}
use Rattle.xq_packed.specs.private.Shapes.{value_end, name_at, number_of, rows_of_shapes, AreShapes}
use Rattle.xq_packed.proofs.Numbering.{one-number}

abbrev Text : Type 0
Text = List ℕ

pub names-listed : (text : Text) (names : List Text) (start : ℕ) (shapes : List Shape) → map row_name (rows_of_shapes text names start shapes) ≡ map (λ (s : Shape). name_at names s.name) shapes
names-listed text names start [] = refl
names-listed text names start (s ∷ shapes) = ap (λ ns. name_at names s.name ∷ ns) (names-listed text names (value_end s) shapes)

none_apart : {K : Type 0} (e : K → K → Bool) → IsDistinct e []
unfolding IsDistinct
none_apart e = tt

module _ (text : Text) (names : List Text) (d : IsDistinct bytes_eq names) where
  apart_names : (n m : ℕ) → n < length names → m < length names → nat_eq n m ≡ false → bytes_eq (name_at names n) (name_at names m) ≡ false
  apart_names n m a b e = by (bytes_eq (name_at names n) (name_at names m)) refl
    where
      by : (t : Bool) → bytes_eq (name_at names n) (name_at names m) ≡ t → bytes_eq (name_at names n) (name_at names m) ≡ false
      by false h = h
      by true h = absurd (
          let same : name_at names n ≡ name_at names m = (bytes_eq-Decides (name_at names n) (name_at names m)).0 h in
          let one : n ≡ m = one-number names d n m (name_at names n) (slice_get-get_or names n [] a) (slice_get-get_or names m [] b ∙ ap Some (sym same)) in
          true≢false (sym (eq-eqb n m one) ∙ e)
          )

  apart_numbers : (n m : ℕ) → bytes_eq (name_at names n) (name_at names m) ≡ false → nat_eq n m ≡ false
  apart_numbers n m e = by (nat_eq n m) refl
    where
      by : (t : Bool) → nat_eq n m ≡ t → nat_eq n m ≡ false
      by false h = h
      by true h = absurd (
          let same : name_at names n ≡ name_at names m = ap (name_at names) (eqb-true n m h) in
          true≢false (sym ((bytes_eq-Decides (name_at names n) (name_at names m)).1 same) ∙ e)
          )

  each_name : (s : Shape) (start : ℕ) (shapes : List Shape) → s.name < length names → AreShapes text names start shapes → AllByRecursion (λ m. nat_eq s.name m ≡ false) (map number_of shapes) → AllByRecursion (λ t. bytes_eq (name_at names s.name) t ≡ false) (map (λ (q : Shape). name_at names q.name) shapes)
  each_name s start [] a h apart = tt
  each_name s start (q ∷ shapes) a h apart = (apart_names s.name q.name a h.0.named apart.0, each_name s (value_end q) shapes a h.1 apart.1)

  each_number : (s : Shape) (shapes : List Shape) → AllByRecursion (λ t. bytes_eq (name_at names s.name) t ≡ false) (map (λ (q : Shape). name_at names q.name) shapes) → AllByRecursion (λ m. nat_eq s.name m ≡ false) (map number_of shapes)
  each_number s [] apart = tt
  each_number s (q ∷ shapes) apart = (apart_numbers s.name q.name apart.0, each_number s shapes apart.1)

  to_names : (start : ℕ) (shapes : List Shape) → AreShapes text names start shapes → IsDistinct nat_eq (map number_of shapes) → IsDistinct bytes_eq (map (λ (s : Shape). name_at names s.name) shapes)
  to_names start [] h apart = none_apart bytes_eq
  to_names start (s ∷ shapes) h apart =
      IsDistinct-cons bytes_eq (name_at names s.name) (map (λ (q : Shape). name_at names q.name) shapes)
      (each_name s (value_end s) shapes h.0.named h.1 (IsDistinct-head nat_eq s.name (map number_of shapes) apart))
      (to_names (value_end s) shapes h.1 (IsDistinct-tail nat_eq s.name (map number_of shapes) apart))

  to_numbers : (shapes : List Shape) → IsDistinct bytes_eq (map (λ (s : Shape). name_at names s.name) shapes) → IsDistinct nat_eq (map number_of shapes)
  to_numbers [] apart = none_apart nat_eq
  to_numbers (s ∷ shapes) apart =
      IsDistinct-cons nat_eq s.name (map number_of shapes)
      (each_number s shapes (IsDistinct-head bytes_eq (name_at names s.name) (map (λ (q : Shape). name_at names q.name) shapes) apart))
      (to_numbers shapes (IsDistinct-tail bytes_eq (name_at names s.name) (map (λ (q : Shape). name_at names q.name) shapes) apart))

  -- the rows of shapes have distinct names where the shapes have distinct numbers
  pub distinct-rows : (start : ℕ) (shapes : List Shape) (rows : List Row) (r : Bool) → AreShapes text names start shapes → rows ≡ rows_of_shapes text names start shapes → IsTrue r ↔ IsDistinct nat_eq (map number_of shapes) → IsTrue r ↔ IsDistinct bytes_eq (map row_name rows)
  distinct-rows start shapes rows r h e decided =
      let same : map row_name rows ≡ map (λ (s : Shape). name_at names s.name) shapes = ap (map row_name) e ∙ names-listed text names start shapes in (
        λ t. subst (IsDistinct bytes_eq) (sym same) (to_names start shapes h (decided.0 t)),
        λ apart. decided.1 (to_numbers shapes (subst (IsDistinct bytes_eq) same apart)),
      )

-- # Numbers that ascend

abbrev pub Ascends : List Shape → Bool → Type 0
Ascends shapes r = IsAllAdjacentAnswer (λ (x y : Shape) (b : Bool). b ≡ nat_lt x.name y.name) shapes r

rising : (shapes : List Shape) → Ascends shapes true → IsStrictlyIncreasing (map number_of shapes)
rising [] h k l = absurd (omega arith)
rising (s ∷ shapes) h k l =
    let n = length-map (s ∷ shapes) number_of in
    let lt : true ≡ nat_lt (get_or (s ∷ shapes) k s).name (get_or (s ∷ shapes) (k + 1) s).name = h k s (omega (arith, l, n)) in
    let at_k = get_or-map number_of (s ∷ shapes) k s 0 (omega (arith, l, n)) in
    let at_next = get_or-map number_of (s ∷ shapes) (k + 1) s 0 (omega (arith, l, n)) in
    omega (arith, at_k, at_next, ltb-true _ _ (sym lt))

pub distinct-ascending : (shapes : List Shape) (r : Bool) → Ascends shapes r → IsTrue r → IsDistinct nat_eq (map number_of shapes)
distinct-ascending shapes true h t =
    let ns = map number_of shapes in
    IsDistinct-from_apart nat_eq ns (λ i j e l b. ne_eqb _ _ (λ same. let lt = below_from_sorted ns i j e (sorted_from_strictly_increasing ns (rising shapes h)) l b in omega (arith, same, lt)))
distinct-ascending shapes false h t = absurd (true≢false (sym t))

-- # Numbers that are seen one by one

flips : (n m : ℕ) → nat_eq n m ≡ nat_eq m n
flips n m = nat_eq_equiv.symm n m

not_before : (ks : List ℕ) (i n : ℕ) → i < length ks → n ≡ get_or ks i 0 → IsDistinct nat_eq ks → list_any (nat_eq n) (take i ks) ≡ false
not_before [] i n inside here d = absurd (omega arith)
not_before (k ∷ ks) zero n inside here d = refl
not_before (k ∷ ks) (suc i) n inside here d =
    let apart : nat_eq k (get_or ks i 0) ≡ false = apart_from_distinct nat_eq (k ∷ ks) 0 (suc i) 0 d (omega arith) inside in
    let first : nat_eq n k ≡ false = flips n k ∙ ap (nat_eq k) here ∙ apart in
    ap (λ b. b || list_any (nat_eq n) (take i ks)) first ∙ not_before ks i n (omega arith) here (IsDistinct-tail nat_eq k ks d)

module _ (shapes : List Shape) (i : ℕ) (s : Shape) (keys : List ℕ) (inside : i < length shapes) (here : s ≡ get_or shapes i s) (seen : keys ≡ map number_of (take i shapes)) where
  number_here : s.name ≡ get_or (map number_of shapes) i 0
  number_here = ap number_of here ∙ sym (get_or-map number_of shapes i s 0 inside)

  -- one that was seen before
  pub doubled : (fresh : Bool) → fresh ≡ not (list_any (nat_eq s.name) keys) → fresh ≡ false → IsTrue false ↔ IsDistinct nat_eq (map number_of shapes)
  doubled fresh e stale = (
    λ t. absurd (true≢false (sym t)),
    λ d. absurd (
        let none : list_any (nat_eq s.name) keys ≡ false =
        ap (list_any (nat_eq s.name)) (seen ∙ sym (take-map number_of i shapes)) ∙ not_before (map number_of shapes) i s.name (omega (arith, inside, length-map shapes number_of)) number_here d in
        true≢false (ap not (sym none) ∙ sym e ∙ stale)
        ),
  )

  -- one that is new
  pub seen_more : (keys' : List ℕ) → keys' ≡ insert_key nat_eq keys s.name → list_any (nat_eq s.name) keys ≡ false → keys' ≡ map number_of (take (i + 1) shapes)
  seen_more keys' e none =
      e ∙ ap (λ b. if b then keys else keys ++ s.name ∷ []) none ∙ ap (λ ks. ks ++ s.name ∷ []) seen
      ∙ ap (λ (q : Shape). map number_of (take i shapes) ++ number_of q ∷ []) here
      ∙ sym (map_more number_of shapes i s inside)

  pub distinct_more : list_any (nat_eq s.name) keys ≡ false → IsDistinct nat_eq (map number_of (take i shapes)) → IsDistinct nat_eq (map number_of (take (i + 1) shapes))
  distinct_more none d =
      let more : map number_of (take (i + 1) shapes) ≡ map number_of (take i shapes) ++ s.name ∷ [] =
      map_more number_of shapes i s inside ∙ ap (λ (q : Shape). map number_of (take i shapes) ++ number_of q ∷ []) (sym here) in
      subst (IsDistinct nat_eq) (sym more) (IsDistinct-push nat_eq_equiv (map number_of (take i shapes)) s.name d (ap (list_any (nat_eq s.name)) (sym seen) ∙ none))

-- what the answer says of a number that was put in
pub is_new : (fresh b : Bool) → fresh ≡ not b → fresh ≡ true → b ≡ false
is_new fresh true e t = absurd (true≢false (sym t ∙ e))
is_new fresh false e t = refl

-- what an answer says where it says more
pub if_ok : {A E : Type 0} (P Q : A → Type 0) → ((x : A) → P x → Q x) → (r : Result A E) → IfOk r P → IfOk r Q
if_ok P Q f (Ok x) h = f x h
if_ok P Q f (Err e) h = tt

pub if_none : {A : Type 0} (P Q : Type 0) → (P → Q) → (r : Option A) → IfNone r P → IfNone r Q
if_none P Q f (Some x) h = tt
if_none P Q f None h = f h

-- # One number looked for among those after it

left_false : (a b : Bool) → (a || b) ≡ false → a ≡ false
left_false false b h = refl
left_false true b h = h

right_false : (a b : Bool) → (a || b) ≡ false → b ≡ false
right_false false b h = h
right_false true b h = absurd (true≢false h)

none_same : (n : ℕ) (ks : List ℕ) → list_any (nat_eq n) ks ≡ false → AllByRecursion (λ m. nat_eq n m ≡ false) ks
none_same n [] h = tt
none_same n (k ∷ ks) h = (left_false (nat_eq n k) (list_any (nat_eq n) ks) h, none_same n ks (right_false (nat_eq n k) (list_any (nat_eq n) ks) h))

one_same : (n : ℕ) (ks : List ℕ) → list_any (nat_eq n) ks ≡ true → AllByRecursion (λ m. nat_eq n m ≡ false) ks → ⊥
one_same n [] h apart = true≢false (sym h)
one_same n (k ∷ ks) h apart = one_same n ks (sym (ap (λ b. b || list_any (nat_eq n) ks) apart.0) ∙ h) apart.1

-- the first shape has a number of its own: the others decide
pub others_decide : (shapes after : List Shape) (first : Shape) → shapes ≡ first ∷ after → list_any (nat_eq first.name) (map number_of after) ≡ false
    → IsDistinct nat_eq (map number_of shapes) ↔ IsDistinct nat_eq (map number_of after)
others_decide shapes after first is none =
    let here = ap (map number_of) is in (
      λ d. IsDistinct-tail nat_eq first.name (map number_of after) (subst (IsDistinct nat_eq) here d),
      λ d. subst (IsDistinct nat_eq) (sym here) (IsDistinct-cons nat_eq first.name (map number_of after) (none_same first.name (map number_of after) none) d),
    )

-- it has that of another one
pub not_distinct : (shapes after : List Shape) (first : Shape) → shapes ≡ first ∷ after → list_any (nat_eq first.name) (map number_of after) ≡ true → IsDistinct nat_eq (map number_of shapes) → ⊥
not_distinct shapes after first is some d =
    one_same first.name (map number_of after) some (IsDistinct-head nat_eq first.name (map number_of after) (subst (IsDistinct nat_eq) (ap (map number_of) is) d))

pub none_distinct : (shapes : List Shape) → length shapes ≡ 0 → IsDistinct nat_eq (map number_of shapes)
none_distinct [] none = none_apart nat_eq
none_distinct (s ∷ shapes) none = absurd (omega (arith, none))
