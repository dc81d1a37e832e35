-- The items that a comparison of their positions with a number keeps, as a span of them.
use Rattle.std.proofs.Common.{◌≡◌, ℕ, zero, suc, ◌+◌, ◌-◌, ◌<◌, ◌≤◌, ◌++◌, List, [], ◌∷◌, length, map, take, drop, Bool, true, false, Ok, refl, sym, ◌∙◌, ap, subst, ◌⊎◌, inl, inr, arith}
use Rattle.std.specs.Prelude.{ℤ, pos, ◌<ℤ◌, ◌*ℤ◌, nat_le, nat_lt, slice_range}
use Rattle.std.specs.List.{AllByRecursion}
use Rattle.std.specs.declared.cmp.Ordering.{Ordering}
use Rattle.std.specs.declared.cmp.Ordering.TheVariants.{Less, Equal, Greater}
use Rattle.std.specs.Ordering.{MatchOrdering, int_cmp, int_eq, is_eq}
use Rattle.std.specs.Cmp.{int_cmp_is}
use Rattle.std.proofs.lemmas.Bool.{cases_lt, lt-ltb, le-ltb, le-leb, lt-leb, and_left, and_right, and_from}
use Rattle.std.proofs.lemmas.Int.{ints}
use Rattle.std.proofs.lemmas.List.{append-nil, append_assoc, length-map, take-map, drop-map}
use Rattle.xq_atoms.specs.declared.comparisons.CompOp.{CompOp}
use Rattle.xq_atoms.specs.declared.comparisons.CompOp.TheVariants as comp
use Rattle.xq_atoms.specs.Atom.{Integer}
use Rattle.xq_atoms.specs.Compare.{key, key_cmp, holds}
use Rattle.xq_atoms.specs.Decimal.{in_millionths}
use Rattle.xq_trees.specs.declared.items.Item.{Item as Held}
use Rattle.xq_trees.specs.Items.{ItemView, item_view}
use Rattle.xq_trees.specs.Tree.{Tree}
use Rattle.xq_meaning.specs.declared.plans.Plan.{Plan}
use Rattle.xq_meaning.specs.Doing.{Doing, go_on, give, in_turn, more}
use Rattle.xq_meaning.specs.Forms as Forms
use Rattle.xq_meaning.specs.Functions.{Focus}
use Rattle.xq_meaning.specs.Items.{Item}
use Rattle.xq_meaning.specs.Operators.{keeps}
use Rattle.xq_meaning.specs.PlanMeaning.{Frame, plan_mean}
use Rattle.xq_meaning.specs.Readings.{item_at, items_at, AreIn}
use Rattle.xq_meaning.specs.Steps.{focuses_from}
use Rattle.xq_eval.specs.declared.positions.ByPosition.{ByPosition}
use Rattle.xq_eval.specs.declared.positions.ByPosition.TheVariants.{At, Compared}
use Rattle.xq_eval.specs.declared.positions.Span.{Span}
use Rattle.xq_eval.specs.private.Positions.{IsPositionalIn, IsPlaceOf, KeepsSpan, is_within, value_there}
use Rattle.xq_eval.proofs.Steps.{passed_ok}

-- # Those whose place passes a test

abbrev kept : {A : Type 0} → (ℕ → Bool) → List A → List A
kept test [] = []
kept test (x ∷ xs) = Forms.kept_if x (test 0) ++ kept (λ i. test (suc i)) xs

kept_span : {A : Type 0} (test : ℕ → Bool) (xs : List A) (from len : ℕ) → from + len ≤ length xs → ((i : ℕ) → i < from → test i ≡ false) → ((i : ℕ) → from ≤ i → i < from + len → test i ≡ true) → ((i : ℕ) → from + len ≤ i → test i ≡ false)
    → kept test xs ≡ take len (drop from xs)
kept_span test [] zero zero b before inside behind = refl
kept_span test [] zero (suc l) b before inside behind = absurd (omega arith)
kept_span test [] (suc f) l b before inside behind = absurd (omega arith)
kept_span test (x ∷ xs) zero zero b before inside behind =
    ap (λ k. Forms.kept_if x k ++ kept (λ i. test (suc i)) xs) (behind 0 (omega arith))
    ∙ kept_span (λ i. test (suc i)) xs 0 0 (omega arith) (λ i h. absurd (omega arith)) (λ i h k. absurd (omega arith)) (λ i h. behind (suc i) (omega arith))
kept_span test (x ∷ xs) zero (suc l) b before inside behind =
    ap (λ k. Forms.kept_if x k ++ kept (λ i. test (suc i)) xs) (inside 0 (omega arith) (omega arith))
    ∙ ap (λ l. x ∷ l) (kept_span (λ i. test (suc i)) xs 0 l (omega arith) (λ i h. absurd (omega arith)) (λ i h k. inside (suc i) (omega arith) (omega arith)) (λ i h. behind (suc i) (omega arith)))
kept_span test (x ∷ xs) (suc f) l b before inside behind =
    ap (λ k. Forms.kept_if x k ++ kept (λ i. test (suc i)) xs) (before 0 (omega arith))
    ∙ kept_span (λ i. test (suc i)) xs f l (omega arith) (λ i h. before (suc i) (omega arith)) (λ i h k. inside (suc i) (omega arith) (omega arith)) (λ i h. behind (suc i) (omega arith))

-- # The places of a span

before_span : (span : Span) (i : ℕ) → i < span.from → is_within span i ≡ false
before_span span i h = and_left (nat_le span.from i) (nat_lt i span.to) (lt-leb span.from i h)

in_span : (span : Span) (i : ℕ) → span.from ≤ i → i < span.to → is_within span i ≡ true
in_span span i h k = and_from (nat_le span.from i) (nat_lt i span.to) (le-leb span.from i h) (lt-ltb i span.to k)

behind_span : (span : Span) (i : ℕ) → span.to ≤ i → is_within span i ≡ false
behind_span span i h = and_right (nat_le span.from i) (nat_lt i span.to) (le-ltb i span.to h)

-- # One item after another

-- at each the place tells whether it is kept
each_told : (act : Focus → Doing (List Item)) (trees : List Tree) (n i : ℕ) (test : ℕ → Bool) (done xs : List Item)
    → ((k : ℕ) (x : Item) (at : ℕ) → at ≡ i + k + 1 → k < length xs → act (record { item = x; position = at; last = n }) trees ≡ (Ok (Forms.kept_if x (test k)), trees))
    → in_turn (more act) done (focuses_from (suc i) n xs) trees ≡ (Ok (done ++ kept test xs), trees)
each_told act trees n i test done [] h = ap (λ l. (Ok l, trees)) (sym (append-nil done))
each_told act trees n i test done (x ∷ xs) h =
    ap (λ o. go_on (go_on o (λ ys. give (done ++ ys))) (λ ys. in_turn (more act) ys (focuses_from (suc (suc i)) n xs))) (h 0 x (suc i) (omega arith) (omega arith))
    ∙ each_told act trees n (suc i) (λ k. test (suc k)) (done ++ Forms.kept_if x (test 0)) xs (λ k y at e below. h (suc k) y at (omega (arith, e)) (omega arith))
    ∙ ap (λ l. (Ok l, trees)) (append_assoc done (Forms.kept_if x (test 0)) (kept (λ k. test (suc k)) xs))

pub span_kept : (trees : List Tree) (frame : Frame) (p : Plan) (items : List Held) (value : ByPosition) (span : Span) → IsPositionalIn trees frame p (length items) value → KeepsSpan value (length items) span
    → Forms.filtered frame (items_at trees (map item_view items)) (plan_mean p) trees ≡ (Ok (items_at trees (map item_view (slice_range items span.from span.to))), trees)
span_kept trees frame p items value span positional keeping =
    let xs : List Item = items_at trees (map item_view items) in
    let many : length xs ≡ length items = length-map (map item_view items) (item_at trees) ∙ length-map items item_view in
    let order : span.from ≤ span.to = keeping.in_order in
    let fits : span.to ≤ length xs = subst (λ n. span.to ≤ n) (sym many) keeping.to_fits in
    each_told (Forms.passed (plan_mean p) frame) trees (length xs) 0 (is_within span) [] xs
    (λ k x at e below.
    let focus : Focus = record { item = x; position = at; last = length xs } in
    let within : k < length items = subst (λ n. k < n) many below in
    let same : at ≡ k + 1 = omega (arith, e) in
    let answer = subst (λ n. keeps n (items_at trees (value_there value n)) ≡ Ok (is_within span k)) (sym same) (keeping.keeps_those trees k within) in
    passed_ok (plan_mean p) frame focus (items_at trees (value_there value at)) (is_within span k) trees trees (positional.value_is focus many) answer)
    ∙ ap (λ l. (Ok l, trees)) (kept_span (is_within span) xs span.from (span.to - span.from) (omega (arith, fits, order)) (before_span span) (λ i h k. in_span span i h (omega (arith, order, k))) (λ i h. behind_span span i (omega (arith, order, h))))
    ∙ ap (λ l. (Ok (take (span.to - span.from) l), trees)) (drop-map (item_at trees) span.from (map item_view items) ∙ ap (items_at trees) (drop-map item_view span.from items))
    ∙ ap (λ l. (Ok l, trees)) (take-map (item_at trees) (span.to - span.from) (map item_view (drop span.from items)) ∙ ap (items_at trees) (take-map item_view (span.to - span.from) (drop span.from items)))

all_dropped : {A : Type 0} (P : A → Type 0) (n : ℕ) (xs : List A) → AllByRecursion P xs → AllByRecursion P (drop n xs)
all_dropped P zero xs h = h
all_dropped P (suc n) [] h = tt
all_dropped P (suc n) (x ∷ xs) h = all_dropped P n xs h.1

all_taken : {A : Type 0} (P : A → Type 0) (n : ℕ) (xs : List A) → AllByRecursion P xs → AllByRecursion P (take n xs)
all_taken P zero xs h = tt
all_taken P (suc n) [] h = tt
all_taken P (suc n) (x ∷ xs) h = (h.0, all_taken P n xs h.1)

pub span_in : {X A : Type 0} (P : A → Type 0) (view : X → A) (xs : List X) (from to : ℕ) → AllByRecursion P (map view xs) → AllByRecursion P (map view (slice_range xs from to))
span_in P view xs from to h =
    subst (AllByRecursion P) (take-map view (to - from) (drop from xs))
    (all_taken P (to - from) (map view (drop from xs)) (subst (AllByRecursion P) (drop-map view from xs) (all_dropped P from (map view xs) h)))

-- # The order of positions

module _ (number : ℤ) (count : ℕ) (place : Span) (is : IsPlaceOf number count place) where
  abbrev order : ℕ → Ordering
  order i = key_cmp (key (Integer (pos (i + 1)))) (key (Integer number))

  below : (i : ℕ) → i < place.from → order i ≡ Less
  below i h =
      let less : pos (i + 1) <ℤ number = is.before i h in
      sym (int_cmp_is (in_millionths (pos (i + 1))) (in_millionths number) Less (omega (arith, ints, less)))

  same : (i : ℕ) → place.from ≤ i → i < place.to → order i ≡ Equal
  same i h k = sym (int_cmp_is (in_millionths (pos (i + 1))) (in_millionths number) Equal (ap in_millionths (is.inside i h k)))

  above : (i : ℕ) → place.to ≤ i → i < count → order i ≡ Greater
  above i h k =
      let more : number <ℤ pos (i + 1) = is.behind i h k in
      sym (int_cmp_is (in_millionths (pos (i + 1))) (in_millionths number) Greater (omega (arith, ints, more)))

  -- three cases
  by_place : (i : ℕ) (P : Type 0) → i < count → (i < place.from → P) → (place.from ≤ i → i < place.to → P) → (place.to ≤ i → P) → P
  by_place i P h before inside behind = first (cases_lt i place.from)
    where
      second : place.from ≤ i → (i < place.to) ⊎ (place.to ≤ i) → P
      second k (inl l) = inside k l
      second k (inr l) = behind l

      first : (i < place.from) ⊎ (place.from ≤ i) → P
      first (inl k) = before k
      first (inr k) = second k (cases_lt i place.to)

  pub number_kept : KeepsSpan (At number) count place
  number_kept = record {
    in_order = is.in_order;
    to_fits = is.to_fits;
    keeps_those = λ trees i h.
        let judge : Bool → Type 0 = λ b. keeps (i + 1) (items_at trees (value_there (At number) (i + 1))) ≡ Ok b in
        let answer : is_eq (int_cmp number (pos (i + 1))) ≡ is_within place i = by_place i (is_eq (int_cmp number (pos (i + 1))) ≡ is_within place i) h
        (λ k. ap is_eq (sym (int_cmp_is number (pos (i + 1)) Greater (is.before i k))) ∙ sym (before_span place i k))
        (λ k l. ap is_eq (sym (int_cmp_is number (pos (i + 1)) Equal (sym (is.inside i k l)))) ∙ sym (in_span place i k l))
        (λ k. ap is_eq (sym (int_cmp_is number (pos (i + 1)) Less (is.behind i k h))) ∙ sym (behind_span place i k)) in
        ap Ok answer;
  }

  -- an operator, by what it says of each order
  kept_by : (op : CompOp) (span : Span) → span.from ≤ span.to → span.to ≤ count
      → ((i : ℕ) → i < place.from → holds op Less ≡ is_within span i) → ((i : ℕ) → place.from ≤ i → i < place.to → holds op Equal ≡ is_within span i) → ((i : ℕ) → place.to ≤ i → i < count → holds op Greater ≡ is_within span i)
      → KeepsSpan (Compared op number) count span
  kept_by op span a b before inside behind = record {
    in_order = a;
    to_fits = b;
    keeps_those = λ trees i h.
        let answer : holds op (order i) ≡ is_within span i = by_place i (holds op (order i) ≡ is_within span i) h
        (λ k. ap (holds op) (below i k) ∙ before i k)
        (λ k l. ap (holds op) (same i k l) ∙ inside i k l)
        (λ k. ap (holds op) (above i k h) ∙ behind i k h) in
        ap Ok answer;
  }

  pub equal_kept : KeepsSpan (Compared comp.Eq number) count place
  equal_kept = kept_by comp.Eq place is.in_order is.to_fits (λ i k. sym (before_span place i k)) (λ i k l. sym (in_span place i k l)) (λ i k l. sym (behind_span place i k))

  pub less_kept : KeepsSpan (Compared comp.Lt number) count (record { from = 0; to = place.from })
  less_kept =
      let span : Span = record { from = 0; to = place.from } in
      let a = is.in_order in
      let b = is.to_fits in
      kept_by comp.Lt span (omega arith) (omega (arith, a, b)) (λ i k. sym (in_span span i (omega arith) k)) (λ i k l. sym (behind_span span i k)) (λ i k l. sym (behind_span span i (omega (arith, a, k))))

  pub at_most_kept : KeepsSpan (Compared comp.Le number) count (record { from = 0; to = place.to })
  at_most_kept =
      let span : Span = record { from = 0; to = place.to } in
      let a = is.in_order in
      let b = is.to_fits in
      kept_by comp.Le span (omega arith) b (λ i k. sym (in_span span i (omega arith) (omega (arith, a, k)))) (λ i k l. sym (in_span span i (omega arith) l)) (λ i k l. sym (behind_span span i k))

  pub greater_kept : KeepsSpan (Compared comp.Gt number) count (record { from = place.to; to = count })
  greater_kept =
      let span : Span = record { from = place.to; to = count } in
      let a = is.in_order in
      let b = is.to_fits in
      kept_by comp.Gt span b (omega arith) (λ i k. sym (before_span span i (omega (arith, a, k)))) (λ i k l. sym (before_span span i l)) (λ i k l. sym (in_span span i k l))

  pub at_least_kept : KeepsSpan (Compared comp.Ge number) count (record { from = place.from; to = count })
  at_least_kept =
      let span : Span = record { from = place.from; to = count } in
      let a = is.in_order in
      let b = is.to_fits in
      kept_by comp.Ge span (omega (arith, a, b)) (omega arith) (λ i k. sym (before_span span i k)) (λ i k l. sym (in_span span i k (omega (arith, b, l)))) (λ i k l. sym (in_span span i (omega (arith, a, k)) l))
