-- What is before, after and above the context nodes.
use Rattle.std.proofs.Common.{◌≡◌, ℕ, zero, suc, ◌+◌, ◌-◌, ◌<◌, ◌≤◌, List, [], ◌∷◌, length, get_or, take, min, Bool, true, false, ◌&&◌, ◌||◌, nat_eq, nat_lt, nat_le, inl, inr, refl, sym, ◌∙◌, ap, subst, arith}
use Rattle.std.specs.Prelude.{Option, Some, None, slice_get}
use Rattle.std.proofs.lemmas.List.{take_all, length-take, get_or-take}
use Rattle.std.specs.List.{list_any}
use Rattle.std.proofs.lemmas.Bool.{cases_lt, eqb-true, leb-true, le-leb, and_parts, and_left, or_cases}
use Rattle.xq_trees.specs.Forest.{count}
use Rattle.xq_trees.specs.Tree.{Tree, nodes}
use Rattle.xq_trees.specs.Rows.{rows, row_at}
use Rattle.xq_trees.specs.RegionTests.{inside, after, plain_row, in_region}
use Rattle.xq_trees.specs.declared.Axis.{Axis}
use Rattle.xq_trees.specs.declared.Axis.TheVariants as axis
use Rattle.xq_meaning.specs.declared.node_tests.Test.{Test}
use Rattle.xq_axes.specs.Reads.{span, span_end}
use Rattle.xq_axes.specs.private.Hits.{is_among, is_hit, is_wanted, row_passes, below_where, IsRising, IsReached}
use Rattle.xq_axes.specs.private.Downward.{end_of, is_within}
use Rattle.xq_axes.specs.private.Passing.{IsLast, IsEnd, IsLeastEnd, axis_above, is_next_within}
use Rattle.xq_axes.proofs.Lists.{any_from, any_at, any_and, any_or, any_none, below_where-none, got}
use Rattle.xq_trees.proofs.Lists.{same_test}
use Rattle.xq_axes.proofs.Clusters.{inside_true, true_inside}

-- no row of the places from n to before m is wanted where none is hit
pub unwanted : (a : Axis) (test : Test) (t : Tree) (vs : List ℕ) (n m : ℕ) → n ≤ m → ((p : ℕ) → n ≤ p → p < m → is_hit a t vs p ≡ false) → below_where (is_wanted a test t vs) m ≡ below_where (is_wanted a test t vs) n
unwanted a test t vs n m h g = below_where-none (is_wanted a test t vs) n m h (λ p x y. and_left (is_hit a t vs p) (row_passes test (row_at (rows t) p)) (g p x y))

-- # Preceding

pub preceding_hit : (t : Tree) (vs : List ℕ) (last n : ℕ) → IsLast vs last → (nat_lt (end_of t n) last && plain_row (rows t) n) ≡ is_hit axis.Preceding t vs n
preceding_hit t vs last n l =
    let e : nat_lt (end_of t n) last ≡ list_any (λ v. nat_lt (end_of t n) v) vs = same_test (nat_lt (end_of t n) last) (list_any (λ v. nat_lt (end_of t n) v) vs)
    (λ h. any_from (λ v. nat_lt (end_of t n) v) vs l.index 0 l.within (ap (λ v. nat_lt (end_of t n) v) l.is ∙ h))
    (λ h. (let w = any_at (λ v. nat_lt (end_of t n) v) vs 0 h in let g = l.greatest w.index w.within in let x = leb-true (suc (end_of t n)) (get_or vs w.index 0) w.holds in le-leb (suc (end_of t n)) last (omega (arith, g, x)))) in
    ap (λ b. b && plain_row (rows t) n) e ∙ sym (any_and (λ v. nat_lt (end_of t n) v) (plain_row (rows t) n) vs)

pub preceding_none : (t : Tree) (vs : List ℕ) (last p : ℕ) → IsLast vs last → last ≤ p → is_hit axis.Preceding t vs p ≡ false
preceding_none t vs last p l h = any_none (λ v. in_region axis.Preceding (rows t) v p) vs 0 (λ i g e. (
    let x = leb-true (suc (end_of t p)) (get_or vs i 0) (and_parts _ _ e).0 in
    let y = l.greatest i g in
    omega (arith, x, y, h)))

-- # Following

pub following_hit : (t : Tree) (vs : List ℕ) (least n : ℕ) → IsLeastEnd t vs least → least < n → plain_row (rows t) n ≡ is_hit axis.Following t vs n
following_hit t vs least n l h =
    let e : list_any (λ v. after (rows t) v n) vs ≡ true = any_from (λ v. after (rows t) v n) vs l.index 0 l.within (le-leb (suc (end_of t (get_or vs l.index 0))) n (let x = l.is in omega (arith, x, h))) in
    sym (any_and (λ v. after (rows t) v n) (plain_row (rows t) n) vs ∙ ap (λ b. b && plain_row (rows t) n) e)

pub following_none : (t : Tree) (vs : List ℕ) (least p : ℕ) → IsLeastEnd t vs least → p ≤ least → is_hit axis.Following t vs p ≡ false
following_none t vs least p l h = any_none (λ v. in_region axis.Following (rows t) v p) vs 0 (λ i g e. (
    let x = leb-true (suc (end_of t (get_or vs i 0))) p (and_parts _ _ e).0 in
    let y = l.least_of i g in
    omega (arith, x, y, h)))

-- # Ancestors

within_some : (o : Option ℕ) (v last : ℕ) → o ≡ Some v → is_within o last ≡ nat_le v last
within_some o v last e = ap (λ x. is_within x last) e

slice_get-at : (vs : List ℕ) (i : ℕ) → i < length vs → slice_get vs i ≡ Some (get_or vs i 0)
slice_get-at [] i h = absurd (omega (arith, h))
slice_get-at (v ∷ vs) zero h = refl
slice_get-at (v ∷ vs) (suc i) h = slice_get-at vs i (omega (arith, h))

slice_get-past : (vs : List ℕ) (i : ℕ) → length vs ≤ i → slice_get vs i ≡ None
slice_get-past [] i h = refl
slice_get-past (v ∷ vs) zero h = absurd (omega (arith, h))
slice_get-past (v ∷ vs) (suc i) h = slice_get-past vs i (omega (arith, h))

-- some context is inside n where the next one after n is
pub above_some : (t : Tree) (vs : List ℕ) (met n : ℕ) → IsRising vs → IsReached vs met (n + 1) → is_next_within vs met (end_of t n) ≡ list_any (λ v. inside (rows t) n v) vs
above_some t vs met n up r = same_test (is_next_within vs met (end_of t n)) (list_any (λ v. inside (rows t) n v) vs)
    (λ h. elim (cases_lt met (length vs)) [
      | inl k ↦ (
          let e = within_some (slice_get vs met) (get_or vs met 0) (end_of t n) (slice_get-at vs met k) in
          let a = leb-true (get_or vs met 0) (end_of t n) (sym e ∙ h) in
          let b = r.others met (omega arith) k in
          any_from (λ v. inside (rows t) n v) vs met 0 k (inside_true (rows t) n (get_or vs met 0) (omega (arith, b), a)))
      | inr k ↦ absurd (let e : is_next_within vs met (end_of t n) ≡ false = ap (λ o. is_within o (end_of t n)) (slice_get-past vs met k) in let z : true ≡ false = sym h ∙ e in cc)
    ])
    (λ h. (
    let w = any_at (λ v. inside (rows t) n v) vs 0 h in
    let m = true_inside (rows t) n (get_or vs w.index 0) w.holds in
    let a = m.0 in
    let b = m.1 in
    elim (cases_lt w.index met) [
      | inl k ↦ (let c = r.before w.index k in absurd (omega (arith, a, c)))
      | inr k ↦ (
          let l : met < length vs = (let x = w.within in omega arith) in
          let le : get_or vs met 0 ≤ end_of t n = elim (cases_lt met w.index) [
            | inl o ↦ (let x = up met w.index o w.within in omega (arith, x, b))
            | inr o ↦ (let same : w.index ≡ met = omega arith in subst (λ i. get_or vs i 0 ≤ end_of t n) same b)
          ] in
          within_some (slice_get vs met) (get_or vs met 0) (end_of t n) (slice_get-at vs met l) ∙ le-leb (get_or vs met 0) (end_of t n) le)
    ]))

pub above_hit : (t : Tree) (vs : List ℕ) (or_self context above : Bool) (n : ℕ) → context ≡ is_among vs n → above ≡ list_any (λ v. inside (rows t) n v) vs → ((or_self && context) || above) ≡ is_hit (axis_above or_self) t vs n
above_hit t vs true context above n c a =
    ap (λ b. b || above) c ∙ ap (λ b. is_among vs n || b) a ∙ sym (any_or (λ v. nat_eq v n) (λ v. inside (rows t) n v) vs)
above_hit t vs false context above n c a = a

pub above_none : (t : Tree) (vs : List ℕ) (or_self : Bool) (last p : ℕ) → IsLast vs last → last < p → is_hit (axis_above or_self) t vs p ≡ false
above_none t vs true last p l h = any_none (λ v. in_region axis.AncestorOrSelf (rows t) v p) vs 0 (λ i g e. (
    let y = l.greatest i g in
    elim (or_cases _ _ e) [
      | inl x ↦ (let z = eqb-true (get_or vs i 0) p x in omega (arith, y, z, h))
      | inr x ↦ (let z = (true_inside (rows t) p (get_or vs i 0) x).0 in omega (arith, y, z, h))
    ]))
above_none t vs false last p l h = any_none (λ v. in_region axis.Ancestor (rows t) v p) vs 0 (λ i g e. (
    let y = l.greatest i g in
    let z = (true_inside (rows t) p (get_or vs i 0) e).0 in
    omega (arith, y, z, h)))

-- # Whole searches

pub empty_step : (a : Axis) (test : Test) (t : Tree) (vs : List ℕ) (n : ℕ) → length vs ≡ 0 → [] ≡ below_where (is_wanted a test t vs) n
empty_step a test t [] n e = sym (unwanted a test t [] 0 n (omega arith) (λ p x y. refl))
empty_step a test t (v ∷ vs) n e = absurd (omega (arith, e))

pub last_is : (vs : List ℕ) (last : ℕ) → IsRising vs → slice_get vs (length vs - 1) ≡ Some last → IsLast vs last
last_is vs last up e =
    let g = got vs (length vs - 1) last e in
    let l = g.0 in
    let same = g.1 in
    record {
      index = length vs - 1;
      within = l;
      is = same;
      greatest = λ i h. elim (cases_lt i (length vs - 1)) [
        | inl k ↦ (let x = up i (length vs - 1) k l in omega (arith, x, same))
        | inr k ↦ (let ie : length vs - 1 ≡ i = omega arith in subst (λ j. get_or vs j 0 ≤ last) ie (omega (arith, same)))
      ];
    }

pub preceding_all : (test : Test) (t : Tree) (vs : List ℕ) (last : ℕ) → IsLast vs last → 0 < last → below_where (is_wanted axis.Preceding test t vs) (span_end t (span 0 (last - 1))) ≡ below_where (is_wanted axis.Preceding test t vs) (count (nodes t))
preceding_all test t vs last l h = sym (unwanted axis.Preceding test t vs (span_end t (span 0 (last - 1))) (count (nodes t)) (omega arith) (λ p x y. preceding_none t vs last p l (omega (arith, x, y, h))))

pub above_all : (or_self : Bool) (test : Test) (t : Tree) (vs : List ℕ) (last : ℕ) → IsLast vs last → below_where (is_wanted (axis_above or_self) test t vs) (span_end t (span 0 last)) ≡ below_where (is_wanted (axis_above or_self) test t vs) (count (nodes t))
above_all or_self test t vs last l = sym (unwanted (axis_above or_self) test t vs (span_end t (span 0 last)) (count (nodes t)) (omega arith) (λ p x y. above_none t vs or_self last p l (omega (arith, x, y))))

pub following_start : (test : Test) (t : Tree) (vs : List ℕ) (least : ℕ) → IsLeastEnd t vs least → below_where (is_wanted axis.Following test t vs) (least + 1) ≡ []
following_start test t vs least l = unwanted axis.Following test t vs 0 (least + 1) (omega arith) (λ p x y. following_none t vs least p l (omega (arith, y)))

pub following_all : (test : Test) (t : Tree) (vs : List ℕ) (least : ℕ) → IsLeastEnd t vs least → below_where (is_wanted axis.Following test t vs) (span_end t (span (least + 1) 4294967295)) ≡ below_where (is_wanted axis.Following test t vs) (count (nodes t))
following_all test t vs least l =
    let r = l.is_tree.room in
    let h = l.is_there in
    let e : span_end t (span (least + 1) 4294967295) ≡ count (nodes t) = omega (arith, r, h) in
    ap (below_where (is_wanted axis.Following test t vs)) e

-- the least end of the first places
pub record IsLeastSoFar (t : Tree) (vs : List ℕ) (n least : ℕ) : Type 0 where
  pub none : n ≡ 0 → least ≡ 18446744073709551615
  pub some : 0 < n → IsLeastEnd t (take n vs) least

pub least_of_all : (t : Tree) (vs : List ℕ) (n least : ℕ) → length vs ≤ n → 0 < length vs → IsLeastSoFar t vs n least → IsLeastEnd t vs least
least_of_all t vs n least h k l = subst (λ us. IsLeastEnd t us least) (take_all n vs h) (l.some (omega (arith, h, k)))

pub least_none : (t : Tree) (vs : List ℕ) → IsLeastSoFar t vs 0 18446744073709551615
least_none t vs = record { none = λ e. refl; some = λ h. absurd (omega (arith, h)) }

-- a context that begins after the least end
pub least_over : (t : Tree) (vs : List ℕ) (n least : ℕ) → n < length vs → least ≤ get_or vs n 0 → get_or vs n 0 < 4294967296 → IsLeastSoFar t vs n least → IsLeastSoFar t vs (n + 1) least
least_over t vs n least h k fits l =
    let some : 0 < n = elim (cases_lt 0 n) [ inl x ↦ x | inr x ↦ (let z = l.none (omega arith) in absurd (omega (arith, z, k, fits))) ] in
    let w = l.some some in
    record {
      none = λ e. absurd (omega (arith, e));
      some = λ _. record {
        is_tree = w.is_tree;
        is_there = w.is_there;
        index = w.index;
        within = (let x = w.within in let a = length-take n vs in let b = length-take (n + 1) vs in omega (arith, x, a, b, h));
        is = ap (λ v. end_of t v) (get_or-take (n + 1) vs w.index 0 (first w) ∙ sym (get_or-take n vs w.index 0 (below w))) ∙ w.is;
        least_of = λ i g. elim (cases_lt i n) [
          | inl m ↦ subst (λ v. least ≤ end_of t v) (get_or-take n vs i 0 m ∙ sym (get_or-take (n + 1) vs i 0 (omega (arith, m)))) (w.least_of i (let a = length-take n vs in omega (arith, a, m, h)))
          | inr m ↦ (
              let same : i ≡ n = (let b = length-take (n + 1) vs in omega (arith, b, g, m)) in
              let e : get_or vs n 0 ≡ get_or (take (n + 1) vs) i 0 = ap (λ j. get_or vs j 0) (sym same) ∙ sym (get_or-take (n + 1) vs i 0 (omega (arith, same))) in
              subst (λ v. least ≤ end_of t v) e (omega (arith, k)))
        ];
      };
    }
  where
    below : (w : IsLeastEnd t (take n vs) least) → w.index < n
    below w = let x = w.within in let a = length-take n vs in omega (arith, x, a)

    first : (w : IsLeastEnd t (take n vs) least) → w.index < n + 1
    first w = omega (arith, below w)

-- a context whose rows end there
pub least_more : (t : Tree) (vs : List ℕ) (n least last new : ℕ) → n < length vs → IsEnd t (get_or vs n 0) last → last < 8589934592 → new ≡ min least last → IsLeastSoFar t vs n least → IsLeastSoFar t vs (n + 1) new
least_more t vs n least last new h e small m l =
    let len = length-take (n + 1) vs in
    let old = length-take n vs in
    let here : get_or (take (n + 1) vs) n 0 ≡ get_or vs n 0 = get_or-take (n + 1) vs n 0 (omega arith) in
    let at : (i : ℕ) → i < n → get_or (take n vs) i 0 ≡ get_or (take (n + 1) vs) i 0 = λ i x. get_or-take n vs i 0 x ∙ sym (get_or-take (n + 1) vs i 0 (omega (arith, x))) in
    let each : (i : ℕ) → i < length (take (n + 1) vs) → new ≤ end_of t (get_or (take (n + 1) vs) i 0) = λ i g. elim (cases_lt i n) [
      | inl k ↦ (
          let w = l.some (omega (arith, k)) in
          let x = w.least_of i (omega (arith, k, old, h)) in
          subst (λ v. new ≤ end_of t v) (at i k) (omega (arith, x, m)))
      | inr k ↦ (
          let same : n ≡ i = omega (arith, g, k, len) in
          let z = e.is in
          subst (λ j. new ≤ end_of t (get_or (take (n + 1) vs) j 0)) same (subst (λ v. new ≤ end_of t v) (sym here) (omega (arith, m, z))))
    ] in
    record {
      none = λ z. absurd (omega (arith, z));
      some = λ _. elim (cases_lt least last) [
        | inl k ↦ (
            let some : 0 < n = elim (cases_lt 0 n) [ inl x ↦ x | inr x ↦ (let z = l.none (omega arith) in absurd (omega (arith, z, k, small))) ] in
            let w = l.some some in
            let same : least ≡ new = omega (arith, m, k) in
            let inside : w.index < n = (let x = w.within in omega (arith, x, old)) in
            record {
              is_tree = w.is_tree;
              is_there = (let x = w.is_there in omega (arith, x, same));
              index = w.index;
              within = omega (arith, inside, len, h);
              is = ap (λ v. end_of t v) (sym (at w.index inside)) ∙ w.is ∙ same;
              least_of = each;
            })
        | inr k ↦ (
            let same : last ≡ new = omega (arith, m, k) in
            record {
              is_tree = e.is_tree;
              is_there = (let x = e.within in omega (arith, x, same));
              index = n;
              within = omega (arith, len, h);
              is = ap (λ v. end_of t v) here ∙ sym e.is ∙ same;
              least_of = each;
            })
      ];
    }
