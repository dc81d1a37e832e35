-- What is above a node, climbed from parent to parent.
use Rattle.std.proofs.Common.{◌≡◌, ℕ, zero, suc, ◌+◌, ◌-◌, ◌<◌, ◌≤◌, List, [], ◌∷◌, ◌++◌, length, get_or, min, Bool, true, false, ◌||◌, ◌&&◌, eqb, cond, inl, inr, refl, sym, ◌∙◌, ap, subst, arith}
use Rattle.std.specs.Prelude.{Option, Some, None, slice_get, reverse}
use Rattle.std.proofs.lemmas.Bool.{cases_lt, eqb-true, eq-eqb, or_cases, false_from_ne_true}
use Rattle.std.proofs.lemmas.List.{append-nil, append_assoc, reverse-append}
use Rattle.std.proofs.lemmas.List.Folds.{list_any-append}
use Rattle.std.specs.List.{list_any}
use Rattle.xq_trees.specs.Forest.{count}
use Rattle.xq_trees.specs.Tree.{Tree, nodes}
use Rattle.xq_trees.specs.Rows.{rows, row_at}
use Rattle.xq_trees.specs.RegionTests.{inside, in_region}
use Rattle.xq_trees.specs.declared.Axis.{Axis}
use Rattle.xq_trees.specs.declared.Axis.TheVariants as axis
use Rattle.xq_trees.proofs.Lists.{same_test}
use Rattle.xq_sources.specs.Parents.{IsParentRow}
use Rattle.xq_axes.specs.Reads.{Span, span_end}
use Rattle.xq_axes.specs.private.Hits.{is_among, is_hit, below_where, AreUnhit, IsRising, IsReached}
use Rattle.xq_axes.specs.private.Downward.{stop, end_of, is_within}
use Rattle.xq_axes.specs.private.Waiting.{rows_below}
use Rattle.xq_axes.specs.private.Passing.{axis_above, places_above, AreHits}
use Rattle.xq_axes.proofs.Lists.{any_none, below_where-none, below_where-agree, not_among, reached_over, got, got_none}
use Rattle.xq_axes.proofs.Clusters.{inside_true, true_inside}
use Rattle.xq_axes.proofs.KnownParents.{length-rows, one_rises}
use Rattle.xq_axes.proofs.Named.{below_less, below_rises}
use Rattle.xq_axes.proofs.Ranges.{above_none, last_is}
use Rattle.xq_axes.proofs.GoingOn.{after_last}
use Rattle.xq_axes.proofs.Sizes.{node_of}
use Rattle.xq_axes.proofs.Trees.{inside_deeper, inside_trans, inside_ends, between_deeper}

-- # One parent up

module _ (t : Tree) (u v : ℕ) (q : IsParentRow (rows t) u v) where
  there_below : v < count (nodes t)
  there_below = let x = q.there in let y = length-rows t in omega (arith, x, y)

  -- no row between a node and its parent holds the node
  none_between : (p : ℕ) → suc u ≤ p → p < v → inside (rows t) p v ≡ false
  none_between p a b = false_from_ne_true (inside (rows t) p v) (λ e. (
      let hv = there_below in
      let hp : p < count (nodes t) = omega (arith, b, hv) in
      let l = q.level in
      let x = between_deeper t u v p hv q.inside a (omega (arith, b)) in
      let y = inside_deeper t p v hp hv (true_inside (rows t) p v e) in
      omega (arith, l, x, y)))

  -- what is above the parent is what is above the node but for the parent
  same_above : (p : ℕ) → p < u → inside (rows t) p v ≡ inside (rows t) p u
  same_above p l = same_test (inside (rows t) p v) (inside (rows t) p u)
      (λ e. (let h = (true_inside (rows t) p v e).1 in let less = q.inside.0 in inside_true (rows t) p u (l, omega (arith, h, less))))
      (λ e. inside_true (rows t) p v (inside_trans t p u v there_below (true_inside (rows t) p u e) q.inside))

  pub one_up : places_above t v ≡ places_above t u ++ u ∷ []
  one_up =
      let f : ℕ → Bool = λ p. inside (rows t) p v in
      let g : ℕ → Bool = λ p. inside (rows t) p u in
      let here : f u ≡ true = inside_true (rows t) u v q.inside in
      below_where-none f (suc u) v q.inside.0 none_between
      ∙ ap (λ b. below_where f u ++ cond b (u ∷ []) []) here
      ∙ ap (λ xs. xs ++ u ∷ []) (below_where-agree f g u same_above)

-- # From the node to one above it

-- the places that were climbed, from the node up, lead from v to u
pub record IsClimbed (t : Tree) (v u : ℕ) (above : List ℕ) : Type 0 where
  pub are : places_above t v ≡ places_above t u ++ reverse above
  pub up : u ≤ v
  pub there : u < v → v < count (nodes t)

pub climbed_none : (t : Tree) (v : ℕ) → IsClimbed t v v []
climbed_none t v = record {
  are = sym (append-nil (places_above t v));
  up = omega arith;
  there = λ h. absurd (omega (arith, h));
}

pub climbed_more : (t : Tree) (v u w : ℕ) (above new : List ℕ) → IsParentRow (rows t) w u → new ≡ above ++ w ∷ [] → IsClimbed t v u above → IsClimbed t v w new
climbed_more t v u w above new q e c =
    let less = q.inside.0 in
    let up = c.up in
    record {
      are =
          c.are ∙ ap (λ xs. xs ++ reverse above) (one_up t w u q)
          ∙ append_assoc (places_above t w) (w ∷ []) (reverse above)
          ∙ ap (λ xs. places_above t w ++ xs) (sym (ap reverse e ∙ reverse-append above (w ∷ [])));
      up = omega (arith, less, up);
      there = λ h. elim (cases_lt u v) [
        | inl l ↦ c.there l
        | inr l ↦ (let x = q.there in let y = length-rows t in omega (arith, x, y, up, l))
      ];
    }

pub climbed_all : (t : Tree) (v u : ℕ) (above : List ℕ) → u ≡ 0 → IsClimbed t v u above → reverse above ≡ places_above t v
climbed_all t v u above z c = sym (c.are ∙ ap (λ w. places_above t w ++ reverse above) z)

pub climbed_there : (t : Tree) (v u w : ℕ) (above : List ℕ) → IsParentRow (rows t) w u → IsClimbed t v u above → v < count (nodes t)
climbed_there t v u w above q c =
    let up = c.up in
    elim (cases_lt u v) [
      | inl l ↦ c.there l
      | inr l ↦ (let x = q.there in let y = length-rows t in omega (arith, x, y, up, l))
    ]

-- # The places as hits

or_none : (b : Bool) → (b || false) ≡ b
or_none true = refl
or_none false = refl

one_among : (b : Bool) (n k : ℕ) → list_any (λ v. eqb v k) (cond b (n ∷ []) []) ≡ (b && eqb n k)
one_among true n k = or_none (eqb n k)
one_among false n k = refl

-- a number is among those that pass, below a bound, where it passes
pub among_below : (f : ℕ → Bool) (n k : ℕ) → k < n → is_among (below_where f n) k ≡ f k
among_below f zero k h = absurd (omega (arith, h))
among_below f (suc n) k h =
    let split = list_any-append (λ v. eqb v k) (below_where f n) (cond (f n) (n ∷ []) []) ∙ ap (λ b. is_among (below_where f n) k || b) (one_among (f n) n k) in
    elim (cases_lt k n) [
      | inl l ↦ (
          let apart : eqb n k ≡ false = false_from_ne_true (eqb n k) (λ e. (let z = eqb-true n k e in omega (arith, z, l))) in
          split ∙ ap (λ b. b || (f n && eqb n k)) (among_below f n k l) ∙ ap (λ b. f k || (f n && b)) apart ∙ left (f k) (f n))
      | inr l ↦ (
          let same : n ≡ k = omega (arith, h, l) in
          let none : is_among (below_where f n) k ≡ false = not_among (below_where f n) k (λ i m e. (let z = below_less f n i m in omega (arith, z, e, same))) in
          split ∙ ap (λ b. b || (f n && eqb n k)) none ∙ ap (λ b. f n && b) (eq-eqb n k same) ∙ right (f n) ∙ ap f same)
    ]
  where
    left : (a b : Bool) → (a || (b && false)) ≡ a
    left true b = refl
    left false true = refl
    left false false = refl

    right : (b : Bool) → (b && true) ≡ b
    right true = refl
    right false = refl

-- and no number from the bound on is
none_from : (f : ℕ → Bool) (n k : ℕ) → n ≤ k → is_among (below_where f n) k ≡ false
none_from f n k h = not_among (below_where f n) k (λ i m e. (let z = below_less f n i m in omega (arith, z, e, h)))

-- a node is not above itself
own_outside : (t : Tree) (v : ℕ) → inside (rows t) v v ≡ false
own_outside t v = false_from_ne_true (inside (rows t) v v) (λ e. (let h = (true_inside (rows t) v v e).0 in omega (arith, h)))

hits_before : (or_self : Bool) (t : Tree) (v p : ℕ) → p < v → is_hit (axis_above or_self) t (v ∷ []) p ≡ inside (rows t) p v
hits_before true t v p l =
    let apart : eqb v p ≡ false = false_from_ne_true (eqb v p) (λ e. (let z = eqb-true v p e in omega (arith, z, l))) in
    ap (λ b. (b || inside (rows t) p v) || false) apart ∙ or_none (inside (rows t) p v)
hits_before false t v p l = or_none (inside (rows t) p v)

hits_here : (or_self : Bool) (t : Tree) (v : ℕ) → is_hit (axis_above or_self) t (v ∷ []) v ≡ or_self
hits_here true t v = ap (λ b. (b || inside (rows t) v v) || false) (eq-eqb v v refl)
hits_here false t v = ap (λ b. b || false) (own_outside t v)

-- the places above a node, and its own where it counts, are those on the axis
hits_are : (or_self : Bool) (t : Tree) (v : ℕ) → places_above t v ++ cond or_self (v ∷ []) [] ≡ below_where (is_hit (axis_above or_self) t (v ∷ [])) (suc v)
hits_are or_self t v =
    let h = is_hit (axis_above or_self) t (v ∷ []) in
    ap (λ xs. xs ++ cond or_self (v ∷ []) []) (sym (below_where-agree h (λ p. inside (rows t) p v) v (hits_before or_self t v)))
    ∙ ap (λ b. below_where h v ++ cond b (v ∷ []) []) (sym (hits_here or_self t v))

pub are_hits : (or_self : Bool) (t : Tree) (v : ℕ) (s : Span) (above hits : List ℕ) → v < count (nodes t) → s.high ≡ v → above ≡ places_above t v → hits ≡ above ++ cond or_self (v ∷ []) [] → AreHits (axis_above or_self) t (v ∷ []) s hits
are_hits or_self t v s above hits hv z e g =
    let h = is_hit (axis_above or_self) t (v ∷ []) in
    let all : below_where h (suc v) ≡ hits = sym (g ∙ ap (λ xs. xs ++ cond or_self (v ∷ []) []) e ∙ hits_are or_self t v) in
    record {
      within = omega (arith, hv, z);
      rising = subst IsRising all (below_rises h (suc v));
      are = λ p. ap (λ xs. is_among xs p) (sym all) ∙ elim (cases_lt p (suc v)) [
        | inl l ↦ among_below h (suc v) p l
        | inr l ↦ none_from h (suc v) p l ∙ sym (above_none t (v ∷ []) or_self v p (last_is (v ∷ []) v (one_rises v) refl) (omega (arith, l)))
      ];
    }

-- # Over the rows between them

pub record PassesOver (a : Axis) (t : Tree) (vs : List ℕ) (s : Span) (hits : List ℕ) (n k met : ℕ) : Type 0 where
  pub within : n + 1 + k ≤ span_end t s
  pub unhit : AreUnhit (is_hit a t vs) (n + 1) (n + 1 + k)
  pub goes_on : IsReached hits met (n + 1 + k)

pub climbs_over : (a : Axis) (t : Tree) (vs : List ℕ) (s : Span) (hits : List ℕ) (n k met : ℕ) → AreHits a t vs s hits → IsReached hits met (n + 1) → s.low ≤ n → n ≤ s.high → k ≡ stop (slice_get hits met) s.high - n → PassesOver a t vs s hits n k met
climbs_over a t vs s hits n k met are r from to e = by (slice_get hits met) refl
  where
    over : k ≤ s.high - n → (met < length hits → n + 1 + k ≤ get_or hits met 0) → PassesOver a t vs s hits n k met
    over h next =
        let w = are.within in
        let on = reached_over hits met (n + 1) (n + 1 + k) r (omega arith) next are.rising in
        record {
          within = omega (arith, w, h, from, to);
          unhit = λ p x y. sym (are.are p) ∙ not_among hits p (λ i l same. elim (cases_lt i met) [
            | inl less ↦ (let b = r.before i less in omega (arith, b, same, x))
            | inr more ↦ (let b = on.others i more l in omega (arith, b, same, y))
          ]);
          goes_on = on;
        }

    by : (o : Option ℕ) → slice_get hits met ≡ o → PassesOver a t vs s hits n k met
    by None g =
        let z : k ≡ s.high - n = e ∙ ap (λ o. stop o s.high - n) g in
        over (omega (arith, z)) (λ l. absurd (let m = got_none hits met g in omega (arith, m, l)))
    by (Some v) g =
        let z : k ≡ min (v - 1) s.high - n = e ∙ ap (λ o. stop o s.high - n) g in
        let w = got hits met v g in
        let l = w.0 in
        let at = w.1 in
        let o = r.others met (omega arith) l in
        over (omega (arith, z)) (λ _. omega (arith, z, o, at))

-- # Over the rows below one that holds no context

module _ (t : Tree) (vs : List ℕ) (n met : ℕ) (hn : n < count (nodes t)) (r : IsReached vs met (n + 1)) (past : IsReached vs met (end_of t n + 1)) where
  -- no context lies among the rows below n
  no_context : (q i : ℕ) → n < q → i < length vs → q ≤ get_or vs i 0 → get_or vs i 0 ≤ end_of t n → ⊥
  no_context q i a h x y = elim (cases_lt i met) [
    | inl less ↦ (let c = r.before i less in omega (arith, c, x, a))
    | inr more ↦ (let c = past.others i more h in omega (arith, c, y))
  ]

  holds_none : (q i : ℕ) → n < q → q ≤ end_of t n → i < length vs → inside (rows t) q (get_or vs i 0) ≡ true → ⊥
  holds_none q i a b h e =
      let w = (node_of t n hn).ends in
      let x = true_inside (rows t) q (get_or vs i 0) e in
      let low = x.0 in
      let high = x.1 in
      let c = inside_ends t n q (omega (arith, b, w)) (a, b) in
      no_context q i a h (omega (arith, low)) (omega (arith, high, c))

  unhit_below : (or_self : Bool) (q : ℕ) → n < q → q ≤ end_of t n → is_hit (axis_above or_self) t vs q ≡ false
  unhit_below true q a b = any_none (λ v. in_region axis.AncestorOrSelf (rows t) v q) vs 0 (λ i h e. elim (or_cases _ _ e) [
    | inl x ↦ (let z = eqb-true (get_or vs i 0) q x in no_context q i a h (omega (arith, z)) (omega (arith, z, b)))
    | inr x ↦ holds_none q i a b h x
  ])
  unhit_below false q a b = any_none (λ v. in_region axis.Ancestor (rows t) v q) vs 0 (λ i h e. holds_none q i a b h e)

pub above_over : (or_self : Bool) (t : Tree) (vs : List ℕ) (s : Span) (n met pre size last k : ℕ) → n < count (nodes t) → IsRising vs → IsReached vs met (n + 1) → s.low ≤ n → n ≤ s.high → pre ≡ n → size ≡ (row_at (rows t) n).size → last ≡ s.high → k ≡ rows_below (slice_get vs met) pre size last → PassesOver (axis_above or_self) t vs s vs n k met
above_over or_self t vs s n met pre size last k hn up r from to p z l e = by (is_within (slice_get vs met) (pre + size)) refl
  where
    by : (x : Bool) → is_within (slice_get vs met) (pre + size) ≡ x → PassesOver (axis_above or_self) t vs s vs n k met
    by true x =
        let none : k ≡ 0 = e ∙ ap (λ y. cond y 0 (min size (last - pre))) x in
        record {
          within = omega (arith, none, hn, from, to);
          unhit = λ q a b. absurd (omega (arith, a, b, none));
          goes_on = subst (λ m. IsReached vs met m) (let m : n + 1 ≡ n + 1 + k = omega (arith, none) in m) r;
        }
    by false x =
        let some : k ≡ min size (last - pre) = e ∙ ap (λ y. cond y 0 (min size (last - pre))) x in
        let ends = (node_of t n hn).ends in
        let next : met < length vs → end_of t n + 1 ≤ get_or vs met 0 = λ i. (let y = after_last vs met (pre + size) x i in omega (arith, y, p, z)) in
        let past : IsReached vs met (end_of t n + 1) = reached_over vs met (n + 1) (end_of t n + 1) r (omega arith) next up in
        record {
          within = omega (arith, some, p, l, ends, from, to, z);
          unhit = λ q a b. unhit_below t vs n met hn r past or_self q (omega (arith, a)) (omega (arith, b, some, z));
          goes_on = reached_over vs met (n + 1) (n + 1 + k) r (omega arith) (λ i. (let y = next i in omega (arith, y, some, z))) up;
        }
