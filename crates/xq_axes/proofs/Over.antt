-- Rows that a step to children or to attributes goes over.
use Rattle.std.proofs.Common.{◌≡◌, ℕ, suc, ◌+◌, ◌-◌, ◌<◌, ◌≤◌, List, length, get_or, cond, Bool, true, false, not, inl, inr, refl, sym, ◌∙◌, ap, subst, arith}
use Rattle.std.specs.Prelude.{Option, Some, None, slice_get}
use Rattle.std.specs.List.{list_any}
use Rattle.std.proofs.lemmas.Bool.{cases_lt, cases_order, eqb-true, and_parts}
use Rattle.xq_trees.specs.Forest.{count}
use Rattle.xq_trees.specs.Tree.{Tree, nodes}
use Rattle.xq_trees.specs.Rows.{rows, row_at}
use Rattle.xq_trees.specs.Regions.{IsInside}
use Rattle.xq_trees.specs.RegionTests.{inside, plain_row, in_region}
use Rattle.xq_axes.specs.Reads.{Span, span_end}
use Rattle.xq_axes.specs.private.Hits.{is_among, is_hit, AreUnhit, IsReached}
use Rattle.xq_axes.specs.private.Downward.{axis_of, level_of, end_of, stop, is_within, rows_over, IsJudged}
use Rattle.xq_axes.specs.declared.downward.Downward.{Downward}
use Rattle.xq_axes.specs.declared.downward.Downward.TheVariants.{Child, Attribute, Descendant, DescendantOrSelf}
use Rattle.xq_axes.proofs.Lists.{any_from, any_none, among_at, not_among, reached_over, got, got_none}
use Rattle.xq_axes.proofs.Ranges.{above_some}
use Rattle.xq_axes.proofs.Sizes.{node_of}
use Rattle.xq_axes.proofs.Trees.{inside_deeper, between_deeper, inside_ends}
use Rattle.xq_axes.proofs.Clusters.{inside_true, true_inside}
use Rattle.xq_axes.proofs.AttributeRows.{attribute_run}

pub record GoesOver (d : Downward) (t : Tree) (vs : List ℕ) (s : Span) (n k met : ℕ) (marks : List Bool) (is_open : Bool) : Type 0 where
  pub within : n + 1 + k ≤ span_end t s
  pub unhit : AreUnhit (is_hit (axis_of d) t vs) (n + 1) (n + 1 + k)
  pub goes_on : IsJudged d t vs s (n + 1 + k) met marks is_open

different : (a : Bool) → a ≡ true → a ≡ false → ⊥
different a h g = (let z : true ≡ false = sym h ∙ g in absurd (cc))

module _ (t : Tree) (vs : List ℕ) (s : Span) (n met : ℕ) (marks : List Bool) (is_open : Bool) (hn : n < count (nodes t)) (at_least : s.low ≤ n) (at_most : n ≤ s.high) where
  over_none : (d : Downward) (k : ℕ) → k ≡ 0 → IsJudged d t vs s (n + 1) met marks is_open → GoesOver d t vs s n k met marks is_open
  over_none d k z j =
      let e : n + 1 ≡ n + 1 + k = omega (arith, z) in
      record {
        within = omega (arith, z, hn, at_least, at_most);
        unhit = λ q a b. absurd (omega (arith, a, b, z));
        goes_on = subst (λ m. IsJudged d t vs s m met marks is_open) e j;
      }

  -- # To children

  module _ (j : IsJudged Child t vs s (n + 1) met marks is_open) (apart : is_among vs n ≡ false) (none : list_any (λ v. inside (rows t) n v) vs ≡ false) where
    holds_none : (i : ℕ) → i < length vs → IsInside (rows t) n (get_or vs i 0) → ⊥
    holds_none i l h = different (list_any (λ v. inside (rows t) n v) vs) (any_from (λ v. inside (rows t) n v) vs i 0 l (inside_true (rows t) n (get_or vs i 0) h)) none

    below_top : IsInside (rows t) j.top n
    below_top = (let a = j.cluster.low in let b = j.cluster.high in (omega (arith, a, at_least), omega (arith, b, at_most)))

    no_child : (q : ℕ) → n + 1 ≤ q → q ≤ end_of t n → is_hit (axis_of Child) t vs q ≡ false
    no_child q a b =
        let w = (node_of t n hn).ends in
        let hq : q < count (nodes t) = omega (arith, b, w) in
        any_none (λ u. in_region (axis_of Child) (rows t) u q) vs 0 (λ i l e. (
        let u = get_or vs i 0 in
        let p = and_parts _ _ e in
        let h = true_inside (rows t) u q p.0 in
        let x = h.0 in
        let y = h.1 in
        let level : level_of t q ≡ suc (level_of t u) = eqb-true (level_of t q) (suc (level_of t u)) (and_parts _ _ p.1).0 in
        elim (cases_order u n) [
          | inl same ↦ different (is_among vs n) (among_at vs i n l same) apart
          | inr other ↦ elim other [
            | inl less ↦ (
                let outer = between_deeper t u q n hq h less (omega (arith, a)) in
                let inner = inside_deeper t n q hn hq (omega (arith, a), b) in
                omega (arith, outer, inner, level))
            | inr more ↦ holds_none i l (more, omega (arith, x, b))
          ]
        ]))

    pub over_children : (k : ℕ) → k ≡ (row_at (rows t) n).size → GoesOver Child t vs s n k met marks is_open
    over_children k e =
        let w = (node_of t n hn).ends in
        let c = inside_ends t j.top n hn below_top in
        let high = j.cluster.high in
        let f = j.from in
        let next : met < length vs → n + 1 + k ≤ get_or vs met 0 = λ l. (
        let o = j.reached.others met (omega arith) l in
        elim (cases_lt (end_of t n) (get_or vs met 0)) [
          | inl g ↦ omega (arith, g, e)
          | inr g ↦ absurd (holds_none met l (omega (arith, o), g))
        ]) in
        record {
          within = omega (arith, w, c, high, e, at_least);
          unhit = λ q a b. no_child q a (omega (arith, b, e));
          goes_on = record {
            is_tree = j.is_tree;
            rising = j.rising;
            reached = reached_over vs met (n + 1) (n + 1 + k) j.reached (omega arith) next j.rising;
            top = j.top;
            cluster = j.cluster;
            is_context = j.is_context;
            from = omega (arith, f);
            levels = j.levels;
            is_known = λ v a i. (
                let x = i.0 in
                let y = i.1 in
                elim (cases_order v n) [
                  | inl same ↦ absurd (let z : n + 1 + k ≤ end_of t n = subst (λ u. n + 1 + k ≤ end_of t u) same y in omega (arith, z, e))
                  | inr other ↦ elim other [
                    | inl less ↦ j.is_known v a (omega (arith, less), omega (arith, y))
                    | inr more ↦ absurd (
                        let hv : v < count (nodes t) = omega (arith, x, w, e) in
                        let z = inside_ends t n v hv (more, omega (arith, x, e)) in
                        omega (arith, z, y, e))
                  ]
                ]);
          };
        }

  -- # To attributes

  pub record StopsAt (high last : ℕ) : Type 0 where
    pub from : n ≤ last
    pub to : last ≤ high
    pub before : met < length vs → last < get_or vs met 0

  stop_at : (high : ℕ) (o : Option ℕ) → slice_get vs met ≡ o → IsReached vs met (n + 1) → n ≤ high → StopsAt high (stop o high)
  stop_at high None e r h = record { from = h; to = omega arith; before = λ l. absurd (let g = got_none vs met e in omega (arith, g, l)) }
  stop_at high (Some v) e r h =
      let g = got vs met v e in
      let o = r.others met (omega arith) g.0 in
      let at = g.1 in
      record { from = omega (arith, o, at, h); to = omega arith; before = λ l. omega (arith, o, at) }

  module _ (j : IsJudged Attribute t vs s (n + 1) met marks is_open) (apart : is_among vs n ≡ false) (plain : plain_row (rows t) n ≡ true) (last : ℕ) (at : StopsAt s.high last) where
    -- no context is after n, up to the last
    no_context : (i : ℕ) → i < length vs → n < get_or vs i 0 → get_or vs i 0 ≤ last → ⊥
    no_context i l a b = elim (cases_lt i met) [
      | inl less ↦ (let x = j.reached.before i less in omega (arith, x, a))
      | inr more ↦ (
          let h : met < length vs = omega (arith, more, l) in
          let x = at.before h in
          elim (cases_order met i) [
            | inl same ↦ (let z : last < get_or vs i 0 = subst (λ y. last < get_or vs y 0) same x in omega (arith, z, b))
            | inr other ↦ elim other [
              | inl up ↦ (let z = j.rising met i up l in omega (arith, z, x, b))
              | inr down ↦ omega (arith, down, more)
            ]
          ])
    ]

    last_there : last < count (nodes t)
    last_there =
        let h = j.cluster.high in
        let w = (node_of t j.top j.cluster.is_there).ends in
        let x = at.to in
        omega (arith, h, w, x)

    no_more : (q : ℕ) → n + 1 ≤ q → q ≤ last → is_hit (axis_of Attribute) t vs q ≡ false
    no_more q a b =
        let w = last_there in
        let hq : q < count (nodes t) = omega (arith, b, w) in
        any_none (λ u. in_region (axis_of Attribute) (rows t) u q) vs 0 (λ i l e. (
        let u = get_or vs i 0 in
        let p = and_parts _ _ e in
        let h = true_inside (rows t) u q p.0 in
        let r = and_parts _ _ p.1 in
        let level : level_of t q ≡ suc (level_of t u) = eqb-true (level_of t q) (suc (level_of t u)) r.0 in
        let x = h.0 in
        elim (cases_order u n) [
          | inl same ↦ different (is_among vs n) (among_at vs i n l same) apart
          | inr other ↦ elim other [
            | inl less ↦ (
                let run = attribute_run t j.is_tree u q hq (record { inside = h; level = level }) (no_plain (plain_row (rows t) q) r.1) in
                different (plain_row (rows t) n) plain (run.between n less (omega (arith, a))))
            | inr more ↦ no_context i l more (omega (arith, x, b))
          ]
        ]))
      where
        no_plain : (b : Bool) → not b ≡ true → b ≡ false
        no_plain true h = absurd (cc)
        no_plain false h = refl

    pub over_attributes : (k : ℕ) → k ≡ last - n → GoesOver Attribute t vs s n k met marks is_open
    over_attributes k e =
        let a0 = at.from in
        let a1 = at.to in
        let w = last_there in
        let f = j.from in
        let own = j.is_known n (omega (arith, f)) (omega arith) plain (λ q a b. absurd (omega (arith, a, b))) in
        record {
          within = omega (arith, a0, a1, w, e, at_least);
          unhit = λ q a b. no_more q a (omega (arith, b, e, a0));
          goes_on = record {
            is_tree = j.is_tree;
            rising = j.rising;
            reached = reached_over vs met (n + 1) (n + 1 + k) j.reached (omega arith) (λ l. (let x = at.before l in omega (arith, x, e, a0))) j.rising;
            top = j.top;
            cluster = j.cluster;
            is_context = j.is_context;
            from = omega (arith, f);
            levels = j.levels;
            is_known = λ v a b pv clear. elim (cases_order v n) [
              | inl same ↦ own ∙ ap (is_among vs) (sym same)
              | inr other ↦ elim other [
                | inl less ↦ absurd (different (plain_row (rows t) n) plain (clear n less (omega arith)))
                | inr more ↦ own ∙ apart ∙ sym (not_among vs v (λ i l same. no_context i l (omega (arith, more, same)) (omega (arith, b, same, e, a0))))
              ]
            ];
          };
        }

  -- # What the step goes over

  pub goes_over : (d : Downward) (context plain : Bool) (pre size last k : ℕ) → IsJudged d t vs s (n + 1) met marks is_open → context ≡ is_among vs n → plain ≡ plain_row (rows t) n → pre ≡ n → size ≡ (row_at (rows t) n).size → last ≡ s.high
      → k ≡ rows_over d context plain (slice_get vs met) pre size last → GoesOver d t vs s n k met marks is_open
  goes_over Child true plain pre size last k j c p a b h e = over_none Child k e j
  goes_over Child false plain pre size last k j c p a b h e = by (is_within (slice_get vs met) (pre + size)) refl
    where
      by : (x : Bool) → is_within (slice_get vs met) (pre + size) ≡ x → GoesOver Child t vs s n k met marks is_open
      by true x = over_none Child k (e ∙ ap (λ y. cond y 0 size) x) j
      by false x =
          let ends : end_of t n ≡ pre + size = omega (arith, a, b) in
          over_children j (sym c) (sym (above_some t vs met n j.rising j.reached) ∙ ap (is_within (slice_get vs met)) ends ∙ x) k (e ∙ ap (λ y. cond y 0 size) x ∙ b)
  goes_over Attribute true plain pre size last k j c p a b h e = over_none Attribute k e j
  goes_over Attribute false false pre size last k j c p a b h e = over_none Attribute k e j
  goes_over Attribute false true pre size last k j c p a b h e =
      over_attributes j (sym c) (sym p) (stop (slice_get vs met) s.high) (stop_at s.high (slice_get vs met) refl j.reached at_most) k
      (e ∙ ap (λ x. stop (slice_get vs met) x - pre) h ∙ ap (λ x. stop (slice_get vs met) s.high - x) a)
  goes_over Descendant context plain pre size last k j c p a b h e = over_none Descendant k e j
  goes_over DescendantOrSelf context plain pre size last k j c p a b h e = over_none DescendantOrSelf k e j
