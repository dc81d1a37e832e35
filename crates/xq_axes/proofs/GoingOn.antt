-- Going on from contexts to the siblings after them.
use Rattle.std.proofs.Common.{◌≡◌, ℕ, suc, ◌+◌, ◌-◌, ◌<◌, ◌≤◌, List, [], ◌∷◌, length, get_or, min, max, Bool, true, false, ◌&&◌, ◌||◌, eqb, nat_le, cond, inl, inr, refl, sym, ◌∙◌, ap, subst, arith}
use Rattle.std.specs.Prelude.{Option, Some, None, slice_get}
use Rattle.std.proofs.lemmas.Bool.{cases_lt, eqb-true, eq-eqb, leb-true, le-leb, and_from, and_parts, and_left, or_cases, or_left, or_right, false_from_ne_true}
use Rattle.xq_trees.specs.Forest.{count}
use Rattle.xq_trees.specs.Tree.{Tree, nodes}
use Rattle.xq_trees.specs.Rows.{rows, row_at}
use Rattle.xq_trees.specs.Regions.{kind_of_row}
use Rattle.xq_trees.specs.RegionTests.{plain_row, in_region}
use Rattle.xq_trees.specs.declared.Axis.TheVariants as axis
use Rattle.xq_trees.proofs.RegionTable.{in_region_is}
use Rattle.xq_trees.proofs.AxisTable.{plain_kind_is}
use Rattle.xq_meaning.specs.declared.node_tests.Test.{Test}
use Rattle.xq_axes.specs.Reads.{Span, span, span_end}
use Rattle.xq_axes.specs.private.Hits.{is_among, is_hit, is_wanted, row_passes, below_where, AreUnhit, IsRising, IsReached}
use Rattle.xq_axes.specs.private.Passing.{IsEnd}
use Rattle.xq_axes.specs.private.Downward.{level_of, is_within}
use Rattle.xq_axes.specs.private.Waiting.{has_siblings, rows_below, next_place, place_or_end, WaitsOn, IsOn}
use Rattle.xq_axes.proofs.Lists.{any_from, any_at, among_at, among_index, below_where-none, got, got_none, reached_none, reached_over}
use Rattle.xq_trees.proofs.Lists.{same_test}
use Rattle.xq_axes.proofs.Siblings.{AreBeside, beside_shared, beside_after, shared_beside}
use Rattle.xq_axes.proofs.Sizes.{node_of}
use Rattle.xq_axes.proofs.Trees.{inside_deeper}

-- # Whether a row is awaited

pub on_hit : (t : Tree) (vs : List ℕ) (n met level : ℕ) (levels : List ℕ) → n < count (nodes t) → IsOn t vs n met levels → level ≡ level_of t n → (is_among levels level && plain_row (rows t) n) ≡ is_hit axis.FollowingSibling t vs n
on_hit t vs n met level levels hn old e = same_test (is_among levels level && plain_row (rows t) n) (is_hit axis.FollowingSibling t vs n)
    (λ h. (
    let k = and_parts _ _ h in
    let w = old.sound level k.0 in
    let v = get_or vs w.index 0 in
    let l = w.is_level in
    let x = and_parts _ _ w.waits in
    let some = leb-true 1 (level_of t v) x.0 in
    let b : AreBeside t v n = record {
      before = w.to;
      is_there = hn;
      same = omega (arith, l, e);
      some = omega (arith, some);
      clear = λ q a c. (let d = w.clear q a c in omega (arith, d, l));
    } in
    let s = beside_shared t v n b in
    let plain_v = (plain_kind_is (kind_of_row (rows t) v)).0 x.1 in
    let plain_n = (plain_kind_is (kind_of_row (rows t) n)).0 k.1 in
    any_from (λ v. in_region axis.FollowingSibling (rows t) v n) vs w.index 0 w.within
    ((in_region_is axis.FollowingSibling (rows t) v n).1 ((s.parent, s.of_first.inside, s.of_second.inside, s.of_first.level, b.same), beside_after t v n b, plain_v, plain_n))))
    (λ h. (
    let w = any_at (λ v. in_region axis.FollowingSibling (rows t) v n) vs 0 h in
    let v = get_or vs w.index 0 in
    let r = (in_region_is axis.FollowingSibling (rows t) v n).0 w.holds in
    let g = r.1 in
    let b = shared_beside t r.0.0 v n (omega (arith, g)) hn r.0.1 r.0.2 r.0.3 r.0.4 in
    let same = b.same in
    let some = b.some in
    and_from _ _ (old.complete level (record {
      index = w.index;
      within = w.within;
      to = b.before;
      waits = and_from _ _ (le-leb 1 (level_of t v) some) ((plain_kind_is (kind_of_row (rows t) v)).1 r.2);
      is_level = omega (arith, same, e);
      clear = λ q x y. (let c = b.clear q x y in omega (arith, c, e, same));
    })) ((plain_kind_is (kind_of_row (rows t) n)).1 r.3)))

-- # One row on

module _ (t : Tree) (vs : List ℕ) (n met new_met level : ℕ) (levels new : List ℕ) (context : Bool) (old : IsOn t vs n met levels) (e : level ≡ level_of t n) (ec : (context ≡ is_among vs n) × IsReached vs new_met (n + 1))
    (en : (m : ℕ) → is_among new m ≡ ((is_among levels m && nat_le m level) || ((context && has_siblings level (plain_row (rows t) n)) && eqb level m))) where
  stays : (m : ℕ) → m ≤ level → WaitsOn t vs n m → WaitsOn t vs (n + 1) m
  stays m le w = record {
    index = w.index;
    within = w.within;
    to = (let f = w.to in omega (arith, f));
    waits = w.waits;
    is_level = w.is_level;
    clear = λ q a b. elim (cases_lt q n) [
      | inl k ↦ w.clear q a k
      | inr k ↦ (let same : n ≡ q = omega (arith, b, k) in subst (λ x. m ≤ level_of t x) same (omega (arith, le, e)))
    ];
  }

  begins : is_among vs n ≡ true → has_siblings level (plain_row (rows t) n) ≡ true → WaitsOn t vs (n + 1) level
  begins c w =
      let i = among_index vs n c in
      let at = i.2 in
      record {
        index = i.0;
        within = i.1;
        to = omega (arith, at);
        waits = subst (λ x. has_siblings (level_of t x) (plain_row (rows t) x) ≡ true) (sym at) (subst (λ l. has_siblings l (plain_row (rows t) n) ≡ true) e w);
        is_level = ap (level_of t) at ∙ sym e;
        clear = λ q a b. absurd (omega (arith, a, b, at));
      }

  pub on_more : IsOn t vs (n + 1) new_met new
  on_more = record {
    rising = old.rising;
    reached = ec.1;
    sound = λ m h. elim (or_cases _ _ (sym (en m) ∙ h)) [
      | inl a ↦ (let w = and_parts _ _ a in stays m (leb-true m level w.1) (old.sound m w.0))
      | inr a ↦ (let w = and_parts _ _ a in let c = and_parts _ _ w.0 in subst (λ k. WaitsOn t vs (n + 1) k) (eqb-true level m w.1) (begins (sym ec.0 ∙ c.0) c.1))
    ];
    complete = λ m w. en m ∙ elim (cases_lt (get_or vs w.index 0) n) [
      | inl k ↦ or_left _ _ (and_from _ _
          (old.complete m (record { index = w.index; within = w.within; to = k; waits = w.waits; is_level = w.is_level; clear = λ q a b. w.clear q a (omega (arith, b)) }))
          (le-leb m level (let c = w.clear n k (omega arith) in omega (arith, c, e))))
      | inr k ↦ (
          let same : get_or vs w.index 0 ≡ n = (let f = w.to in omega (arith, k, f)) in
          let l : level ≡ m = e ∙ ap (level_of t) (sym same) ∙ w.is_level in
          let here : has_siblings level (plain_row (rows t) n) ≡ true =
          subst (λ x. has_siblings x (plain_row (rows t) n) ≡ true) (sym e) (subst (λ x. has_siblings (level_of t x) (plain_row (rows t) x) ≡ true) same w.waits) in
          or_right _ _ (and_from _ _ (and_from _ _ (ec.0 ∙ among_at vs w.index n w.within same) here) (eq-eqb level m l)))
    ];
  }

-- # Where nothing is awaited

none_among : (levels : List ℕ) (k : ℕ) → length levels ≡ 0 → is_among levels k ≡ false
none_among [] k e = refl
none_among (l ∷ ls) k e = absurd (omega (arith, e))

pub on_over : (t : Tree) (vs : List ℕ) (n m met : ℕ) (levels : List ℕ) → IsOn t vs n met levels → length levels ≡ 0 → n ≤ m → (met < length vs → m ≤ get_or vs met 0) → IsOn t vs m met levels
on_over t vs n m met levels old z h next =
    let reached = reached_over vs met n m old.reached h next old.rising in
    record {
      rising = old.rising;
      reached = reached;
      sound = λ k e. absurd (let f = none_among levels k z in let g : true ≡ false = sym e ∙ f in cc);
      complete = λ k w. old.complete k (record {
        index = w.index;
        within = w.within;
        to = elim (cases_lt w.index met) [
          | inl x ↦ old.reached.before w.index x
          | inr x ↦ absurd (let a = reached.others w.index x w.within in let b = w.to in omega (arith, a, b))
        ];
        waits = w.waits;
        is_level = w.is_level;
        clear = λ q a b. w.clear q a (omega (arith, b, h));
      });
    }

-- what was met and found
pub record OnSoFar (test : Test) (t : Tree) (vs : List ℕ) (n met : ℕ) (levels found : List ℕ) : Type 0 where
  pub within : n ≤ count (nodes t)
  pub on : IsOn t vs n met levels
  pub is_found : found ≡ below_where (is_wanted axis.FollowingSibling test t vs) n

pub so_far_over : (test : Test) (t : Tree) (vs : List ℕ) (n m met : ℕ) (levels found : List ℕ) → OnSoFar test t vs n met levels found → length levels ≡ 0 → n ≤ m → m ≤ count (nodes t) → (met < length vs → m ≤ get_or vs met 0) → OnSoFar test t vs m met levels found
so_far_over test t vs n m met levels found old z h hm next = record {
  within = hm;
  on = on_over t vs n m met levels old.on z h next;
  is_found =
      old.is_found
      ∙ sym (below_where-none (is_wanted axis.FollowingSibling test t vs) n m h (λ p a b.
      and_left (is_hit axis.FollowingSibling t vs p) (row_passes test (row_at (rows t) p))
      (sym (on_hit t vs p met (level_of t p) levels (omega (arith, b, hm)) (on_over t vs n p met levels old.on z a (λ l. (let x = next l in omega (arith, x, b)))) refl)
      ∙ ap (λ c. c && plain_row (rows t) p) (none_among levels (level_of t p) z))));
}

-- the place that is read next
pub so_far_next : (test : Test) (t : Tree) (vs : List ℕ) (n last met low : ℕ) (levels found : List ℕ) → ((i : ℕ) → i < length vs → get_or vs i 0 < count (nodes t)) → last + 1 ≡ count (nodes t) → OnSoFar test t vs n met levels found
    → low ≡ next_place levels (slice_get vs met) n last → OnSoFar test t vs low met levels found
so_far_next test t vs n last met low (l ∷ ls) found there end old e = subst (λ k. OnSoFar test t vs k met (l ∷ ls) found) (sym e) old
so_far_next test t vs n last met low [] found there end old e = by (slice_get vs met) refl
  where
    by : (o : Option ℕ) → slice_get vs met ≡ o → OnSoFar test t vs low met [] found
    by None k =
        let none = got_none vs met k in
        let w = old.within in
        let same : low ≡ max (last + 1) n = e ∙ ap (λ o. max (place_or_end o last) n) k in
        so_far_over test t vs n low met [] found old refl (omega (arith, same)) (omega (arith, same, w, end)) (λ h. absurd (omega (arith, h, none)))
    by (Some v) k =
        let some = got vs met v k in
        let x = old.on.reached.others met (omega arith) some.0 in
        let y = there met some.0 in
        let z = some.1 in
        let same : low ≡ max v n = e ∙ ap (λ o. max (place_or_end o last) n) k in
        so_far_over test t vs n low met [] found old refl (omega (arith, same)) (omega (arith, same, x, y, z)) (λ h. omega (arith, same, x, z))

pub on_start : (test : Test) (t : Tree) (vs : List ℕ) → IsRising vs → OnSoFar test t vs 0 0 [] []
on_start test t vs up = record {
  within = omega arith;
  on = record {
    rising = up;
    reached = reached_none vs;
    sound = λ m h. absurd (cc);
    complete = λ m w. absurd (let x = w.to in omega (arith, x));
  };
  is_found = refl;
}

pub next_from : (levels : List ℕ) (o : Option ℕ) (n last : ℕ) → n ≤ next_place levels o n last
next_from [] o n last = omega arith
next_from (l ∷ ls) o n last = omega arith

pub first_from : (vs : List ℕ) (n last : ℕ) → 0 < length vs → get_or vs 0 0 ≤ next_place [] (slice_get vs 0) n last
first_from [] n last h = absurd (omega (arith, h))
first_from (v ∷ vs) n last h = omega arith

-- the root's rows are all
pub last_row : (t : Tree) (end last : ℕ) → IsEnd t 0 end → last ≡ min end 4294967295 → last + 1 ≡ count (nodes t)
last_row t end last h e =
    let r = h.is_tree.room in
    let i = h.is in
    let c : count (nodes t) ≡ suc (count t.below + 0) = refl in
    let s : (row_at (rows t) 0).size ≡ count t.below = refl in
    omega (arith, r, i, c, s, e)

pub so_far_moved : (test other : Test) (t u : Tree) (vs ws : List ℕ) (n m met : ℕ) (levels found : List ℕ) → test ≡ other → t ≡ u → vs ≡ ws → n ≡ m → OnSoFar test t vs n met levels found → OnSoFar other u ws m met levels found
so_far_moved test other t u vs ws n m met levels found a b c d s =
    subst (λ x. OnSoFar x u ws m met levels found) a
    (subst (λ x. OnSoFar test x ws m met levels found) b
    (subst (λ x. OnSoFar test t x m met levels found) c
    (subst (λ x. OnSoFar test t vs x met levels found) d s)))

-- the rows that are read
pub on_rows : (t : Tree) (first low high last next old now new : ℕ) → now ≤ old + (min low (count (nodes t)) - first) → new ≤ now + (span_end t (span low high) - low) → first ≤ low → low ≤ high → high ≤ last → last + 1 ≡ count (nodes t) → high + 1 ≤ next
    → new ≤ old + (min next (count (nodes t)) - first)
on_rows t first low high last next old now new a b c d e f h = omega (arith, a, b, c, d, e, f, h)

-- # Over the rows below a row

-- after a row of a level is met none of deeper ones is awaited
pub meet_deepest : (levels : List ℕ) (level m : ℕ) (new waits : Bool) → new ≡ ((is_among levels m && nat_le m level) || (waits && eqb level m)) → new ≡ true → m ≤ level
meet_deepest levels level m new waits e h =
    let own = is_among levels m && nat_le m level in
    let more = waits && eqb level m in
    elim (or_cases own more (sym e ∙ h)) [
      | inl a ↦ leb-true m level (and_parts (is_among levels m) (nat_le m level) a).1
      | inr a ↦ (let s : level ≡ m = eqb-true level m (and_parts waits (eqb level m) a).1 in omega (arith, s))
    ]

-- the next context comes after the place
pub after_last : (vs : List ℕ) (met last : ℕ) → is_within (slice_get vs met) last ≡ false → met < length vs → last < get_or vs met 0
after_last vs met last e l = by (slice_get vs met) refl
  where
    by : (o : Option ℕ) → slice_get vs met ≡ o → last < get_or vs met 0
    by None k = absurd (let n = got_none vs met k in omega (arith, n, l))
    by (Some v) k = elim (cases_lt last v) [
      | inl a ↦ (let g = got vs met v k in let at = g.1 in omega (arith, a, at))
      | inr a ↦ absurd (let z : true ≡ false = sym (le-leb v last a) ∙ ap (λ o. is_within o last) (sym k) ∙ e in cc)
    ]

-- none of the rows below a row that hold no context is awaited, where no deeper level is
module _ (t : Tree) (vs : List ℕ) (n met : ℕ) (levels : List ℕ) (hn : n < count (nodes t)) (old : IsOn t vs (n + 1) met levels) (deepest : (m : ℕ) → is_among levels m ≡ true → m ≤ level_of t n) where
  pub on_below : (k : ℕ) → k ≤ (row_at (rows t) n).size → (met < length vs → n + 1 + k ≤ get_or vs met 0) → IsOn t vs (n + 1 + k) met levels
  on_below k h next =
      let ends = (node_of t n hn).ends in
      record {
        rising = old.rising;
        reached = reached_over vs met (n + 1) (n + 1 + k) old.reached (omega arith) next old.rising;
        sound = λ m e. (
            let w = old.sound m e in
            record {
              index = w.index;
              within = w.within;
              to = (let x = w.to in omega (arith, x));
              waits = w.waits;
              is_level = w.is_level;
              clear = λ q a b. elim (cases_lt q (n + 1)) [
                | inl l ↦ w.clear q a l
                | inr l ↦ (
                    let d = deepest m e in
                    let x = inside_deeper t n q hn (omega (arith, b, h, ends)) (omega (arith, l), omega (arith, b, h)) in
                    omega (arith, d, x))
              ];
            });
        complete = λ m w. old.complete m (record {
          index = w.index;
          within = w.within;
          to = elim (cases_lt w.index met) [
            | inl x ↦ old.reached.before w.index x
            | inr x ↦ absurd (
                let to = w.to in
                let l : met < length vs = (let y = w.within in omega (arith, x, y)) in
                let a = next l in
                elim (cases_lt met w.index) [
                  | inl y ↦ (let b = old.rising met w.index y w.within in omega (arith, a, b, to))
                  | inr y ↦ (let same : met ≡ w.index = omega (arith, x, y) in let b : n + 1 + k ≤ get_or vs w.index 0 = subst (λ i. n + 1 + k ≤ get_or vs i 0) same a in omega (arith, b, to))
                ])
          ];
          waits = w.waits;
          is_level = w.is_level;
          clear = λ q a b. w.clear q a (omega (arith, b));
        });
      }

  pub unhit_below : (k : ℕ) → k ≤ (row_at (rows t) n).size → (met < length vs → n + 1 + k ≤ get_or vs met 0) → AreUnhit (is_hit axis.FollowingSibling t vs) (n + 1) (n + 1 + k)
  unhit_below k h next q a b =
      let ends = (node_of t n hn).ends in
      let hq : q < count (nodes t) = omega (arith, b, h, ends) in
      let e : n + 1 + (q - (n + 1)) ≡ q = omega (arith, a) in
      let on = subst (λ x. IsOn t vs x met levels) e (on_below (q - (n + 1)) (omega (arith, a, b, h)) (λ l. (let x = next l in omega (arith, a, b, x)))) in
      let deeper = inside_deeper t n q hn hq (omega (arith, a), omega (arith, b, h)) in
      let none : is_among levels (level_of t q) ≡ false = false_from_ne_true (is_among levels (level_of t q)) (λ x. (let d = deepest (level_of t q) x in omega (arith, d, deeper))) in
      sym (on_hit t vs q met (level_of t q) levels hq on refl) ∙ ap (λ c. c && plain_row (rows t) q) none

  pub record OnGoesOver (s : Span) (k : ℕ) : Type 0 where
    pub within : n + 1 + k ≤ span_end t s
    pub unhit : AreUnhit (is_hit axis.FollowingSibling t vs) (n + 1) (n + 1 + k)
    pub goes_on : IsOn t vs (n + 1 + k) met levels

  pub on_goes_over : (s : Span) (pre size last k : ℕ) → s.low ≤ n → n ≤ s.high → pre ≡ n → size ≡ (row_at (rows t) n).size → last ≡ s.high → k ≡ rows_below (slice_get vs met) pre size last → OnGoesOver s k
  on_goes_over s pre size last k from to p z l e = by (is_within (slice_get vs met) (pre + size)) refl
    where
      by : (x : Bool) → is_within (slice_get vs met) (pre + size) ≡ x → OnGoesOver s k
      by true x =
          let none : k ≡ 0 = e ∙ ap (λ y. cond y 0 (min size (last - pre))) x in
          let here : n + 1 ≡ n + 1 + k = omega (arith, none) in
          record {
            within = omega (arith, none, hn, from, to);
            unhit = λ q a b. absurd (omega (arith, a, b, none));
            goes_on = subst (λ m. IsOn t vs m met levels) here old;
          }
      by false x =
          let some : k ≡ min size (last - pre) = e ∙ ap (λ y. cond y 0 (min size (last - pre))) x in
          let ends = (node_of t n hn).ends in
          let h : k ≤ (row_at (rows t) n).size = omega (arith, some, z) in
          let next : met < length vs → n + 1 + k ≤ get_or vs met 0 = λ i. (let y = after_last vs met (pre + size) x i in omega (arith, y, some, p)) in
          record {
            within = omega (arith, some, p, l, h, ends, from, to);
            unhit = unhit_below k h next;
            goes_on = on_below k h next;
          }
