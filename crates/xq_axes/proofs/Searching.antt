-- From one context that stands in no other to the next.
use Rattle.std.proofs.Common.{◌≡◌, ℕ, ◌+◌, ◌<◌, ◌≤◌, List, [], length, get_or, set, Bool, true, false, ◌&&◌, nat_eq, ◌⊎◌, inl, inr, refl, sym, ◌∙◌, ap, subst, arith, get_or-set_same}
use Rattle.std.specs.List.{list_any}
use Rattle.std.proofs.lemmas.List.{length-set, get_or_default}
use Rattle.std.proofs.lemmas.Bool.{cases_lt, cases_eq, eqb-true, and_parts, and_left, or_cases, or_left}
use Rattle.xq_trees.specs.Forest.{count}
use Rattle.xq_trees.specs.Tree.{Tree, nodes}
use Rattle.xq_trees.specs.Rows.{Row, rows, row_at}
use Rattle.xq_trees.specs.Regions.{IsInside}
use Rattle.xq_trees.specs.RegionTests.{inside, plain_row, in_region}
use Rattle.xq_meaning.specs.declared.node_tests.Test.{Test}
use Rattle.xq_axes.specs.Reads.{span, IsSized}
use Rattle.xq_axes.specs.private.Hits.{is_among, is_hit, is_wanted, row_passes, below_where, IsRising, IsReached}
use Rattle.xq_axes.specs.private.Downward.{axis_of, is_own, level_of, end_of, AreMarked, IsOpen, IsMet, IsKnown, IsJudged, IsSearched, IsNext}
use Rattle.xq_axes.specs.declared.downward.Downward.{Downward}
use Rattle.xq_axes.specs.declared.downward.Downward.TheVariants.{Child, Attribute, Descendant, DescendantOrSelf}
use Rattle.xq_axes.proofs.Lists.{any_none, any_or, among_at, below_where-none, reached_none, reached_over}
use Rattle.xq_axes.proofs.Sizes.{node_of}
use Rattle.xq_axes.proofs.Trees.{inside_ends}
use Rattle.xq_axes.proofs.Clusters.{true_inside, met_is}

-- what is on a downward axis is the node itself or below it
hit_inside : (d : Downward) (rs : List Row) (u p : ℕ) → in_region (axis_of d) rs u p ≡ true → (u ≡ p) ⊎ IsInside rs u p
hit_inside Child rs u p e = inr (true_inside rs u p (and_parts _ _ e).0)
hit_inside Attribute rs u p e = inr (true_inside rs u p (and_parts _ _ e).0)
hit_inside Descendant rs u p e = inr (true_inside rs u p (and_parts _ _ e).0)
hit_inside DescendantOrSelf rs u p e = elim (or_cases _ _ e) [
  | inl h ↦ inl (eqb-true u p h)
  | inr h ↦ inr (true_inside rs u p (and_parts _ _ h).0)
]

-- no row is hit where none of the contexts is or holds it
unhit : (d : Downward) (t : Tree) (vs : List ℕ) (p : ℕ) → ((i : ℕ) → i < length vs → (get_or vs i 0 ≡ p) ⊎ IsInside (rows t) (get_or vs i 0) p → ⊥) → is_hit (axis_of d) t vs p ≡ false
unhit d t vs p h = any_none (λ u. in_region (axis_of d) (rows t) u p) vs 0 (λ i l e. h i l (hit_inside d (rows t) (get_or vs i 0) p e))

own_hit : (d : Downward) (t : Tree) (vs : List ℕ) (v : ℕ) → is_among vs v ≡ true → ((i : ℕ) → i < length vs → IsInside (rows t) (get_or vs i 0) v → ⊥) → is_own d ≡ is_hit (axis_of d) t vs v
own_hit Child t vs v m top = sym (any_none (λ u. in_region (axis_of Child) (rows t) u v) vs 0 (λ i l e. top i l (true_inside (rows t) (get_or vs i 0) v (and_parts _ _ e).0)))
own_hit Attribute t vs v m top = sym (any_none (λ u. in_region (axis_of Attribute) (rows t) u v) vs 0 (λ i l e. top i l (true_inside (rows t) (get_or vs i 0) v (and_parts _ _ e).0)))
own_hit Descendant t vs v m top = sym (any_none (λ u. in_region (axis_of Descendant) (rows t) u v) vs 0 (λ i l e. top i l (true_inside (rows t) (get_or vs i 0) v (and_parts _ _ e).0)))
own_hit DescendantOrSelf t vs v m top =
    sym (any_or (λ u. nat_eq u v) (λ u. inside (rows t) u v && plain_row (rows t) v) vs ∙ or_left (is_among vs v) (list_any (λ u. inside (rows t) u v && plain_row (rows t) v) vs) m)

-- what is known after the row of a context
entered_marked : (t : Tree) (vs : List ℕ) (v level : ℕ) (marks : List Bool) → is_among vs v ≡ true → level < length marks → level ≡ level_of t v → AreMarked t vs v (v + 1) (set marks level true)
entered_marked t vs v level marks m l e = λ w a i. (
    let x = i.0 in
    let same : w ≡ v = omega (arith, a, x) in
    subst (λ x. get_or (set marks level true) (level_of t x) false ≡ is_among vs x) (sym same)
    (ap (λ x. get_or (set marks level true) x false) (sym e) ∙ get_or-set_same marks level true false l ∙ sym m))

entered_open : (t : Tree) (vs : List ℕ) (v : ℕ) → is_among vs v ≡ true → IsOpen t vs v (v + 1) true
entered_open t vs v m = λ w a b _ _. (let same : v ≡ w = omega (arith, a, b) in sym m ∙ ap (is_among vs) same)

entered_known : (d : Downward) (t : Tree) (vs : List ℕ) (v level : ℕ) (marks : List Bool) → is_among vs v ≡ true → level < length marks → level ≡ level_of t v → IsKnown d t vs v (v + 1) (set marks level true) true
entered_known Child t vs v level marks m l e = entered_marked t vs v level marks m l e
entered_known Attribute t vs v level marks m l e = entered_open t vs v m
entered_known Descendant t vs v level marks m l e = tt
entered_known DescendantOrSelf t vs v level marks m l e = entered_marked t vs v level marks m l e

met_next : (vs : List ℕ) (met n v : ℕ) → n ≤ v → IsNext vs n v → IsRising vs → IsReached vs met n → IsReached vs met v
met_next vs met n v after next up r = reached_over vs met n v r after (λ h. next.none_before met h (r.others met (omega arith) h)) up

met_over : (d : Downward) (vs : List ℕ) (met n v : ℕ) → n ≤ v → IsNext vs n v → IsRising vs → IsMet d vs met n → IsMet d vs met v
met_over Child vs met n v after next up r = met_next vs met n v after next up r
met_over Attribute vs met n v after next up r = met_next vs met n v after next up r
met_over Descendant vs met n v after next up r = tt
met_over DescendantOrSelf vs met n v after next up r = met_next vs met n v after next up r

-- the row of a context was met
pub met_on : (d : Downward) (vs : List ℕ) (met new v : ℕ) → IsMet d vs met v → (IsReached vs met v → IsReached vs new (v + 1)) → IsMet d vs new (v + 1)
met_on Child vs met new v r f = f r
met_on Attribute vs met new v r f = f r
met_on Descendant vs met new v r f = tt
met_on DescendantOrSelf vs met new v r f = f r

module _ (d : Downward) (test : Test) (t : Tree) (vs : List ℕ) (n v met marks : ℕ) (found : List ℕ) (before : IsSearched d test t vs n met marks found) (after : n ≤ v) (next : IsNext vs n v) where
  pub stands_in_none : (i : ℕ) → i < length vs → IsInside (rows t) (get_or vs i 0) v → ⊥
  stands_in_none i l h =
      let a = h.0 in
      let b = h.1 in
      elim (cases_lt (get_or vs i 0) n) [
        | inl k ↦ (let c = before.closed i l k in absurd (omega (arith, b, c)))
        | inr k ↦ (let c = next.none_before i l k in absurd (omega (arith, a, c)))
      ]

  gap_unhit : (p : ℕ) → n ≤ p → p < v → is_wanted (axis_of d) test t vs p ≡ false
  gap_unhit p a b = and_left (is_hit (axis_of d) t vs p) (row_passes test (row_at (rows t) p)) (unhit d t vs p (λ i l h. elim h [
    | inl e ↦ (let c = next.none_before i l (omega (arith, a, e)) in absurd (omega (arith, b, c, e)))
    | inr k ↦ (
        let x = k.0 in
        let y = k.1 in
        elim (cases_lt (get_or vs i 0) n) [
          | inl m ↦ (let c = before.closed i l m in absurd (omega (arith, y, c)))
          | inr m ↦ (let c = next.none_before i l m in absurd (omega (arith, x, c)))
        ])
  ]))

  pub found_before : found ≡ below_where (is_wanted (axis_of d) test t vs) v
  found_before = before.is_found ∙ sym (below_where-none (is_wanted (axis_of d) test t vs) n v after gap_unhit)

  pub reached_before : IsMet d vs met v
  reached_before = met_over d vs met n v after next before.rising before.reached

  pub own_is_hit : is_own d ≡ is_hit (axis_of d) t vs v
  own_is_hit = own_hit d t vs v next.is_context stands_in_none

  pub entered : (new_met level size : ℕ) (old_marks : List Bool) → length old_marks ≡ marks → IsSized t v size → level ≡ level_of t v → level < 101 → IsMet d vs new_met (v + 1)
      → IsJudged d t vs (span (v + 1) (v + size)) (v + 1) new_met (set old_marks level true) true
  entered new_met level size old_marks k sized e l r = record {
    is_tree = sized.is_tree;
    rising = before.rising;
    reached = r;
    top = v;
    cluster = record { low = omega arith; high = ap (λ x. v + x) sized.size; is_there = sized.is_there; is_top = stands_in_none };
    is_context = next.is_context;
    from = omega arith;
    levels = length-set old_marks level true ∙ k ∙ before.levels;
    is_known = entered_known d t vs v level old_marks next.is_context (let x = before.levels in omega (arith, k, l, x)) e;
  }

  pub searched : (size last_met : ℕ) (last_marks : List Bool) (last_open : Bool) (last_found : List ℕ) → IsSized t v size → IsJudged d t vs (span (v + 1) (v + size)) (v + 1 + size) last_met last_marks last_open → last_found ≡ below_where (is_wanted (axis_of d) test t vs) (v + 1 + size) → IsSearched d test t vs (v + 1 + size) last_met (length last_marks) last_found
  searched size last_met last_marks last_open last_found sized j e = record {
    rising = before.rising;
    reached = j.reached;
    closed = λ i l h. (
        let u = get_or vs i 0 in
        let s = sized.size in
        elim (cases_lt u n) [
          | inl k ↦ (let c = before.closed i l k in omega (arith, c, after))
          | inr k ↦ (
              let c = next.none_before i l k in
              elim (cases_eq v u) [
                | inl same ↦ subst (λ x. end_of t x < v + 1 + size) same (omega (arith, s))
                | inr other ↦ (
                    let w = (node_of t v sized.is_there).ends in
                    let inner : IsInside (rows t) v u = (omega (arith, c, other), omega (arith, h, s)) in
                    let x = inside_ends t v u (omega (arith, h, s, w)) inner in
                    omega (arith, x, s))
              ])
        ]);
    within = (let w = (node_of t v sized.is_there).ends in let s = sized.size in omega (arith, w, s));
    levels = j.levels;
    is_found = e;
  }

-- nothing is searched yet
pub searched_none : (d : Downward) (test : Test) (t : Tree) (vs : List ℕ) (marks : ℕ) → IsRising vs → marks ≡ 101 → IsSearched d test t vs 0 0 marks []
searched_none d test t vs marks up e = record {
  rising = up;
  reached = met_is d vs 0 0 (reached_none vs);
  closed = λ i l h. absurd (omega (arith, h));
  within = omega arith;
  levels = e;
  is_found = refl;
}

-- the place that comes next
pub next_place : (vs : List ℕ) (i n place : ℕ) → IsRising vs → i < length vs → place ≡ get_or vs i place → ((j : ℕ) → j < i → get_or vs j 0 < n) → IsNext vs n place
next_place vs i n place up h e b =
    let same : get_or vs i 0 ≡ place = get_or_default vs i 0 place h ∙ sym e in
    record {
      is_context = among_at vs i place h same;
      none_before = λ j l k. elim (cases_lt j i) [
        | inl m ↦ (let x = b j m in absurd (omega (arith, x, k)))
        | inr m ↦ elim (cases_lt i j) [
          | inl o ↦ (let x = up i j o l in omega (arith, x, same))
          | inr o ↦ (let ij : i ≡ j = omega arith in let z = sym (ap (λ y. get_or vs y 0) ij) ∙ same in omega (arith, z))
        ]
      ];
    }

-- all contexts were searched
pub searched_all : (d : Downward) (test : Test) (t : Tree) (vs : List ℕ) (n met marks : ℕ) (found : List ℕ) → IsSearched d test t vs n met marks found → ((j : ℕ) → j < length vs → get_or vs j 0 < n) → found ≡ below_where (is_wanted (axis_of d) test t vs) (count (nodes t))
searched_all d test t vs n met marks found s b =
    s.is_found
    ∙ sym (below_where-none (is_wanted (axis_of d) test t vs) n (count (nodes t)) s.within
    (λ p a l. and_left (is_hit (axis_of d) t vs p) (row_passes test (row_at (rows t) p)) (unhit d t vs p (λ i h k. (
    let x = b i h in
    let y = s.closed i h x in
    elim k [
      | inl e ↦ absurd (omega (arith, x, a, e))
      | inr m ↦ (let z = m.1 in absurd (omega (arith, y, a, z)))
    ])))))

-- the same search under equal names
pub move_searched : (d e : Downward) (test other : Test) (t u : Tree) (vs ws : List ℕ) (n met marks : ℕ) (found : List ℕ) → d ≡ e → test ≡ other → t ≡ u → vs ≡ ws → IsSearched d test t vs n met marks found → IsSearched e other u ws n met marks found
move_searched d e test other t u vs ws n met marks found a b c f s =
    subst (λ x. IsSearched x other u ws n met marks found) a
    (subst (λ x. IsSearched d x u ws n met marks found) b
    (subst (λ x. IsSearched d test x ws n met marks found) c
    (subst (λ x. IsSearched d test t x n met marks found) f s)))
