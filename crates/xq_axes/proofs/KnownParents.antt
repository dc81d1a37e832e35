-- Parents that are told at once.
use Rattle.std.proofs.Common.{◌≡◌, ℕ, ◌+◌, ◌-◌, ◌<◌, ◌≤◌, List, [], ◌∷◌, ◌++◌, length, get_or, Bool, true, false, ◌&&◌, ◌||◌, eqb, ◌⊎◌, inl, inr, refl, sym, ◌∙◌, ap, subst, arith}
use Rattle.std.specs.Prelude.{Option, Some, None, slice_get}
use Rattle.std.specs.List.{insert}
use Rattle.std.proofs.Math.Seq.{get_or-append_seam}
use Rattle.std.proofs.lemmas.Bool.{cases_lt, cases_order, eqb-true, eq-eqb, or_cases, or_left, or_right, ltb-true, false_from_ne_true}
use Rattle.std.proofs.lemmas.List.{get_or_append_left, length-append}
use Rattle.std.proofs.lemmas.List.Edits.{get_or-insert_at, get_or-insert_below, get_or-insert_above, length-insert}
use Rattle.std.proofs.lemmas.List.Folds.{list_any-append}
use Rattle.xq_trees.specs.Forest.{count}
use Rattle.xq_trees.specs.Tree.{Tree, nodes}
use Rattle.xq_trees.specs.Rows.{rows, row_at, measured}
use Rattle.xq_trees.specs.RegionTests.{in_region}
use Rattle.xq_trees.specs.Nesting.{count-measured}
use Rattle.xq_trees.specs.declared.Axis.TheVariants as axis
use Rattle.xq_trees.proofs.Regions.{length-labels}
use Rattle.xq_trees.proofs.RegionTable.{in_region_is}
use Rattle.xq_sources.specs.Parents.{IsParentRow}
use Rattle.xq_meaning.specs.declared.node_tests.Test.{Test}
use Rattle.xq_axes.specs.private.Hits.{is_among, is_hit, is_wanted, row_passes, below_where, IsRising}
use Rattle.xq_axes.specs.private.KnownParents.{ends_before, AreTold}
use Rattle.xq_axes.proofs.Lists.{any_from, any_at, below_where-agree, among_at, among_index, got, got_none}
use Rattle.xq_trees.proofs.Lists.{same_test}
use Rattle.xq_axes.proofs.Trees.{one_parent}

-- # A place more among those that rise

-- after all of them
pub after_all : (us : List ℕ) (u i : ℕ) → IsRising us → ends_before (slice_get us (length us - 1)) u ≡ true → i < length us → get_or us i 0 < u
after_all us u i up e l = by (slice_get us (length us - 1)) refl
  where
    by : (o : Option ℕ) → slice_get us (length us - 1) ≡ o → get_or us i 0 < u
    by None k = absurd (let n = got_none us (length us - 1) k in omega (arith, n, l))
    by (Some last) k =
        let g = got us (length us - 1) last k in
        let is = g.1 in
        let less : last < u = ltb-true last u (ap (λ o. ends_before o u) (sym k) ∙ e) in
        elim (cases_lt i (length us - 1)) [
          | inl a ↦ (let x = up i (length us - 1) a (omega (arith, l)) in omega (arith, x, is, less))
          | inr a ↦ (let same : i ≡ length us - 1 = omega (arith, a, l) in let x : get_or us i 0 ≡ last = ap (λ j. get_or us j 0) same ∙ is in omega (arith, x, less))
        ]

pub rising_after : (us : List ℕ) (u : ℕ) → IsRising us → ends_before (slice_get us (length us - 1)) u ≡ true → IsRising (us ++ u ∷ [])
rising_after us u up e i j a b =
    let n : length (us ++ u ∷ []) ≡ length us + 1 = length-append us (u ∷ []) in
    let x = get_or_append_left us (u ∷ []) 0 i (omega (arith, a, b, n)) in
    elim (cases_lt j (length us)) [
      | inl k ↦ (let y = get_or_append_left us (u ∷ []) 0 j k in let z = up i j a k in omega (arith, x, y, z))
      | inr k ↦ (
          let same : j ≡ length us = omega (arith, k, b, n) in
          let y : get_or (us ++ u ∷ []) j 0 ≡ u = ap (λ q. get_or (us ++ u ∷ []) q 0) same ∙ get_or-append_seam us u [] 0 in
          let z = after_all us u i up e (omega (arith, a, same)) in
          omega (arith, x, y, z))
    ]

pub among_after : (us : List ℕ) (u n : ℕ) → is_among (us ++ u ∷ []) n ≡ (eqb u n || is_among us n)
among_after us u n = list_any-append (λ v. eqb v n) us (u ∷ []) ∙ turned (is_among us n) (eqb u n)
  where
    turned : (a b : Bool) → (a || (b || false)) ≡ (b || a)
    turned true true = refl
    turned true false = refl
    turned false true = refl
    turned false false = refl

-- between two of them
pub record IsBetween (us : List ℕ) (index u : ℕ) : Type 0 where
  pub within : index ≤ length us
  pub before : (k : ℕ) → k < index → get_or us k 0 < u
  pub after : (k : ℕ) → index ≤ k → k < length us → u < get_or us k 0

module _ (us : List ℕ) (index u : ℕ) (at : IsBetween us index u) where
  inserted : ℕ → ℕ
  inserted k = get_or (insert us index u) k 0

  fewer : length (insert us index u) ≡ length us + 1
  fewer = length-insert us index u at.within

  pub rising_between : IsRising us → IsRising (insert us index u)
  unfolding inserted
  rising_between up i j a b =
      let n = fewer in
      elim (cases_order i index) [
        | inl same ↦ (
            let x : get_or (insert us index u) i 0 ≡ u = ap (λ k. get_or (insert us index u) k 0) same ∙ get_or-insert_at us index u 0 at.within in
            let z : (j - 1) + 1 ≡ j = omega (arith, a) in
            let y : get_or (insert us index u) j 0 ≡ get_or us (j - 1) 0 = ap (λ k. get_or (insert us index u) k 0) (sym z) ∙ get_or-insert_above us index u 0 (j - 1) (omega (arith, a, same)) at.within in
            let l = at.after (j - 1) (omega (arith, a, same)) (omega (arith, a, b, n)) in
            omega (arith, x, y, l))
        | inr apart ↦ elim apart [
          | inl less ↦ (
              let x = get_or-insert_below us index u 0 i less at.within in
              let first = at.before i less in
              elim (cases_order j index) [
                | inl same ↦ (
                    let y : get_or (insert us index u) j 0 ≡ u = ap (λ k. get_or (insert us index u) k 0) same ∙ get_or-insert_at us index u 0 at.within in
                    omega (arith, x, y, first))
                | inr other ↦ elim other [
                  | inl l ↦ (let w = at.within in let y = get_or-insert_below us index u 0 j l at.within in let z = up i j a (omega (arith, l, w)) in omega (arith, x, y, z))
                  | inr m ↦ (
                      let z : (j - 1) + 1 ≡ j = omega (arith, a) in
                      let y : get_or (insert us index u) j 0 ≡ get_or us (j - 1) 0 = ap (λ k. get_or (insert us index u) k 0) (sym z) ∙ get_or-insert_above us index u 0 (j - 1) (omega (arith, m)) at.within in
                      let l = at.after (j - 1) (omega (arith, m)) (omega (arith, a, b, n)) in
                      omega (arith, x, y, first, l))
                ]
              ])
          | inr more ↦ (
              let zi : (i - 1) + 1 ≡ i = omega (arith, more) in
              let zj : (j - 1) + 1 ≡ j = omega (arith, a) in
              let x : get_or (insert us index u) i 0 ≡ get_or us (i - 1) 0 = ap (λ k. get_or (insert us index u) k 0) (sym zi) ∙ get_or-insert_above us index u 0 (i - 1) (omega (arith, more)) at.within in
              let y : get_or (insert us index u) j 0 ≡ get_or us (j - 1) 0 = ap (λ k. get_or (insert us index u) k 0) (sym zj) ∙ get_or-insert_above us index u 0 (j - 1) (omega (arith, more, a)) at.within in
              let z = up (i - 1) (j - 1) (omega (arith, a, more)) (omega (arith, a, b, n)) in
              omega (arith, x, y, z))
        ]
      ]

  pub among_between : (n : ℕ) → is_among (insert us index u) n ≡ (eqb u n || is_among us n)
  unfolding inserted
  among_between n =
      let w = at.within in
      let c = fewer in
      same_test (is_among (insert us index u) n) (eqb u n || is_among us n)
      (λ h. (
      let i = among_index (insert us index u) n h in
      let l = i.1 in
      let value = i.2 in
      elim (cases_order i.0 index) [
        | inl same ↦ or_left _ _ (eq-eqb u n (sym (get_or-insert_at us index u 0 w) ∙ ap (λ k. get_or (insert us index u) k 0) (sym same) ∙ value))
        | inr apart ↦ or_right _ _ (elim apart [
          | inl less ↦ among_at us i.0 n (omega (arith, less, w)) (sym (get_or-insert_below us index u 0 i.0 less w) ∙ value)
          | inr more ↦ (
              let z : (i.0 - 1) + 1 ≡ i.0 = omega (arith, more) in
              among_at us (i.0 - 1) n (omega (arith, more, l, c)) (sym (get_or-insert_above us index u 0 (i.0 - 1) (omega (arith, more)) w) ∙ ap (λ k. get_or (insert us index u) k 0) z ∙ value))
        ])
      ]))
      (λ h. elim (or_cases _ _ h) [
        | inl e ↦ among_at (insert us index u) index n (omega (arith, c, w)) (get_or-insert_at us index u 0 w ∙ eqb-true u n e)
        | inr e ↦ (
            let i = among_index us n e in
            let l = i.1 in
            elim (cases_lt i.0 index) [
              | inl less ↦ among_at (insert us index u) i.0 n (omega (arith, l, c)) (get_or-insert_below us index u 0 i.0 less w ∙ i.2)
              | inr more ↦ among_at (insert us index u) (i.0 + 1) n (omega (arith, l, c)) (get_or-insert_above us index u 0 i.0 more w ∙ i.2)
            ])
      ])

-- one of them
pub among_same : (us : List ℕ) (u n : ℕ) → is_among us u ≡ true → is_among us n ≡ (eqb u n || is_among us n)
among_same us u n h = same_test (is_among us n) (eqb u n || is_among us n) (or_right _ _) (λ e. elim (or_cases _ _ e) [
  | inl k ↦ subst (λ x. is_among us x ≡ true) (eqb-true u n k) h
  | inr k ↦ k
])

-- # The parents of all

pub length-rows : (t : Tree) → length (rows t) ≡ count (nodes t)
length-rows t = length-labels (measured 0 (nodes t)) ∙ count-measured 0 (nodes t)

-- us has the parents that were told, of all places or of all after the root
module _ (test : Test) (t : Tree) (us : List ℕ) where
  pub parents_hit : (vs told : List ℕ) (p : ℕ) → AreTold t vs told → length told ≡ length vs → ((n : ℕ) → is_among us n ≡ is_among told n) → is_hit axis.SelfNode t us p ≡ is_hit axis.Parent t vs p
  parents_hit vs told p all n same = same_test (is_hit axis.SelfNode t us p) (is_hit axis.Parent t vs p)
      (λ e. (
      let i = among_index told p (sym (same p) ∙ e) in
      let l = i.1 in
      let q = subst (λ u. IsParentRow (rows t) u (get_or vs i.0 0)) i.2 (all i.0 l) in
      any_from (λ v. in_region axis.Parent (rows t) v p) vs i.0 0 (omega (arith, l, n)) ((in_region_is axis.Parent (rows t) (get_or vs i.0 0) p).1 (q.inside, q.level))))
      (λ e. (
      let w = any_at (λ v. in_region axis.Parent (rows t) v p) vs 0 e in
      let l = w.within in
      let v = get_or vs w.index 0 in
      let u = get_or told w.index 0 in
      let r = (in_region_is axis.Parent (rows t) v p).0 w.holds in
      let q = all w.index (omega (arith, l, n)) in
      let hv : v < count (nodes t) = (let x = q.there in let y = length-rows t in omega (arith, x, y)) in
      same p ∙ among_at told w.index p (omega (arith, l, n)) (one_parent t u p v hv (record { inside = q.inside; level = q.level }) (record { inside = r.0; level = r.1 }))))

  -- they alone are on the parent axis from the places
  parents_search : (vs told : List ℕ) → AreTold t vs told → length told ≡ length vs → ((n : ℕ) → is_among us n ≡ is_among told n) → below_where (is_wanted axis.SelfNode test t us) (count (nodes t)) ≡ below_where (is_wanted axis.Parent test t vs) (count (nodes t))
  parents_search vs told all n same = below_where-agree (is_wanted axis.SelfNode test t us) (is_wanted axis.Parent test t vs) (count (nodes t)) (λ p l. ap (λ b. b && row_passes test (row_at (rows t) p)) (parents_hit vs told p all n same))

  root_none : (vs : List ℕ) → below_where (is_wanted axis.Parent test t vs) (count (nodes t)) ≡ below_where (is_wanted axis.Parent test t (0 ∷ vs)) (count (nodes t))
  root_none vs = below_where-agree (is_wanted axis.Parent test t vs) (is_wanted axis.Parent test t (0 ∷ vs)) (count (nodes t)) (λ p l. ap (λ b. b && row_passes test (row_at (rows t) p)) (ap (λ b. b || is_hit axis.Parent t vs p) (sym (none p))))
    where
      none : (p : ℕ) → in_region axis.Parent (rows t) 0 p ≡ false
      none p = false_from_ne_true (in_region axis.Parent (rows t) 0 p) (λ e. (let r = (in_region_is axis.Parent (rows t) 0 p).0 e in let i = r.0.0 in omega (arith, i)))

  pub told_search : (vs below told : List ℕ) → (below ≡ vs) ⊎ (vs ≡ 0 ∷ below) → AreTold t below told → length told ≡ length below → ((n : ℕ) → is_among us n ≡ is_among told n) → below_where (is_wanted axis.SelfNode test t us) (count (nodes t)) ≡ below_where (is_wanted axis.Parent test t vs) (count (nodes t))
  told_search vs below told (inl e) all n same = parents_search below told all n same ∙ ap (λ ws. below_where (is_wanted axis.Parent test t ws) (count (nodes t))) e
  told_search vs below told (inr e) all n same = parents_search below told all n same ∙ root_none below ∙ ap (λ ws. below_where (is_wanted axis.Parent test t ws) (count (nodes t))) (sym e)

pub one_rises : (v : ℕ) → IsRising (v ∷ [])
one_rises v i j a b = absurd (omega (arith, a, b))

-- the parent of the one place
pub one_told : (test : Test) (t : Tree) (vs : List ℕ) (u : ℕ) → length vs ≡ 1 → IsParentRow (rows t) u (get_or vs 0 0) → below_where (is_wanted axis.SelfNode test t (u ∷ [])) (count (nodes t)) ≡ below_where (is_wanted axis.Parent test t vs) (count (nodes t))
one_told test t vs u one is = told_search test t (u ∷ []) vs vs (u ∷ []) (inl refl) (λ i l. (let z : 0 ≡ i = omega (arith, l) in subst (λ j. IsParentRow (rows t) (get_or (u ∷ []) j 0) (get_or vs j 0)) z is)) (sym one) (λ n. refl)
