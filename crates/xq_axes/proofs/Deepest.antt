-- Levels that rise: the last one is the deepest.
use Rattle.std.proofs.Common.{◌≡◌, ℕ, ◌+◌, ◌-◌, ◌<◌, ◌≤◌, List, [], ◌∷◌, ◌++◌, length, take, get_or, Bool, true, false, ◌&&◌, ◌||◌, eqb, nat_le, inl, inr, refl, sym, ◌∙◌, ap, arith}
use Rattle.std.specs.Prelude.{Option, Some, None, slice_get}
use Rattle.std.proofs.Math.Bool.{and-false}
use Rattle.std.proofs.lemmas.Bool.{cases_lt, eqb-true, eq-eqb, leb-true, le-leb, ltb-true, lt-ltb, and_from, and_parts}
use Rattle.std.proofs.Math.Seq.{get_or-append_seam}
use Rattle.std.proofs.lemmas.List.{get_or-take, get_or_append_left, length-append, length-take}
use Rattle.xq_axes.specs.private.Hits.{is_among, IsRising}
use Rattle.xq_axes.specs.private.Waiting.{is_deeper, is_level}
use Rattle.xq_axes.proofs.Lists.{among_at, among_index, got, got_none}
use Rattle.xq_trees.proofs.Lists.{same_test}

-- # Fewer levels

pub rising_take : (vs : List ℕ) (k : ℕ) → IsRising vs → IsRising (take k vs)
rising_take vs k up i j a b =
    let n = length-take k vs in
    let x = get_or-take k vs i 0 (omega (arith, a, b, n)) in
    let y = get_or-take k vs j 0 (omega (arith, b, n)) in
    let z = up i j a (omega (arith, b, n)) in
    omega (arith, x, y, z)

-- where the last level is deeper than this one, the others have the same levels up to it
pub kept_before : (vs : List ℕ) (level m : ℕ) → IsRising vs → is_deeper (slice_get vs (length vs - 1)) level ≡ true → (is_among (take (length vs - 1) vs) m && nat_le m level) ≡ (is_among vs m && nat_le m level)
kept_before vs level m up deep = by (slice_get vs (length vs - 1)) refl
  where
    by : (o : Option ℕ) → slice_get vs (length vs - 1) ≡ o → (is_among (take (length vs - 1) vs) m && nat_le m level) ≡ (is_among vs m && nat_le m level)
    by None e = absurd (let z : false ≡ true = ap (λ o. is_deeper o level) (sym e) ∙ deep in cc)
    by (Some last) e =
        let g = got vs (length vs - 1) last e in
        let is = g.1 in
        let at = g.0 in
        let more : level < last = ltb-true level last (ap (λ o. is_deeper o level) (sym e) ∙ deep) in
        let n = length-take (length vs - 1) vs in
        same_test (is_among (take (length vs - 1) vs) m && nat_le m level) (is_among vs m && nat_le m level)
        (λ h. (
        let w = and_parts _ _ h in
        let i = among_index (take (length vs - 1) vs) m w.0 in
        let l = i.1 in
        let k : i.0 < length vs - 1 = omega (arith, l, n) in
        and_from _ _ (among_at vs i.0 m (omega (arith, k)) (sym (get_or-take (length vs - 1) vs i.0 0 k) ∙ i.2)) w.1))
        (λ h. (
        let w = and_parts _ _ h in
        let i = among_index vs m w.0 in
        let l = i.1 in
        let value = i.2 in
        let most = leb-true m level w.1 in
        elim (cases_lt i.0 (length vs - 1)) [
          | inl k ↦ and_from _ _ (among_at (take (length vs - 1) vs) i.0 m (omega (arith, k, n)) (get_or-take (length vs - 1) vs i.0 0 k ∙ value)) w.1
          | inr k ↦ absurd (
              let same : i.0 ≡ length vs - 1 = omega (arith, k, l) in
              let here : get_or vs (length vs - 1) 0 ≡ m = ap (λ j. get_or vs j 0) (sym same) ∙ value in
              omega (arith, here, is, most, more))
        ]))

-- where it is not, they are all of them
pub all_kept : (vs : List ℕ) (level m : ℕ) → IsRising vs → is_deeper (slice_get vs (length vs - 1)) level ≡ false → is_among vs m ≡ (is_among vs m && nat_le m level)
all_kept vs level m up flat = same_test (is_among vs m) (is_among vs m && nat_le m level)
    (λ h. and_from _ _ h (le-leb m level (among_most vs level m up flat h)))
    (λ h. (and_parts _ _ h).0)
  where
    among_most : (vs : List ℕ) (level m : ℕ) → IsRising vs → is_deeper (slice_get vs (length vs - 1)) level ≡ false → is_among vs m ≡ true → m ≤ level
    among_most vs level m up flat h = by (slice_get vs (length vs - 1)) refl
      where
        by : (o : Option ℕ) → slice_get vs (length vs - 1) ≡ o → m ≤ level
        by None e = absurd (let n = got_none vs (length vs - 1) e in let i = (among_index vs m h).1 in omega (arith, n, i))
        by (Some last) e =
            let g = got vs (length vs - 1) last e in
            let is = g.1 in
            let i = among_index vs m h in
            let l = i.1 in
            let value = i.2 in
            let most : last ≤ level = elim (cases_lt level last) [
              | inl k ↦ absurd (let z : true ≡ false = sym (lt-ltb level last k) ∙ ap (λ o. is_deeper o level) (sym e) ∙ flat in cc)
              | inr k ↦ k
            ] in
            elim (cases_lt i.0 (length vs - 1)) [
              | inl k ↦ (let less = up i.0 (length vs - 1) k (omega (arith, l)) in omega (arith, less, is, value, most))
              | inr k ↦ (
                  let same : i.0 ≡ length vs - 1 = omega (arith, k, l) in
                  let here : get_or vs (length vs - 1) 0 ≡ m = ap (λ j. get_or vs j 0) (sym same) ∙ value in
                  omega (arith, here, is, most))
            ]

-- # The level itself

-- it is among levels that are no deeper where it is the last of them
pub ends_there : (vs : List ℕ) (level : ℕ) → IsRising vs → ((m : ℕ) → is_among vs m ≡ true → m ≤ level) → is_level (slice_get vs (length vs - 1)) level ≡ is_among vs level
ends_there vs level up most = by (slice_get vs (length vs - 1)) refl
  where
    by : (o : Option ℕ) → slice_get vs (length vs - 1) ≡ o → is_level (slice_get vs (length vs - 1)) level ≡ is_among vs level
    by None e = ap (λ o. is_level o level) e ∙ same_test false (is_among vs level) (λ z. absurd (cc)) (λ h. absurd (let n = got_none vs (length vs - 1) e in let i = (among_index vs level h).1 in omega (arith, n, i)))
    by (Some last) e =
        let g = got vs (length vs - 1) last e in
        let is = g.1 in
        ap (λ o. is_level o level) e ∙ same_test (eqb last level) (is_among vs level)
        (λ h. among_at vs (length vs - 1) level g.0 (is ∙ eqb-true last level h))
        (λ h. (
        let i = among_index vs level h in
        let l = i.1 in
        let value = i.2 in
        let top = most last (among_at vs (length vs - 1) last g.0 is) in
        elim (cases_lt i.0 (length vs - 1)) [
          | inl k ↦ absurd (let less = up i.0 (length vs - 1) k (omega (arith, l)) in omega (arith, less, is, value, top))
          | inr k ↦ (
              let same : i.0 ≡ length vs - 1 = omega (arith, k, l) in
              let here : get_or vs (length vs - 1) 0 ≡ level = ap (λ j. get_or vs j 0) (sym same) ∙ value in
              eq-eqb last level (sym is ∙ here))
        ]))

-- one more level, deeper than all
pub rising_more : (vs : List ℕ) (level : ℕ) → IsRising vs → ((m : ℕ) → is_among vs m ≡ true → m < level) → IsRising (vs ++ level ∷ [])
rising_more vs level up less i j a b =
    let n : length (vs ++ level ∷ []) ≡ length vs + 1 = length-append vs (level ∷ []) in
    let x : get_or (vs ++ level ∷ []) i 0 ≡ get_or vs i 0 = get_or_append_left vs (level ∷ []) 0 i (omega (arith, a, b, n)) in
    elim (cases_lt j (length vs)) [
      | inl k ↦ (let y = get_or_append_left vs (level ∷ []) 0 j k in let z = up i j a k in omega (arith, x, y, z))
      | inr k ↦ (
          let same : j ≡ length vs = omega (arith, k, b, n) in
          let y : get_or (vs ++ level ∷ []) j 0 ≡ level = ap (λ q. get_or (vs ++ level ∷ []) q 0) same ∙ get_or-append_seam vs level [] 0 in
          let z = less (get_or vs i 0) (among_at vs i (get_or vs i 0) (omega (arith, a, same)) refl) in
          omega (arith, x, y, z))
    ]

-- # A level that is met

and_true : (b : Bool) → (b && true) ≡ b
and_true true = refl
and_true false = refl

pub or_none : (b : Bool) → (b || false) ≡ b
or_none true = refl
or_none false = refl

-- of the levels those up to this one are left
module _ (old left : List ℕ) (level : ℕ) (kept : (m : ℕ) → is_among left m ≡ (is_among old m && nat_le m level)) where
  pub own_kept : is_among left level ≡ is_among old level
  own_kept = kept level ∙ ap (λ b. is_among old level && b) (le-leb level level (omega arith)) ∙ and_true (is_among old level)

  pub most_kept : (m : ℕ) → is_among left m ≡ true → m ≤ level
  most_kept m h = leb-true m level (and_parts _ _ (sym (kept m) ∙ h)).1

  -- the last of them is the level, where that is among them
  pub ends_kept : IsRising left → is_level (slice_get left (length left - 1)) level ≡ is_among old level
  ends_kept up = ends_there left level up most_kept ∙ own_kept

  -- and where it is not, it comes after all of them
  pub less_kept : is_among old level ≡ false → (m : ℕ) → is_among left m ≡ true → m < level
  less_kept none m h =
      let l = most_kept m h in
      elim (cases_lt m level) [
        | inl k ↦ k
        | inr k ↦ absurd (let same : m ≡ level = omega (arith, l, k) in let z : true ≡ false = sym (sym own_kept ∙ ap (is_among left) (sym same) ∙ h) ∙ none in cc)
      ]

-- a level that is among them already
pub already : (xs : List ℕ) (level m : ℕ) (w : Bool) → is_among xs level ≡ true → is_among xs m ≡ (is_among xs m || (w && eqb level m))
already xs level m w h = by (eqb level m) refl
  where
    by : (b : Bool) → eqb level m ≡ b → is_among xs m ≡ (is_among xs m || (w && eqb level m))
    by true e = (let a : is_among xs m ≡ true = ap (is_among xs) (sym (eqb-true level m e)) ∙ h in a ∙ sym (ap (λ b. b || (w && eqb level m)) a))
    by false e = sym (ap (λ b. is_among xs m || (w && b)) e ∙ ap (λ b. is_among xs m || b) (and-false w) ∙ or_none (is_among xs m))
