-- The longest front that passes a test.
use Rattle.std.proofs.Common.{◌≡◌, ℕ, suc, ◌≤◌, Bool, true, false, cond, [], ◌∷◌, ◌++◌, length, refl, ap, ◌∙◌, arith}
use Rattle.std.specs.List.{list_all}
use Rattle.std.proofs.lemmas.Bool.{and_parts}
use Rattle.xq_lexer.specs.Chars.{Text, begins}
use Rattle.xq_lexer.specs.Reading.{span}

pub record Parts (p : ℕ → Bool) (t : Text) (x : Text × Text) : Type 0 where
  pub whole : x.0 ++ x.1 ≡ t
  pub all : list_all p x.0 ≡ true
  pub stops : begins p x.1 ≡ false
  pub most : (v rest : Text) → v ++ rest ≡ t → list_all p v ≡ true → length v ≤ length x.0

module _ (p : ℕ → Bool) where
  step : (c : ℕ) (t : Text) (b : Bool) → p c ≡ b → Parts p t (span p t) → Parts p (c ∷ t) (cond b (c ∷ (span p t).0, (span p t).1) ([], c ∷ t))
  step c t true e h = record {
    whole = ap (λ (x : Text). c ∷ x) h.whole;
    all = rw (e, h.all) refl;
    stops = h.stops;
    most = λ v rest. elim v as (λ v. v ++ rest ≡ c ∷ t → list_all p v ≡ true → length v ≤ suc (length (span p t).0)) [
      | [] ↦ λ same all. omega arith
      | (d ∷ v') ↦ λ same all.
          let tail : v' ++ rest ≡ t = cc in
          let m = h.most v' rest tail (and_parts (p d) (list_all p v') all).1 in
          omega (arith, m)
    ];
  }
  step c t false e h = record {
    whole = refl;
    all = refl;
    stops = e;
    most = λ v rest. elim v as (λ v. v ++ rest ≡ c ∷ t → list_all p v ≡ true → length v ≤ 0) [
      | [] ↦ λ same all. omega arith
      | (d ∷ v') ↦ λ same all.
          let head : d ≡ c = cc in
          let passes : p d ≡ true = (and_parts (p d) (list_all p v') all).0 in
          let fails : p d ≡ false = ap p head ∙ e in
          let no : ⊥ = cc in
          absurd no
    ];
  }

  pub parts : (t : Text) → Parts p t (span p t)
  parts [] = record {
    whole = refl;
    all = refl;
    stops = refl;
    most = λ v rest. elim v as (λ v. v ++ rest ≡ [] → list_all p v ≡ true → length v ≤ 0) [
      | [] ↦ λ same all. omega arith
      | (d ∷ v') ↦ λ same all. absurd cc
    ];
  }
  parts (c ∷ t) = step c t (p c) refl (parts t)

-- two fronts of one length are one
pub same_cut : (v rest w after : Text) → v ++ rest ≡ w ++ after → length v ≡ length w → (v ≡ w) × (rest ≡ after)
same_cut [] rest [] after e n = (refl, e)
same_cut [] rest (d ∷ w) after e n = absurd (omega (arith, n))
same_cut (c ∷ v) rest [] after e n = absurd (omega (arith, n))
same_cut (c ∷ v) rest (d ∷ w) after e n =
    let head : c ≡ d = cc in
    let tail : v ++ rest ≡ w ++ after = cc in
    let more = same_cut v rest w after tail (omega (arith, n)) in
    let front : v ≡ w = more.0 in
    (cc, more.1)

module _ (p : ℕ → Bool) where
  exact_at : (c : ℕ) (w after : Text) (b : Bool) → p c ≡ b → list_all p (c ∷ w) ≡ true → ◌≡◌ {A = Text × Text} (span p (w ++ after)) (w, after) → ◌≡◌ {A = Text × Text} (cond b (let x = span p (w ++ after) in (c ∷ x.0, x.1)) ([], c ∷ (w ++ after))) (c ∷ w, after)
  exact_at c w after true e all h = ap (λ (x : Text × Text). (c ∷ x.0, x.1)) h
  exact_at c w after false e all h = let t : p c ≡ true = (and_parts (p c) (list_all p w) all).0 in absurd cc

  stop_at : (c : ℕ) (t : Text) (b : Bool) → p c ≡ b → b ≡ false → ◌≡◌ {A = Text × Text} (cond b (let x = span p t in (c ∷ x.0, x.1)) ([], c ∷ t)) ([], c ∷ t)
  stop_at c t true e f = absurd cc
  stop_at c t false e f = refl

  pub span_stop : (after : Text) → begins p after ≡ false → ◌≡◌ {A = Text × Text} (span p after) ([], after)
  span_stop [] h = refl
  span_stop (c ∷ t) h = stop_at c t (p c) refl h

  -- a front that passes, before what doesn't
  pub span_exact : (w after : Text) → list_all p w ≡ true → begins p after ≡ false → ◌≡◌ {A = Text × Text} (span p (w ++ after)) (w, after)
  span_exact [] after all h = span_stop after h
  span_exact (c ∷ w) after all h = exact_at c w after (p c) refl all (span_exact w after (and_parts (p c) (list_all p w) all).1 h)

  pub all_more : (w : Text) (d : ℕ) → list_all p w ≡ true → p d ≡ true → list_all p (w ++ d ∷ []) ≡ true
  all_more [] d all e = rw e refl
  all_more (c ∷ w) d all e = let h = and_parts (p c) (list_all p w) all in rw (h.0, all_more w d h.1 e) refl

  pub all_weaker : (q : ℕ → Bool) → ((c : ℕ) → p c ≡ true → q c ≡ true) → (w : Text) → list_all p w ≡ true → list_all q w ≡ true
  all_weaker q weaker [] all = refl
  all_weaker q weaker (c ∷ w) all = let h = and_parts (p c) (list_all p w) all in rw (weaker c h.0, all_weaker q weaker w h.1) refl
