-- What the readers of names and numbers give: a token at the front, no shorter than any that stands there.
use Rattle.std.proofs.Common.{◌≡◌, ℕ, ◌+◌, ◌<◌, ◌≤◌, Bool, true, false, cond, [], ◌∷◌, ◌++◌, length, refl, sym, ap, subst, ◌∙◌, arith, append_assoc, ◌⊎◌, inl, inr}
use Rattle.std.specs.Prelude.{◌&&◌, ◌==◌}
use Rattle.std.specs.List.{list_all}
use Rattle.std.proofs.lemmas.List.{length-append}
use Rattle.std.proofs.lemmas.Bool.{and_parts}
use borrow.Author.Clash.{clash}
use Rattle.xq_atoms.specs.Characters.{is_digit, is_name_start, is_name_char}
use Rattle.xq_lexer.specs.Chars.{Text, begins}
use Rattle.xq_lexer.specs.Literals.{Number, integer, decimal, number_text, IsNumber}
use Rattle.xq_lexer.specs.Spelling.{Form, name, prefixed, form_text, IsName, IsForm}
use Rattle.xq_lexer.specs.Reading.{span, after_name, read_name, after_digits, read_number, begins_number}
use Rattle.xq_lexer.proofs.Spans.{parts, span_exact}
use Rattle.xq_atoms.proofs.Classes.{start_is_char}
use Rattle.xq_lexer.proofs.Classes.{eq_is}

-- ---- names

span_start : (p : ℕ → Bool) (c : ℕ) (t : Text) → p c ≡ true → ◌≡◌ {A = Text × Text} (span p (c ∷ t)) (c ∷ (span p t).0, (span p t).1)
span_start p c t e = rw e refl

-- the name that a span gives
pub name_of_span : (c : ℕ) (t : Text) → is_name_start c ≡ true → IsName (span is_name_char (c ∷ t)).0
name_of_span c t e = rw (span_start is_name_char c t (start_is_char c e), e, (parts is_name_char t).all) refl

pub record AtFront (z : Text) (x : Form × Text) : Type 0 where
  pub whole : form_text x.0 ++ x.1 ≡ z
  pub is : IsForm x.0

after_name_front : (w t : Text) → IsName w → AtFront (w ++ t) (after_name w t)
unfolding after_name
after_name_front w [] is = record { whole = refl; is = is }
after_name_front w (a ∷ []) is = record { whole = refl; is = is }
after_name_front w (a ∷ b ∷ t) is = go (a == 58) refl (is_name_start b) refl
  where
    go : (p : Bool) → (a == 58) ≡ p → (q : Bool) → is_name_start b ≡ q → AtFront (w ++ a ∷ b ∷ t) (cond (p && q) (let x = span is_name_char (b ∷ t) in (prefixed w x.0, x.1)) (name w, a ∷ b ∷ t))
    go true e true k = record {
      whole = append_assoc w (58 ∷ (span is_name_char (b ∷ t)).0) (span is_name_char (b ∷ t)).1 ∙ ap (λ (u : Text). w ++ 58 ∷ u) (parts is_name_char (b ∷ t)).whole ∙ ap (λ x. w ++ x ∷ b ∷ t) (sym (eq_is a 58 e));
      is = (is, name_of_span b t k);
    }
    go true e false k = record { whole = refl; is = is }
    go false e q k = record { whole = refl; is = is }

pub name_front : (c : ℕ) (t : Text) → is_name_start c ≡ true → AtFront (c ∷ t) (read_name (c ∷ t))
unfolding read_name
name_front c t e =
    subst (λ (z : Text). AtFront z (after_name (span is_name_char (c ∷ t)).0 (span is_name_char (c ∷ t)).1)) (parts is_name_char (c ∷ t)).whole
    (after_name_front (span is_name_char (c ∷ t)).0 (span is_name_char (c ∷ t)).1 (name_of_span c t e))

after_name_longer : (w t : Text) → length w ≤ length (form_text (after_name w t).0)
unfolding after_name
after_name_longer w [] = omega arith
after_name_longer w (a ∷ []) = omega arith
after_name_longer w (a ∷ b ∷ t) = go (a == 58 && is_name_start b)
  where
    go : (p : Bool) → length w ≤ length (form_text (cond {A = Form × Text} p (let x = span is_name_char (b ∷ t) in (prefixed w x.0, x.1)) (name w, a ∷ b ∷ t)).0)
    go true = let l = length-append w (58 ∷ (span is_name_char (b ∷ t)).0) in omega (arith, l)
    go false = omega arith

pub read_name_longer : (w rest : Text) → list_all is_name_char w ≡ true → length w ≤ length (form_text (read_name (w ++ rest)).0)
unfolding read_name
read_name_longer w rest all =
    let m = (parts is_name_char (w ++ rest)).most w rest refl all in
    let l = after_name_longer (span is_name_char (w ++ rest)).0 (span is_name_char (w ++ rest)).1 in
    omega (arith, m, l)

-- ---- numbers

pub record NumberAt (z : Text) (x : Number × Text) : Type 0 where
  pub whole : number_text x.0 ++ x.1 ≡ z
  pub is : IsNumber x.0

some_digits : (t : Text) → begins is_digit t ≡ true → 0 < length (span is_digit t).0
some_digits [] e = absurd cc
some_digits (c ∷ t) e = rw e (omega arith)

after_digits_at : (w t : Text) → list_all is_digit w ≡ true → (0 < length w) ⊎ ((u : Text) × (t ≡ 46 ∷ u) × (begins is_digit u ≡ true)) → NumberAt (w ++ t) (after_digits w t)
unfolding after_digits
after_digits_at w [] all (inl some) = record { whole = refl; is = (all, some) }
after_digits_at w [] all (inr h) = let e = h.1 in absurd cc
after_digits_at w (a ∷ t) all h = go (a == 46) refl h
  where
    digits : (0 < length w) ⊎ ((u : Text) × (a ∷ t ≡ 46 ∷ u) × (begins is_digit u ≡ true)) → 0 < length w + length (span is_digit t).0
    digits (inl some) = omega (arith, some)
    digits (inr k) = let same : k.0 ≡ t = cc (k.1) in let s = some_digits t (ap (begins is_digit) (sym same) ∙ k.2) in omega (arith, s)

    go : (b : Bool) → (a == 46) ≡ b → (0 < length w) ⊎ ((u : Text) × (a ∷ t ≡ 46 ∷ u) × (begins is_digit u ≡ true)) → NumberAt (w ++ a ∷ t) (cond b (let x = span is_digit t in (decimal w x.0, x.1)) (integer w, a ∷ t))
    go true e h = record {
      whole = append_assoc w (46 ∷ (span is_digit t).0) (span is_digit t).1 ∙ ap (λ (u : Text). w ++ 46 ∷ u) (parts is_digit t).whole ∙ ap (λ x. w ++ x ∷ t) (sym (eq_is a 46 e));
      is = (all, (parts is_digit t).all, digits h);
    }
    go false e (inl some) = record { whole = refl; is = (all, some) }
    go false e (inr k) = let same : a ≡ 46 = cc (k.1) in clash (a == 46) (ap (λ x. x == 46) same) e

-- how a number begins
number_start : (c : ℕ) (t : Text) → begins_number (c ∷ t) ≡ true → (is_digit c ≡ true) ⊎ ((c ≡ 46) × (begins is_digit t ≡ true) × (is_digit c ≡ false))
number_start c t h = go (is_digit c) refl (c == 46) refl (begins is_digit t) refl
  where
    go : (p : Bool) → is_digit c ≡ p → (q : Bool) → (c == 46) ≡ q → (r : Bool) → begins is_digit t ≡ r → (is_digit c ≡ true) ⊎ ((c ≡ 46) × (begins is_digit t ≡ true) × (is_digit c ≡ false))
    go true e q k r m = inl e
    go false e true k true m = inr (eq_is c 46 k, m, e)
    go false e true k false m = absurd cc
    go false e false k r m = absurd cc

number_span : (c : ℕ) (t : Text) → begins_number (c ∷ t) ≡ true → (0 < length (span is_digit (c ∷ t)).0) ⊎ ((u : Text) × ((span is_digit (c ∷ t)).1 ≡ 46 ∷ u) × (begins is_digit u ≡ true))
number_span c t h = elim (number_start c t h) [
  | inl e ↦ inl (some_digits (c ∷ t) e)
  | inr k ↦ inr (t, rw (k.2, k.0) refl, k.1)
]

pub number_front : (c : ℕ) (t : Text) → begins_number (c ∷ t) ≡ true → NumberAt (c ∷ t) (read_number (c ∷ t))
unfolding read_number
number_front c t h =
    subst (λ (z : Text). NumberAt z (after_digits (span is_digit (c ∷ t)).0 (span is_digit (c ∷ t)).1)) (parts is_digit (c ∷ t)).whole
    (after_digits_at (span is_digit (c ∷ t)).0 (span is_digit (c ∷ t)).1 (parts is_digit (c ∷ t)).all (number_span c t h))

after_digits_longer : (w t : Text) → length w ≤ length (number_text (after_digits w t).0)
unfolding after_digits
after_digits_longer w [] = omega arith
after_digits_longer w (a ∷ t) = go (a == 46)
  where
    go : (b : Bool) → length w ≤ length (number_text (cond {A = Number × Text} b (let x = span is_digit t in (decimal w x.0, x.1)) (integer w, a ∷ t)).0)
    go true = let l = length-append w (46 ∷ (span is_digit t).0) in omega (arith, l)
    go false = omega arith

point_after : (w f rest : Text) → list_all is_digit f ≡ true → length (w ++ 46 ∷ f) ≤ length (number_text (after_digits w (46 ∷ (f ++ rest))).0)
unfolding after_digits
point_after w f rest all =
    let m = (parts is_digit (f ++ rest)).most f rest refl all in
    let a = length-append w (46 ∷ f) in
    let b = length-append w (46 ∷ (span is_digit (f ++ rest)).0) in
    omega (arith, m, a, b)

-- every number at the front is at most as long as the one that is read
pub read_number_longer : (n : Number) (rest : Text) → IsNumber n → length (number_text n) ≤ length (number_text (read_number (number_text n ++ rest)).0)
unfolding read_number
read_number_longer (integer w) rest is =
    let m = (parts is_digit (w ++ rest)).most w rest refl is.0 in
    let l = after_digits_longer (span is_digit (w ++ rest)).0 (span is_digit (w ++ rest)).1 in
    omega (arith, m, l)
read_number_longer (decimal w f) rest is = rw (append_assoc w (46 ∷ f) rest, span_exact is_digit w (46 ∷ (f ++ rest)) is.0 refl) (point_after w f rest is.1)

pub number_some : (n : Number) → IsNumber n → 0 < length (number_text n)
number_some (integer w) is = is.1
number_some (decimal w f) is = let l = length-append w (46 ∷ f) in omega (arith, l)

pub read_number_some : (c : ℕ) (t : Text) → begins_number (c ∷ t) ≡ true → 1 ≤ length (number_text (read_number (c ∷ t)).0)
read_number_some c t h = let s = number_some (read_number (c ∷ t)).0 (number_front c t h).is in omega (arith, s)

-- a number begins as one
pub record NumberThere (n : Number) (rest : Text) : Type 0 where
  pub char : ℕ
  pub more : Text
  pub whole : number_text n ++ rest ≡ char ∷ more
  pub begins_so : begins_number (char ∷ more) ≡ true

abbrev pub NotStart : ℕ → Type 0
NotStart c = (is_digit c ≡ true) ⊎ (c ≡ 46)

pub number_there : (n : Number) (rest : Text) → IsNumber n → (x : NumberThere n rest) × NotStart x.char
number_there (integer []) rest is = absurd (omega (arith, is.1))
number_there (integer (c ∷ w)) rest is =
    let d = (and_parts (is_digit c) (list_all is_digit w) is.0).0 in
    (record { char = c; more = w ++ rest; whole = refl; begins_so = rw d refl }, inl d)
number_there (decimal (c ∷ w) f) rest is =
    let d = (and_parts (is_digit c) (list_all is_digit w) is.0).0 in
    (record { char = c; more = (w ++ 46 ∷ f) ++ rest; whole = refl; begins_so = rw d refl }, inl d)
number_there (decimal [] []) rest is = absurd (omega (arith, is.2))
number_there (decimal [] (c ∷ f)) rest is =
    let d = (and_parts (is_digit c) (list_all is_digit f) is.1).0 in
    (record { char = 46; more = c ∷ f ++ rest; whole = refl; begins_so = rw d refl }, inr refl)
