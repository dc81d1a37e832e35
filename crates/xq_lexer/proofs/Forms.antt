-- What the longest token at its place says of what follows it, and that it is read.
use Rattle.std.proofs.Common.{◌≡◌, ℕ, suc, ◌<◌, Bool, true, false, cond, [], ◌∷◌, ◌++◌, length, refl, sym, ap, ◌∙◌, arith, append_assoc}
use Rattle.std.specs.Prelude.{◌&&◌, ◌==◌}
use Rattle.std.specs.List.{list_all}
use Rattle.std.proofs.lemmas.List.{length-append}
use Rattle.std.proofs.lemmas.Bool.{and_parts, false_from_ne_true}
use Rattle.xq_atoms.specs.Characters.{is_digit, is_name_start, is_name_char}
use Rattle.xq_lexer.specs.Chars.{Text, begins}
use Rattle.xq_lexer.specs.Literals.{Number, integer, decimal, number_text, IsNumber}
use Rattle.xq_lexer.specs.Spelling.{Form, name, prefixed, number, form_text, IsName, IsForm, IsLongest}
use Rattle.xq_lexer.specs.Reading.{span, after_name, read_name, after_digits, read_number}
use Rattle.xq_lexer.proofs.Spans.{span_exact, all_more}
use Rattle.xq_atoms.proofs.Names.{is_name-all}
use Rattle.xq_lexer.proofs.Classes.{colon_no_char, eq_is}

-- where a longer token begins, the token isn't the longest
pub longer : (f : Form) (after : Text) → IsLongest f after → (g : Form) (rest : Text) → IsForm g → form_text g ++ rest ≡ form_text f ++ after → length (form_text f) < length (form_text g) → ⊥
longer f after best g rest is same more = let le = best g rest is same in omega (arith, le, more)

length_more : (w : Text) (d : ℕ) → length (w ++ d ∷ []) ≡ suc (length w)
length_more w d = let e = length-append w (d ∷ []) in omega (arith, e)

append_one : (w : Text) (d : ℕ) (t : Text) → (w ++ d ∷ []) ++ t ≡ w ++ d ∷ t
append_one w d t = append_assoc w (d ∷ []) t

-- from a refutation of the true case
-- what doesn't begin with a character that passes
pub begins_none : (p : ℕ → Bool) (after : Text) → ((d : ℕ) (t : Text) → after ≡ d ∷ t → p d ≡ true → ⊥) → begins p after ≡ false
begins_none p [] h = refl
begins_none p (d ∷ t) h = false_from_ne_true (p d) (h d t refl)

pub name_parts : (c : ℕ) (w : Text) → IsName (c ∷ w) → (is_name_start c ≡ true) × (list_all is_name_char w ≡ true)
name_parts c w h = and_parts (is_name_start c) (list_all is_name_char w) h

pub name_chars : (w : Text) → IsName w → list_all is_name_char w ≡ true
name_chars [] h = absurd cc
name_chars (c ∷ w) h = (and_parts (is_name_start c) _ (sym (is_name-all c w) ∙ h)).1

name_more : (w : Text) (d : ℕ) → IsName w → is_name_char d ≡ true → IsName (w ++ d ∷ [])
name_more [] d h e = absurd cc
name_more (c ∷ w) d h e = let p = name_parts c w h in rw (p.0, all_more is_name_char w d p.1 e) refl

-- ---- names

module _ (w after : Text) (is : IsName w) where
  pub name_ends : IsLongest (name w) after → begins is_name_char after ≡ false
  name_ends best = begins_none is_name_char after (λ d t e p. longer (name w) after best (name (w ++ d ∷ [])) t (name_more w d is p) (append_one w d t ∙ ap (λ (y : Text). w ++ y) (sym e)) (let m = length_more w d in omega (arith, m)))

  -- no colon with a name start behind it follows
  name_alone : IsLongest (name w) after → (b : ℕ) (t : Text) → after ≡ 58 ∷ b ∷ t → is_name_start b ≡ true → ⊥
  name_alone best b t e p =
      let same : (w ++ 58 ∷ b ∷ []) ++ t ≡ w ++ after = append_assoc w (58 ∷ b ∷ []) t ∙ ap (λ (y : Text). w ++ y) (sym e) in
      let m = length-append w (58 ∷ b ∷ []) in
      longer (name w) after best (prefixed w (b ∷ [])) t (is, rw p refl) same (omega (arith, m))

  after_name_at : (a b : ℕ) (t : Text) → ((a == 58) ≡ true → is_name_start b ≡ true → ⊥) → (p : Bool) → (a == 58) ≡ p → (q : Bool) → is_name_start b ≡ q
      → ◌≡◌ {A = Form × Text} (cond (p && q) (let x = span is_name_char (b ∷ t) in (prefixed w x.0, x.1)) (name w, a ∷ b ∷ t)) (name w, a ∷ b ∷ t)
  after_name_at a b t never true e true k = absurd (never e k)
  after_name_at a b t never true e false k = refl
  after_name_at a b t never false e q k = refl

  after_name_is : (after : Text) → ((b : ℕ) (t : Text) → after ≡ 58 ∷ b ∷ t → is_name_start b ≡ true → ⊥) → ◌≡◌ {A = Form × Text} (after_name w after) (name w, after)
  unfolding after_name
  after_name_is [] never = refl
  after_name_is (a ∷ []) never = refl
  after_name_is (a ∷ b ∷ t) never = after_name_at a b t (λ e k. never b t (ap (λ x. x ∷ b ∷ t) (eq_is a 58 e)) k) (a == 58) refl (is_name_start b) refl

  pub name_read : IsLongest (name w) after → ◌≡◌ {A = Form × Text} (read_name (w ++ after)) (name w, after)
  unfolding read_name
  name_read best = rw (span_exact is_name_char w after (name_chars w is) (name_ends best)) (after_name_is after (name_alone best))

module _ (p w after : Text) (is : IsName p) where
  pub prefixed_ends : IsName w → IsLongest (prefixed p w) after → begins is_name_char after ≡ false
  prefixed_ends is-w best = begins_none is_name_char after (λ d t e k.
      let same : (p ++ 58 ∷ (w ++ d ∷ [])) ++ t ≡ (p ++ 58 ∷ w) ++ after =
      append_assoc p (58 ∷ (w ++ d ∷ [])) t ∙ ap (λ (y : Text). p ++ 58 ∷ y) (append_one w d t ∙ ap (λ (y : Text). w ++ y) (sym e)) ∙ sym (append_assoc p (58 ∷ w) after) in
      let m = length_more w d in
      let m1 = length-append p (58 ∷ (w ++ d ∷ [])) in
      let m2 = length-append p (58 ∷ w) in
      longer (prefixed p w) after best (prefixed p (w ++ d ∷ [])) t (is, name_more w d is-w k) same (omega (arith, m, m1, m2)))

  after_colon : (w rest : Text) → IsName w → ◌≡◌ {A = Form × Text} (after_name p (58 ∷ (w ++ rest))) (let x = span is_name_char (w ++ rest) in (prefixed p x.0, x.1))
  unfolding after_name
  after_colon [] rest is-w = absurd cc
  after_colon (c ∷ w) rest is-w = rw (name_parts c w is-w).0 refl

  -- a prefix is read up to the colon
  pub prefix_read : IsName w → ◌≡◌ {A = Form × Text} (read_name ((p ++ 58 ∷ w) ++ after)) (let x = span is_name_char (w ++ after) in (prefixed p x.0, x.1))
  unfolding read_name
  prefix_read is-w = rw (append_assoc p (58 ∷ w) after, span_exact is_name_char p (58 ∷ (w ++ after)) (name_chars p is) colon_no_char) (after_colon w after is-w)

  pub prefixed_read : IsName w → IsLongest (prefixed p w) after → ◌≡◌ {A = Form × Text} (read_name ((p ++ 58 ∷ w) ++ after)) (prefixed p w, after)
  prefixed_read is-w best = prefix_read is-w ∙ ap (λ (x : Text × Text). (prefixed p x.0, x.1)) (span_exact is_name_char w after (name_chars w is-w) (prefixed_ends is-w best))

-- ---- numbers

point_no_digit : (t : Text) → begins is_digit (46 ∷ t) ≡ false
point_no_digit t = refl

point_next : (w t : Text) → ◌≡◌ {A = Number × Text} (after_digits w (46 ∷ t)) (let x = span is_digit t in (decimal w x.0, x.1))
unfolding after_digits
point_next w t = refl

no_point_next : (w after : Text) → begins (λ c. c == 46) after ≡ false → ◌≡◌ {A = Number × Text} (after_digits w after) (integer w, after)
unfolding after_digits
no_point_next w [] h = refl
no_point_next w (a ∷ t) h = rw h refl

pub number_read : (n : Number) (after : Text) → IsNumber n → IsLongest (number n) after → ◌≡◌ {A = Number × Text} (read_number (number_text n ++ after)) (n, after)
unfolding read_number
number_read (integer w) after is best =
    let ends : begins is_digit after ≡ false = begins_none is_digit after (λ d t e k. longer (number (integer w)) after best (number (integer (w ++ d ∷ []))) t (all_more is_digit w d is.0 k, (let m = length_more w d in omega (arith, m))) (append_one w d t ∙ ap (λ (y : Text). w ++ y) (sym e)) (let m = length_more w d in omega (arith, m))) in
    let alone : begins (λ c. c == 46) after ≡ false = begins_none (λ c. c == 46) after (λ d t e k.
    let same : (w ++ 46 ∷ []) ++ t ≡ w ++ after = append_one w 46 t ∙ ap (λ c. w ++ c ∷ t) (sym (eq_is d 46 k)) ∙ ap (λ (y : Text). w ++ y) (sym e) in
    longer (number (integer w)) after best (number (decimal w [])) t (is.0, refl, omega (arith, is.1)) same (let m = length_more w 46 in omega (arith, m))) in
    rw (span_exact is_digit w after is.0 ends) (no_point_next w after alone)
number_read (decimal w f) after is best =
    let ends : begins is_digit after ≡ false = begins_none is_digit after (λ d t e k.
    let same : (w ++ 46 ∷ (f ++ d ∷ [])) ++ t ≡ (w ++ 46 ∷ f) ++ after =
    append_assoc w (46 ∷ (f ++ d ∷ [])) t ∙ ap (λ (y : Text). w ++ 46 ∷ y) (append_one f d t ∙ ap (λ (y : Text). f ++ y) (sym e)) ∙ sym (append_assoc w (46 ∷ f) after) in
    let m = length_more f d in
    let m1 = length-append w (46 ∷ (f ++ d ∷ [])) in
    let m2 = length-append w (46 ∷ f) in
    longer (number (decimal w f)) after best (number (decimal w (f ++ d ∷ []))) t (is.0, all_more is_digit f d is.1 k, omega (arith, m)) same (omega (arith, m, m1, m2))) in
    rw (append_assoc w (46 ∷ f) after, span_exact is_digit w (46 ∷ (f ++ after)) is.0 refl)
    (point_next w (f ++ after) ∙ ap (λ (x : Text × Text). (decimal w x.0, x.1)) (span_exact is_digit f after is.1 ends))
