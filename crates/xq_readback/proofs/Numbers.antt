-- Printed numbers are read where they stand.
use Rattle.std.proofs.Common.{◌≡◌, ℕ, true, false, [], ◌∷◌, ◌++◌, None, Ok, refl, sym, ap, ◌∙◌, arith, append_assoc, ◌⊎◌, inl, inr}
use Rattle.std.specs.Prelude.{◌==◌}
use Rattle.std.specs.List.{list_all}
use Rattle.std.proofs.lemmas.Bool.Decides.{nat_tests}
use Rattle.xq_atoms.specs.Characters.{is_space, is_digit, is_name_start}
use Rattle.xq_atoms.proofs.Classes.{digit_no_start}
use Rattle.xq_lexer.specs.Chars.{Text, begins}
use Rattle.xq_lexer.specs.Literals.{Number, integer, decimal, number_text, number_fault, follow_fault, value_fault}
use Rattle.xq_lexer.specs.Spelling.{number}
use Rattle.xq_lexer.specs.Reading.{after_digits, read_number, judged, read_token}
use Rattle.xq_lexer.proofs.Spans.{span_exact}
use Rattle.xq_readback.proofs.Marks.{IsThere, skip_none}

-- the end of the text, or a comma
abbrev pub Ends : Text → Type 0
Ends after = (after ≡ []) ⊎ ((t : Text) × (after ≡ 44 ∷ t))

ends_digit : (after : Text) → Ends after → begins is_digit after ≡ false
ends_digit after (inl e) = ap (begins is_digit) e
ends_digit after (inr e) = ap (begins is_digit) e.1

follow_comma : (t : Text) → follow_fault (44 ∷ t) ≡ None
unfolding is_name_start
follow_comma [] = refl
follow_comma (c ∷ t) = refl

ends_follow : (after : Text) → Ends after → follow_fault after ≡ None
ends_follow after (inl e) = ap follow_fault e
ends_follow after (inr e) = ap follow_fault e.1 ∙ follow_comma e.0

whole_read : (w after : Text) → Ends after → ◌≡◌ {A = Number × Text} (after_digits w after) (integer w, after)
unfolding after_digits
whole_read w [] (inl e) = refl
whole_read w (c ∷ t) (inl e) = absurd cc
whole_read w [] (inr e) = refl
whole_read w (c ∷ t) (inr e) = let same : c ≡ 44 = cc (e.1) in rw same refl

-- digits, before an end
pub integer_read : (w after : Text) → list_all is_digit w ≡ true → Ends after → ◌≡◌ {A = Number × Text} (read_number (w ++ after)) (integer w, after)
unfolding read_number
integer_read w after all ends = rw (span_exact is_digit w after all (ends_digit after ends)) (whole_read w after ends)

-- digits with a point, before an end
pub decimal_read : (w f after : Text) → list_all is_digit w ≡ true → list_all is_digit f ≡ true → Ends after → ◌≡◌ {A = Number × Text} (read_number ((w ++ 46 ∷ f) ++ after)) (decimal w f, after)
unfolding read_number after_digits
decimal_read w f after all more ends =
    rw (append_assoc w (46 ∷ f) after, span_exact is_digit w (46 ∷ (f ++ after)) all refl, span_exact is_digit f after more (ends_digit after ends)) refl

number_token : (c : ℕ) (t : Text) → is_digit c ≡ true → read_token (c ∷ t) ≡ judged (read_number (c ∷ t))
unfolding read_token
number_token c t h = rw (digit_no_start c h, h) refl

judged_good : (n : Number) (after : Text) → number_fault n after ≡ None → judged (n, after) ≡ Ok (number n, after)
unfolding judged
judged_good n after e = rw e refl

digit_no_space : (c : ℕ) → is_digit c ≡ true → (is_space c ≡ false) × ((c == 40) ≡ false)
digit_no_space c h = (grind (arith, nat_tests), grind (arith, nat_tests))

-- a number whose text begins with a digit
pub number_there : (n : Number) (c : ℕ) (t after : Text) → number_text n ≡ c ∷ t → is_digit c ≡ true → ◌≡◌ {A = Number × Text} (read_number (number_text n ++ after)) (n, after)
    → Ends after → value_fault n ≡ None → IsThere (number n) after
number_there n c t after text digit read ends good =
    let whole : number_text n ++ after ≡ c ∷ (t ++ after) = ap (λ (u : Text). u ++ after) text in
    let none = digit_no_space c digit in
    record {
      first = c;
      rest = t ++ after;
      whole = whole;
      read = number_token c (t ++ after) digit ∙ ap (λ (u : Text). judged (read_number u)) (sym whole) ∙ ap judged read ∙ judged_good n after (rw (ends_follow after ends, good) refl);
      skipped = skip_none c (t ++ after) none.0 none.1;
    }
