-- A number's literal, what it stands for, and its fault.
use Rattle.std.proofs.Common.{◌≡◌, ℕ, ◌+◌, ◌-◌, ◌<◌, ◌≤◌, ℤ, pos, Bool, true, false, cond, [], ◌∷◌, ◌++◌, length, take, drop, Some, None, Result, Ok, Err, refl, sym, ap, ap₂, ◌∙◌, arith, append_assoc, encode_utf8_all}
use Rattle.std.specs.Prelude.{IsTrue, nat_lt}
use Rattle.std.specs.Bool.{OnTrue, OnFalse}
use Rattle.std.specs.List.{list_all, position_or_len}
use Rattle.std.proofs.lemmas.List.{take_at, drop_at, length-append}
use Rattle.std.proofs.lemmas.Str.{encode_ascii, encodes-append}
use Rattle.std.proofs.lemmas.Bool.Decides.{nat_tests}
use Rattle.std.proofs.lemmas.Bool.{and_parts}
use Rattle.xq_atoms.specs.declared.refusals.Code.{Code}
use Rattle.xq_atoms.specs.declared.refusals.Code.TheVariants.{ProfDigits, FOAR0002}
use Rattle.xq_atoms.specs.declared.refusals.Fault.{Fault}
use Rattle.xq_atoms.specs.declared.refusals.Fault.TheVariants.{Code as OfCode, Want as OfWant}
use Rattle.xq_atoms.specs.Answers.{IsRefusal}
use Rattle.xq_atoms.specs.Text.{is_whole}
use Rattle.xq_atoms.specs.Judged.{only_if}
use Rattle.xq_atoms.specs.Decimal as d
use Rattle.xq_atoms.specs.Literal.{is_point, is_number, integer_literal, decimal_literal, millionths, fraction}
use Rattle.xq_atoms.specs.Characters.{is_digit}
use Rattle.xq_lexer.specs.Chars.{Text}
use Rattle.xq_lexer.specs.Lexeme.{Lex, int, dec}
use Rattle.xq_lexer.specs.Literals.{Number, integer, decimal, number_text, IsNumber, follow_fault, code_of}
use Rattle.xq_lexer.specs.Spelling.{number}
use Rattle.xq_lexer.specs.Reading.{unless_fault, judged, read_number, begins_number}
use Rattle.xq_lexer.specs.private.Lexes.{lexed, pointed, is_decimal, lex_by, valued_lex}
use Rattle.xq_lexer.proofs.Classes.{digit_no_point}
use Rattle.xq_lexer.proofs.Fronts.{number_front}

-- ---- the literal's bytes are its characters

digit_small : (c : ℕ) → is_digit c ≡ true → c < 128
digit_small c h = grind (arith, nat_tests)

digits_encoded : (w : Text) → list_all is_digit w ≡ true → encode_utf8_all w ≡ w
digits_encoded [] all = refl
digits_encoded (c ∷ w) all =
    let h = and_parts (is_digit c) (list_all is_digit w) all in
    rw (encode_ascii c (digit_small c h.0), digits_encoded w h.1) refl

pub number_encoded : (n : Number) → IsNumber n → encode_utf8_all (number_text n) ≡ number_text n
number_encoded (integer w) is = digits_encoded w is.0
number_encoded (decimal w f) is = rw (encodes-append w (46 ∷ f), encode_ascii 46 (omega arith), digits_encoded w is.0, digits_encoded f is.1) refl

-- ---- a literal is in its form

whole_is : (w : Text) → list_all is_digit w ≡ true → 0 < length w → IsTrue (is_whole w)
whole_is [] all some = absurd (omega (arith, some))
whole_is (c ∷ w) all some = all

point_place : (w f : Text) → list_all is_digit w ≡ true → position_or_len is_point (w ++ 46 ∷ f) ≡ length w
point_place [] f all = refl
point_place (c ∷ w) f all =
    let h = and_parts (is_digit c) (list_all is_digit w) all in
    rw (digit_no_point c h.0, point_place w f h.1) (omega arith)

all_both : (w f : Text) → list_all is_digit w ≡ true → list_all is_digit f ≡ true → list_all is_digit (w ++ f) ≡ true
all_both [] f a b = b
all_both (c ∷ w) f a b = let h = and_parts (is_digit c) (list_all is_digit w) a in rw (h.0, all_both w f h.1 b) refl

drop_point : (w f : Text) → drop (length w + 1) (w ++ 46 ∷ f) ≡ f
drop_point w f = ap (drop (length w + 1)) (sym (append_assoc w (46 ∷ []) f)) ∙ drop_at (w ++ 46 ∷ []) f (length w + 1) (length-append w (46 ∷ []))

number_is : (w f : Text) → list_all is_digit w ≡ true → list_all is_digit f ≡ true → 0 < length w + length f → IsTrue (is_number (w ++ 46 ∷ f))
number_is w f a b some =
    rw (point_place w f a, take_at w (46 ∷ f) (length w) refl, drop_point w f)
    (whole_is (w ++ f) (all_both w f a b) (let l = length-append w f in omega (arith, l, some)))

pub whole_form : (n : Number) → IsNumber n → OnFalse (is_decimal n) (IsTrue (is_whole (number_text n)))
whole_form (integer w) is = whole_is w is.0 is.1
whole_form (decimal w f) is = tt

pub number_form : (n : Number) → IsNumber n → OnTrue (is_decimal n) (IsTrue (is_number (number_text n)))
number_form (integer w) is = tt
number_form (decimal w f) is = number_is w f is.0 is.1 is.2

-- ---- the literal's place

pub record Cut (z : Text) (b : Bool) (rest : Text) : Type 0 where
  pub written : Number
  pub read : read_number z ≡ (written, rest)
  pub point : b ≡ is_decimal written
  pub room : length rest ≤ length z
  pub literal : take (length z - length rest) z ≡ number_text written
  pub is : IsNumber written

pub cut : (z : Text) (b : Bool) (rest : Text) → begins_number z ≡ true → ◌≡◌ {A = Bool × Text} (b, rest) (pointed (read_number z)) → Cut z b rest
cut [] b rest n e = absurd cc
cut (c ∷ t) b rest n e =
    let z = c ∷ t in
    let x = read_number z in
    let f = number_front c t n in
    let rest-is : rest ≡ x.1 = ap (λ (x : Bool × Text). x.1) e in
    let whole : number_text x.0 ++ rest ≡ z = ap (λ (u : Text). number_text x.0 ++ u) rest-is ∙ f.whole in
    let l = ap length whole in
    let a = length-append (number_text x.0) rest in
    record {
      written = x.0;
      read = ap (λ (u : Text). (x.0, u)) (sym rest-is);
      point = ap (λ (x : Bool × Text). x.0) e;
      room = omega (arith, l, a);
      literal = ap (take (length z - length rest)) (sym whole) ∙ take_at (number_text x.0) rest (length z - length rest) (omega (arith, l, a));
      is = f.is;
    }

-- ---- what it stands for

abbrev Given : Type 0
Given = Result (Lex × Text) Code

abbrev pub with_rest : Text → Result Lex Code → Given
with_rest rest (Ok l) = Ok (l, rest)
with_rest rest (Err c) = Err c

only_value : (b : Bool) (c : Code) (m : ℤ) (k : ℤ) → only_if b c m ≡ Ok k → k ≡ m
only_value true c m k h = cc
only_value false c m k h = absurd cc

integer_at : (w rest : Text) (r : Result ℤ Code) → integer_literal w ≡ r → lexed (unless_fault (code_of r) (number (integer w), rest)) ≡ with_rest rest (lex_by int r)
integer_at w rest (Ok m) e = let is = only_value _ _ _ m e in ap (λ (m : ℤ). Ok (int m, rest)) (sym is)
integer_at w rest (Err c) e = refl

decimal_value : (t : Text) (m : ℤ) → decimal_literal t ≡ Ok m → m ≡ pos (millionths t)
decimal_value t m h = go (nat_lt 6 (length (fraction t))) h
  where
    go : (b : Bool) → cond b (Err ProfDigits) (only_if (d.is_decimal (pos (millionths t))) FOAR0002 (pos (millionths t))) ≡ Ok m → m ≡ pos (millionths t)
    go true h = absurd cc
    go false h = only_value _ _ _ m h

decimal_at : (w f rest : Text) (r : Result ℤ Code) → decimal_literal (w ++ 46 ∷ f) ≡ r → lexed (unless_fault (code_of r) (number (decimal w f), rest)) ≡ with_rest rest (lex_by dec r)
decimal_at w f rest (Ok m) e = let is = decimal_value (w ++ 46 ∷ f) m e in ap (λ (m : ℤ). Ok (dec m, rest)) (sym is)
decimal_at w f rest (Err c) e = refl

pub stands_for : (n : Number) (rest : Text) → follow_fault rest ≡ None → lexed (judged (n, rest)) ≡ with_rest rest (valued_lex (is_decimal n) (number_text n))
unfolding judged
stands_for (integer w) rest e = rw e (integer_at w rest (integer_literal w) refl)
stands_for (decimal w f) rest e = rw e (decimal_at w f rest (decimal_literal (w ++ 46 ∷ f)) refl)

pub refused : (n : Number) (rest : Text) (c : Code) → follow_fault rest ≡ Some c → lexed (judged (n, rest)) ≡ Err c
unfolding judged
refused n rest c e = rw e refl

-- the fault of a value is that of the number
pub refused_with : (n : Number) (rest : Text) (b : Bool) (t : Text) (f : Fault) → follow_fault rest ≡ None → b ≡ is_decimal n → t ≡ number_text n → IsRefusal (valued_lex b t) f → IsRefusal (lexed (judged (n, rest))) f
refused_with n rest b t (OfCode c) e point same h = stands_for n rest e ∙ ap (with_rest rest) (ap₂ valued_lex (sym point) (sym same) ∙ h)
refused_with n rest b t (OfWant w) e point same h = h
