-- Printed atomic values as marks.
use Rattle.std.proofs.Common.{◌≡◌, ℕ, suc, ◌/◌, ◌<◌, ◌^◌, Bool, true, false, not, IsTrue, List, [], ◌∷◌, ◌++◌, map, Ok, refl, ap, arith, inl, inr, ℤ, pos, negsuc}
use Rattle.std.specs.Prelude.{codes, decimal as decimal_digits, ◌==◌, if◌then◌else◌}
use Rattle.std.specs.Ordering.{int_eq}
use Rattle.std.specs.List.{list_all}
use Rattle.std.specs.Str.{chars}
use Rattle.std.proofs.lemmas.Bool.{and_parts, false≢true}
use Rattle.std.proofs.lemmas.Bool.Decides.{nat_tests}
use Rattle.std.proofs.lemmas.Int.{ints}
use Rattle.xq_atoms.specs.Text.{Text, is_whole, is_empty, are_digits}
use Rattle.xq_atoms.specs.Atom.{Atomic, Integer, Decimal, String, Boolean, Untyped, is_integer}
use Rattle.xq_atoms.specs.Decimal.{is_decimal}
use Rattle.xq_atoms.specs.Cast.{fraction_text}
use Rattle.xq_atoms.specs.Print.{at_least_zero}
use Rattle.xq_atoms.proofs.ReadBack.{is_whole-decimal, integer_literal-decimal}
use Rattle.xq_atoms.specs.Characters.{is_char, is_digit, is_name_start, is_name_char}
use Rattle.xq_lexer.specs.Chars.{begins}
use Rattle.xq_readback.proofs.Decimals.{decimal_literal-printed, fraction-digits}
use Rattle.xq_lexer.specs.declared.tokens.Symbol.TheVariants as s
use Rattle.xq_lexer.specs.Literals.{integer, decimal}
use Rattle.xq_lexer.specs.Spelling.{name, prefixed, number, symbol, IsName}
use Rattle.xq_lexer.specs.Reading.{read_token, read_name, after_name}
use Rattle.xq_readback.specs.Quoted.{least}
use Rattle.xq_meaning.specs.Printable.{IsValue}
use Rattle.xq_readback.proofs.Strings.{literal, piece, are_pieces}
use Rattle.xq_readback.proofs.Marks.{Mark, marks_text, IsThere, AreThere, skip_none, called_name, open_there, closed_there, minus_there, string_there}
use Rattle.xq_readback.proofs.Numbers.{Ends, integer_read, decimal_read, number_there}

-- the cast of a string literal of these characters
abbrev pub cast_marks : Text → List ℕ → List Mark
cast_marks n cs = (prefixed (codes "xs") n, false) ∷ (symbol s.OpenParenthesis, false) ∷ (literal cs, false) ∷ (symbol s.CloseParenthesis, false) ∷ []

abbrev pub integer_mark : ℕ → Mark
integer_mark k = (number (integer (decimal_digits k)), false)

abbrev pub decimal_mark : ℕ → Mark
decimal_mark n = (number (decimal (decimal_digits (n / 1000000)) (at_least_zero (fraction_text n))), false)

abbrev pub signed_marks : ℤ → (ℕ → Mark) → List Mark
signed_marks (pos k) mark = mark k ∷ []
signed_marks (negsuc k) mark = (symbol s.Minus, false) ∷ mark (suc k) ∷ []

abbrev pub integer_marks : ℤ → Bool → List Mark
integer_marks n is_least = if is_least then cast_marks (codes "integer") (codes "-9223372036854775808") else signed_marks n integer_mark

abbrev pub atomic_marks : Atomic → List Mark
atomic_marks (Integer n) = integer_marks n (int_eq n least)
atomic_marks (Decimal m) = signed_marks m decimal_mark
atomic_marks (String t) = (literal (chars t), false) ∷ []
atomic_marks (Boolean b) = (name (if b then codes "true" else codes "false"), false) ∷ (symbol s.OpenParenthesis, false) ∷ (symbol s.CloseParenthesis, false) ∷ []
atomic_marks (Untyped t) = cast_marks (codes "untypedAtomic") (chars t)

-- ---- they are there, before a comma or at the end

true_is : IsName (codes "true")
unfolding is_name_start is_name_char
true_is = refl

false_is : IsName (codes "false")
unfolding is_name_start is_name_char
false_is = refl

-- the names of casts
cast_read : (t : List ℕ) → read_token (codes "xs:untypedAtomic" ++ 40 ∷ t) ≡ Ok (prefixed (codes "xs") (codes "untypedAtomic"), 40 ∷ t)
unfolding read_token read_name after_name is_name_start is_name_char
cast_read t = refl

integer_cast_read : (t : List ℕ) → read_token (codes "xs:integer" ++ 40 ∷ t) ≡ Ok (prefixed (codes "xs") (codes "integer"), 40 ∷ t)
unfolding read_token read_name after_name is_name_start is_name_char
integer_cast_read t = refl

pub untyped_there : (t : List ℕ) → IsThere (prefixed (codes "xs") (codes "untypedAtomic")) (40 ∷ t)
untyped_there t = record { first = 120; rest = codes "s:untypedAtomic" ++ 40 ∷ t; whole = refl; read = cast_read t; skipped = skip_none 120 (codes "s:untypedAtomic" ++ 40 ∷ t) refl refl }

pub integer_word_there : (t : List ℕ) → IsThere (prefixed (codes "xs") (codes "integer")) (40 ∷ t)
integer_word_there t = record { first = 120; rest = codes "s:integer" ++ 40 ∷ t; whole = refl; read = integer_cast_read t; skipped = skip_none 120 (codes "s:integer" ++ 40 ∷ t) refl refl }

cast_there : (n : Text) (cs : List ℕ) (rest : List Mark) → ((t : List ℕ) → IsThere (prefixed (codes "xs") n) (40 ∷ t)) → list_all is_char cs ≡ true → AreThere rest → AreThere (cast_marks n cs ++ rest)
cast_there n cs rest word h are =
    (word _, (open_there 34 _ refl, (string_there (map piece cs) (41 ∷ marks_text rest) (are_pieces cs h) refl, (closed_there _, are))))

least_chars : list_all is_char (codes "-9223372036854775808") ≡ true
unfolding is_char
least_chars = refl

-- digits that begin with one
pub first_digit : (w : Text) → is_whole w ≡ true → (c : ℕ) × (t : Text) × (w ≡ c ∷ t) × (is_digit c ≡ true)
first_digit [] h = absurd (false≢true h)
first_digit (c ∷ t) h = (c, t, refl, (and_parts (is_digit c) (list_all is_digit t) h).0)

pub whole_digits : (w : Text) → is_whole w ≡ true → list_all is_digit w ≡ true
whole_digits w h = (and_parts (not (is_empty w)) (are_digits w) h).1

-- printed numbers are there, before a comma or at the end
pub integer_there : (k : ℕ) (after : List ℕ) → k < 2 ^ 63 → Ends after → IsThere (number (integer (decimal_digits k))) after
integer_there k after small ends =
    let is = is_whole-decimal k (omega (arith, small)) in
    let d = first_digit (decimal_digits k) is in
    number_there (integer (decimal_digits k)) d.0 d.1 after d.2 d.3 (integer_read (decimal_digits k) after (whole_digits (decimal_digits k) is) ends) ends
    (rw (integer_literal-decimal k small) refl)

-- ---- decimals

pub fraction_is : (n : ℕ) → list_all is_digit (at_least_zero (fraction_text n)) ≡ true
fraction_is n = one_at_least (fraction_text n) (fraction-digits n)
  where
    one_at_least : (ds : Text) → IsTrue (are_digits ds) → list_all is_digit (at_least_zero ds) ≡ true
    one_at_least [] h = refl
    one_at_least (c ∷ cs) h = h

pub decimal_there : (n : ℕ) (after : List ℕ) → n < 10000000000000000000000000 → Ends after → IsThere (decimal_mark n).0 after
decimal_there n after small ends =
    let w = decimal_digits (n / 1000000) in
    let f = at_least_zero (fraction_text n) in
    let is = is_whole-decimal (n / 1000000) (omega (arith, small)) in
    let d = first_digit w is in
    number_there (decimal w f) d.0 (d.1 ++ 46 ∷ f) after (ap (λ (u : Text). u ++ 46 ∷ f) d.2) d.3
    (decimal_read w f after (whole_digits w is) (fraction_is n) ends) ends
    (rw (decimal_literal-printed n small) refl)

-- ---- any atomic value

pub below_63 : (k : ℕ) → is_integer (pos k) ≡ true → k < 2 ^ 63
below_63 k h = grind (arith, nat_tests, ints)

pub below_least : (k : ℕ) → is_integer (negsuc k) ≡ true → int_eq (negsuc k) least ≡ false → suc k < 2 ^ 63
below_least k h other = grind (arith, nat_tests, ints)

pub below_decimal : (k : ℕ) → is_decimal (pos k) ≡ true → k < 10000000000000000000000000
below_decimal k h = grind (arith, nat_tests, ints)

pub above_decimal : (k : ℕ) → is_decimal (negsuc k) ≡ true → suc k < 10000000000000000000000000
above_decimal k h = grind (arith, nat_tests, ints)

integers_there : (n : ℤ) (b : Bool) (rest : List Mark) → int_eq n least ≡ b → is_integer n ≡ true → AreThere rest → Ends (marks_text rest) → AreThere (integer_marks n b ++ rest)
integers_there n true rest e h are ends = cast_there (codes "integer") (codes "-9223372036854775808") rest integer_word_there least_chars are
integers_there (pos k) false rest e h are ends = (integer_there k (marks_text rest) (below_63 k h) ends, are)
integers_there (negsuc k) false rest e h are ends = (minus_there _, (integer_there (suc k) (marks_text rest) (below_least k h e) ends, are))

-- each atomic value is
pub atom_there : (a : Atomic) (rest : List Mark) → IsValue a → AreThere rest → Ends (marks_text rest) → AreThere (atomic_marks a ++ rest)
atom_there (Integer n) rest h are ends = integers_there n (int_eq n least) rest refl h are ends
atom_there (Decimal (pos k)) rest h are ends = (decimal_there k (marks_text rest) (below_decimal k h) ends, are)
atom_there (Decimal (negsuc k)) rest h are ends = (minus_there _, (decimal_there (suc k) (marks_text rest) (above_decimal k h) ends, are))
atom_there (String t) rest h are ends = (string_there (map piece (chars t)) (marks_text rest) (are_pieces (chars t) h.1) (no_quote (marks_text rest) ends), are)
  where
    no_quote : (after : List ℕ) → Ends after → begins (λ c. c == 34) after ≡ false
    no_quote after (inl e) = ap (begins (λ c. c == 34)) e
    no_quote after (inr e) = ap (begins (λ c. c == 34)) e.1
atom_there (Boolean true) rest h are ends = (called_name (codes "true") _ true_is, (open_there 41 _ refl, (closed_there _, are)))
atom_there (Boolean false) rest h are ends = (called_name (codes "false") _ false_is, (open_there 41 _ refl, (closed_there _, are)))
atom_there (Untyped t) rest h are ends = cast_there (codes "untypedAtomic") (chars t) rest untyped_there h.1 are
