-- Number literals, and what stands between the quotes of a string literal (XQuery 3.1, appendix
-- A.2.1).
use Rattle.std.specs.Prelude.{◌≡◌, ℕ, ◌+◌, ◌*◌, ◌-◌, ◌<◌, Bool, true, false, not, ◌&&◌, ◌||◌, if◌then◌else◌, ◌==◌, List, [], ◌∷◌, ◌++◌, length, map, fold, flat_map, codes, Option, Some, None, Result, Ok, Err}
use Rattle.std.specs.List.{list_all}
use Rattle.xq_atoms.specs.declared.refusals.Code.{Code}
use Rattle.xq_atoms.specs.declared.refusals.Code.TheVariants.{XPST0003, ProfDouble}
use Rattle.xq_atoms.specs.Literal.{integer_literal, decimal_literal}
use Rattle.xq_atoms.specs.Characters.{within, is_char, is_digit, is_name_start}
use Rattle.xq_lexer.specs.Chars.{Text, is_hex, begins}

-- ---- numbers

-- the digits of a number without a point; those before the point and those after it
pub data Number : Type 0 where
  integer : Text → Number
  decimal : Text → Text → Number

-- A.2.1, IntegerLiteral and DecimalLiteral: how a number is spelled
abbrev pub number_text : Number → Text
number_text (integer w) = w
number_text (decimal w f) = w ++ 46 ∷ f

-- all are digits, and there is one at least
abbrev pub IsNumber : Number → Type 0
IsNumber (integer w) = (list_all is_digit w ≡ true) × (0 < length w)
IsNumber (decimal w f) = (list_all is_digit w ≡ true) × (list_all is_digit f ≡ true)
    × (0 < length w + length f)

-- an `e`, perhaps a sign, and a digit
abbrev pub begins_exponent : Text → Bool
begins_exponent [] = false
begins_exponent (e ∷ []) = false
begins_exponent (e ∷ s ∷ t) = (e == 101 || e == 69)
    && (is_digit s || ((s == 43 || s == 45) && begins is_digit t))

-- what may not follow a number: a name start, a digit or a point
abbrev pub clings : ℕ → Bool
clings c = is_name_start c || is_digit c || c == 46

-- the fault of a number by what follows it, if there is one
abbrev pub follow_fault : Text → Option Code
follow_fault after = if begins_exponent after then Some ProfDouble
    else (if begins clings after then Some XPST0003 else None)

-- the fault of a value, if there is one
abbrev pub code_of : {A : Type 0} → Result A Code → Option Code
code_of (Ok x) = None
code_of (Err c) = Some c

-- the fault of a number by its value, if there is one
abbrev pub value_fault : Number → Option Code
value_fault (integer w) = code_of (integer_literal w)
value_fault (decimal w f) = code_of (decimal_literal (w ++ 46 ∷ f))

-- the first fault of the two, if there is one
abbrev pub first_fault : Option Code → Option Code → Option Code
first_fault (Some c) other = Some c
first_fault None other = other

-- the fault of a number by what follows it, or else by its value, if there is one
abbrev pub number_fault : Number → Text → Option Code
number_fault n after = first_fault (follow_fault after) (value_fault n)

-- ---- strings

-- a reference, by its name or by the digits of a character's number
pub data Reference : Type 0 where
  less : Reference
  greater : Reference
  ampersand : Reference
  quotation : Reference
  apostrophe : Reference
  numbered : Text → Reference
  hexadecimal : Text → Reference

-- the spelling behind the `&`
abbrev pub reference_text : Reference → Text
reference_text less = codes "lt;"
reference_text greater = codes "gt;"
reference_text ampersand = codes "amp;"
reference_text quotation = codes "quot;"
reference_text apostrophe = codes "apos;"
reference_text (numbered w) = 35 ∷ w ++ 59 ∷ []
reference_text (hexadecimal w) = 35 ∷ 120 ∷ w ++ 59 ∷ []

-- A.2.1, CharRef: the digits are those of the base, and there is one at least
abbrev pub IsReference : Reference → Type 0
IsReference (numbered w) = (list_all is_digit w ≡ true) × (0 < length w)
IsReference (hexadecimal w) = (list_all is_hex w ≡ true) × (0 < length w)
IsReference _ = Unit {0}

-- the value of a digit of base 16
abbrev pub hex_digit : ℕ → ℕ
hex_digit c = if is_digit c then c - 48 else (if within 65 70 c then c - 55 else c - 87)

-- the number that digits spell in base 10 or 16
abbrev pub digits_value : ℕ → Text → ℕ
digits_value base = fold (λ n c. n * base + hex_digit c) 0

-- the number of the character that it stands for
abbrev pub referred : Reference → ℕ
referred less = 60
referred greater = 62
referred ampersand = 38
referred quotation = 34
referred apostrophe = 39
referred (numbered w) = digits_value 10 w
referred (hexadecimal w) = digits_value 16 w

-- how a character stands in a string: as itself, as the quote twice, as a reference
pub data Piece : Type 0 where
  plain : ℕ → Piece
  doubled : Piece
  reference : Reference → Piece

-- a character that stands for itself
abbrev pub is_plain : ℕ → ℕ → Bool
is_plain quote c = not (c == quote) && not (c == 38) && is_char c

-- A.2.1, StringLiteral: the piece may stand in a string with this quote
abbrev pub IsPiece : ℕ → Piece → Type 0
IsPiece quote (plain c) = is_plain quote c ≡ true
IsPiece quote doubled = Unit {0}
IsPiece quote (reference r) = IsReference r × (is_char (referred r) ≡ true)

-- each of the pieces may stand there
abbrev pub ArePieces : ℕ → List Piece → Type 0
ArePieces quote [] = Unit {0}
ArePieces quote (p ∷ ps) = IsPiece quote p × ArePieces quote ps

-- how a piece is spelled in a string with this quote
abbrev pub piece_text : ℕ → Piece → Text
piece_text quote (plain c) = c ∷ []
piece_text quote doubled = quote ∷ quote ∷ []
piece_text quote (reference r) = 38 ∷ reference_text r

-- the character that a piece stands for
abbrev pub piece_char : ℕ → Piece → ℕ
piece_char quote (plain c) = c
piece_char quote doubled = quote
piece_char quote (reference r) = referred r

-- how the pieces are spelled, one after another
abbrev pub content_text : ℕ → List Piece → Text
content_text quote ps = flat_map (piece_text quote) ps

-- the characters that the pieces stand for
abbrev pub content_chars : ℕ → List Piece → Text
content_chars quote ps = map (piece_char quote) ps
