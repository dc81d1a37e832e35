-- Reading the token at the front of a text, step by step.
use Rattle.std.specs.Prelude.{ℕ, zero, suc, ◌+◌, ◌-◌, nat_lt, Bool, false, ◌&&◌, ◌||◌, if◌then◌else◌, ◌==◌, List, [], ◌∷◌, length, codes, Option, Some, None, Result, Ok, Err}
use Rattle.xq_atoms.specs.declared.refusals.Code.{Code}
use Rattle.xq_atoms.specs.declared.refusals.Code.TheVariants.{XPST0003, XQST0090}
use Rattle.xq_lexer.specs.declared.tokens.Symbol.{Symbol}
use Rattle.xq_lexer.specs.declared.tokens.Symbol.TheVariants as s
use Rattle.xq_atoms.specs.Characters.{is_char, is_space, is_digit, is_name_start, is_name_char}
use Rattle.xq_lexer.specs.Chars.{Text, is_hex, is_quote, begins}
use Rattle.xq_lexer.specs.Separators.{opens, closes}
use Rattle.xq_lexer.specs.Literals.{Number, integer, decimal, number_fault, Reference, less, greater, ampersand, quotation, apostrophe, numbered, hexadecimal, referred, Piece, plain, doubled, reference}
use Rattle.xq_lexer.specs.Spelling.{Form, name, prefixed, number, string, symbol}

-- the characters at the front that pass the test, and the others
abbrev pub span : (ℕ → Bool) → Text → Text × Text
span p [] = ([], [])
span p (c ∷ t) = if p c then (let x = span p t in (c ∷ x.0, x.1)) else ([], c ∷ t)

-- what is left behind a word
abbrev pub strip : Text → Text → Option Text
strip [] t = Some t
strip (a ∷ word) [] = None
strip (a ∷ word) (c ∷ t) = if c == a then strip word t else None

-- ---- separators

-- what may be passed over one by one, with so many comments open
abbrev pub passes : ℕ → ℕ → Bool
passes depth c = if depth == 0 then is_space c else is_char c

-- one character or mark of the separators, and the number of comments that are open then
abbrev pub skip_step : ℕ → Text → Option (ℕ × Text)
skip_step depth [] = None
skip_step depth (a ∷ []) = if passes depth a then Some (depth, []) else None
skip_step depth (a ∷ b ∷ t) =
    if opens a b then Some (depth + 1, t)
    else (if nat_lt 0 depth && closes a b then Some (depth - 1, t)
    else (if passes depth a then Some (depth, b ∷ t) else None))

-- what is left at the end of the separators, where no comment is open
abbrev pub unless_open : ℕ → Text → Option Text
unless_open depth t = if depth == 0 then Some t else None

-- ---- names

-- a name, and another one behind a colon
unfoldable pub after_name : Text → Text → Form × Text
after_name w [] = (name w, [])
after_name w (a ∷ []) = (name w, a ∷ [])
after_name w (a ∷ b ∷ t) =
    if a == 58 && is_name_start b then (let x = span is_name_char (b ∷ t) in (prefixed w x.0, x.1))
    else (name w, a ∷ b ∷ t)

unfoldable pub read_name : Text → Form × Text
read_name z = let x = span is_name_char z in after_name x.0 x.1

-- ---- numbers

-- a number's digits behind its point, if there is one
unfoldable pub after_digits : Text → Text → Number × Text
after_digits w [] = (integer w, [])
after_digits w (a ∷ t) = if a == 46 then (let x = span is_digit t in (decimal w x.0, x.1))
    else (integer w, a ∷ t)

unfoldable pub read_number : Text → Number × Text
read_number z = let x = span is_digit z in after_digits x.0 x.1

abbrev pub unless_fault : {A : Type 0} → Option Code → A → Result A Code
unless_fault None x = Ok x
unless_fault (Some c) x = Err c

unfoldable pub judged : Number × Text → Result (Form × Text) Code
judged x = unless_fault (number_fault x.0 x.1) (number x.0, x.1)

-- ---- strings

-- digits of a number and the `;` behind them
abbrev pub ended : (Text → Reference) → Text × Text → Option (Reference × Text)
ended make ([], rest) = None
ended make (c ∷ w, []) = None
ended make (c ∷ w, d ∷ rest) = if d == 59 then Some (make (c ∷ w), rest) else None

unfoldable pub read_numbered : Text → Option (Reference × Text)
read_numbered [] = None
read_numbered (a ∷ t) = if a == 120 then ended hexadecimal (span is_hex t)
    else ended numbered (span is_digit (a ∷ t))

abbrev pub or_else : Reference → Option Text → Option (Reference × Text) → Option (Reference × Text)
or_else r (Some rest) other = Some (r, rest)
or_else r None other = other

abbrev pub then_numbered : Option Text → Option (Reference × Text)
then_numbered None = None
then_numbered (Some t) = read_numbered t

-- the reference behind an `&`
unfoldable pub read_reference : Text → Option (Reference × Text)
read_reference t =
    or_else less (strip (codes "lt;") t)
    (or_else greater (strip (codes "gt;") t)
    (or_else ampersand (strip (codes "amp;") t)
    (or_else quotation (strip (codes "quot;") t)
    (or_else apostrophe (strip (codes "apos;") t)
    (then_numbered (strip (codes "#") t))))))

-- what is next inside a string: its end, a piece, or a fault
pub data Inside : Type 0 where
  closed : Text → Inside
  one : Piece → Text → Inside
  wrong : Code → Inside

abbrev pub after_quote : ℕ → Text → Inside
after_quote quote [] = closed []
after_quote quote (b ∷ t) = if b == quote then one doubled t else closed (b ∷ t)

abbrev pub after_ampersand : Option (Reference × Text) → Inside
after_ampersand None = wrong XPST0003
after_ampersand (Some x) = if is_char (referred x.0) then one (reference x.0) x.1
    else wrong XQST0090

unfoldable pub inside : ℕ → Text → Inside
inside quote [] = wrong XPST0003
inside quote (c ∷ t) =
    if c == quote then after_quote quote t
    else (if c == 38 then after_ampersand (read_reference t)
    else (if is_char c then one (plain c) t else wrong XPST0003))

abbrev pub with_piece : Piece → Result (List Piece × Text) Code → Result (List Piece × Text) Code
with_piece p (Ok x) = Ok (p ∷ x.0, x.1)
with_piece p (Err c) = Err c

abbrev pub content_step : (Text → Result (List Piece × Text) Code) → Inside
    → Result (List Piece × Text) Code
content_step more (closed rest) = Ok ([], rest)
content_step more (one p rest) = with_piece p (more rest)
content_step more (wrong c) = Err c

-- the pieces up to the string's end; so many turns
unfoldable pub content : ℕ → ℕ → Text → Result (List Piece × Text) Code
content zero quote t = Err XPST0003
content (suc n) quote t = content_step (content n quote) (inside quote t)

abbrev pub as_string : ℕ → Result (List Piece × Text) Code → Result (Form × Text) Code
as_string quote (Ok x) = Ok (string quote x.0, x.1)
as_string quote (Err c) = Err c

-- the string whose first quote was read
unfoldable pub read_string : ℕ → Text → Result (Form × Text) Code
read_string quote t = as_string quote (content (suc (length t)) quote t)

-- ---- symbols

abbrev pub look_up : ℕ → List (ℕ × Symbol) → Option Symbol
look_up c [] = None
look_up c (row ∷ rows) = if c == row.0 then Some row.1 else look_up c rows

-- the symbols of one character
abbrev pub singles : List (ℕ × Symbol)
singles =
    (40, s.OpenParenthesis) ∷ (41, s.CloseParenthesis) ∷ (91, s.OpenBracket) ∷ (93, s.CloseBracket)
    ∷ (123, s.OpenBrace)
    ∷ (125, s.CloseBrace) ∷ (44, s.Comma) ∷ (36, s.Dollar) ∷ (47, s.Slash) ∷ (46, s.Dot)
    ∷ (64, s.At) ∷ (42, s.Star)
    ∷ (43, s.Plus) ∷ (45, s.Minus) ∷ (61, s.Equal) ∷ (60, s.Less) ∷ (62, s.Greater) ∷ (124, s.Bar)
    ∷ (33, s.Bang) ∷ []

abbrev pub single_symbol : ℕ → Option Symbol
single_symbol c = look_up c singles

abbrev pub look_up_two : ℕ → ℕ → List (ℕ × ℕ × Symbol) → Option Symbol
look_up_two a b [] = None
look_up_two a b (row ∷ rows) = if a == row.0 && b == row.1 then Some row.2 else look_up_two a b rows

-- the symbols of two characters
abbrev pub doubles : List (ℕ × ℕ × Symbol)
doubles =
    (58, 61, s.Assign) ∷ (58, 58, s.DoubleColon) ∷ (47, 47, s.DoubleSlash) ∷ (46, 46, s.DoubleDot)
    ∷ (33, 61, s.NotEqual)
    ∷ (60, 61, s.LessEqual) ∷ (62, 61, s.GreaterEqual) ∷ (60, 60, s.Precedes) ∷ (62, 62, s.Follows)
    ∷ (124, 124, s.DoubleBar) ∷ (61, 62, s.Arrow) ∷ []

abbrev pub double_symbol : ℕ → ℕ → Option Symbol
double_symbol a b = look_up_two a b doubles

abbrev pub or_single : Option Symbol → Option Symbol → Text → Text → Result (Form × Text) Code
or_single (Some double) single after_two after_one = Ok (symbol double, after_two)
or_single None (Some single) after_two after_one = Ok (symbol single, after_one)
or_single None None after_two after_one = Err XPST0003

unfoldable pub read_symbol : Text → Result (Form × Text) Code
read_symbol [] = Err XPST0003
read_symbol (a ∷ []) = or_single None (single_symbol a) [] []
read_symbol (a ∷ b ∷ t) = or_single (double_symbol a b) (single_symbol a) t (b ∷ t)

-- ---- tokens

-- a digit, or a point and a digit
abbrev pub begins_number : Text → Bool
begins_number [] = false
begins_number (c ∷ t) = is_digit c || (c == 46 && begins is_digit t)

unfoldable pub read_token : Text → Result (Form × Text) Code
read_token [] = Err XPST0003
read_token (c ∷ t) =
    if is_name_start c then Ok (read_name (c ∷ t))
    else (if begins_number (c ∷ t) then judged (read_number (c ∷ t))
    else (if is_quote c then read_string c t else read_symbol (c ∷ t)))
