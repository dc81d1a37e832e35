-- What a function that reads ensures: what the reader on lists gives, unless memory is wanting.
use Rattle.std.specs.Prelude.{◌≡◌, ℕ, ℤ, min, [], Bool, true, false, if◌then◌else◌, Option, Some, None, option_map, Result, Ok, Err, ◌+◌, ◌++◌, ◌<◌, length, drop}
use Rattle.std.specs.Str.{encode_utf8_all}
use Rattle.xq_atoms.specs.declared.refusals.Code.{Code}
use denote.Ref.{Bor}
use Rattle.xq_atoms.specs.declared.refusals.Code.TheVariants.{XPST0003, XQST0090}
use Rattle.xq_atoms.specs.declared.refusals.Fault.{Fault}
use Rattle.xq_atoms.specs.declared.refusals.Fault.TheVariants.{Code as OfCode, Want as OfWant}
use Rattle.xq_atoms.specs.declared.refusals.Want.TheVariants.{Memory}
use Rattle.xq_atoms.specs.Judged.{Judged}
use Rattle.xq_atoms.specs.Literal.{integer_literal, decimal_literal}
use Rattle.xq_lexer.specs.declared.runs.Class.{Class}
use Rattle.xq_lexer.specs.declared.runs.Class.TheVariants.{Name, Digit, HexDigit, Plain}
use Rattle.xq_atoms.specs.Characters.{is_char, is_digit, is_name_char}
use Rattle.xq_lexer.specs.Chars.{Text, is_hex}
use Rattle.xq_lexer.specs.Lexeme.{Lex, int, dec, lex_of, lexemes}
use Rattle.xq_lexer.specs.Literals.{Number, integer, decimal, Reference, referred, is_plain, piece_char}
use Rattle.xq_lexer.specs.Spelling.{Form, form_lex, Next, Spells}
use Rattle.xq_lexer.specs.Separators.{skip}
use Rattle.xq_lexer.specs.TokenFaults.{FaultHere, HasFault}
use Rattle.xq_lexer.specs.declared.tokens.Token.{Token}
use Rattle.std.specs.declared.alloc.Global.{Global}
use Rattle.std.specs.declared.vec.Vec.{Vec}
use Rattle.xq_lexer.specs.Reading.{Inside, closed, one, wrong}

-- a function that takes no memory gives what the reader gives
abbrev pub GivesAlways : {X Y : Type 0} → (X → Y) → Judged Y → Result X Code → Type 0
GivesAlways view read (Ok x) = read ≡ Ok (view x)
GivesAlways view read (Err c) = read ≡ Err c

-- the test of a class of characters
abbrev pub test : Class → ℕ → Bool
test Name = is_name_char
test Digit = is_digit
test HexDigit = is_hex
test (Plain quote) = is_plain quote

-- from a place on, the bytes of a text are the characters
abbrev pub SpelledAt : Text → ℕ → Text → Type 0
SpelledAt written place chars = drop place written ≡ encode_utf8_all chars

-- the same of the bytes there that come first
abbrev pub BeginsAt : Text → ℕ → Text → Type 0
BeginsAt written place chars = (after : Text)
    × (drop place written ≡ encode_utf8_all chars ++ after)

-- what a token read stands for
abbrev pub lexed : Result (Form × Text) Code → Result (Lex × Text) Code
lexed (Ok x) = Ok (form_lex x.0, x.1)
lexed (Err c) = Err c

-- whether a number has a point
abbrev pub is_decimal : Number → Bool
is_decimal (integer w) = false
is_decimal (decimal w f) = true

abbrev pub pointed : Number × Text → Bool × Text
pointed x = (is_decimal x.0, x.1)

-- the character that a reference stands for, where every number past the last character is one
abbrev pub refers : Option (Reference × Text) → Option (ℕ × Text)
refers o = option_map (λ x. (min 0x110000 (referred x.0), x.1)) o

-- the character of a reference, or its fault
abbrev pub referred_char : Option (Reference × Text) → Result (Option ℕ × Text) Code
referred_char None = Err XPST0003
referred_char (Some x) = if is_char (referred x.0) then Ok (Some (referred x.0), x.1)
    else Err XQST0090

-- what is next inside a string: a character, or None at its end
abbrev pub next_inside : ℕ → Inside → Result (Option ℕ × Text) Code
next_inside quote (closed rest) = Ok (None, rest)
next_inside quote (one p rest) = Ok (Some (piece_char quote p), rest)
next_inside quote (wrong c) = Err c

-- what is left behind the separators, or the code of their fault
abbrev pub Skips : Result (Bor Text) Code → Option Text → Type 0
Skips (Ok rest) left = left ≡ Some rest.now
Skips (Err c) left = (left ≡ None) × (c ≡ XPST0003)

abbrev pub lex_by : (ℤ → Lex) → Result ℤ Code → Result Lex Code
lex_by make (Ok m) = Ok (make m)
lex_by make (Err c) = Err c

-- what a number's literal stands for
abbrev pub valued_lex : Bool → Text → Result Lex Code
valued_lex true t = lex_by dec (decimal_literal t)
valued_lex false t = lex_by int (integer_literal t)

-- the next token, None at the end of the text, or the fault there
abbrev pub Nexts : Text → Result (Option (Token × Bor Text)) Fault → Type 0
Nexts text (Ok None) = skip 0 text ≡ Some []
Nexts text (Ok (Some x)) = Next text (lex_of x.0) x.1.now × (length x.1.now < length text)
Nexts text (Err (OfCode c)) = FaultHere text c
Nexts text (Err (OfWant w)) = w ≡ Memory

-- all tokens, or the fault
abbrev pub Lexes : Text → Result (Vec Token Global) Fault → Type 0
Lexes text (Ok v) = Spells text (lexemes v.items)
Lexes text (Err (OfCode c)) = HasFault text c
Lexes text (Err (OfWant w)) = w ≡ Memory
