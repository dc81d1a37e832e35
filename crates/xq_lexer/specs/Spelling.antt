-- What a text spells: separators and tokens in turn, each the longest that begins at its place.
use Rattle.std.specs.Prelude.{◌≡◌, ℕ, ◌+◌, ◌≤◌, ◌==◌, pos, true, false, List, [], ◌∷◌, ◌++◌, length, codes, Some, None}
use Rattle.std.specs.Str.{encode_utf8_all}
use Rattle.xq_atoms.specs.Text.{value}
use Rattle.xq_atoms.specs.Literal.{millionths}
use Rattle.xq_lexer.specs.declared.tokens.Symbol.{Symbol}
use Rattle.xq_lexer.specs.declared.tokens.Symbol.TheVariants as s
use Rattle.xq_lexer.specs.Lexeme as l
use Rattle.xq_lexer.specs.Lexeme.{Lex}
use Rattle.xq_atoms.specs.Characters.{is_name}
use Rattle.xq_lexer.specs.Chars.{Text, is_quote, begins}
use Rattle.xq_lexer.specs.Separators.{skip}
use Rattle.xq_lexer.specs.Literals.{Number, integer, decimal, number_text, IsNumber, number_fault, Piece, ArePieces, content_text, content_chars}

-- how a symbol is spelled (XQuery 3.1, A.2.2: delimiting terminal symbols)
abbrev pub symbol_text : Symbol → Text
symbol_text s.OpenParenthesis = codes "("
symbol_text s.CloseParenthesis = codes ")"
symbol_text s.OpenBracket = codes "["
symbol_text s.CloseBracket = codes "]"
symbol_text s.OpenBrace = codes "{"
symbol_text s.CloseBrace = codes "}"
symbol_text s.Comma = codes ","
symbol_text s.Dollar = codes "$"
symbol_text s.Assign = codes ":="
symbol_text s.DoubleColon = codes "::"
symbol_text s.Slash = codes "/"
symbol_text s.DoubleSlash = codes "//"
symbol_text s.Dot = codes "."
symbol_text s.DoubleDot = codes ".."
symbol_text s.At = codes "@"
symbol_text s.Star = codes "*"
symbol_text s.Plus = codes "+"
symbol_text s.Minus = codes "-"
symbol_text s.Equal = codes "="
symbol_text s.NotEqual = codes "!="
symbol_text s.Less = codes "<"
symbol_text s.LessEqual = codes "<="
symbol_text s.Greater = codes ">"
symbol_text s.GreaterEqual = codes ">="
symbol_text s.Precedes = codes "<<"
symbol_text s.Follows = codes ">>"
symbol_text s.Bar = codes "|"
symbol_text s.DoubleBar = codes "||"
symbol_text s.Arrow = codes "=>"
symbol_text s.Bang = codes "!"

-- a token as it is written
pub data Form : Type 0 where
  name : Text → Form
  prefixed : Text → Text → Form
  number : Number → Form
  string : ℕ → List Piece → Form
  symbol : Symbol → Form

-- its characters
abbrev pub form_text : Form → Text
form_text (name w) = w
form_text (prefixed p w) = p ++ 58 ∷ w
form_text (number n) = number_text n
form_text (string quote ps) = quote ∷ content_text quote ps ++ quote ∷ []
form_text (symbol s) = symbol_text s

-- the text is a name of XML 1.0 without a colon
abbrev pub IsName : Text → Type 0
IsName w = is_name w ≡ true

-- the table's row
abbrev pub IsForm : Form → Type 0
IsForm (name w) = IsName w
IsForm (prefixed p w) = IsName p × IsName w
IsForm (number n) = IsNumber n
IsForm (string quote ps) = (is_quote quote ≡ true) × ArePieces quote ps
IsForm (symbol s) = Unit {0}

-- what it stands for
abbrev pub form_lex : Form → Lex
form_lex (name w) = l.name (encode_utf8_all w)
form_lex (prefixed p w) = l.prefixed (encode_utf8_all p) (encode_utf8_all w)
form_lex (number (integer w)) = l.int (pos (value w))
form_lex (number (decimal w f)) = l.dec (pos (millionths (w ++ 46 ∷ f)))
form_lex (string quote ps) = l.str (encode_utf8_all (content_chars quote ps))
form_lex (symbol s) = l.symbol s

-- no token that begins here is longer
abbrev pub IsLongest : Form → Text → Type 0
IsLongest f after = (other : Form) (rest : Text) → IsForm other
    → form_text other ++ rest ≡ form_text f ++ after
    → length (form_text other) ≤ length (form_text f)

-- a number is without fault, and a string isn't followed by its own quote
abbrev pub MayStand : Form → Text → Type 0
MayStand (number n) after = number_fault n after ≡ None
MayStand (string quote ps) after = begins (λ c. c == quote) after ≡ false
MayStand _ after = Unit {0}

-- the bytes of a text
abbrev pub bytes : Text → ℕ
bytes w = length (encode_utf8_all w)

-- in the text the token t is next, and after is what follows it
pub record Next (text : Text) (t : Lex) (after : Text) : Type 0 where
  pub form : Form
  pub skipped : skip 0 text ≡ Some (form_text form ++ after)
  pub is_form : IsForm form
  pub longest : IsLongest form after
  pub stands : MayStand form after
  pub lex : t ≡ form_lex form

-- the tokens up to some place, and the text that is left there
abbrev pub Before : Text → List Lex → Text → Type 0
Before text [] rest = text ≡ rest
Before text (t ∷ ts) rest = (after : Text) × Next text t after × Before after ts rest

-- these tokens, and separators between them, are the text
abbrev pub Spells : Text → List Lex → Type 0
Spells text ts = (rest : Text) × Before text ts rest × (skip 0 rest ≡ Some [])
