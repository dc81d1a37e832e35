-- Tokens as the definitions see them: a text by its bytes, a decimal by its millionths.
use Rattle.std.specs.Prelude.{ℕ, ℤ, List, map, string_bytes}
use Rattle.xq_lexer.specs.declared.tokens.Token.{Token}
use Rattle.xq_lexer.specs.declared.tokens.Token.TheVariants.{Name, Prefixed, Int, Dec, Str, Sym}
use Rattle.xq_lexer.specs.declared.tokens.Symbol.{Symbol}

-- what a token is
pub data Lex : Type 0 where
  name : List ℕ → Lex
  prefixed : List ℕ → List ℕ → Lex
  int : ℤ → Lex
  dec : ℤ → Lex
  str : List ℕ → Lex
  symbol : Symbol → Lex

-- what a token of the program is
abbrev pub lex_of : Token → Lex
lex_of (Name n) = name (string_bytes n)
lex_of (Prefixed p n) = prefixed (string_bytes p) (string_bytes n)
lex_of (Int i) = int i
lex_of (Dec m) = dec m
lex_of (Str s) = str (string_bytes s)
lex_of (Sym s) = symbol s

-- what each of the tokens is
abbrev pub lexemes : List Token → List Lex
lexemes ts = map lex_of ts
