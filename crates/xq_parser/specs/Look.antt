-- Tokens, tables of them, and the first token of a step (XQuery 3.1, appendix A.2 and section 3.3).
use Rattle.std.specs.Prelude.{List, [], ◌∷◌, Bool, true, false, if◌then◌else◌, Option, Some, None, codes}
use Rattle.std.specs.Str.{bytes_eq}
use Prim.Native.String.{String}
use denote.Enum.Bare.{sameb}
use Rattle.xq_lexer.specs.Lexeme.{Lex, name, symbol}
use Rattle.xq_lexer.specs.contracts.tokens.Symbol.{the_type}
use Rattle.xq_lexer.specs.declared.tokens.Symbol.{Symbol}
use Rattle.xq_lexer.specs.declared.tokens.Symbol.TheVariants as s

-- tokens, as the definitions see them
abbrev pub Tokens : Type 0
Tokens = List Lex

-- a name that stands for itself, as `for`
abbrev pub word : String → Lex
word w = name (codes w)

-- ---- tables of tokens

-- whether two symbols are the same
unfoldable pub same_symbol : Symbol → Symbol → Bool
same_symbol = sameb the_type

-- whether two tokens are the same name or symbol
unfoldable pub same : Lex → Lex → Bool
same (name n) (name m) = bytes_eq m n
same (symbol a) (symbol b) = same_symbol b a
same _ _ = false

-- tokens, and what each stands for
abbrev pub Table : Type 0 → Type 0
Table A = List (Lex × A)

-- what the first entry with the token says
unfoldable pub lookup : {A : Type 0} → Table A → Lex → Option A
lookup [] t = None
lookup (entry ∷ more) t = if same entry.0 t then Some entry.1 else lookup more t

-- ---- the first token of a step

-- the symbols that may begin a step (section 3.3.2)
abbrev pub symbol_begins_step : Symbol → Bool
symbol_begins_step s.Dollar = true
symbol_begins_step s.OpenParenthesis = true
symbol_begins_step s.Dot = true
symbol_begins_step s.DoubleDot = true
symbol_begins_step s.At = true
symbol_begins_step s.Star = true
symbol_begins_step _ = false

-- whether a step may begin here: then a slash in front isn't alone (appendix A.1.2,
-- leading-lone-slash)
abbrev pub begins_step : Tokens → Bool
begins_step [] = false
begins_step (symbol c ∷ ts) = symbol_begins_step c
begins_step (t ∷ ts) = true
