-- How deep tokens nest. A running number begins at 0. An opening bracket saves it and adds 1; a
-- closing bracket takes back the number saved last, if there is one. A name `for`, `let`, `some` or
-- `every` before `$`, and `if` before `(`, adds 1. The nesting is the greatest number.
use Rattle.std.specs.Prelude.{ℕ, ◌+◌, max, List, [], ◌∷◌, Bool, ◌||◌, if◌then◌else◌, codes}
use Rattle.std.specs.Str.{bytes_eq}
use Rattle.xq_lexer.specs.Lexeme.{Lex, name, symbol}
use Rattle.xq_lexer.specs.declared.tokens.Symbol.{Symbol}
use Rattle.xq_lexer.specs.declared.tokens.Symbol.TheVariants as s
use Rattle.xq_lexer.specs.declared.depth.Change.{Change}
use Rattle.xq_lexer.specs.declared.depth.Change.TheVariants.{Opens as opens, Closes as closes, Deepens as deepens, Keeps as keeps}

-- the words that bind variables
abbrev pub is_binder : List ℕ → Bool
is_binder word =
    bytes_eq word (codes "for") || bytes_eq word (codes "let") || bytes_eq word (codes "some")
    || bytes_eq word (codes "every")

-- what a name does, before the tokens that follow it
abbrev pub name_change : List ℕ → List Lex → Change
name_change word (symbol s.Dollar ∷ rest) = if is_binder word then deepens else keeps
name_change word (symbol s.OpenParenthesis ∷ rest) = if bytes_eq word (codes "if") then deepens
    else keeps
name_change word _ = keeps

-- what a symbol does: brackets open and close, and any other symbol keeps the number
abbrev pub symbol_change : Symbol → Change
symbol_change s.OpenParenthesis = opens
symbol_change s.OpenBracket = opens
symbol_change s.OpenBrace = opens
symbol_change s.CloseParenthesis = closes
symbol_change s.CloseBracket = closes
symbol_change s.CloseBrace = closes
symbol_change _ = keeps

-- what a token does, before the tokens that follow it
abbrev pub change : Lex → List Lex → Change
change (symbol s) rest = symbol_change s
change (name word) rest = name_change word rest
change _ rest = keeps

-- the number and those saved, the last one first, after a change
abbrev pub changed : Change → ℕ → List ℕ → ℕ × List ℕ
changed opens k saved = (k + 1, k ∷ saved)
changed closes k [] = (k, [])
changed closes k (last ∷ saved) = (last, saved)
changed deepens k saved = (k + 1, saved)
changed keeps k saved = (k, saved)

-- the greatest number from here on
abbrev pub greatest : ℕ → List ℕ → List Lex → ℕ
greatest k saved [] = k
greatest k saved (t ∷ rest) = let next = changed (change t rest) k saved in max k
    (greatest next.0 next.1 rest)

-- how deep the tokens nest
abbrev pub nesting : List Lex → ℕ
nesting = greatest 0 []

-- the deepest nesting of a query
abbrev pub deepest_nesting : ℕ
deepest_nesting = 128
