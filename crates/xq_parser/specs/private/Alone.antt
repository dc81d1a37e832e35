-- Literals that are expressions by themselves, as what stands behind them ends the expression.
use Rattle.std.specs.Prelude.{[], ◌∷◌, Bool, true, false}
use Rattle.xq_lexer.specs.Lexeme.{Lex, int, dec, str, symbol}
use Rattle.xq_lexer.specs.declared.tokens.Symbol.TheVariants as s
use Rattle.xq_parser.specs.Look.{Tokens}

-- no expression goes on with the token
abbrev pub ends : Lex → Bool
ends (symbol s.Comma) = true
ends (symbol s.CloseParenthesis) = true
ends (symbol s.CloseBracket) = true
ends (symbol s.CloseBrace) = true
ends t = false

unfoldable pub stands_alone : Tokens → Bool
stands_alone (int i ∷ t ∷ ts) = ends t
stands_alone (dec m ∷ t ∷ ts) = ends t
stands_alone (str n ∷ t ∷ ts) = ends t
stands_alone _ = false

-- no expression goes on with the next token
unfoldable pub begins_end : Tokens → Bool
begins_end [] = false
begins_end (t ∷ ts) = ends t
