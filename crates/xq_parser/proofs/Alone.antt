-- A literal before what ends an expression is one.
use Rattle.std.proofs.Common.{◌≡◌, true, [], ◌∷◌, refl}
use Rattle.xq_lexer.specs.Lexeme.{int, dec, str, symbol}
use Rattle.xq_lexer.specs.declared.tokens.Symbol.TheVariants as s
use Rattle.xq_expressions.specs.declared.expressions.Expr.{Expr}
use Rattle.xq_expressions.specs.declared.expressions.Expr.TheVariants as e
use Rattle.xq_expressions.specs.declared.expressions.Step.TheVariants as step
use Rattle.xq_parser.specs.Look.{Tokens, lookup, same, same_symbol}
use Rattle.xq_parser.specs.private.Alone.{stands_alone}
use Rattle.xq_parser.specs.private.Reading.{Parser, any, begins_flwor, begins_quantified, begins_if, disjunction, conjunction, comparison, concat, range, sum, product, union, inter, arrow, unary, simple_map, path, relative, step, primary_step, predicates, primary, begins_primary, begins_literal, begins_lone, next_level, level_of, begins, one_of, many, many_from}

pub alone : (single : Parser Expr) (ts : Tokens) → stands_alone ts ≡ true → any single ts ≡ primary single ts
unfolding any begins_flwor begins_quantified begins_if disjunction conjunction comparison concat range sum product union inter arrow unary simple_map path relative step primary_step predicates primary begins_primary begins_literal begins_lone next_level level_of begins one_of many many_from lookup same same_symbol stands_alone
alone single (int n ∷ symbol s.Comma ∷ ts) h = rw (step.outs-Primary (e.Int n) []) refl
alone single (int n ∷ symbol s.CloseParenthesis ∷ ts) h = rw (step.outs-Primary (e.Int n) []) refl
alone single (int n ∷ symbol s.CloseBracket ∷ ts) h = rw (step.outs-Primary (e.Int n) []) refl
alone single (int n ∷ symbol s.CloseBrace ∷ ts) h = rw (step.outs-Primary (e.Int n) []) refl
alone single (dec n ∷ symbol s.Comma ∷ ts) h = rw (step.outs-Primary (e.Dec n) []) refl
alone single (dec n ∷ symbol s.CloseParenthesis ∷ ts) h = rw (step.outs-Primary (e.Dec n) []) refl
alone single (dec n ∷ symbol s.CloseBracket ∷ ts) h = rw (step.outs-Primary (e.Dec n) []) refl
alone single (dec n ∷ symbol s.CloseBrace ∷ ts) h = rw (step.outs-Primary (e.Dec n) []) refl
alone single (str n ∷ symbol s.Comma ∷ ts) h = rw (step.outs-Primary (e.Str n) []) refl
alone single (str n ∷ symbol s.CloseParenthesis ∷ ts) h = rw (step.outs-Primary (e.Str n) []) refl
alone single (str n ∷ symbol s.CloseBracket ∷ ts) h = rw (step.outs-Primary (e.Str n) []) refl
alone single (str n ∷ symbol s.CloseBrace ∷ ts) h = rw (step.outs-Primary (e.Str n) []) refl
alone single ts h = absurd cc
