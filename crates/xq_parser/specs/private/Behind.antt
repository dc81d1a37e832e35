-- What stands behind an operand that was read: the tails of the lines of operators.
use Rattle.std.specs.Prelude.{ℕ, zero, suc, ◌==◌, ◌-◌, List, if◌then◌else◌}
use Rattle.xq_lexer.specs.Lexeme.{symbol}
use Rattle.xq_lexer.specs.declared.tokens.Symbol.TheVariants as s
use Rattle.xq_expressions.specs.declared.expressions.Expr.{Expr}
use Rattle.xq_expressions.specs.declared.expressions.Expr.TheVariants as e
use Rattle.xq_parser.specs.Look.{Table, word}
use Rattle.xq_parser.specs.Grammar as g
use Rattle.xq_parser.specs.private.Reading as r
use Rattle.xq_parser.specs.private.Reading.{Parser, and_then, pure, both, mapped, many, maybe, is, begins, expect, stands}

-- the token between the operands of a level that makes one list of them
unfoldable pub joint : ℕ → Parser (Unit {0})
joint n =
    if n == 2 then r.union_sign else (if n == 6 then expect (symbol s.DoubleBar)
    else (if n == 8 then expect (word "and") else expect (word "or")))

-- what the list is
unfoldable pub of_list : ℕ → List Expr → Expr
of_list n =
    if n == 2 then e.Union else (if n == 6 then e.Concat else (if n == 8 then e.And else e.Or))

module _ (single : Parser Expr) where
  -- each line of operators, behind its first operand
  abbrev pub with_maps : Expr → Parser Expr
  with_maps x = mapped (g.chain e.Map) (both (pure x) (many (is (symbol s.Bang)) (r.map_item single)))

  abbrev pub with_calls : Expr → Parser Expr
  with_calls x = mapped (g.chain e.Arrow)
      (both (pure x) (many (is (symbol s.Arrow)) (r.arrow_item single)))

  abbrev pub with_end : Expr → Parser Expr
  with_end x = mapped g.ranged
      (both (pure x) (maybe (stands 5) (r.after (word "to") (r.level single 4))))

  abbrev pub with_compared : Expr → Parser Expr
  with_compared x = mapped g.compared
      (both (pure x) (maybe (stands 7) (both (r.one_of g.comparisons) (r.level single 6))))

  -- a level that makes a chain of its operands, each with its operator
  abbrev pub chained : {A : Type 0} → ℕ → Table A → (Expr → List (A × Expr) → Expr) → Expr
      → Parser Expr
  chained n table chain x = mapped (g.chain chain)
      (both (pure x) (many (stands n) (both (r.one_of table) (r.level single (n - 1)))))

  -- an operand of a list after the token of its level
  unfoldable pub joined_item : ℕ → Parser Expr
  joined_item n ts = and_then (joint n ts) (λ _ us. r.level single (n - 1) us)

  abbrev pub joined : ℕ → Expr → Parser Expr
  joined n x = mapped (g.several (of_list n)) (both (pure x) (many (stands n) (joined_item n)))

  -- the line of a level
  unfoldable pub at : ℕ → Expr → Parser Expr
  at n =
      if n == 1 then chained n g.set_operators e.SetOperation
      else (if n == 3 then chained n g.product_operators e.Product
      else (if n == 4 then chained n g.signs e.Sum
      else (if n == 5 then with_end else (if n == 7 then with_compared else joined n))))

  -- all lines up to that of a level, behind the first operand of them all
  unfoldable pub up_to : ℕ → Expr → Parser Expr
  up_to zero x ts = with_calls x ts
  up_to (suc n) x ts = and_then (up_to n x ts) (at (suc n))

  -- a path whose first step begins with what was read
  unfoldable pub path_from : Expr → Parser Expr
  path_from x = mapped g.relative
      (both (mapped g.primary_step (both (pure x) (r.predicates single)))
      (many (begins g.separators) (r.next_step single)))
