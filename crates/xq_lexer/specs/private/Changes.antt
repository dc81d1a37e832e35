-- What the first of some tokens does to the number of nested constructs.
use Rattle.std.specs.Prelude.{List, [], ◌∷◌}
use Rattle.xq_lexer.specs.Lexeme.{Lex}
use Rattle.xq_lexer.specs.Nesting.{change}
use Rattle.xq_lexer.specs.declared.depth.Change.{Change}
use Rattle.xq_lexer.specs.declared.depth.Change.TheVariants.{Keeps as keeps}

abbrev pub first_change : List Lex → Change
first_change [] = keeps
first_change (t ∷ rest) = change t rest
