-- Texts that are one token.
use Rattle.std.specs.Prelude.{ℕ, List, [], ◌∷◌}
use Rattle.std.specs.Str.{chars}
use Rattle.xq_lexer.specs.Lexeme.{Lex}
use Rattle.xq_lexer.specs.Spelling.{Spells}

-- the text of these bytes spells this token, and no other beside it
abbrev pub IsToken : Lex → List ℕ → Type 0
IsToken lex bytes = Spells (chars bytes) (lex ∷ [])
