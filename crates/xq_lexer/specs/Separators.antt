-- White space and comments, which separate tokens and are dropped (XQuery 3.1, appendix A.2.4.1 and
-- section 2.6).
use Rattle.std.specs.Prelude.{ℕ, zero, suc, Bool, ◌&&◌, if◌then◌else◌, ◌==◌, [], ◌∷◌, Option, Some, None}
use Rattle.xq_atoms.specs.Characters.{is_char, is_space}
use Rattle.xq_lexer.specs.Chars.{Text}

-- `(:` and `:)`
abbrev pub opens : ℕ → ℕ → Bool
opens a b = a == 40 && b == 58

-- the two characters are `:)`
abbrev pub closes : ℕ → ℕ → Bool
closes a b = a == 58 && b == 41

-- The text after the separators at its front, with so many comments open. `(:` opens a comment
-- wherever it stands, and each `:)` closes the last one. None where a comment stays open, or holds
-- what is no character.
abbrev pub skip : ℕ → Text → Option Text
skip zero [] = Some []
skip (suc depth) [] = None
skip zero (a ∷ []) = if is_space a then Some [] else Some (a ∷ [])
skip (suc depth) (a ∷ []) = None
skip zero (a ∷ b ∷ t) =
    if opens a b then skip 1 t
    else (if is_space a then skip zero (b ∷ t) else Some (a ∷ b ∷ t))
skip (suc depth) (a ∷ b ∷ t) =
    if opens a b then skip (suc (suc depth)) t
    else (if closes a b then skip depth t
    else (if is_char a then skip (suc depth) (b ∷ t) else None))
