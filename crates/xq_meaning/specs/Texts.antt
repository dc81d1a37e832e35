-- What functions do with texts: F&O 3.1, 5.4 and 5.5. Texts are UTF-8: characters are counted as
-- code points, and a text stands in another one by characters exactly where it does by bytes.
use Rattle.std.proofs.Common.{suc}
use Rattle.std.specs.Prelude.{ℕ, ℤ, pos, ◌+ℤ◌, int_le, int_lt, List, [], ◌∷◌, ◌++◌, length, drop, filter, Bool, true, false, not, ◌&&◌, nat_eq, codes, if◌then◌else◌}
use Rattle.std.specs.List.{starts_with as starts_by, ends_with as ends_by}
use Rattle.std.specs.Str.{chars, encode_utf8_all}
use Rattle.xq_atoms.specs.Text.{Text, is_empty}
use Rattle.xq_atoms.specs.Characters.{is_space}
use Rattle.xq_trees.specs.Names.{holds}

-- texts with a separator between them
abbrev pub joined : Text → List Text → Text
joined separator [] = []
joined separator (t ∷ []) = t
joined separator (t ∷ u ∷ us) = t ++ separator ++ joined separator (u ∷ us)

-- the text begins, and ends, with the word
abbrev pub begins : Text → Text → Bool
begins word t = starts_by nat_eq t word

-- F&O 3.1, 5.5.3: the text ends with the word
abbrev pub ends : Text → Text → Bool
ends word t = ends_by nat_eq t word

-- # Words between white space

-- a character in front of pieces; white space ends a piece
abbrev pub cut_at : Bool → ℕ → Text × List Text → Text × List Text
cut_at true c pieces = ([], pieces.0 ∷ pieces.1)
cut_at false c pieces = (c ∷ pieces.0, pieces.1)

-- the text cut at each white space: the first piece, and the others
abbrev pub pieces_of : Text → Text × List Text
pieces_of [] = ([], [])
pieces_of (c ∷ cs) = cut_at (is_space c) c (pieces_of cs)

-- the pieces between white space that are not empty
abbrev pub words : Text → List Text
words t = filter (λ piece. not (is_empty piece)) ((pieces_of t).0 ∷ (pieces_of t).1)

-- 5.4.5: the words with one space between them
abbrev pub normalized : Text → Text
normalized t = joined (codes " ") (words t)

-- # Characters by their positions, from 1

-- 5.4.4
abbrev pub character_count : Text → ℕ
character_count t = length (chars t)

-- a character in front of others where the test holds, else the others alone
abbrev pub in_front_if : Bool → ℕ → List ℕ → List ℕ
in_front_if true c cs = c ∷ cs
in_front_if false c cs = cs

-- the characters at positions that are kept, where the first one has position p
abbrev pub characters_where : (ℤ → Bool) → ℕ → List ℕ → List ℕ
characters_where keep p [] = []
characters_where keep p (c ∷ cs) = in_front_if (keep (pos p)) c (characters_where keep (suc p) cs)

-- the characters of a text at the positions that are kept
abbrev pub text_where : (ℤ → Bool) → Text → Text
text_where keep t = encode_utf8_all (characters_where keep 1 (chars t))

-- 5.4.3: from the position n on, and so many characters of these
abbrev pub from_position : ℤ → Text → Text
from_position n t = text_where (λ p. int_le n p) t

-- 5.4.3: the characters at positions from n on and below n + l
abbrev pub between_positions : ℤ → ℤ → Text → Text
between_positions n l t = text_where (λ p. int_le n p && int_lt p (n +ℤ l)) t

-- # Before and after the first place where a word stands

-- 5.5.4, where the word stands in the text
abbrev pub before_first : Text → Text → Text
before_first word [] = []
before_first word (c ∷ cs) = if begins word (c ∷ cs) then [] else c ∷ before_first word cs

-- 5.5.5, where the word is not empty
abbrev pub after_first : Text → Text → Text
after_first word [] = []
after_first word (c ∷ cs) =
    if begins word (c ∷ cs) then drop (length word) (c ∷ cs) else after_first word cs

-- F&O 3.1, 5.5.4: what is before the first place of the word, or nothing where it has none
abbrev pub substring_before : Text → Text → Text
substring_before t word = if holds word t then before_first word t else []

-- F&O 3.1, 5.5.5: what is after the first place of the word, or nothing where it has none;
-- for the empty word all of the text
abbrev pub substring_after : Text → Text → Text
substring_after t [] = t
substring_after t (w ∷ ws) = after_first (w ∷ ws) t
