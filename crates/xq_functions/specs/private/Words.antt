-- What comes after the words that were read so far.
use Rattle.std.specs.Prelude.{List, [], ◌∷◌, ◌++◌, flat_map, filter, not, Bool, true, false}
use Rattle.xq_atoms.specs.Text.{Text, is_empty}
use Rattle.xq_meaning.specs.Texts.{pieces_of, words, normalized}

-- each word after a space
abbrev pub spaced : List Text → Text
spaced ws = flat_map (λ w. 32 ∷ w) ws

abbrev pub not_empty : List Text → List Text
not_empty pieces = filter (λ piece. not (is_empty piece)) pieces

-- what the rest of a text adds to the words before it: those stand apart from the rest, or there
-- are none, or the rest goes on with the last one
abbrev pub continued : Bool → Text → Text → Text
continued true before rest = spaced (words rest)
continued false [] rest = normalized rest
continued false (b ∷ bs) rest = (pieces_of rest).0 ++ spaced (not_empty (pieces_of rest).1)
