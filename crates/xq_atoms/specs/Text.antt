-- Texts, as the lists of their UTF-8 bytes. White space, digits, signs and quotes are one byte
-- each.
use Rattle.std.specs.Prelude.{ℕ, ◌+◌, ◌-◌, ◌*◌, List, [], ◌∷◌, Bool, true, false, not, ◌&&◌, bytes_eq}
use Rattle.std.specs.declared.cmp.Ordering.{Ordering}
use Rattle.std.specs.Ordering.{nat_cmp}
use Rattle.std.specs.Cmp.Lexicographic.{slice_cmp}
use Rattle.std.specs.List.{list_all}
use Rattle.xq_atoms.specs.Characters.{is_digit}

-- a text, by its bytes
abbrev pub Text : Type 0
Text = List ℕ

-- F&O 3.1, 5.3.6, with the code point collation: equal characters, and the order by the first that
-- differ.
-- UTF-8 keeps the order of code points.
abbrev pub text_eq : Text → Text → Bool
text_eq = bytes_eq

-- F&O 3.1, 5.3.6: the order of two texts, which is that of their bytes
abbrev pub text_cmp : Text → Text → Ordering
text_cmp = slice_cmp nat_cmp

-- the text has no byte
abbrev pub is_empty : Text → Bool
is_empty [] = true
is_empty (c ∷ cs) = false

-- digits alone, or nothing
abbrev pub are_digits : Text → Bool
are_digits cs = list_all is_digit cs

-- d+
abbrev pub is_whole : Text → Bool
is_whole cs = not (is_empty cs) && are_digits cs

-- the number that digits write
abbrev pub value_after : ℕ → Text → ℕ
value_after n [] = n
value_after n (c ∷ cs) = value_after (n * 10 + (c - 48)) cs

-- the number that digits write, 0 where there are none
abbrev pub value : Text → ℕ
value cs = value_after 0 cs
