-- Classes of characters that tokens are told by, beside those of XML.
use Rattle.std.specs.Prelude.{ℕ, Bool, false, ◌||◌, ◌==◌, List, [], ◌∷◌}
use Rattle.xq_atoms.specs.Characters.{within, is_digit}

-- a text, by the code points of its characters
abbrev pub Text : Type 0
Text = List ℕ

-- XML 1.0, 4.1: a digit of base 16, in either case
abbrev pub is_hex : ℕ → Bool
is_hex c = is_digit c || within 65 70 c || within 97 102 c

-- `"` and `'`
abbrev pub is_quote : ℕ → Bool
is_quote c = c == 34 || c == 39

-- whether the text begins with a character that passes the test
abbrev pub begins : (ℕ → Bool) → Text → Bool
begins p [] = false
begins p (c ∷ t) = p c
