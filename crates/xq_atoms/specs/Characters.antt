-- Characters, as their numbers, and names without a colon: XML 1.0, sections 2.2 and 2.3, and
-- Namespaces in XML 1.0, section 3.
use Rattle.std.specs.Prelude.{ℕ, Bool, false, ◌&&◌, ◌||◌, ◌==◌, nat_le, List, [], ◌∷◌}
use Rattle.std.specs.List.{list_all}

-- from the first number to the second, both included
abbrev pub within : ℕ → ℕ → ℕ → Bool
within low high c = nat_le low c && nat_le c high

-- what may stand in a document and in a query: section 2.2, Char
unfoldable pub is_char : ℕ → Bool
is_char c =
    c == 0x9 || c == 0xA || c == 0xD
    || within 0x20 0xD7FF c || within 0xE000 0xFFFD c || within 0x10000 0x10FFFF c

-- section 2.3, S
abbrev pub is_space : ℕ → Bool
is_space c = c == 0x20 || c == 0x9 || c == 0xD || c == 0xA

-- a digit, from 0 to 9
abbrev pub is_digit : ℕ → Bool
is_digit c = within 48 57 c

-- what a name may begin with, a letter or `_`: section 2.3, NameStartChar, without the colon
unfoldable pub is_name_start : ℕ → Bool
is_name_start c =
    within 65 90 c || c == 95 || within 97 122 c
    || within 0xC0 0xD6 c || within 0xD8 0xF6 c || within 0xF8 0x2FF c
    || within 0x370 0x37D c || within 0x37F 0x1FFF c || within 0x200C 0x200D c
    || within 0x2070 0x218F c || within 0x2C00 0x2FEF c || within 0x3001 0xD7FF c
    || within 0xF900 0xFDCF c || within 0xFDF0 0xFFFD c || within 0x10000 0xEFFFF c

-- what may follow in a name, also `-`, `.`, a digit and marks: section 2.3, NameChar, without the
-- colon
unfoldable pub is_name_char : ℕ → Bool
is_name_char c =
    is_name_start c || c == 45 || c == 46 || is_digit c
    || c == 0xB7 || within 0x300 0x36F c || within 0x203F 0x2040 c

-- a name without a colon, by its characters: Namespaces, section 3, NCName
abbrev pub is_name : List ℕ → Bool
is_name [] = false
is_name (c ∷ cs) = is_name_start c && list_all is_name_char cs
