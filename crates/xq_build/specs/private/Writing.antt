-- Writing at the end of a text, up to a limit of bytes.
use Rattle.std.specs.Prelude.{◌≡◌, ℕ, ◌<◌, ◌≤◌, List, [], ◌∷◌, ◌++◌, length, Result, Ok, Err, String, string_bytes, if◌then◌else◌, ◌==◌, codes}
use Rattle.std.specs.Char.{encode_utf8}
use Rattle.xq_trees.specs.Tree.{Tree}
use Rattle.xq_trees.specs.Printing.{text_from}
use Rattle.xq_build.specs.private.Leaves.{Leaf}
use Rattle.xq_meaning.specs.Items.{Item}
use Rattle.xq_meaning.specs.Print.{print_item}
use Rattle.xq_atoms.specs.declared.refusals.Code.TheVariants.{ProfReply}
use Rattle.xq_atoms.specs.declared.refusals.Fault.{Fault}
use Rattle.xq_atoms.specs.declared.refusals.Fault.TheVariants.{Code as OfCode, Want as OfWant}

-- the text is refused for its length only where it is over the limit; a want tells nothing
abbrev pub IsTooLong : ℕ → List ℕ → Fault → Type 0
IsTooLong limit text (OfCode code) = (code ≡ ProfReply) × (limit < length text)
IsTooLong limit text (OfWant want) = Unit {0}

-- the new text is the old one with the piece, and within the limit
abbrev pub Appends : {T Y Z : Type 0} → ℕ → List ℕ → Result T Fault → String Y → String Z → Type 0
Appends limit piece (Ok t) old new = (string_bytes new ≡ string_bytes old ++ piece)
    × (length (string_bytes new) ≤ limit)
Appends limit piece (Err fault) old new = IsTooLong limit (string_bytes old ++ piece) fault

-- the rest of a text is the same where these nodes were written, whatever others come
abbrev pub GoesOn : {Y Z : Type 0} → ℕ → ℕ → List Leaf → Result ℕ Fault → String Y → String Z
    → Type 0
GoesOn limit depth ps (Ok open_nodes) old new =
    ((others : List Leaf)
    → string_bytes new ++ text_from open_nodes others ≡ string_bytes old
    ++ text_from depth (ps ++ others))
    × (length (string_bytes new) ≤ limit)
GoesOn limit depth ps (Err fault) old new = (others : List Leaf)
    → IsTooLong limit (string_bytes old ++ text_from depth (ps ++ others)) fault

-- a character of a string literal
abbrev pub escape_char : ℕ → List ℕ
escape_char c =
    if c == 34 then 34 ∷ 34 ∷ []
    else (if c == 38 then codes "&amp;" else (if c == 13 then codes "&#xD;" else encode_utf8 c))

-- the items, each after a comma
abbrev pub each_after_comma : List Tree → List Item → List ℕ
each_after_comma trees [] = []
each_after_comma trees (x ∷ xs) = codes ", " ++ (print_item trees x ++ each_after_comma trees xs)
