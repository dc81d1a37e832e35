-- The text of a result: items as expressions that give them, joined by a comma and a space.
use Rattle.std.specs.Prelude.{ℕ, List, [], ◌∷◌, map, length, nat_le, codes}
use Rattle.xq_atoms.specs.declared.refusals.Code.TheVariants.{ProfReply}
use Rattle.xq_atoms.specs.Judged.{Judged, only_if}
use Rattle.xq_atoms.specs.Text.{Text}
use Rattle.xq_atoms.specs.Print.{print_atomic}
use Rattle.xq_trees.specs.Tree.{Tree}
use Rattle.xq_trees.specs.Print.{print}
use Rattle.xq_meaning.specs.Texts.{joined}
use Rattle.xq_meaning.specs.Items.{Item, Node, Atom, tree_below}

-- the text of one item
abbrev pub print_item : List Tree → Item → Text
print_item trees (Node p) = print (tree_below trees p)
print_item trees (Atom a) = print_atomic a

-- the text of a result, which is `()` where there are no items
abbrev pub print_items : List Tree → List Item → Text
print_items trees [] = codes "()"
print_items trees (x ∷ xs) = joined (codes ", ") (map (print_item trees) (x ∷ xs))

-- the greatest length of a text, in bytes
abbrev pub longest_text : ℕ
longest_text = 16777216

-- a text that fits a reply; a longer one is refused
abbrev pub within_reply : Text → Judged Text
within_reply t = only_if (nat_le (length t) longest_text) ProfReply t
