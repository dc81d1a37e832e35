-- Keys of a join: the texts of nodes.
use Rattle.std.specs.Prelude.{List, Bool}
use Rattle.std.specs.List.{list_any}
use Rattle.xq_atoms.specs.Text.{Text, text_eq}
use Rattle.xq_trees.specs.Items.{ItemView, Place as NodeAt, Value}
use Rattle.xq_trees.specs.Tree.{Tree}
use Rattle.xq_trees.specs.Value.{string_value}
use Rattle.xq_meaning.specs.Items.{Place, tree_below}

-- the text of a node
abbrev pub text_at : List Tree → Place → Text
text_at trees p = string_value (tree_below trees p)

-- XQuery 3.1, 3.7.2: some text of the one list equals some text of the other
abbrev pub meet : List Text → List Text → Bool
meet as' bs = list_any (λ a. list_any (text_eq a) bs) as'

-- # Of items that code holds

-- the item is a node
abbrev pub IsNode : ItemView → Type 0
IsNode (NodeAt n) = Unit {0}
IsNode (Value a) = ⊥
