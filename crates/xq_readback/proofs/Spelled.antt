-- A printed result spells the tokens of its quoted expression.
use Rattle.std.proofs.Common.{true, false, List, [], ◌∷◌, ◌++◌, refl, inl, inr}
use Rattle.xq_lexer.specs.declared.tokens.Symbol.TheVariants as s
use Rattle.xq_lexer.specs.Spelling.{symbol}
use Rattle.xq_trees.specs.Tree.{Tree, nodes}
use Rattle.xq_meaning.specs.Items.{Item, Node, Atom, tree_below}
use Rattle.xq_meaning.specs.Printable.{ArePrintable}
use Rattle.xq_readback.proofs.Marks.{Mark, marks_text, AreThere, comma_there, open_there, closed_there}
use Rattle.xq_readback.proofs.Numbers.{Ends}
use Rattle.xq_readback.proofs.Printing.{node_marks}
use Rattle.xq_readback.proofs.There.{nodes_there}
use Rattle.xq_readback.proofs.Atoms.{atomic_marks, atom_there}

-- the marks of an item, and more after them
abbrev pub item_marks : List Tree → Item → List Mark → List Mark
item_marks trees (Node p) after = node_marks [] (nodes (tree_below trees p)) after
item_marks trees (Atom a) after = atomic_marks a ++ after

abbrev pub more_marks : List Tree → List Item → List Mark
more_marks trees [] = []
more_marks trees (x ∷ xs) = (symbol s.Comma, true) ∷ item_marks trees x (more_marks trees xs)

abbrev pub items_marks : List Tree → List Item → List Mark
items_marks trees [] = (symbol s.OpenParenthesis, false) ∷ (symbol s.CloseParenthesis, false) ∷ []
items_marks trees (x ∷ xs) = item_marks trees x (more_marks trees xs)

-- what follows an item is a comma or the end
more_ends : (trees : List Tree) (xs : List Item) → Ends (marks_text (more_marks trees xs))
more_ends trees [] = inl refl
more_ends trees (x ∷ xs) = inr (32 ∷ marks_text (item_marks trees x (more_marks trees xs)), refl)

item_there : (trees : List Tree) (x : Item) (xs : List Item) → ArePrintable trees (x ∷ xs) → (rest : List Mark) → AreThere rest → Ends (marks_text rest) → AreThere (item_marks trees x rest)
item_there trees (Atom a) xs are rest there ends = atom_there a rest are.0 there ends
item_there trees (Node p) xs are rest there ends = (nodes_there (nodes (tree_below trees p)) are.0.legal are.0.content rest there).first

more_there : (trees : List Tree) (xs : List Item) → ArePrintable trees xs → AreThere (more_marks trees xs)
more_there trees [] are = tt
more_there trees (x ∷ xs) are = (comma_there _, item_there trees x xs are (more_marks trees xs) (more_there trees xs are.1) (more_ends trees xs))

-- the marks of a result are there
pub items_there : (trees : List Tree) (xs : List Item) → ArePrintable trees xs → AreThere (items_marks trees xs)
items_there trees [] are = (open_there 41 [] refl, (closed_there [], tt))
items_there trees (x ∷ xs) are = item_there trees x xs are (more_marks trees xs) (more_there trees xs are.1) (more_ends trees xs)
