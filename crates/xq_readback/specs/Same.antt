-- Results that are equal by value, over the trees of each: XDM 3.1, sections 2.3 and 6. Identity,
-- parents, and whether two items are one node are not compared.
use Rattle.std.specs.Prelude.{◌≡◌, List, [], ◌∷◌}
use Rattle.xq_trees.specs.Tree.{Tree}
use Rattle.xq_meaning.specs.Items.{Item, Node, Atom, tree_below}

-- an atomic value of the same type and value, or a node with an equal subtree
abbrev pub SameItem : List Tree → Item → List Tree → Item → Type 0
SameItem trees (Atom a) others (Atom b) = a ≡ b
SameItem trees (Node p) others (Node q) = tree_below trees p ≡ tree_below others q
SameItem trees (Atom a) others (Node q) = ⊥
SameItem trees (Node p) others (Atom b) = ⊥

-- equally many items, and the same at each place
abbrev pub SameItems : List Tree → List Item → List Tree → List Item → Type 0
SameItems trees [] others [] = Unit {0}
SameItems trees (x ∷ xs) others (y ∷ ys) =
    SameItem trees x others y × SameItems trees xs others ys
SameItems trees [] others (y ∷ ys) = ⊥
SameItems trees (x ∷ xs) others [] = ⊥
