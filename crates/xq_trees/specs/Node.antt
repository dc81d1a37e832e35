-- Nodes, named by their paths: XDM 3.1, section 2.4 (document order), section 6 (attributes and
-- children).
use Rattle.std.proofs.Common.{zero, suc}
use Rattle.std.specs.Prelude.{ℕ, List, [], ◌∷◌}
use Rattle.xq_trees.specs.Forest.{Forest, end, node}
use Rattle.xq_trees.specs.Tree.{Label, Tree, nodes, no_label}
use Rattle.xq_trees.specs.declared.Kind.{Kind}

-- A path gives the number of a node at the top, then that of one of its attributes and children,
-- which are numbered as one run from 0, and so on. The root of a tree is `0 ∷ []`.

-- the path leads to a node
abbrev pub HasPath : {A : Type 0} → Forest A → List ℕ → Type 0
HasPath end path = ⊥
HasPath (node a below beside) [] = ⊥
HasPath (node a below beside) (zero ∷ []) = Unit {0}
HasPath (node a below beside) (zero ∷ i ∷ path) = HasPath below (i ∷ path)
HasPath (node a below beside) (suc i ∷ path) = HasPath beside (i ∷ path)

-- what is below the node at the path
abbrev pub below_at : {A : Type 0} → Forest A → List ℕ → Forest A
below_at end path = end
below_at (node a below beside) [] = end
below_at (node a below beside) (zero ∷ []) = below
below_at (node a below beside) (zero ∷ i ∷ path) = below_at below (i ∷ path)
below_at (node a below beside) (suc i ∷ path) = below_at beside (i ∷ path)

-- the label at the end of a path, or `other` where it leads nowhere
abbrev pub label_at : {A : Type 0} → A → Forest A → List ℕ → A
label_at other end path = other
label_at other (node a below beside) [] = other
label_at other (node a below beside) (zero ∷ []) = a
label_at other (node a below beside) (zero ∷ i ∷ path) = label_at other below (i ∷ path)
label_at other (node a below beside) (suc i ∷ path) = label_at other beside (i ∷ path)

-- the kind at the end of a path, or a document's where it leads nowhere
abbrev pub kind_at : Forest Label → List ℕ → Kind
kind_at f path = (label_at no_label f path).kind

-- the subtree at the end of a path
abbrev pub subtree : Tree → List ℕ → Tree
subtree t path = record { root = label_at no_label (nodes t) path; below = below_at (nodes t) path }
