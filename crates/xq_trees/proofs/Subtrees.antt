-- The subtrees of a tree are trees.
use Rattle.std.proofs.Common.{ℕ, zero, suc, ◌≤◌, List, [], ◌∷◌, arith}
use Rattle.xq_trees.specs.Forest.{Forest, end, node, count, EachNode, IsWithinHeight}
use Rattle.std.specs.Prelude.{IsTrue, bytes_eq}
use Rattle.std.specs.List.{IsDistinct}
use Rattle.xq_trees.specs.Tree.{Label, IsText, is_legal, is_content, attribute_names, nodes, no_label, most_levels}
use Rattle.xq_trees.specs.Node.{HasPath, below_at, label_at}
use Rattle.xq_trees.specs.Subtrees.{SubtreesAreTrees}

-- a forest within a height is within each greater one
pub higher : (n m : ℕ) (f : Forest Label) → n ≤ m → IsWithinHeight n f → IsWithinHeight m f
higher n m end le h = tt
higher zero m (node a below beside) le h = absurd h
higher (suc n) zero (node a below beside) le h = absurd (omega (arith, le))
higher (suc n) (suc m) (node a below beside) le h = (higher n m below (omega (arith, le)) h.0, higher (suc n) (suc m) beside le h.1)

-- the node at the path alone, with all below it
abbrev at_path : Forest Label → List ℕ → Forest Label
at_path f p = node (label_at no_label f p) (below_at f p) end

each_at : (P : Label → List Label → Type 0) (f : Forest Label) (p : List ℕ) → HasPath f p → EachNode P f → EachNode P (at_path f p)
each_at P end p h c = absurd h
each_at P (node a k r) [] h c = absurd h
each_at P (node a k r) (zero ∷ []) h c = (c.0, (c.1.0, tt))
each_at P (node a k r) (zero ∷ i ∷ p) h c = each_at P k (i ∷ p) h c.1.0
each_at P (node a k r) (suc i ∷ p) h c = each_at P r (i ∷ p) h c.1.1

height_at : (n : ℕ) (f : Forest Label) (p : List ℕ) → HasPath f p → IsWithinHeight n f → IsWithinHeight n (at_path f p)
height_at n end p h w = absurd h
height_at n (node a k r) [] h w = absurd h
height_at zero (node a k r) (i ∷ p) h w = absurd w
height_at (suc n) (node a k r) (zero ∷ []) h w = (w.0, tt)
height_at (suc n) (node a k r) (zero ∷ i ∷ p) h w = higher n (suc n) (at_path k (i ∷ p)) (omega arith) (height_at n k (i ∷ p) h w.0)
height_at (suc n) (node a k r) (suc i ∷ p) h w = height_at (suc n) r (i ∷ p) h w.1

count_at : (f : Forest Label) (p : List ℕ) → HasPath f p → count (at_path f p) ≤ count f
count_at end p h = absurd h
count_at (node a k r) [] h = absurd h
count_at (node a k r) (zero ∷ []) h = omega arith
count_at (node a k r) (zero ∷ i ∷ p) h = let c = count_at k (i ∷ p) h in omega (arith, c)
count_at (node a k r) (suc i ∷ p) h = let c = count_at r (i ∷ p) h in omega (arith, c)

pub subtrees_are_trees : SubtreesAreTrees
subtrees_are_trees = λ t p is h. record {
  texts = each_at (λ a below. IsText a) (nodes t) p h is.texts;
  legal = each_at (λ a below. IsTrue (is_legal a.kind a.name a.value)) (nodes t) p h is.legal;
  content = each_at (λ a below. IsTrue (is_content a below)) (nodes t) p h is.content;
  names = each_at (λ a below. IsDistinct bytes_eq (attribute_names below)) (nodes t) p h is.names;
  height = height_at most_levels (nodes t) p h is.height;
  room = (let c = count_at (nodes t) p h in let r = is.room in omega (arith, c, r));
}
