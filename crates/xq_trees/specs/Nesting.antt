-- Rows give their tree back.
use Rattle.std.proofs.Common.{◌≡◌, ℕ, suc, ◌+◌, ◌-◌, List, [], ◌∷◌, ◌++◌, refl, sym, ◌∙◌, ap, arith, append_assoc}
use Rattle.xq_trees.specs.Forest.{Forest, end, node, count, labels, map_forest, join}
use Rattle.xq_trees.specs.Tree.{Label, Tree, nodes}
use Rattle.xq_trees.specs.Rows.{Row, measured, rows, front, back, nest, first_tree, tree_of}

-- of two forests side by side, the front of as many nodes as the left one has is the left one
pub front-join : {A : Type 0} (f g : Forest A) → front (count f) (join f g) ≡ f
front-join end g = refl
front-join (node a below beside) g =
    let e : count below + count beside - count below ≡ count beside = omega arith in
    rw e (ap (node a below) (front-join beside g))

-- what is to the right of that front is the right one
pub back-join : {A : Type 0} (f g : Forest A) → back (count f) (join f g) ≡ g
back-join end g = refl
back-join (node a below beside) g =
    let e : count below + count beside - count below ≡ count beside = omega arith in
    ap (λ n. back n (join beside g)) e ∙ back-join beside g

-- a forest has as many nodes with its measures as without them
pub count-measured : (l : ℕ) (f : Forest Label) → count (measured l f) ≡ count f
count-measured l end = refl
count-measured l (node a below beside) = ap suc
    (rw (count-measured (suc l) below, count-measured l beside))

-- a forest with nothing to its right is itself
pub join-end : {A : Type 0} (f : Forest A) → join f end ≡ f
join-end end = refl
join-end (node a below beside) = ap (node a below) (join-end beside)

-- the rows of a forest, with more rows after them, nest as that forest with its measures, and
-- to its right stands what the rows after them nest as
pub nest-measured : (l : ℕ) (f : Forest Label) (rs : List Row)
    → nest (labels (measured l f) ++ rs) ≡ join (measured l f) (nest rs)
nest-measured l end rs = refl
nest-measured l (node a below beside) rs =
    let k = measured (suc l) below in
    let g = measured l beside in
    let e : nest ((labels k ++ labels g) ++ rs) ≡ join k (join g (nest rs)) =
    ap nest (append_assoc (labels k) (labels g) rs) ∙ nest-measured (suc l) below (labels g ++ rs)
    ∙ ap (join k) (nest-measured l beside rs) in
    let c : count k ≡ count below = count-measured (suc l) below in
    rw (e, ← c) (rw (front-join k (join g (nest rs)), back-join k (join g (nest rs))))

-- the rows of a tree nest as its nodes with their measures
pub nest-rows : (t : Tree) → nest (rows t) ≡ measured 0 (nodes t)
nest-rows t = ap nest (sym (append-nil (rows t))) ∙ nest-measured 0 (nodes t) [] ∙ join-end _
  where
    append-nil : (rs : List Row) → rs ++ [] ≡ rs
    append-nil [] = refl
    append-nil (r ∷ rs) = ap (λ l. r ∷ l) (append-nil rs)

-- the labels of a forest with its measures, each in its place, are the forest
pub map-measured : (l : ℕ) (f : Forest Label) → map_forest (λ (r : Row). r.label) (measured l f) ≡ f
map-measured l end = refl
map-measured l (node a below beside) = rw (map-measured (suc l) below, map-measured l beside)

-- the rows of a tree give the tree back
pub tree_of-rows : (t : Tree) → tree_of (rows t) ≡ t
tree_of-rows t = ap first_tree (nest-rows t)
    ∙ ap (λ (f : Forest Label). record { root = t.root; below = f }) (map-measured 1 t.below)
