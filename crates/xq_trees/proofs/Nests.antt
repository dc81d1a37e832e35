-- Rows are kept when they are nested.
use Rattle.std.proofs.Common.{◌≡◌, ℕ, zero, suc, ◌-◌, List, [], ◌∷◌, ◌++◌, refl, ◌∙◌, ap, append_assoc}
use Rattle.xq_trees.specs.Forest.{Forest, end, node, count, labels}
use Rattle.xq_trees.specs.Rows.{Row, front, back, nest}

labels-front-back : {A : Type 0} (n : ℕ) (f : Forest A)
    → labels (front n f) ++ labels (back n f) ≡ labels f
labels-front-back zero f = refl
labels-front-back (suc n) end = refl
labels-front-back (suc n) (node a below beside) =
    ap (λ l. a ∷ l) (append_assoc (labels below) _ _
    ∙ ap (λ l. labels below ++ l) (labels-front-back (n - count below) beside))

-- whatever their sizes, rows are kept
pub labels-nest : (rs : List Row) → labels (nest rs) ≡ rs
labels-nest [] = refl
labels-nest (r ∷ rs) = ap (λ l. r ∷ l) (labels-front-back r.size (nest rs) ∙ labels-nest rs)
