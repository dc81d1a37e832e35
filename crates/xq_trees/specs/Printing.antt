-- The printed form of a tree from the levels and labels of its nodes in document order: a node is
-- closed where the next one is not below it.
use Rattle.std.proofs.Common.{suc}
use Rattle.std.specs.Prelude.{ℕ, ◌-◌, cond, nat_lt, List, [], ◌∷◌, ◌++◌, replicate}
use Rattle.xq_trees.specs.Tree.{Label}
use Rattle.xq_trees.specs.Print.{comma, opening}

abbrev pub closing : ℕ → List ℕ
closing n = replicate n 125

abbrev pub between : ℕ → ℕ → List ℕ
between depth level = cond (nat_lt level depth) (closing (depth - level) ++ comma) []

-- the rest of the text where so many nodes are not yet closed
abbrev pub text_from : ℕ → List (ℕ × Label) → List ℕ
text_from depth [] = closing depth
text_from depth (p ∷ ps) = between depth p.0 ++ (opening p.1 ++ text_from (suc p.0) ps)
