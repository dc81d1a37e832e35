-- Trees that are built where they are kept.
use Rattle.std.specs.Prelude.{◌≡◌, ◌++◌, ◌∷◌, [], List, Ok}
use Rattle.xq_atoms.specs.Judged.{Judged}
use Rattle.xq_trees.specs.Tree.{Tree}

-- the tree that is judged to be right has become one tree more
pub record Plants (judgement : Judged Tree) (old new : List Tree) : Type 0 where
  pub tree : Tree
  pub is : judgement ≡ Ok tree
  pub grown : new ≡ old ++ tree ∷ []
