-- What is built where it is kept.
use Rattle.std.specs.Prelude.{◌≡◌, ◌++◌, ◌∷◌, [], List}
use Rattle.xq_trees.specs.Tree.{Tree}
use Rattle.xq_meaning.specs.Doing.{Outcome}
use Rattle.xq_meaning.specs.Forms.{planted}
use Rattle.xq_meaning.specs.Items.{Item}

-- the outcome is that of one tree more, which the trees now have
pub record IsPlanted (outcome : Outcome (List Item)) (old new : List Tree) : Type 0 where
  pub tree : Tree
  pub is : outcome ≡ planted tree old
  pub grown : new ≡ old ++ tree ∷ []
