use Rattle.std.proofs.Common.{◌∷◌, refl}
use Rattle.xq_trees.specs.Beside.{root_row, lowered_rows}
use Rattle.xq_trees.proofs.Beside.{are-rows-rooted}
use Rattle.xq_trees.proofs.laws.roots_make_trees.Goals as goal

pub returns : goal.returns
returns c = λ root ts meet. are-rows-rooted root ts (root_row root ts ∷ lowered_rows ts) meet refl
