-- What a constructor gives, by what its definition gives.
use Rattle.std.specs.Prelude.{◌≡◌, Result, Ok}
use Rattle.xq_atoms.specs.Answers.{GivesOr}
use Rattle.xq_atoms.specs.Judged.{Judged}
use Rattle.xq_atoms.specs.declared.refusals.Fault.{Fault}
use Rattle.xq_atoms.specs.declared.refusals.Want.TheVariants.{Memory}
use Rattle.xq_trees.specs.Tree.{Tree, IsTree}

-- nothing but memory is wanting where the names and values are such as a tree may have
abbrev pub GivesTree : Judged Tree → Result Tree Fault → Type 0
GivesTree judged result =
    GivesOr (λ want. (t : Tree) → judged ≡ Ok t → IsTree t → want ≡ Memory) (λ t. t) judged result
