use Rattle.xq_trees.proofs.Subtrees.{subtrees_are_trees}
use Rattle.xq_trees.proofs.laws.subtrees_are_trees.Goals as goal

pub returns : goal.returns
returns c = subtrees_are_trees
