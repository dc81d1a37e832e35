use Rattle.std.proofs.Common.{◌≡◌, List}
use Rattle.xq_trees.specs.Tree.{Tree}
use Rattle.xq_meaning.specs.Operators.{integers_from}
use Rattle.xq_functions.specs.Answers.{items_of}
use Rattle.xq_functions.proofs.arithmetic.integers.Given as goal

abbrev pub invariant-loop-index : goal.invariant-loop-index
invariant-loop-index l = (trees : List Tree) → items_of trees l.items ≡ integers_from l.first l.index
