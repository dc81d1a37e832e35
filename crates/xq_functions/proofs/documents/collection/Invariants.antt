use Rattle.std.proofs.Common.{◌≡◌, List, map}
use Rattle.std.specs.List.{range_with_len}
use Rattle.xq_trees.specs.Tree.{Tree}
use Rattle.xq_meaning.specs.Items.{Node, root_of}
use Rattle.xq_functions.specs.Answers.{items_of}
use Rattle.xq_functions.proofs.documents.collection.Given as goal

abbrev pub invariant-loop-tree : goal.invariant-loop-tree
invariant-loop-tree l = (trees : List Tree) → items_of trees l.items ≡ map (λ n. Node (root_of n)) (range_with_len 0 l.tree)
