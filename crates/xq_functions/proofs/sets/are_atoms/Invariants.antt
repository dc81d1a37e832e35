use Rattle.std.proofs.Common.{◌≡◌, List, drop}
use Rattle.xq_trees.specs.Tree.{Tree}
use Rattle.xq_meaning.specs.Operators.{are_atoms}
use Rattle.xq_functions.specs.Answers.{lent_items}
use Rattle.xq_functions.proofs.sets.are_atoms.Given as goal

abbrev pub invariant-loop-item : goal.invariant-loop-item
invariant-loop-item l = (trees : List Tree) → are_atoms (lent_items trees (drop l.item-index l.items)) ≡ are_atoms (lent_items trees l.items)
