use Rattle.std.proofs.Common.{◌≡◌, ◌++◌, take}
use Rattle.std.specs.List.{AllByRecursion}
use Rattle.xq_trees.specs.Tuples.{value_at}
use Rattle.xq_tuples.specs.Views.{values_of}
use Rattle.xq_eval.specs.private.Joining.{first_tuple}
use Rattle.xq_eval.proofs.pairs.hold_same_nodes.Given as goal

abbrev pub invariant-loop-index : goal.invariant-loop-index
invariant-loop-index l =
    let outside = values_of l.outside in
    AllByRecursion (λ t. value_at l.slot (outside ++ t) ≡ value_at l.slot (outside ++ first_tuple l.tuples)) (take l.index l.tuples)
