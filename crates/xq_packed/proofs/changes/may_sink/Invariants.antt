use Rattle.std.proofs.Common.{◌+◌, ◌<◌, take}
use Rattle.std.specs.Prelude.{All}
use Rattle.xq_trees.specs.Tree.{most_levels}
use Rattle.xq_packed.proofs.changes.may_sink.Given as goal

abbrev pub invariant-loop-shape : goal.invariant-loop-shape
invariant-loop-shape l = All (λ shape. shape.level + 1 < most_levels) (take l.shape-index l.shapes)
