use Rattle.std.proofs.Common.{◌≡◌, take}
use Rattle.xq_trees.specs.Tuples.{comparison_keys}
use Rattle.xq_tuples.specs.private.KeyRows.{keys_at}
use Rattle.xq_tuples.specs.private.Groups.{compared_of}
use Rattle.xq_tuples.proofs.keys.compared_keys.Given as goal

abbrev pub invariant-loop-column : goal.invariant-loop-column
invariant-loop-column l = compared_of l.made ≡ comparison_keys (keys_at l.number (take l.column-index l.columns))
