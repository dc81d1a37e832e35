use Rattle.std.proofs.Common.{◌≡◌, map, drop}
use Rattle.std.specs.Prelude.{[], false}
use Rattle.xq_trees.specs.Levels.{flat}
use Rattle.xq_build.specs.private.Attributes.{fault_from}
use Rattle.xq_build.specs.private.AttributeJudging.{names_of}
use Rattle.xq_build.proofs.attributes.judge_attributes.Given as goal

-- the nodes that are left decide
abbrev pub invariant-loop-at : goal.invariant-loop-at
invariant-loop-at l =
    fault_from l.parent (names_of l.names) l.late (map flat (drop l.at l.rows.rows)) ≡ fault_from l.parent [] false (map flat l.rows.rows)
