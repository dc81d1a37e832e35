use Rattle.std.proofs.Common.{◌≤◌, ◌<◌, ◌+◌, ◌-◌, vec_len}
use Rattle.std.specs.Prelude.{All, slice_range, vec_capacity}
use Rattle.xq_trees.specs.Tree.{most_levels}
use Rattle.xq_packed.specs.private.Copies.{AreShiftedAfter}
use Rattle.xq_packed.proofs.runs.repeat_shapes.Given as goal

-- the rows so far were added
abbrev pub invariant-loop-at : goal.invariant-loop-at
invariant-loop-at l = record {
  room : vec_len l.shapes + (l.high - l.at) ≤ vec_capacity l.shapes;
  moved : AreShiftedAfter l.way.low l.way.base l.way.from l.way.to l.fn.shapes.items (slice_range l.fn.shapes.items l.low l.at) l.shapes.items;
  fit : All (λ shape. shape.level - l.way.from + l.way.to < most_levels) (slice_range l.fn.shapes.items l.low l.at);
}
