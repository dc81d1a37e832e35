use Rattle.std.proofs.Common.{◌≡◌, ◌<◌, ◌+◌, ◌-◌, take, length}
use Rattle.std.specs.Prelude.{All}
use Rattle.xq_trees.specs.Tree.{most_levels}
use Rattle.xq_packed.specs.private.Copies.{IsKnown, AreMovedAfter, with_named}
use Rattle.xq_packed.proofs.runs.append_shapes.Given as goal

-- the rows so far were added
abbrev pub invariant-loop-shape : goal.invariant-loop-shape
invariant-loop-shape l = record {
  some : length l.known ≡ 16;
  known : All (IsKnown l.others l.names) l.known;
  moved : AreMovedAfter l.others l.names l.way.low l.way.base l.way.from l.way.to l.fn.shapes.items (take l.shape-index l.run) l.shapes.items;
  names : l.names ≡ with_named l.others l.fn.names (take l.shape-index l.run);
  fit : All (λ shape. shape.level - l.way.from + l.way.to < most_levels) (take l.shape-index l.run);
}
