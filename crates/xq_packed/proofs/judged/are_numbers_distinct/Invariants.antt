use Rattle.std.proofs.Common.{◌≡◌, map, take}
use Rattle.std.specs.Prelude.{nat_eq}
use Rattle.std.specs.List.{IsDistinct}
use Rattle.xq_packed.specs.private.Shapes.{number_of}
use Rattle.xq_packed.proofs.judged.are_numbers_distinct.Given as goal

-- the numbers so far are distinct, and those that were seen
abbrev pub invariant-loop-shape : goal.invariant-loop-shape
invariant-loop-shape l = record {
  seen : l.seen.keys ≡ map number_of (take l.shape-index l.shapes);
  distinct : IsDistinct nat_eq (map number_of (take l.shape-index l.shapes));
}
