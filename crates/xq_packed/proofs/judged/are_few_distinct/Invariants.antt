use Rattle.std.proofs.Common.{◌↔◌, map, length}
use Rattle.std.specs.Prelude.{nat_eq}
use Rattle.std.specs.List.{IsDistinct}
use Rattle.xq_packed.specs.private.Shapes.{number_of}
use Rattle.xq_packed.proofs.judged.are_few_distinct.Given as goal

-- the rows that are left decide
abbrev pub invariant-loop-first : goal.invariant-loop-first
invariant-loop-first l = IsDistinct nat_eq (map number_of l.shapes) ↔ IsDistinct nat_eq (map number_of l.rest)

abbrev pub decreases-loop-first : goal.decreases-loop-first
decreases-loop-first l = length l.rest
