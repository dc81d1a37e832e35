use Rattle.std.proofs.Common.{◌≡◌, map, drop}
use Rattle.std.specs.Prelude.{nat_eq}
use Rattle.std.specs.List.{list_any}
use Rattle.xq_packed.specs.private.Shapes.{number_of}
use Rattle.xq_packed.proofs.judged.has_number.Given as goal

-- the rows that are left decide
abbrev pub invariant-loop-at : goal.invariant-loop-at
invariant-loop-at l = list_any (nat_eq l.number) (map number_of l.shapes) ≡ list_any (nat_eq l.number) (map number_of (drop l.at l.shapes))
