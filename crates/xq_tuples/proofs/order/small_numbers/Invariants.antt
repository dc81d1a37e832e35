use Rattle.std.proofs.Common.{◌≡◌, map, take}
use Rattle.std.specs.List.{enumerate_from}
use Rattle.xq_atoms.specs.Compare.{key_of}
use Rattle.xq_tuples.specs.private.Ranks.{first_of}
use Rattle.xq_tuples.proofs.order.small_numbers.Given as goal

abbrev pub invariant-loop-number : goal.invariant-loop-number
invariant-loop-number l = map first_of l.rows.items ≡ enumerate_from 0 (map key_of (take l.number l.column))
