use Rattle.std.proofs.Common.{◌≡◌, ◌+◌, length, true}
use Rattle.std.specs.List.{AllWithin}
use Rattle.xq_tuples.specs.private.Laid.{KeepsInPlace}
use Rattle.xq_tuples.proofs.values.move_slots.Given as goal

abbrev pub invariant-loop-offset : goal.invariant-loop-offset
invariant-loop-offset l = record {
  long : length l.slots ≡ length l.fn.slots;
  keeps : (xs : _) (tests : _) → length tests ≡ length xs → AllWithin (λ test. test ≡ true) tests l.from (l.from + l.width) → KeepsInPlace xs tests l.fn.slots l.to l.from → KeepsInPlace xs tests l.slots (l.to + l.offset) (l.from + l.offset);
}
