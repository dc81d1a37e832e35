use Rattle.std.proofs.Common.{◌≡◌, ◌≤◌, ◌*◌, take}
use Rattle.xq_tuples.specs.private.Laid.{KeepsInPlace, spread}
use Rattle.xq_tuples.proofs.Keeping.{holding}
use Rattle.xq_tuples.proofs.streams.Tuples.keep.Given as goal

abbrev pub invariant-loop-holds : goal.invariant-loop-holds
invariant-loop-holds l = record {
  keeps : KeepsInPlace l.self-inside.slots.items (spread l.self-inside.width l.tests) l.slots.items l.kept l.start;
  kept : l.kept ≡ l.count * l.self-inside.width;
  start : l.start ≡ l.holds-index * l.self-inside.width;
  few : l.count ≤ l.holds-index;
  count : l.count ≡ holding (take l.holds-index l.tests);
}
