use Rattle.xq_packed.proofs.Changing.{AreSunk}
use Rattle.xq_packed.proofs.changes.sink.Given as goal

abbrev pub invariant-loop-at : goal.invariant-loop-at
invariant-loop-at l = AreSunk l.fn.shapes l.shapes l.at
