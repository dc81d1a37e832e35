use Rattle.std.proofs.Common.{◌≡◌, length, take}
use Rattle.xq_meaning.specs.Forms as Forms
use Rattle.xq_tuples.specs.Keys.{row_of}
use Rattle.xq_operators.specs.Views.{tuples_at}
use Rattle.xq_operators.proofs.clauses.slot_column.Given as goal

abbrev pub invariant-loop-index : goal.invariant-loop-index
invariant-loop-index g l =
    let old = g.L.TreeSource.forest l.fn.source in
    let clean = g.L.TreeSource.is_clean l.source in
    record {
      keeps : g.L.TreeSource.forest l.source ≡ old;
      was_clean : clean → g.L.TreeSource.is_clean l.fn.source;
      long : length l.column.items ≡ l.index;
      value : clean → row_of l.column ≡ Forms.slot_values old (tuples_at old (take l.index l.tuples)) l.slot;
    }
