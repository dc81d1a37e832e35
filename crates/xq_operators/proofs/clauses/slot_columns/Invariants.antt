use Rattle.std.proofs.Common.{◌≡◌, length, map, take}
use Rattle.std.specs.List.{All}
use Rattle.xq_meaning.specs.Forms as Forms
use Rattle.xq_tuples.specs.Keys.{rows_in}
use Rattle.xq_operators.specs.Views.{tuples_at}
use Rattle.xq_operators.proofs.clauses.slot_columns.Given as goal

abbrev pub invariant-loop-slot : goal.invariant-loop-slot
invariant-loop-slot g l =
    let old = g.L.TreeSource.forest l.fn.source in
    let clean = g.L.TreeSource.is_clean l.source in
    record {
      keeps : g.L.TreeSource.forest l.source ≡ old;
      was_clean : clean → g.L.TreeSource.is_clean l.fn.source;
      wide : length l.columns.items ≡ l.slot-index;
      long : All (λ column. length column.items ≡ length l.tuples) l.columns.items;
      value : clean → rows_in l.columns ≡ map (Forms.slot_values old (tuples_at old l.tuples)) (take l.slot-index l.slots);
    }
