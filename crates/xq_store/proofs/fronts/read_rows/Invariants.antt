use Rattle.std.proofs.Common.{◌≡◌, ◌+◌, ◌-◌, Some, length}
use Rattle.std.specs.List.{enumerate_from}
use Rattle.std.specs.FinMap.{get}
use Rattle.xq_trees.specs.Tree.{Tree}
use Rattle.xq_tables.specs.Documents.{IsClean, IsOpen, Map, StandsFor}
use Rattle.xq_store.specs.private.Keeps.{LeavesAlone}
use Rattle.xq_store.specs.private.Shelves.{IsFront}
use Rattle.xq_store.proofs.fronts.read_rows.Given as goal

abbrev pub invariant-loop-alloc : goal.invariant-loop-alloc
invariant-loop-alloc g l = record {
  was_clean : IsClean g.S.Store l.store → IsClean g.S.Store l.fn.store;
  was_open : IsClean g.S.Store l.store → IsOpen g.S.Store l.store → IsOpen g.S.Store l.fn.store;
  same : IsClean g.S.Store l.store → (m : Map) → StandsFor g.S.Store l.fn.store m → StandsFor g.S.Store l.store m;
  front : IsClean g.S.Store l.store → (m : Map) → StandsFor g.S.Store l.fn.store m → (t : Tree) → get m l.address ≡ Some t → IsFront t (enumerate_from 0 l.fn.rows.rows) → IsFront t (enumerate_from 0 l.rows.rows);
  alone : LeavesAlone g.S.Store l.fn.store l.store;
}

abbrev pub decreases-loop-alloc : goal.decreases-loop-alloc
decreases-loop-alloc g l = l.place + 1 - length l.rows.rows
