use Rattle.std.proofs.Common.{◌≡◌, ◌++◌, map, take, drop}
use Rattle.xq_tuples.specs.Keys.{row_of}
use Rattle.xq_tuples.specs.private.Columns.{left_of, filled}
use Rattle.xq_tuples.proofs.keys.add_keys.Given as goal

-- the columns so far, and what is left to fill, are all of them filled
abbrev pub invariant-loop-column : goal.invariant-loop-column
invariant-loop-column l = record {
  columns : map row_of (take l.column-index l.columns) ++ filled (map row_of (drop l.column-index l.columns)) (left_of l.keys)
      ≡ filled (map row_of l.fn.columns) (left_of l.fn.keys);
  later : left_of l.keys ≡ drop l.column-index (left_of l.fn.keys);
}
