use Rattle.std.proofs.Common.{◌≡◌, ◌≤◌, ◌++◌, List, length, string_bytes, map, drop}
use Rattle.xq_trees.specs.Printing.{text_from}
use Rattle.xq_build.specs.private.Leaves.{Leaf, leaf, lowered}
use Rattle.xq_build.proofs.printer.append_run.Given as goal

-- what was written and what is left are the whole
abbrev pub invariant-loop-at : goal.invariant-loop-at
invariant-loop-at l = record {
  written : (others : List Leaf) → string_bytes l.text ++ text_from l.depth (map (lowered l.base) (map leaf (drop l.at l.rows)) ++ others)
      ≡ string_bytes l.fn.text ++ text_from l.fn.depth (map (lowered l.base) (map leaf l.rows) ++ others);
  within : length (string_bytes l.text) ≤ l.limit;
}
