use Rattle.std.proofs.Common.{◌≡◌, ◌≤◌, length, string_bytes, ◌++◌}
use Rattle.xq_trees.specs.Printing.{closing}
use Rattle.xq_build.proofs.printer.append_closing.Given as goal

abbrev pub invariant-loop-close : goal.invariant-loop-close
invariant-loop-close l = (string_bytes l.text ≡ string_bytes l.fn.text ++ closing l._close) × (length (string_bytes l.text) ≤ l.limit)
