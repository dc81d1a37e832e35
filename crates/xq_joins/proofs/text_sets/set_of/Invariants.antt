use Rattle.std.proofs.Common.{map, take}
use Rattle.std.specs.Prelude.{string_bytes}
use Rattle.xq_joins.specs.private.TextSets.{IsSetOf}
use Rattle.xq_joins.proofs.text_sets.set_of.Given as goal

abbrev pub invariant-loop-text : goal.invariant-loop-text
invariant-loop-text l = IsSetOf l.set (map string_bytes (take l.text-index l.texts))
