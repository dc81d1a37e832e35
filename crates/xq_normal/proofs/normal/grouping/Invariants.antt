use Rattle.std.proofs.Common.{◌≡◌, take}
use Rattle.xq_normal.specs.private.Parts as parts
use Rattle.xq_normal.proofs.normal.grouping.Given as goal

abbrev pub invariant-loop-spec : goal.invariant-loop-spec
invariant-loop-spec l = l.found ≡ parts.variables (take l.spec-index l.specs)
