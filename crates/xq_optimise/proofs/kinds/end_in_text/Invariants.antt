use Rattle.std.proofs.Common.{◌≡◌, true, take}
use Rattle.xq_optimise.specs.private.Kinds.{EndsInText}
use Rattle.xq_optimise.proofs.kinds.end_in_text.Given as goal

abbrev pub invariant-loop-part : goal.invariant-loop-part
invariant-loop-part l = l.ends ≡ true → EndsInText (take l.part-index l.parts)
