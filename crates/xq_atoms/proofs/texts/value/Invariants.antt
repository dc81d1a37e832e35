use Rattle.std.proofs.Common.{◌≡◌, ◌^◌, ◌<◌, drop}
use Rattle.xq_atoms.specs.Text as Text
use Rattle.xq_atoms.proofs.texts.value.Given as goal

abbrev pub invariant-loop-digit : goal.invariant-loop-digit
invariant-loop-digit l = (l.value < 2 ^ 64) × (Text.value_after l.value (drop l.digit-index l.digits) ≡ Text.value l.digits)
