use Rattle.std.proofs.Common.{◌≡◌, length}
use Rattle.xq_atoms.specs.Characters.{is_space}
use Rattle.xq_atoms.specs.Spaces as spec
use Rattle.xq_atoms.proofs.spaces.before_spaces.Given as goal

abbrev pub invariant-loop-last : goal.invariant-loop-last
invariant-loop-last l = spec.before_trailing is_space l.rest ≡ spec.before_trailing is_space l.text

abbrev pub decreases-loop-last : goal.decreases-loop-last
decreases-loop-last l = length l.rest
