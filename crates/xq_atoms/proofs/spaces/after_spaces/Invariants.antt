use Rattle.std.proofs.Common.{◌≡◌, length}
use Rattle.xq_atoms.specs.Characters.{is_space}
use Rattle.xq_atoms.specs.Spaces as spec
use Rattle.xq_atoms.proofs.spaces.after_spaces.Given as goal

abbrev pub invariant-loop-first : goal.invariant-loop-first
invariant-loop-first l = spec.after_leading is_space l.rest ≡ spec.after_leading is_space l.text

abbrev pub decreases-loop-first : goal.decreases-loop-first
decreases-loop-first l = length l.rest
