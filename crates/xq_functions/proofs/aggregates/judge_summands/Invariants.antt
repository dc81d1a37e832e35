use Rattle.std.proofs.Common.{◌≡◌, take, Ok}
use Rattle.xq_meaning.specs.Arguments.{each}
use Rattle.xq_meaning.specs.Functions.{summand}
use Rattle.xq_functions.specs.Answers.{atomics}
use Rattle.xq_functions.proofs.aggregates.judge_summands.Given as goal

abbrev pub invariant-loop-atom : goal.invariant-loop-atom
invariant-loop-atom l = each summand (atomics (take l.atom-index l.atoms)) ≡ Ok (atomics (take l.atom-index l.atoms))
