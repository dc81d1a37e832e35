use Rattle.std.proofs.Common.{◌≡◌, map, drop, string_bytes}
use Rattle.xq_meaning.specs.Functions as Functions
use Rattle.xq_functions.specs.Answers.{atomics}
use Rattle.xq_functions.specs.private.Running.{concatenating}
use Rattle.xq_functions.proofs.texts.concat.Given as goal

abbrev pub invariant-loop-list : goal.invariant-loop-list
invariant-loop-list l = concatenating (string_bytes l.text) (map (λ list. atomics list.items) (drop l.list-index l.lists)) ≡ Functions.concat (map (λ list. atomics list.items) l.lists)
