use Rattle.std.proofs.Common.{◌≡◌, length, take}
use Rattle.std.specs.List.{AllByRecursion}
use Rattle.xq_joins.proofs.matches.all_have.Given as goal

abbrev pub invariant-loop-index : goal.invariant-loop-index
invariant-loop-index l = AllByRecursion (λ t. length t ≡ l.count) (take l.index l.tuples)
