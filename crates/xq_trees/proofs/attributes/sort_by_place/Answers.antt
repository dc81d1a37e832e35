use Rattle.std.proofs.Common.{rules}
use Rattle.std.proofs.lemmas.List.Sorted.{IsNonDecreasingBy-from_sort_by_key}
use Rattle.xq_trees.specs.private.Checks.{pre_of}
use Rattle.xq_trees.proofs.attributes.sort_by_place.Goals as goal

pub returns-clause-sorted : goal.returns-clause-sorted
returns-clause-sorted c = IsNonDecreasingBy-from_sort_by_key pre_of _ c.sort_unstable_by_key.ensures.sorted (λ a r q k. search rules)
