use Rattle.std.proofs.Common.{nat_lt, rules}
use Rattle.std.proofs.lemmas.List.Sorted.{IsPartitionPoint-from_clause}
use Rattle.xq_axes.proofs.Named.{parted_before, reached_parted}
use Rattle.xq_axes.proofs.names.count_before.Goals as goal

pub returns-clause-before : goal.returns-clause-before
returns-clause-before c = λ up.
    let vs = c.args.places.now in
    let place = c.args.place in
    reached_parted vs place c.partition_point.result c.partition_point.ensures.bound
    (IsPartitionPoint-from_clause (λ v. nat_lt v place) _ _ c.partition_point.ensures.partitioned (parted_before vs place up) (λ a r q k. search rules))
