use Rattle.std.proofs.Common.{rules}
use Rattle.std.specs.Ordering.{is_lt}
use Rattle.std.proofs.lemmas.List.Sorted.{IsPartitionPoint-from_clause}
use Rattle.xq_packed.specs.Found.{value_order}
use Rattle.xq_packed.proofs.ValueOrder.{parted-before}
use Rattle.xq_packed.proofs.value_places.count_before.Goals as goal

pub returns-clause-point : goal.returns-clause-point
returns-clause-point c = λ up.
    IsPartitionPoint-from_clause (λ p. is_lt (value_order c.args.rows.now.rows p c.args.value.now)) _ _ c.partition_point.ensures.partitioned (parted-before c.args.rows.now.rows c.args.value.now c.args.places.now up) (λ a r q k. search rules)
