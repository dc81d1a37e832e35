use Rattle.std.proofs.Common.{rules}
use Rattle.std.proofs.lemmas.Cmp.{nat_list_cmp_total}
use Rattle.std.proofs.lemmas.Fn.{always_returns_same}
use Rattle.std.proofs.lemmas.List.Sorted.{ranks_by}
use Rattle.xq_packed.specs.Found.{comes_before, rank, value_at}
use Rattle.xq_packed.proofs.value_places.sort_by_value.Goals as goal

pub returns-clause-sorted : goal.returns-clause-sorted
returns-clause-sorted c =
    c.in_ok-sort_by.ensures.sorted (comes_before c.args.rows.now.rows) (ranks_by nat_list_cmp_total (λ p. rank (value_at c.args.rows.now.rows p)))
    (always_returns_same _ _ _ (λ a r f k. search rules))

pub returns-clause-stable : goal.returns-clause-stable
returns-clause-stable c =
    c.sort_by.ensures.stable (comes_before c.args.rows.now.rows) (ranks_by nat_list_cmp_total (λ p. rank (value_at c.args.rows.now.rows p)))
    (always_returns_same _ _ _ (λ a r f k. search rules))
