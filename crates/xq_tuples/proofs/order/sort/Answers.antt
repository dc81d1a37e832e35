use Rattle.std.proofs.Common.{◌≡◌, ℕ, map, ap, rules}
use Rattle.std.specs.declared.cmp.Ordering.{Ordering}
use Rattle.std.specs.Ordering.{is_lt}
use Rattle.std.specs.Cmp.{IsTotalOrder, IsStrictWeakOrder, on_total}
use Rattle.std.proofs.lemmas.Fn.{always_returns_same}
use Rattle.std.proofs.lemmas.List.Sorted.{ranks_by}
use Rattle.xq_tuples.specs.Orders.{rule_of}
use Rattle.xq_tuples.specs.private.Ranks.{by_keys_at, keys_at}
use Rattle.xq_tuples.proofs.Rules.{keys_total}
use Rattle.xq_tuples.proofs.Sorting.{sorted_from_sort}
use Rattle.xq_tuples.proofs.order.sort.Goals as goal

pub returns-clause-numbers : goal.returns-clause-numbers
returns-clause-numbers c =
    let specs = c.args.specs.now in
    let columns = c.args.columns.now in
    let cmp : ℕ → ℕ → Ordering = by_keys_at specs columns in
    let total : IsTotalOrder cmp = on_total (λ (n : ℕ). keys_at n columns) (keys_total (map rule_of specs)) in
    let weak : IsStrictWeakOrder (λ (a : ℕ) b. is_lt (cmp a b)) = ranks_by total (λ x. x) in
    let compares = always_returns_same _ (λ a r. is_lt r ≡ is_lt (cmp a.0.now a.1.0.now)) _ (λ a r q k. let e : r ≡ cmp a.0.now a.1.0.now = search rules in (ap is_lt e, search rules)) in
    let up = c.in_ok-sort_by.ensures.sorted (λ a b. is_lt (cmp a b)) weak compares in
    let stable = c.in_ok-sort_by.ensures.stable (λ a b. is_lt (cmp a b)) weak compares in
    sorted_from_sort cmp total c.args.numbers.now.items c.sort_by.new.self.items up stable
