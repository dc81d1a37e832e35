use Rattle.std.proofs.Common.{rules, subst}
use Rattle.std.specs.Ordering.{is_lt}
use Rattle.std.proofs.lemmas.Fn.{always_returns_same}
use Rattle.std.proofs.lemmas.List.Filters.{dedup_is}
use Rattle.std.proofs.lemmas.List.Sorted.{ranks_by}
use Rattle.xq_trees.specs.declared.items.Node.{Node}
use Rattle.xq_trees.specs.Rising.{document_order, AreRising}
use Rattle.xq_trees.proofs.Rising.{order_total, rising_seen, deduped, is_one_node}
use Rattle.xq_trees.proofs.merges.merge.Goals as goal

pub returns-then-not-rises-clause-rising : goal.returns-then-not-rises-clause-rising
returns-then-not-rises-clause-rising c =
    (deduped c.args.nodes.items c.sort_unstable_by.new.self.items c.dedup.new.self.items c.sort_unstable_by.ensures.permutation
    (c.sort_unstable_by.ensures.sorted (λ x y. is_lt (document_order x y)) (ranks_by order_total (λ (n : Node). n)) (always_returns_same _ _ _ (λ a r f k. search rules)))
    (dedup_is is_one_node _ _ c.dedup.ensures.filtered)).rising

pub returns-then-not-rises-clause-members : goal.returns-then-not-rises-clause-members
returns-then-not-rises-clause-members c =
    (deduped c.args.nodes.items c.sort_unstable_by.new.self.items c.dedup.new.self.items c.sort_unstable_by.ensures.permutation
    (c.sort_unstable_by.ensures.sorted (λ x y. is_lt (document_order x y)) (ranks_by order_total (λ (n : Node). n)) (always_returns_same _ _ _ (λ a r f k. search rules)))
    (dedup_is is_one_node _ _ c.dedup.ensures.filtered)).members

pub returns-else-not-rises-clause-rising : goal.returns-else-not-rises-clause-rising
returns-else-not-rises-clause-rising c = subst (λ xs. AreRising xs) c.deref.ensures.value (rising_seen c.deref.result.now c.rises.result c.rises.ensures c.if-not-rises.false)
