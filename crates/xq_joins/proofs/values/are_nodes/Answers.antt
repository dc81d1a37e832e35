use Rattle.std.proofs.Common.{arith, subst, sym}
use Rattle.xq_trees.specs.declared.items.Item.{Item}
use Rattle.xq_trees.specs.Items.{item_view}
use Rattle.xq_joins.specs.Keys.{IsNode}
use Rattle.xq_joins.proofs.Lists.{all_seen_next, all_seen}
use Rattle.xq_joins.proofs.values.are_nodes.Goals as goal

pub loop-item-preserved : goal.loop-item-preserved
loop-item-preserved c =
    all_seen_next IsNode item_view c.args.items.now c.loop-item.item-index c.item-item.result c.loop-item.invariant (omega arith) c.item-item.is
    (subst (λ (x : Item). IsNode (item_view x)) (sym c.in-Node.is) tt)

pub returns : goal.returns
returns c = λ _. all_seen IsNode item_view c.args.items.now c.loop-item.item-index (omega arith) c.loop-item.invariant
