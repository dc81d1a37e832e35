use Rattle.std.proofs.Common.{map, ap, sym, subst}
use Rattle.xq_axes.specs.Many.{spot}
use Rattle.xq_trees.specs.Items.{Place as NodeAt}
use Rattle.xq_trees.specs.Rising.{AreRising}
use Rattle.xq_trees.proofs.Rising.{rising_none}
use Rattle.xq_operators.proofs.nodes.in_one_tree.Goals as goal

pub loop-item-init : goal.loop-item-init
loop-item-init c = record {
  are = ap (λ ps. map (λ p. NodeAt (spot c.in-Some-Node.first.tree p)) ps) (sym c.in_ok-places.ensures.items);
  rising = subst (λ ps. AreRising (map (spot c.in-Some-Node.first.tree) ps)) (sym c.in_ok-places.ensures.items) rising_none;
}
