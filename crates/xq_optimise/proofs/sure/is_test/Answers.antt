use Rattle.std.proofs.Common.{refl}
use Rattle.xq_optimise.proofs.Tests.{nodes_tell}
use Rattle.xq_optimise.proofs.Below.{comparison_is_test}
use Rattle.xq_optimise.proofs.sure.is_test.Goals as goal

pub returns-then-is_texts : goal.returns-then-is_texts
returns-then-is_texts c = λ e.
    comparison_is_test c.args.known.now c.in-Some.found.relation c.in-Some.found.left.now c.in-Some.found.right.now c.args.plan.now
    c.in-Some.ensures (c.if-is_texts.ensures.sure refl) (c.if-is_texts.ensures.below refl)
    (c.is_texts-then-is_texts.ensures.sure e) (c.is_texts-then-is_texts.ensures.below e)

pub returns-in-None : goal.returns-in-None
returns-in-None c = λ e. record {
  tells = nodes_tell c.args.known.now c.args.plan.now (c.is_nodes.ensures.sure e);
  below = c.is_nodes.ensures.below e;
}
