use Rattle.std.proofs.Common.{refl}
use Rattle.xq_optimise.proofs.ItemTests.{comparison_keeps, found_keep}
use Rattle.xq_optimise.proofs.predicates.is_item_test.Goals as goal

pub returns-then-finds_texts : goal.returns-then-finds_texts
returns-then-finds_texts c = λ e.
    comparison_keeps c.args.known.now c.in-Some.found.relation c.in-Some.found.left.now c.in-Some.found.right.now c.args.plan.now
    c.in-Some.ensures (c.if-finds_texts.ensures refl) (c.finds_texts-then-finds_texts.ensures e)

pub returns-in-None : goal.returns-in-None
returns-in-None c = λ e. found_keep c.args.known.now c.args.plan.now (c.finds_nodes.ensures e)
