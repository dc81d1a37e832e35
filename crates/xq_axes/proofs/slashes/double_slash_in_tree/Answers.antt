use Rattle.std.proofs.Common.{List, map, IfOk, subst}
use Rattle.std.proofs.lemmas.Result.{IfOk-weaker}
use Rattle.xq_trees.specs.Rising.{AreRising}
use Rattle.xq_trees.specs.Tree.{Tree}
use Rattle.xq_trees.specs.declared.Axis.TheVariants.{Descendant}
use Rattle.xq_axes.specs.Many.{spot, AreReached}
use Rattle.xq_axes.specs.Nodes.{HaveAll}
use Rattle.xq_axes.proofs.DoubleSlash.{after_slashes}
use Rattle.xq_axes.proofs.slashes.double_slash_in_tree.Goals as goal

pub returns-clause-reached : goal.returns-clause-reached
returns-clause-reached g c = λ k have up. (
    let trees = g.L.TreeSource.forest c.args.source.now in
    let tree = c.args.tree in
    let vs = c.args.places.now in
    let test = c.args.test.now in
    let stand = c.in_ok-ask_for_tree.ensures.trees (c.step_in_tree.ensures.was_clean k) in
    IfOk-weaker c.step_in_tree.result _ _ (λ found r. after_slashes trees test tree vs _ have stand r)
    (subst (λ (f : List Tree). HaveAll f (map (spot tree) vs) → AreRising (map (spot tree) vs) → IfOk c.step_in_tree.result (λ found. AreReached f Descendant test tree vs found.items))
    c.in_ok-ask_for_tree.ensures.keeps (c.step_in_tree.ensures.reached k) have up))
