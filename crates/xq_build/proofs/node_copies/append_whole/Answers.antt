use Rattle.std.proofs.Common.{◌≡◌, ◌∙◌, ◌+◌, ◌++◌, ℕ, List, ap, subst, arith, map}
use Rattle.std.specs.Prelude.{OnOk}
use Rattle.xq_trees.specs.Tree.{nodes}
use Rattle.xq_trees.specs.Levels.{flat}
use Rattle.xq_sources.specs.Sources.{tree_at}
use Rattle.xq_meaning.specs.Items.{tree_below}
use Rattle.xq_meaning.specs.Readings.{node_at}
use Rattle.xq_build.specs.private.Leaves.{Leaf, leaves, lowered, leaves_between}
use Rattle.xq_build.proofs.Subtrees.{run_leaves}
use Rattle.xq_build.proofs.node_copies.append_whole.Goals as goal

pub returns-clause-copied : goal.returns-clause-copied
returns-clause-copied g c = λ h is.
    (let trees = g.L.TreeSource.forest c.args.source.now in
    let n = c.args.node in
    let last : c.in-Some.last ≡ n.pre + c.args.shape.size = omega (arith, c.in-Some.ensures) in
    let run : map (lowered c.args.shape.level) (leaves_between (tree_at trees n.tree) n.pre c.in-Some.last) ≡ leaves (nodes (tree_below trees (node_at trees n))) =
    ap (λ (i : ℕ). map (lowered c.args.shape.level) (leaves_between (tree_at trees n.tree) n.pre i)) last ∙ run_leaves trees n c.args.shape is in
    subst (λ (l : List Leaf). OnOk c.append_between.result (map flat c.append_between.new.copies.rows ≡ map flat c.args.copies.now.rows ++ l))
    run (c.append_between.ensures.copied h))
