use Rattle.std.proofs.Common.{map}
use Rattle.xq_trees.specs.Tree.{IsTree}
use Rattle.xq_sources.specs.Sources.{tree_at}
use Rattle.xq_axes.specs.Many.{spot}
use Rattle.xq_axes.specs.private.Standing.{AreOfTrees}
use Rattle.xq_axes.proofs.DoubleSlash.{all_of_tree}
use Rattle.xq_axes.proofs.Sizes.{OnOk-then}
use Rattle.xq_axes.proofs.slashes.ask_for_tree.Goals as goal

pub returns-clause-trees : goal.returns-clause-trees
returns-clause-trees g c = λ k.
    let trees = g.L.TreeSource.forest c.args.source.now in
    let tree = c.args.tree in
    let vs = c.args.places.now in
    OnOk-then c.fetch_row.result (IsTree (tree_at trees tree)) (AreOfTrees trees (map (spot tree) vs)) (all_of_tree trees tree vs) (c.fetch_row.ensures.is_tree k)
