use Rattle.std.proofs.Common.{◌≡◌, ℕ}
use Rattle.std.proofs.lemmas.Result.{IfOk-weaker}
use Rattle.smallvec.specs.SmallVec.{SmallVec}
use Rattle.xq_trees.specs.Forest.{count}
use Rattle.xq_trees.specs.Tree.{nodes}
use Rattle.xq_sources.specs.Sources.{tree_at}
use Rattle.xq_axes.specs.private.Hits.{is_wanted, below_where}
use Rattle.xq_axes.specs.Many.{AreReached}
use Rattle.xq_axes.proofs.InTree.{places_there, places_rise, reached}
use Rattle.xq_axes.proofs.steps.step_in_tree.Goals as goal

pub returns-clause-reached : goal.returns-clause-reached
returns-clause-reached g c = λ k have up.
    let trees = g.L.TreeSource.forest c.args.source.now in
    let tree = c.args.tree in
    let t = tree_at trees tree in
    let vs = c.args.places.now in
    let axis = c.args.axis in
    let test = c.args.test.now in
    IfOk-weaker c.search.result (λ (found : SmallVec ℕ). found.items ≡ below_where (is_wanted axis test t vs) (count (nodes t))) (λ (found : SmallVec ℕ). AreReached trees axis test tree vs found.items)
    (λ found e. reached trees axis test tree vs found.items have e) (c.search.ensures.found k (places_there trees tree vs have) (places_rise tree vs up))

pub returns-clause-rows : goal.returns-clause-rows
returns-clause-rows g c = λ k up. c.search.ensures.rows k (places_rise c.args.tree c.args.places.now up)

pub returns-clause-sees : goal.returns-clause-sees
returns-clause-sees g c = λ k up. c.search.ensures.sees k (places_rise c.args.tree c.args.places.now up)
