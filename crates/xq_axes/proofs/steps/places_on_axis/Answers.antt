use Rattle.std.proofs.Common.{◌≡◌, ℕ, map, sym, ap, ◌∙◌}
use Rattle.std.proofs.lemmas.Result.{IfOk-weaker}
use Rattle.smallvec.specs.SmallVec.{SmallVec}
use Rattle.xq_sources.specs.Sources.{tree_at}
use Rattle.xq_meaning.specs.Items.{Place}
use Rattle.xq_meaning.specs.Readings.{node_at}
use Rattle.xq_meaning.specs.Steps.{axis_nodes}
use Rattle.xq_axes.specs.Many.{spot, places_from}
use Rattle.xq_axes.proofs.Many.{one_there, one_rises}
use Rattle.xq_axes.proofs.OnPaths.{axis_nodes_of}
use Rattle.xq_axes.proofs.steps.places_on_axis.Goals as goal

pub returns-clause-nodes : goal.returns-clause-nodes
returns-clause-nodes g c = λ k there.
    let trees = g.L.TreeSource.forest c.args.source.now in
    let v = c.args.node in
    let axis = c.args.axis in
    let test = c.args.test.now in
    let at : ℕ → Place = λ p. node_at trees (spot v.tree p) in
    IfOk-weaker c.search.result (λ (found : SmallVec ℕ). found.items ≡ places_from axis test (tree_at trees v.tree) v.pre) (λ (found : SmallVec ℕ). map at found.items ≡ axis_nodes trees axis test (node_at trees v))
    (λ found e. ap (map at) e ∙ sym (axis_nodes_of trees axis test v there)) (c.search.ensures.found k (one_there trees v.tree v.pre there) (one_rises v.pre))

pub returns-clause-rows : goal.returns-clause-rows
returns-clause-rows g c = λ k. c.search.ensures.rows k (one_rises c.args.node.pre)

pub returns-clause-sees : goal.returns-clause-sees
returns-clause-sees g c = λ k. c.search.ensures.sees k (one_rises c.args.node.pre)
