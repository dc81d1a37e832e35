use Rattle.std.proofs.Common.{ℕ, ◌++◌, map, sym, ap, ◌∙◌}
use Rattle.xq_trees.specs.declared.items.Node.{Node}
use Rattle.xq_trees.specs.Order.{path_at}
use Rattle.xq_meaning.specs.Items.{place, nodes_at}
use Rattle.xq_meaning.specs.Readings.{node_at}
use Rattle.xq_axes.proofs.Many.{one_there, one_rises, axis_there}
use Rattle.xq_axes.proofs.OnPaths.{axis_nodes_of}
use Rattle.xq_meaning.proofs.PathLemmas.{map-map}
use Rattle.xq_axes.proofs.steps.axis.Goals as goal

pub returns-clause-nodes : goal.returns-clause-nodes
returns-clause-nodes g c = λ k there. (
    let trees = g.L.TreeSource.forest c.args.source.now in
    let v = c.args.node in
    let make : ℕ → Node = λ p. record { tree = v.tree; pre = p } in
    let ps = c.as_slice.result.now in
    ap (map (node_at trees)) (c.in_ok-add_nodes.ensures.nodes ∙ ap (λ xs. xs ++ map make ps) c.in_ok-found.ensures.items) ∙ map-map (node_at trees) make ps
    ∙ ap (map (λ p. place v.tree (path_at (nodes_at trees v.tree) p))) (c.as_slice.ensures ∙ c.in_ok-places.ensures.found k (one_there trees v.tree v.pre there) (one_rises v.pre))
    ∙ sym (axis_nodes_of trees c.args.axis c.args.test.now v there))

pub returns-clause-there : goal.returns-clause-there
returns-clause-there g c = λ k there. (
    let trees = g.L.TreeSource.forest c.args.source.now in
    let v = c.args.node in
    let make : ℕ → Node = λ p. record { tree = v.tree; pre = p } in
    let ps = c.as_slice.result.now in
    axis_there trees c.args.axis c.args.test.now v c.add_nodes.new.found.items there (c.in_ok-add_nodes.ensures.nodes ∙ ap (λ xs. xs ++ map make ps) c.in_ok-found.ensures.items
    ∙ ap (map make) (c.as_slice.ensures ∙ c.in_ok-places.ensures.found k (one_there trees v.tree v.pre there) (one_rises v.pre))))
