use Rattle.std.proofs.Common.{◌≡◌, ◌∙◌, List, map, IfOk, subst}
use Rattle.std.specs.List.{flat_map}
use Rattle.std.proofs.lemmas.Result.{IfOk-weaker}
use Rattle.xq_trees.specs.Tree.{Tree}
use Rattle.xq_trees.specs.declared.Axis.TheVariants.{Descendant}
use Rattle.xq_meaning.specs.Items.{in_document_order}
use Rattle.xq_meaning.specs.Steps.{axis_nodes}
use Rattle.xq_meaning.specs.Readings.{node_at}
use Rattle.xq_axes.specs.Nodes.{HaveAll}
use Rattle.xq_axes.proofs.DoubleSlash.{double_slash_is_descendant, stand_all}
use Rattle.xq_axes.proofs.slashes.double_slash.Goals as goal

pub returns-clause-nodes : goal.returns-clause-nodes
returns-clause-nodes g c = λ k have. (
    let trees = g.L.TreeSource.forest c.args.source.now in
    let ns = c.args.nodes.now in
    let test = c.args.test.now in
    let stand = stand_all trees ns have (c.in_ok-ask_for_trees.ensures.trees (c.step.ensures.was_clean k)) in
    let law = double_slash_is_descendant trees test (map (node_at trees) ns) stand in
    IfOk-weaker c.step.result _ _ (λ found e. e ∙ law)
    (subst (λ (f : List Tree). HaveAll f ns → IfOk c.step.result (λ found. map (node_at f) found.items ≡ in_document_order f (flat_map (axis_nodes f Descendant test) (map (node_at f) ns))))
    c.in_ok-ask_for_trees.ensures.keeps (c.step.ensures.nodes k) have))
