use Rattle.std.proofs.Common.{◌∙◌, ◌+◌, ap, arith, map, drop, ◌∷◌}
use Rattle.std.proofs.lemmas.List.{drop_all}
use Rattle.xq_atoms.specs.declared.refusals.Code.TheVariants.{XPTY0019}
use Rattle.xq_trees.specs.Items.{item_view}
use Rattle.xq_meaning.specs.Arguments.{all_nodes}
use Rattle.xq_meaning.specs.Readings.{items_at, node_at}
use Rattle.xq_operators.specs.Views.{forget}
use Rattle.xq_operators.proofs.Lists.{left_over}
use Rattle.xq_operators.proofs.NodeLemmas.{nodes_next}
use Rattle.xq_operators.proofs.nodes.only_nodes.Goals as goal

pub returns-in-Atom : goal.returns-in-Atom
returns-in-Atom c = λ trees.
    let items = c.args.items.now in
    let n = c.loop-item.item-index in
    c.loop-item.invariant trees
    ∙ ap (λ xs. forget (all_nodes XPTY0019 (items_at trees xs))) (left_over item_view items n c.item-item.result (omega arith) c.item-item.is ∙ ap (λ x. item_view x ∷ map item_view (drop (n + 1) items)) c.in-Atom.is)

pub loop-item-preserved : goal.loop-item-preserved
loop-item-preserved c = λ trees.
    let items = c.args.items.now in
    let n = c.loop-item.item-index in
    c.loop-item.invariant trees
    ∙ ap (λ xs. forget (all_nodes XPTY0019 (items_at trees xs))) (left_over item_view items n c.item-item.result (omega arith) c.item-item.is ∙ ap (λ x. item_view x ∷ map item_view (drop (n + 1) items)) c.in_default.is)
    ∙ nodes_next trees XPTY0019 (node_at trees c.in_default.field-0) (items_at trees (map item_view (drop (n + 1) items)))

pub returns : goal.returns
returns c = λ trees.
    let items = c.args.items.now in
    c.loop-item.invariant trees ∙ ap (λ xs. forget (all_nodes XPTY0019 (items_at trees (map item_view xs)))) (drop_all c.loop-item.item-index items (omega arith))
