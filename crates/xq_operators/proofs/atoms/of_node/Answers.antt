use Rattle.std.proofs.Common.{◌≡◌, ◌∙◌, ap, subst, string_bytes}
use Rattle.xq_trees.specs.Rows.{rows, row_at}
use Rattle.xq_trees.specs.Tree.{Label}
use Rattle.xq_trees.specs.Value.{string_value, typed_by}
use Rattle.xq_sources.specs.Lent.{placed_lent}
use Rattle.xq_sources.specs.Sources.{tree_at}
use Rattle.xq_meaning.specs.Items.{atomic_value, tree_below}
use Rattle.xq_meaning.specs.Readings.{node_at}
use Rattle.xq_axes.proofs.Sizes.{one_row, label_read}
use Rattle.xq_operators.proofs.atoms.of_node.Goals as goal

pub returns-clause-value : goal.returns-clause-value
returns-clause-value g c = λ k.
    let trees = g.L.TreeSource.forest c.args.source.now in
    let node = c.args.node in
    let was = c.string_value.ensures.was_clean k in
    let there = c.in_ok-fetch_row.ensures.exists was in
    let x = c.in-Some.row in
    let read = one_row c.lent.result (placed_lent x) (node.pre, row_at (rows (tree_at trees node.tree)) node.pre) (c.lent.ensures ∙ c.in_ok-fetch_row.ensures.found was) c.in-Some.ensures.row in
    let text = string_bytes c.in_ok-string_value.field-0 in
    let kind : x.kind ≡ (tree_below trees (node_at trees node)).root.kind = ap (λ (l : Label). l.kind) (label_read trees node x there read) in
    let value : text ≡ string_value (tree_below trees (node_at trees node)) = subst (λ f. text ≡ string_value (tree_below f (node_at f node))) c.in_ok-fetch_row.ensures.keeps (c.in_ok-string_value.ensures.value k) in
    c.typed.ensures ∙ ap (λ kind. atomic_value (typed_by kind text)) kind ∙ ap (λ s. atomic_value (typed_by (tree_below trees (node_at trees node)).root.kind s)) value
