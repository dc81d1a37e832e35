use Rattle.std.proofs.Common.{◌≡◌, ◌∙◌, ap, sym, subst, length, map}
use Rattle.std.proofs.lemmas.List.{length-map}
use Rattle.xq_trees.specs.Tuples.{ordered}
use Rattle.xq_meaning.specs.Doing.{judged}
use Rattle.xq_meaning.specs.Forms as Forms
use Rattle.xq_tuples.specs.Keys.{rows_in, by_specification}
use Rattle.xq_tuples.specs.Orders.{rule_of}
use Rattle.xq_operators.specs.Views.{tuples_at, order_specs, GivesTuples}
use Rattle.xq_operators.proofs.Streams.{gives_stream, ordered_read, ordered_in}
use Rattle.xq_operators.proofs.clauses.order.Goals as goal

pub returns : goal.returns
returns c = λ trees inside.
    let specs = c.args.specs.now in
    let rows = rows_in c.args.rows in
    let held = c.deref.result.now in
    let rules = map rule_of held in
    let columns = by_specification (length held) rows in
    let tuples = c.args.tuples in
    let rules_are : rules ≡ Forms.rules_of (order_specs specs) = ap (map rule_of) c.deref.ensures.value ∙ c.in_ok-rules.ensures in
    let wide : length held ≡ length (order_specs specs) = sym (length-map held rule_of) ∙ ap length rules_are ∙ length-map (order_specs specs) _ in
    subst (λ m. GivesTuples (judged m trees) trees c.order_by_rows.result) (λ i. ordered (rules_are i) (tuples_at trees tuples) (Forms.key_columns (wide i) rows))
    (gives_stream trees (ordered rules tuples columns) (ordered rules (tuples_at trees tuples) columns) c.order_by_rows.result (ordered_read trees rules tuples columns) (ordered_in trees rules tuples columns inside) c.order_by_rows.ensures.stream c.order_by_rows.ensures.refused)
