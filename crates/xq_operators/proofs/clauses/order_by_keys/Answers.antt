use Rattle.std.proofs.Common.{◌≡◌, ◌∙◌, ap, sym, subst, length, map}
use Rattle.std.proofs.lemmas.List.{length-map}
use Rattle.xq_trees.specs.Tuples.{ordered}
use Rattle.xq_meaning.specs.Doing.{judged}
use Rattle.xq_meaning.specs.Forms as Forms
use Rattle.xq_tuples.specs.Keys.{row_of, by_specification, by_tuple}
use Rattle.xq_tuples.specs.Orders.{rule_of}
use Rattle.xq_operators.specs.Views.{tuples_at, order_specs, GivesTuples}
use Rattle.xq_operators.proofs.Streams.{gives_stream, ordered_read, ordered_in}
use Rattle.xq_operators.proofs.clauses.order_by_keys.Goals as goal

pub returns : goal.returns
returns c = λ trees inside.
    let specs = c.args.specs.now in
    let keys = row_of c.args.keys in
    let held = c.deref.result.now in
    let rules = map rule_of held in
    let tuples = c.args.tuples in
    let rules_are : rules ≡ Forms.rules_of (order_specs specs) = ap (map rule_of) c.deref.ensures.value ∙ c.in_ok-rules.ensures in
    let wide : length held ≡ length (order_specs specs) = sym (length-map held rule_of) ∙ ap length rules_are ∙ length-map (order_specs specs) _ in
    let same : length held ≡ length specs = wide ∙ length-map specs _ in
    let columns = by_specification (length held) (by_tuple (length tuples) (length held) keys) in
    subst (λ m. GivesTuples (judged m trees) trees c.order_by_keys.result) (λ i. ordered (rules_are i) (tuples_at trees tuples) (Forms.key_columns (wide i) (by_tuple (length tuples) (same i) keys)))
    (gives_stream trees (ordered rules tuples columns) (ordered rules (tuples_at trees tuples) columns) c.order_by_keys.result (ordered_read trees rules tuples columns) (ordered_in trees rules tuples columns inside) c.order_by_keys.ensures.stream c.order_by_keys.ensures.refused)
