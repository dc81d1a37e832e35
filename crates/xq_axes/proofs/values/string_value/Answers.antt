use Rattle.std.proofs.Common.{◌≡◌, ◌∙◌, ℕ, Result, Ok, Err, sym, ap, subst, arith, Global, String, string_bytes}
use Rattle.std.specs.Prelude.{IfOk, OnOk}
use Rattle.xq_trees.specs.Rows.{Row, rows, row_at}
use Rattle.xq_trees.specs.Value.{texts, string_value}
use Rattle.xq_sources.specs.Lenders.{IsRun}
use Rattle.xq_sources.specs.Sources.{tree_at, rows_between, HasNode}
use Rattle.xq_meaning.specs.Items.{tree_below}
use Rattle.xq_meaning.specs.Readings.{node_at}
use Rattle.xq_axes.specs.Reads.{span}
use Rattle.xq_axes.proofs.Runs.{run_in_turn}
use Rattle.xq_axes.proofs.Sizes.{OnOk-if, parent_value, leaf_value}
use Rattle.xq_axes.proofs.Texts.{first_of_run}
use Rattle.xq_axes.proofs.values.string_value.Goals as goal

pub returns-then-not-is_parent-clause-exists : goal.returns-then-not-is_parent-clause-exists
returns-then-not-is_parent-clause-exists g c = λ k. (
    let trees = g.L.TreeSource.forest c.args.source.now in
    let node = c.args.node in
    let high = c.saturating_add.result in
    let is = subst (IsRun (rows_between (tree_at trees node.tree) node.pre high)) (sym c.lent-rows.ensures) (c.in_ok-fetch.ensures.found k) in
    (first_of_run trees node high c.lent-rows.result c.in-Some.row (c.in_ok-fetch.ensures.exists k) is c.in-Some.ensures.row).0)

pub returns-then-not-is_parent-clause-value : goal.returns-then-not-is_parent-clause-value
returns-then-not-is_parent-clause-value g c = λ k. (
    let trees = g.L.TreeSource.forest c.args.source.now in
    let node = c.args.node in
    let high = c.saturating_add.result in
    let x = c.in-Some.row in
    let is = subst (IsRun (rows_between (tree_at trees node.tree) node.pre high)) (sym c.lent-rows.ensures) (c.in_ok-fetch.ensures.found k) in
    let first = first_of_run trees node high c.lent-rows.result x (c.in_ok-fetch.ensures.exists k) is c.in-Some.ensures.row in
    leaf_value trees node x first.0 first.1 _ (sym c.is_parent.ensures ∙ c.if-not-is_parent.true) (c.in_ok-from_str.ensures.ok ∙ c.value.ensures))

pub returns-in-Some-lone_text-clause-exists : goal.returns-in-Some-lone_text-clause-exists
returns-in-Some-lone_text-clause-exists g c = λ k. (
    let trees = g.L.TreeSource.forest c.args.source.now in
    let node = c.args.node in
    let high = c.saturating_add.result in
    let is = subst (IsRun (rows_between (tree_at trees node.tree) node.pre high)) (sym c.lent-rows.ensures) (c.in_ok-fetch.ensures.found k) in
    (first_of_run trees node high c.lent-rows.result c.in-Some.row (c.in_ok-fetch.ensures.exists k) is c.in-Some.ensures.row).0)

pub returns-in-Some-lone_text-clause-value : goal.returns-in-Some-lone_text-clause-value
returns-in-Some-lone_text-clause-value g c = λ k. (
    let trees = g.L.TreeSource.forest c.args.source.now in
    let node = c.args.node in
    let t = tree_at trees node.tree in
    let high = c.saturating_add.result in
    let x = c.in-Some.row in
    let run = c.lent-rows.result in
    let is = subst (IsRun (rows_between t node.pre high)) (sym c.lent-rows.ensures) (c.in_ok-fetch.ensures.found k) in
    let first = first_of_run trees node high run x (c.in_ok-fetch.ensures.exists k) is c.in-Some.ensures.row in
    let s = span node.pre high in
    let text = c.in-Some-lone_text.ensures t s node.pre (run_in_turn t s node.pre run (omega arith) is) in
    parent_value trees node x first.0 first.1 _ (sym c.is_parent.ensures ∙ c.if-not-is_parent.false) (c.in_ok-from_str-2.ensures.ok ∙ text))

if_ok : {T E : Type 0} (r : Result T E) (P : Type 0) → P → OnOk r P
if_ok (Ok x) P h = h
if_ok (Err e) P h = tt

pub returns-clause-exists : goal.returns-clause-exists
returns-clause-exists g c = λ k. (
    let trees = g.L.TreeSource.forest c.args.source.now in
    let node = c.args.node in
    let high = c.saturating_add.result in
    let was = c.texts_below.ensures.was_clean k in
    let is = subst (IsRun (rows_between (tree_at trees node.tree) node.pre high)) (sym c.lent-rows.ensures) (c.in_ok-fetch.ensures.found was) in
    if_ok c.texts_below.result (HasNode trees node.tree node.pre)
    (first_of_run trees node high c.lent-rows.result c.in-Some.row (c.in_ok-fetch.ensures.exists was) is c.in-Some.ensures.row).0)

pub returns-clause-value : goal.returns-clause-value
returns-clause-value g c = λ k. (
    let trees = g.L.TreeSource.forest c.args.source.now in
    let node = c.args.node in
    let high = c.saturating_add.result in
    let x = c.in-Some.row in
    let was = c.texts_below.ensures.was_clean k in
    let is = subst (IsRun (rows_between (tree_at trees node.tree) node.pre high)) (sym c.lent-rows.ensures) (c.in_ok-fetch.ensures.found was) in
    let first = first_of_run trees node high c.lent-rows.result x (c.in_ok-fetch.ensures.exists was) is c.in-Some.ensures.row in
    let value = subst (λ f. HasNode f node.tree node.pre → x.size ≡ (row_at (rows (tree_at f node.tree)) node.pre).size → IfOk c.texts_below.result (λ (text : String Global). string_bytes text ≡ texts (tree_below f (node_at f node)).below)) c.in_ok-fetch.ensures.keeps (c.texts_below.ensures.value k) first.0 (ap (λ (p : ℕ × Row). p.1.size) first.1) in
    OnOk-if c.texts_below.result (λ (text : String Global). string_bytes text ≡ texts (tree_below trees (node_at trees node)).below) (λ (text : String Global). string_bytes text ≡ string_value (tree_below trees (node_at trees node)))
    (λ text e. parent_value trees node x first.0 first.1 (string_bytes text) (sym c.is_parent.ensures ∙ c.if-not-is_parent.false) e) value)
