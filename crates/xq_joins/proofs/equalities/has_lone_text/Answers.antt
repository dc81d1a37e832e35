use Rattle.std.proofs.Common.{◌≡◌, ◌∙◌, refl, sym, ap, subst, arith}
use Rattle.xq_atoms.specs.Text.{text_eq}
use Rattle.xq_trees.specs.Rows.{rows, row_at}
use Rattle.xq_sources.specs.Lent.{placed_lent}
use Rattle.xq_sources.specs.Sources.{tree_at}
use Rattle.xq_axes.proofs.Sizes.{one_row, leaf_value}
use Rattle.xq_joins.proofs.LoneTexts.{lone_value}
use Rattle.xq_joins.proofs.equalities.has_lone_text.Goals as goal

pub returns-then-not-is_parent-clause-answer : goal.returns-then-not-is_parent-clause-answer
returns-then-not-is_parent-clause-answer g c = λ k.
    let trees = g.L.TreeSource.forest c.args.source.now in
    let node = c.args.node in
    let x = c.in-Some.row in
    let read = one_row c.lent.result (placed_lent x) (node.pre, row_at (rows (tree_at trees node.tree)) node.pre) (c.lent.ensures ∙ c.in_ok-fetch_row.ensures.found k) c.in-Some.ensures.row in
    let value = leaf_value trees node x (c.in_ok-fetch_row.ensures.exists k) read x.texts.value (sym c.is_parent.ensures ∙ c.if-not-is_parent.true) refl in
    c.is_same.ensures ∙ ap (text_eq c.args.wanted.now) (c.value.ensures ∙ value)

pub returns-in-Text-clause-answer : goal.returns-in-Text-clause-answer
returns-in-Text-clause-answer g c = λ k.
    let trees = g.L.TreeSource.forest c.args.source.now in
    let node = c.args.node in
    let was = c.in_ok-fetch_row-2.ensures.was_clean k in
    let x = c.in-Some.row in
    let y = c.in-Some-get.below in
    let place = c.saturating_add.result in
    let read = one_row c.lent.result (placed_lent x) (node.pre, row_at (rows (tree_at trees node.tree)) node.pre) (c.lent.ensures ∙ c.in_ok-fetch_row.ensures.found was) c.in-Some.ensures.row in
    let below = one_row c.lent-2.result (placed_lent y) (place, row_at (rows (tree_at (g.L.TreeSource.forest c.fetch_row.new.self) node.tree)) place) (c.lent-2.ensures ∙ c.in_ok-fetch_row-2.ensures.found k) c.in-Some-get.ensures.row in
    let same = subst (λ f. placed_lent y ≡ (place, row_at (rows (tree_at f node.tree)) place)) c.in_ok-fetch_row.ensures.keeps below in
    let value = lone_value trees node x y place (c.in_ok-fetch_row.ensures.exists was) read (c.in_ok-fetch_row.ensures.is_tree was) (sym c.is_parent.ensures ∙ c.if-not-is_parent.false) (omega (arith, c.if-not-is_lone.false)) c.saturating_add.ensures same c.in-Text.is in
    c.is_same-in-Text.ensures ∙ ap (text_eq c.args.wanted.now) (c.value-in-Text.ensures ∙ value)
