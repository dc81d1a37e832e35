use Rattle.std.proofs.Common.{◌≡◌, ◌+◌, true, map, sym, ◌∙◌, ap, arith}
use Rattle.xq_trees.specs.Rows.{row_at}
use Rattle.xq_trees.specs.Tree.{may_stand, has_text, may_precede}
use Rattle.xq_trees.specs.private.Checks.{label_of, roots}
use Rattle.xq_trees.proofs.Checking.{checked_later}
use Rattle.xq_trees.proofs.Walks.{child_decided_at}
use Rattle.xq_trees.proofs.encodings.is_child.Goals as goal

pub may_precede-requires-clause-checked : goal.may_precede-requires-clause-checked
may_precede-requires-clause-checked g c = checked_later _ c.args.at _ c.requires.checked (omega arith)

pub returns : goal.returns
returns g c =
    let rs = g.R.TreeRows.listed c.args.rows.now in
    let above = row_at rs c.args.parent in
    let here = row_at rs c.args.at in
    let n = c.args.at + 1 + c.size-size.result in
    let stands : may_stand above.label.kind here.label.kind ≡ true =
    sym (c.may_stand.ensures ∙ ap (λ k. may_stand k c.kind-kind.result) c.kind.ensures ∙ ap (may_stand above.label.kind) c.kind-kind.ensures) ∙ c.if-not-may_stand.false in
    let text : has_text here.label.kind here.label.value ≡ true =
    sym (c.has_text.ensures ∙ ap (λ k. has_text k c.value.result.now) c.kind-kind.ensures ∙ ap (has_text here.label.kind) c.value.ensures) ∙ c.if-not-has_text.false in
    child_decided_at rs c.args.parent c.args.at c.args.stop n c.may_precede.result (omega (arith, c.size-size.ensures)) (omega (arith, c.level-level.ensures, c.level.ensures, c.if-level-eq0.false, c.if-level.false)) stands text (omega (arith, c.size-size.ensures, c.if-size-stop.false))
    (c.may_precede.ensures ∙ ap (λ k. may_precede k (map label_of (roots rs n c.args.stop))) c.kind-kind.ensures)
