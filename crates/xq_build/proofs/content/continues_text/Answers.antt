use Rattle.std.proofs.Common.{◌≡◌, ◌∙◌, ◌-◌, true, false, length, ap, sym, arith}
use Rattle.std.proofs.lemmas.Bool.Decides.{nat_tests}
use Rattle.std.proofs.lemmas.List.{nil_from_length}
use Rattle.xq_trees.specs.Rows.{Row}
use Rattle.xq_trees.specs.Levels.{flat}
use Rattle.xq_build.proofs.Contents.{none_before, no_text_after, tells_by_last, last_place, last_nameless}
use Rattle.xq_build.proofs.content.continues_text.Goals as goal

pub returns-then-is_empty-clause-told : goal.returns-then-is_empty-clause-told
returns-then-is_empty-clause-told c = none_before c.args.rows.now.rows (flat c.args.row.now.row) (c.is_empty.ensures.0 c.if-is_empty.true)

pub returns-then-not-is_top_text-clause-told : goal.returns-then-not-is_top_text-clause-told
returns-then-not-is_top_text-clause-told c = no_text_after c.args.rows.now.rows (flat c.args.row.now.row) (sym c.is_top_text.ensures ∙ c.if-not-is_top_text.true)

pub returns-then-not-is_top_text-2-clause-told : goal.returns-then-not-is_top_text-2-clause-told
returns-then-not-is_top_text-2-clause-told c =
    let rows = c.args.rows.now.rows in
    tells_by_last rows c.new-last.result.row (flat c.args.row.now.row) (c.len.result - 1) false
    (last_place rows c.is_empty.result c.len.result c.is_empty.ensures.1 c.if-is_empty.false c.len.ensures.rows) c.new-last.ensures.row
    (sym c.is_top_text-2.ensures ∙ c.if-not-is_top_text-2.true) (sym c.is_top_text.ensures ∙ c.if-not-is_top_text.false)

pub returns-clause-told : goal.returns-clause-told
returns-clause-told c =
    let rows = c.args.rows.now.rows in
    tells_by_last rows c.new-last.result.row (flat c.args.row.now.row) (c.len.result - 1) true
    (last_place rows c.is_empty.result c.len.result c.is_empty.ensures.1 c.if-is_empty.false c.len.ensures.rows) c.new-last.ensures.row
    (sym c.is_top_text-2.ensures ∙ c.if-not-is_top_text-2.false) (sym c.is_top_text.ensures ∙ c.if-not-is_top_text.false)

pub returns-clause-nameless : goal.returns-clause-nameless
returns-clause-nameless c _ =
    let rows = c.args.rows.now.rows in
    let none : length c.name.result.now ≡ 0 = (let e = sym c.is_empty-2.ensures ∙ c.if-not-is_empty.false in grind (arith, nat_tests)) in
    last_nameless rows (c.len.result - 1) (last_place rows c.is_empty.result c.len.result c.is_empty.ensures.1 c.if-is_empty.false c.len.ensures.rows)
    (ap (λ (r : Row). r.label.name) (sym c.new-last.ensures.row) ∙ sym c.name.ensures ∙ nil_from_length c.name.result.now none)
