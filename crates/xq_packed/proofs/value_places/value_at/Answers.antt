use Rattle.std.proofs.Common.{◌≡◌, None, Some, sym, ap, ◌∙◌}
use Rattle.std.specs.Prelude.{slice_get}
use Rattle.std.specs.Option.{unwrap_or}
use Rattle.std.proofs.lemmas.Option.{get_or_from_slice_get, unwrap_or-slice_get}
use Rattle.xq_trees.specs.Rows.{Row, no_row}
use Rattle.xq_packed.proofs.value_places.value_at.Goals as goal

pub returns-in-Some : goal.returns-in-Some
returns-in-Some c =
    let rows = c.args.rows.now.rows in
    let found : slice_get rows c.args.place ≡ Some c.in-Some.row.row = sym c.in-Some.ensures.row in
    c.value.ensures ∙ ap (λ (r : Row). r.label.value) (sym (get_or_from_slice_get rows c.args.place c.in-Some.row.row no_row found))

pub returns-in-None : goal.returns-in-None
returns-in-None c =
    let rows = c.args.rows.now.rows in
    let none : slice_get rows c.args.place ≡ None = sym c.in-None.ensures.row in
    ap (λ (r : Row). r.label.value) (sym (sym (unwrap_or-slice_get rows c.args.place no_row) ∙ ap (λ o. unwrap_or o no_row) none))
