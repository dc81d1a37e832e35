use Rattle.std.proofs.Common.{map, take, sym, ap, ◌∙◌}
use Rattle.std.proofs.lemmas.List.{take-map, take_min}
use Rattle.xq_trees.specs.Rows.{placed}
use Rattle.xq_sources.specs.private.Forms.{rows_of_form}
use Rattle.xq_sources.proofs.lent.LentRows.first.Goals as goal

pub returns-in-Listed : goal.returns-in-Listed
returns-in-Listed c =
    let rows = c.in-Listed.rows.now in
    c.new.ensures ∙ ap (λ k. map placed (take k rows)) c.min.ensures ∙ ap (map placed) (take_min c.args.count rows)
    ∙ sym (take-map placed c.args.count rows) ∙ ap (take c.args.count) (sym (ap rows_of_form c.in-Listed.is) ∙ c.self.view_is)
