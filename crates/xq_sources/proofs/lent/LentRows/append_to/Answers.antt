use Rattle.std.proofs.Common.{◌≡◌, ◌∙◌, ◌++◌, ◌+◌, List, drop, map, sym, ap, subst}
use Rattle.std.specs.Prelude.{OnOk, slice_range}
use Rattle.xq_trees.specs.Rows.{Row, row_of}
use Rattle.xq_packed.specs.Changes.{moved}
use Rattle.xq_sources.specs.Lent.{unplaced}
use Rattle.xq_sources.specs.private.Forms.{rows_of_form}
use Rattle.xq_sources.proofs.ReadRows.{unplaced-placed}
use Rattle.xq_sources.proofs.Between.{part_after}
use Rattle.xq_sources.proofs.Forms.{unplaced-between}
use Rattle.xq_sources.proofs.lent.LentRows.append_to.Goals as goal

pub returns-in-Listed : goal.returns-in-Listed
returns-in-Listed c =
    let listed = c.in-Listed.listed.now in
    let same : map row_of listed ≡ unplaced c.args.self.now = sym (unplaced-placed listed) ∙ ap unplaced (sym (ap rows_of_form c.in-Listed.is) ∙ c.self.view_is) in
    subst (λ (rs : List Row). OnOk c.append_listed.result (c.append_listed.new.rows.rows ≡ c.args.rows.now.rows ++ map (moved c.args.from c.args.to) rs))
    same c.append_listed.ensures

pub returns-in-Packed : goal.returns-in-Packed
returns-in-Packed c =
    let rows = c.in-Packed.packed.now.rows in
    let base = c.in-Packed.base in
    let low = c.in-Packed.low in
    let high = c.in-Packed.high in
    let same : slice_range rows (base + low) (base + high) ≡ unplaced c.args.self.now = part_after rows base low high ∙ sym (unplaced-between (drop base rows) low high) ∙ ap unplaced (sym (ap rows_of_form c.in-Packed.is) ∙ c.self.view_is) in
    subst (λ (rs : List Row). OnOk c.append_run.result (c.append_run.new.self.rows ≡ c.args.rows.now.rows ++ map (moved c.args.from c.args.to) rs))
    same c.append_run.ensures.rows
