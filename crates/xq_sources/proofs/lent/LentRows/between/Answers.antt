use Rattle.std.proofs.Common.{◌≡◌, ◌-◌, drop, length, map, min, sym, ap, ◌∙◌, arith}
use Rattle.std.specs.Prelude.{slice_range}
use Rattle.std.specs.List.{enumerate_from}
use Rattle.xq_trees.specs.Rows.{placed}
use Rattle.xq_sources.specs.private.Forms.{rows_of_form}
use Rattle.xq_sources.proofs.Between.{mapped_part, part_left, part_of_part, part_there}
use Rattle.xq_sources.proofs.Forms.{as_many}
use Rattle.xq_sources.proofs.lent.LentRows.between.Goals as goal

pub returns-in-Listed : goal.returns-in-Listed
returns-in-Listed c =
    let rows = c.in-Listed.rows.now in
    let seen : map placed rows ≡ c.args.self.now = sym (ap rows_of_form c.in-Listed.is) ∙ c.self.view_is in
    c.new.ensures
    ∙ ap (map placed) (c.split_at.ensures.back ∙ part_left rows c.args.low c.args.high c.min.result c.min-high.result c.min-high.ensures c.min.ensures)
    ∙ mapped_part placed rows c.args.low c.args.high
    ∙ ap (λ run. slice_range run c.args.low c.args.high) seen

pub returns-in-Packed : goal.returns-in-Packed
returns-in-Packed c =
    let places = enumerate_from 0 (drop c.in-Packed.base c.in-Packed.rows.now.rows) in
    let start = c.in-Packed.start in
    let end = c.in-Packed.end in
    let seen : slice_range places start end ≡ c.args.self.now = sym (ap rows_of_form c.in-Packed.is) ∙ c.self.view_is in
    let many : length c.args.self.now ≡ end - start = as_many c.self.inside.form c.in-Packed.rows c.in-Packed.base start end c.args.self.now c.in-Packed.is c.self.view_is c.self.invariant in
    let last : c.min-high-in-Packed.result ≡ min c.args.high (length c.args.self.now) = c.min-high-in-Packed.ensures ∙ ap (min c.args.high) (sym many) in
    c.packed_after.ensures
    ∙ part_of_part places start end c.min-in-Packed.result c.min-high-in-Packed.result (omega (arith, c.min-in-Packed.ensures)) (omega (arith, last, many))
    ∙ ap (λ run. slice_range run c.min-in-Packed.result c.min-high-in-Packed.result) seen
    ∙ part_there c.args.self.now c.args.low c.args.high c.min-in-Packed.result c.min-high-in-Packed.result last c.min-in-Packed.ensures
