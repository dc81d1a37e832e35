use Rattle.std.proofs.Common.{◌≡◌, ◌+◌, ◌&&◌, not, nat_lt, ap, ◌∙◌}
use Rattle.xq_trees.specs.Rows.{Row, rows}
use Rattle.xq_trees.specs.RegionTests.{plain_row}
use Rattle.xq_trees.specs.Tree.{is_attribute}
use Rattle.xq_sources.specs.Lent.{placed_lent}
use Rattle.xq_axes.specs.private.Downward.{end_of}
use Rattle.xq_trees.specs.declared.Axis.TheVariants as axes
use Rattle.xq_axes.specs.private.Hits.{is_hit}
use Rattle.xq_axes.specs.private.Passing.{IsLast}
use Rattle.xq_axes.proofs.Picking.{judged_one}
use Rattle.xq_axes.proofs.Ranges.{preceding_hit}
use Rattle.xq_axes.proofs.passing.PrecedingJudge.judge.Goals as goal

pub returns : goal.returns
returns c = λ start t s n r h. (
    let x = c.args.row.now in
    let last : c.end_of_row.result ≡ end_of t n = c.end_of_row.ensures.end ∙ ap (λ m. m + x.size) r.place ∙ ap (λ (y : Row). n + y.size) r.row in
    let o = judged_one t s n (placed_lent x) (is_hit axes.Preceding t start.places.now) (λ _. (c.args.self.now.last ≡ start.last) × IsLast start.places.now start.last) r h in
    let plain : c.is_plain.result ≡ plain_row (rows t) n = c.is_plain.ensures ∙ ap (λ (y : Row). not (is_attribute y.label.kind)) r.row in (
      c.is_before.ensures ∙ ap (λ e. nat_lt e c.args.self.now.last && c.is_plain.result) last ∙ ap (λ l. nat_lt (end_of t n) l && c.is_plain.result) h.0 ∙ ap (λ p. nat_lt (end_of t n) start.last && p) plain
          ∙ preceding_hit t start.places.now start.last n h.1,
      o.within,
      o.unhit,
      o.goes_on,
    ))
