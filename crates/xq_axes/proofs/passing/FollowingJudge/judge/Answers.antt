use Rattle.std.proofs.Common.{◌<◌, not, ap, ◌∙◌, arith}
use Rattle.xq_trees.specs.Rows.{Row}
use Rattle.xq_trees.specs.Tree.{is_attribute}
use Rattle.xq_trees.specs.declared.Axis.TheVariants as axes
use Rattle.xq_sources.specs.Lent.{placed_lent}
use Rattle.xq_axes.specs.private.Hits.{is_hit}
use Rattle.xq_axes.specs.private.Passing.{IsLeastEnd}
use Rattle.xq_axes.proofs.Picking.{judged_one}
use Rattle.xq_axes.proofs.Ranges.{following_hit}
use Rattle.xq_axes.proofs.passing.FollowingJudge.judge.Goals as goal

pub returns : goal.returns
returns c = λ start t s n r h. (
    let f = r.from in
    let l = h.0 in
    let o = judged_one t s n (placed_lent c.args.row.now) (is_hit axes.Following t start.places.now) (λ _. (start.least < s.low) × IsLeastEnd t start.places.now start.least) r h in (
      c.is_plain.ensures ∙ ap (λ (y : Row). not (is_attribute y.label.kind)) r.row ∙ following_hit t start.places.now start.least n h.1 (omega (arith, f, l)),
      o.within,
      o.unhit,
      o.goes_on,
    ))
