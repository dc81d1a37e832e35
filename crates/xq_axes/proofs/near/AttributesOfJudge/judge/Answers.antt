use Rattle.std.proofs.Common.{◌≡◌, ◌+◌, ◌-◌, ◌∷◌, [], not, false, nat_eq, sym, ap, ◌∙◌}
use Rattle.xq_trees.specs.Rows.{Row, rows}
use Rattle.xq_trees.specs.Tree.{is_attribute}
use Rattle.xq_trees.specs.RegionTests.{plain_row}
use Rattle.xq_trees.specs.declared.Axis.TheVariants as axis
use Rattle.xq_sources.specs.Lent.{placed_lent}
use Rattle.xq_axes.specs.declared.near.AttributesOf.{AttributesOf}
use Rattle.xq_axes.specs.private.Downward.{level_of}
use Rattle.xq_axes.specs.private.Hits.{is_hit}
use Rattle.xq_axes.specs.private.Near.{AreBelow}
use Rattle.xq_axes.proofs.OneNode.{attribute_hit, plain_unhit, plain_over, rest_within}
use Rattle.xq_axes.proofs.Picking.{judged_one}
use Rattle.xq_axes.proofs.near.AttributesOfJudge.judge.Goals as goal

pub returns-then-is_plain : goal.returns-then-is_plain
returns-then-is_plain c = λ start t s n r h. (
    let x = c.args.row.now in
    let plain = sym (ap (λ (y : Row). not (is_attribute y.label.kind)) r.row) ∙ sym c.is_plain.ensures ∙ c.if-is_plain.true in
    let over = c.saturating_sub.ensures ∙ ap (λ (j : AttributesOf). j.owner.last - x.pre) h.0 ∙ ap (λ p. start.owner.last - p) r.place in (
      plain_unhit t s start.owner h.1 n r.is_there r.from r.to plain,
      rest_within t s start.owner h.1 n r.is_there r.from r.to c.saturating_sub.result over,
      plain_over t s start.owner h.1 n r.is_there r.from r.to plain c.saturating_sub.result over,
      h,
    ))

pub returns : goal.returns
returns c = λ start t s n r h. (
    let x = c.args.row.now in
    let own = c.args.self.now.owner in
    let level : x.level ≡ level_of t n = ap (λ (y : Row). y.level) r.row in
    let plain : plain_row (rows t) n ≡ false = sym (ap (λ (y : Row). not (is_attribute y.label.kind)) r.row) ∙ sym c.is_plain.ensures ∙ c.if-is_plain.false in
    let more = ap (λ (j : AttributesOf). j.owner.level + 1) h.0 in
    let one = judged_one t s n (placed_lent x) (is_hit axis.Attributes t (start.owner.place ∷ [])) (λ m. (c.args.self.now ≡ start) × AreBelow t s start.owner) r h in (
      c.is_parent.ensures ∙ ap (nat_eq x.level) more ∙ attribute_hit t s start.owner h.1 n r.is_there r.from r.to x.level level plain,
      one.within,
      one.unhit,
      one.goes_on,
    ))
