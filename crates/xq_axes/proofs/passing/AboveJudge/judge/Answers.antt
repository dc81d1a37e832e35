use Rattle.std.proofs.Common.{◌≡◌, ◌+◌, ◌&&◌, ◌||◌, sym, ap, subst, ◌∙◌}
use Rattle.xq_trees.specs.Rows.{Row}
use Rattle.std.specs.Prelude.{slice_get}
use Rattle.xq_axes.specs.private.Hits.{is_among, IsRising, IsReached}
use Rattle.xq_axes.specs.private.Downward.{end_of}
use Rattle.xq_axes.specs.private.Passing.{is_next_within}
use Rattle.xq_axes.specs.private.Waiting.{rows_below}
use Rattle.xq_axes.proofs.Ranges.{above_some, above_hit}
use Rattle.xq_axes.proofs.Ancestors.{above_over}
use Rattle.xq_axes.proofs.passing.AboveJudge.judge.Goals as goal

pub returns : goal.returns
returns c = λ start t s n r h. (
    let x = c.args.row.now in
    let vs = start.contexts.places.now in
    let old = c.args.self.now in
    let new = c.meets-is_context.new.self in
    let met = subst (λ us. (c.meets-is_context.result ≡ is_among us x.pre) × IsReached us new.met (x.pre + 1)) h.2
    (c.meets-is_context.ensures.met (subst (λ us. IsRising us) (sym h.2) h.3) (subst (λ us. IsReached us old.contexts.met x.pre) (sym h.2) (subst (IsReached vs old.contexts.met) (sym r.place) h.4))) in
    let met_n = subst (λ m. (c.meets-is_context.result ≡ is_among vs m) × IsReached vs new.met (m + 1)) r.place met in
    let size = ap (λ (y : Row). y.size) r.row in
    let last : c.end_of_row.result ≡ end_of t n = c.end_of_row.ensures.end ∙ ap (λ m. m + x.size) r.place ∙ ap (λ m. n + m) size in
    let places = c.meets-is_context.ensures.places ∙ h.2 in
    let above = c.is_next_within-is_above.ensures ∙ ap (λ us. is_next_within us new.met c.end_of_row.result) places ∙ ap (is_next_within vs new.met) last ∙ above_some t vs new.met n h.3 met_n.1 in
    let hit = c.is_counted.ensures ∙ ap (λ b. (b && c.meets-is_context.result) || c.is_next_within-is_above.result) h.0 ∙ above_hit t vs start.or_self c.meets-is_context.result c.is_next_within-is_above.result n met_n.0 above in
    let over = c.rows_over.ensures ∙ ap (λ us. rows_below (slice_get us new.met) x.pre x.size old.last) places in
    let o = above_over start.or_self t vs s n new.met x.pre x.size old.last c.rows_over.result r.is_there h.3 met_n.1 r.from r.to r.place size h.1 over in
    (hit, o.within, o.unhit, (h.0, h.1, places, h.3, o.goes_on)))
