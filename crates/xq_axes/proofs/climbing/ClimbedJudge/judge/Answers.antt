use Rattle.std.proofs.Common.{◌≡◌, ◌+◌, ◌-◌, ◌∷◌, [], sym, ap, subst, ◌∙◌, arith}
use Rattle.std.specs.Prelude.{slice_get}
use Rattle.xq_axes.specs.private.Hits.{is_among, IsRising, IsReached}
use Rattle.xq_axes.specs.private.Downward.{stop}
use Rattle.xq_axes.specs.private.Passing.{axis_above}
use Rattle.xq_axes.proofs.Ancestors.{climbs_over}
use Rattle.xq_axes.proofs.climbing.ClimbedJudge.judge.Goals as goal

pub returns : goal.returns
returns c = λ start t s n r h. (
    let x = c.args.row.now in
    let hits = start.hits.places.now in
    let old = c.args.self.now in
    let new = c.meets-is_hit.new.self in
    let met = subst (λ us. (c.meets-is_hit.result ≡ is_among us x.pre) × IsReached us new.met (x.pre + 1)) h.1
    (c.meets-is_hit.ensures.met (subst (λ us. IsRising us) (sym h.1) h.2.rising) (subst (λ us. IsReached us old.hits.met x.pre) (sym h.1) (subst (IsReached hits old.hits.met) (sym r.place) h.3))) in
    let met_n = subst (λ m. (c.meets-is_hit.result ≡ is_among hits m) × IsReached hits new.met (m + 1)) r.place met in
    let places = c.meets-is_hit.ensures.places ∙ h.1 in
    let over = c.stop.ensures ∙ ap (λ us. stop (slice_get us new.met) old.node) places ∙ ap (λ last. stop (slice_get hits new.met) last) h.0 in
    let place = r.place in
    let k : c.saturating_sub.result ≡ stop (slice_get hits new.met) s.high - n = omega (arith, over, place) in
    let o = climbs_over (axis_above start.or_self) t (start.node ∷ []) s hits n c.saturating_sub.result new.met h.2 met_n.1 r.from r.to k in
    (met_n.0 ∙ h.2.are n, o.within, o.unhit, (h.0, places, h.2, o.goes_on)))
