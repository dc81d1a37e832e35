use Rattle.std.proofs.Common.{◌≡◌, ℕ, ◌+◌, ◌≤◌, ◌&&◌, ◌||◌, true, not, eqb, nat_le, sym, ap, subst, ◌∙◌, arith}
use Rattle.std.specs.Prelude.{slice_get}
use Rattle.xq_trees.specs.Rows.{Row, rows}
use Rattle.xq_trees.specs.Tree.{is_attribute}
use Rattle.xq_trees.specs.RegionTests.{plain_row}
use Rattle.xq_axes.specs.private.Hits.{is_among, IsRising, IsReached}
use Rattle.xq_axes.specs.private.Downward.{level_of}
use Rattle.xq_axes.specs.private.Waiting.{has_siblings, rows_below}
use Rattle.xq_axes.proofs.GoingOn.{on_hit, on_more, meet_deepest, on_goes_over}
use Rattle.xq_axes.proofs.onward.OnwardJudge.judge.Goals as goal

pub returns : goal.returns
returns c = λ start t s n r h. (
    let x = c.args.row.now in
    let vs = start.contexts.places.now in
    let old = c.args.self.now in
    let levels = old.levels in
    let on = h.2 in
    let context = c.meets-is_context.result in
    let new_met = c.meets-is_context.new.self.met in
    let level = c.from.result in
    let e : level ≡ level_of t n = c.from.ensures ∙ ap (λ (y : Row). y.level) r.row in
    let plain : c.is_plain-is_plain.result ≡ plain_row (rows t) n = c.is_plain-is_plain.ensures ∙ ap (λ (y : Row). not (is_attribute y.label.kind)) r.row in
    let met = subst (λ us. (context ≡ is_among us x.pre) × IsReached us new_met (x.pre + 1)) h.0
    (c.meets-is_context.ensures.met (subst (λ us. IsRising us) (sym h.0) on.rising) (subst (λ us. IsReached us old.contexts.met x.pre) (sym h.0) (subst (IsReached vs old.contexts.met) (sym r.place) on.reached))) in
    let met_n = subst (λ m. (context ≡ is_among vs m) × IsReached vs new_met (m + 1)) r.place met in
    let w : c.waits-waits.result ≡ (context && has_siblings level (plain_row (rows t) n)) =
    c.waits-waits.ensures ∙ ap (λ l. context && has_siblings l c.is_plain-is_plain.result) (sym c.from.ensures) ∙ ap (λ b. context && has_siblings level b) plain in
    let hit = c.is_sibling.ensures ∙ ap (λ b. b && c.is_plain-is_plain.result) c.in_ok-is_awaited.ensures.awaited ∙ ap (λ b. is_among levels level && b) plain ∙ on_hit t vs n old.contexts.met level levels r.is_there on e in
    let more = on_more t vs n old.contexts.met new_met level levels c.meet.new.self context on e met_n (λ m. c.in_ok-is_awaited.ensures.levels m ∙ ap (λ b. (is_among levels m && nat_le m level) || (b && eqb level m)) w) in
    let new = c.meet.new.self in
    let deepest : (m : ℕ) → is_among new m ≡ true → m ≤ level_of t n = λ m k. (let d = meet_deepest levels level m (is_among new m) c.waits-waits.result (c.in_ok-is_awaited.ensures.levels m) k in omega (arith, d, e)) in
    let places = c.meets-is_context.ensures.places ∙ h.0 in
    let over = c.rows_over.ensures ∙ ap (λ us. rows_below (slice_get us new_met) x.pre x.size old.last) places in
    let o = on_goes_over t vs n new_met new r.is_there more deepest s x.pre x.size old.last c.rows_over.result r.from r.to r.place (ap (λ (y : Row). y.size) r.row) h.1 over in
    (hit, o.within, o.unhit, (places, h.1, o.goes_on)))
