use Rattle.std.proofs.Common.{◌+◌, ◌∷◌, [], ◌++◌, ◌&&◌, cond, sym, ap, subst, ◌∙◌, arith}
use Rattle.xq_sources.specs.Lent.{row_lent}
use Rattle.xq_axes.specs.private.Hits.{is_wanted, row_passes}
use Rattle.xq_axes.proofs.Picking.{picked, picked_over, wanted_is}
use Rattle.xq_axes.proofs.picks.PickerVisitor.visit.Goals as goal

pub returns : goal.returns
returns g c = λ start t s n r h. (
    let j = c.in_ok-verdict.ensures start.judge t s n r h.0 in
    let vs = g.J.Judge.contexts start.judge in
    let axis = g.J.Judge.axis start.judge in
    let x = c.args.row.now in
    let old = c.args.self.now in
    let new = c.pick.new.self in
    let verdict = c.in_ok-verdict.verdict in
    let hit = verdict.is_hit in
    let b = hit && row_passes old.test.now (row_lent x) in
    let w = wanted_is axis start.test.now old.test.now t vs n x hit r.row h.1 j.0 in
    let f = c.in_ok-pick.ensures.found ∙ ap (λ p. old.found.items ++ cond b (p ∷ []) []) r.place ∙ picked (is_wanted axis start.test.now t vs) n old.found.items b h.2 w in (
      j.1,
      (
        subst (λ k. g.J.Judge.has_judged start.judge k t s (n + 1 + verdict.over)) (sym c.in_ok-pick.ensures.judge) j.3,
        c.in_ok-pick.ensures.test ∙ h.1,
        picked_over axis start.test.now t vs (n + 1) (n + 1 + verdict.over) new.found.items (omega arith) j.2 f,
      ),
    ))
