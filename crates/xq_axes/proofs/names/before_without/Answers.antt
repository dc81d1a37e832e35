use Rattle.std.proofs.Common.{◌≡◌, ℕ, Bool, take, not, sym, ap, subst, ◌∙◌}
use Rattle.std.specs.Prelude.{filter}
use Rattle.std.specs.Global.{Vec}
use Rattle.std.proofs.lemmas.Result.{IfOk-weaker}
use Rattle.xq_axes.specs.private.Hits.{below_where, is_among, IsRising, IsReached}
use Rattle.xq_axes.proofs.Named.{below_rises, reached_take}
use Rattle.xq_axes.proofs.names.before_without.Goals as goal

pub returns : goal.returns
returns c = λ f n e h. (
    let vs = c.args.places.now in
    let place = c.args.place in
    let last = c.count_before-last.result in
    let apart : ℕ → Bool = λ p. not (is_among c.args.others.now p) in
    let a : IsReached vs last c.from.result = c.count_before-last.ensures.before (subst IsRising (sym e) (below_rises f n)) in
    let b : IsReached (below_where f n) last place = subst (λ xs. IsReached xs last place) e (subst (λ m. IsReached vs last m) c.from.ensures a) in
    let front : take last vs ≡ below_where f place = ap (take last) e ∙ reached_take f n place last h b in
    IfOk-weaker c.keep_others.result (λ (kept : Vec ℕ). kept.items ≡ filter apart (take last vs)) (λ (kept : Vec ℕ). kept.items ≡ filter apart (below_where f place))
    (λ kept k. k ∙ ap (filter apart) front) c.keep_others.ensures)
