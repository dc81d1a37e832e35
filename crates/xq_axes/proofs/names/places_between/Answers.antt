use Rattle.std.proofs.Common.{◌≡◌, ◌+◌, ◌-◌, ◌++◌, length, take, drop, sym, ap, subst, ◌∙◌, arith}
use Rattle.std.proofs.lemmas.List.{length-drop, take_all}
use Rattle.xq_axes.specs.private.Hits.{below_where, IsRising, IsReached}
use Rattle.xq_axes.proofs.Named.{below_rises, reached_take, reached_split}
use Rattle.xq_axes.proofs.names.places_between.Goals as goal

pub returns : goal.returns
returns c = λ f n e h k. (
    let vs = c.args.places.now in
    let low = c.args.low in
    let high = c.args.high in
    let last = c.count_before-last.result in
    let first = c.count_before-first.result in
    let up = take last vs in
    let a : IsReached vs last (c.from.result + 1) = c.count_before-last.ensures.before (subst IsRising (sym e) (below_rises f n)) in
    let b : IsReached (below_where f n) last (high + 1) = subst (λ xs. IsReached xs last (high + 1)) e (subst (λ m. IsReached vs last (m + 1)) c.from.ensures a) in
    let whole : up ≡ below_where f (high + 1) = ap (take last) e ∙ reached_take f n (high + 1) last (omega (arith, k)) b in
    let d : IsReached up first c.from-2.result = c.count_before-first.ensures.before (subst IsRising (sym whole) (below_rises f (high + 1))) in
    let r : IsReached (below_where f (high + 1)) first low = subst (λ xs. IsReached xs first low) whole (subst (λ m. IsReached up first m) c.from-2.ensures d) in
    let many = length-drop first up in
    let cut : take (length up - first) (drop first up) ≡ drop first (below_where f (high + 1)) = take_all (length up - first) (drop first up) (omega (arith, many)) ∙ ap (drop first) whole in
    reached_split f (high + 1) low first h r ∙ ap (λ ys. below_where f low ++ ys) (sym cut))
