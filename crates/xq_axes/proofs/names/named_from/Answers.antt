use Rattle.std.proofs.Common.{◌≡◌, ◌-◌, ◌++◌, length, take, drop, sym, ap, subst, ◌∙◌, arith}
use Rattle.std.proofs.lemmas.List.{length-drop, take_all}
use Rattle.xq_trees.specs.Forest.{count}
use Rattle.xq_trees.specs.Tree.{nodes}
use Rattle.xq_sources.specs.Sources.{tree_at}
use Rattle.xq_axes.specs.private.Hits.{below_where, IsRising, IsReached}
use Rattle.xq_axes.proofs.Named.{is_named_at, named_below, below_rises, reached_split}
use Rattle.xq_axes.proofs.NamedAround.{named_after}
use Rattle.xq_axes.proofs.names.named_from.Goals as goal

pub returns : goal.returns
returns g c = λ k h wanted is none. (
    let t = tree_at (g.L.TreeSource.forest c.args.source.now) c.args.tree in
    let n = count (nodes t) in
    let name = c.in-Some.name.now in
    let low = c.args.low in
    let vs = c.in-Some-named.places.now in
    let first = c.count_before-first.result in
    let f = is_named_at t name in
    let e : vs ≡ below_where f n = c.in-Some-named.ensures k ∙ named_below t name in
    let a : IsReached vs first c.from.result = c.count_before-first.ensures.before (subst IsRising (sym e) (below_rises f n)) in
    let b : IsReached (below_where f n) first low = subst (λ xs. IsReached xs first low) e (subst (λ m. IsReached vs first m) c.from.ensures a) in
    let many = length-drop first vs in
    let cut : take (length vs - first) (drop first vs) ≡ drop first (below_where f n) = take_all (length vs - first) (drop first vs) (omega (arith, many)) ∙ ap (drop first) e in
    c.in_ok-into_places.ensures
    ∙ c.in_ok-extend.ensures.ok
    ∙ ap (λ xs. xs ++ take (length vs - first) (drop first vs)) c.new-found.ensures.items
    ∙ cut
    ∙ named_after t c.args.test.now name wanted low (drop first (below_where f n)) c.in-Some.ensures h is none (reached_split f n low first h b))
