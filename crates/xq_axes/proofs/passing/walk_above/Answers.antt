use Rattle.std.proofs.Common.{◌≡◌, ℕ, ◌-◌, length, refl, sym, ap, subst, ◌∙◌, arith}
use Rattle.smallvec.specs.SmallVec.{SmallVec}
use Rattle.xq_trees.specs.Forest.{count}
use Rattle.xq_trees.specs.Tree.{nodes}
use Rattle.xq_sources.specs.Sources.{tree_at}
use Rattle.xq_axes.specs.Reads.{span, span_end}
use Rattle.xq_axes.specs.private.Hits.{is_wanted, below_where, IsRising, IsReached}
use Rattle.xq_axes.specs.private.Passing.{axis_above}
use Rattle.xq_axes.proofs.Lists.{got_none, reached_none}
use Rattle.xq_axes.proofs.Sizes.{OnOk-if}
use Rattle.xq_axes.proofs.Ranges.{empty_step, last_is, above_all}
use Rattle.xq_axes.proofs.Scans.{above_bound}
use Rattle.xq_axes.proofs.passing.walk_above.Goals as goal

pub returns-in-None-clause-found : goal.returns-in-None-clause-found
returns-in-None-clause-found g c = λ k up. (
    let vs = c.args.places.now in
    let n = got_none vs (length vs - 1) (sym c.in-None.ensures) in
    let t = tree_at (g.L.TreeSource.forest c.args.source.now) c.args.tree in
    c.new.ensures.items ∙ empty_step (axis_above c.args.or_self) c.args.test.now t vs (count (nodes t)) (omega (arith, n)))

pub returns-in-Some-clause-found : goal.returns-in-Some-clause-found
returns-in-Some-clause-found g c = λ k up. (
    let vs = c.args.places.now in
    let us = c.new-contexts.result.places.now in
    let t = tree_at (g.L.TreeSource.forest c.args.source.now) c.args.tree in
    let last = c.in-Some.last in
    let a = axis_above c.args.or_self in
    let test = c.args.test.now in
    let same : us ≡ vs = c.new-contexts.ensures.places in
    let l = last_is vs last up (sym c.in-Some.ensures) in
    let m = span_end t (span 0 last) in
    let reached = subst (λ i. IsReached us i 0) (sym c.new-contexts.ensures.met) (reached_none us) in
    let w = c.search_rows.ensures.found k (refl, refl, refl, subst (λ ws. IsRising ws) (sym same) up, reached) refl in
    OnOk-if c.search_rows.result (λ (found : SmallVec ℕ). found.items ≡ below_where (is_wanted a test t us) m) (λ (found : SmallVec ℕ). found.items ≡ below_where (is_wanted a test t vs) (count (nodes t)))
    (λ found e. e ∙ ap (λ ws. below_where (is_wanted a test t ws) m) same ∙ above_all c.args.or_self test t vs last l) w)

pub returns-in-Some-clause-rows : goal.returns-in-Some-clause-rows
returns-in-Some-clause-rows g c = λ k up. (
    let vs = c.args.places.now in
    let t = tree_at (g.L.TreeSource.forest c.args.source.now) c.args.tree in
    let l = last_is vs c.in-Some.last up (sym c.in-Some.ensures) in
    let b = above_bound c.args.or_self t vs c.in-Some.last l in
    let r = c.search_rows.ensures.rows k in
    omega (arith, b, r))
