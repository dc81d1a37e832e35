use Rattle.std.proofs.Common.{◌≡◌, ℕ, ◌-◌, ◌<◌, length, IfSome, sym, subst, ◌∙◌, arith}
use Rattle.std.specs.Global.{Vec}
use Rattle.smallvec.specs.SmallVec.{SmallVec}
use Rattle.xq_trees.specs.Forest.{count}
use Rattle.xq_trees.specs.Tree.{nodes}
use Rattle.xq_trees.specs.declared.Axis.TheVariants as axis
use Rattle.xq_sources.specs.Sources.{tree_at}
use Rattle.xq_axes.specs.private.Hits.{below_where}
use Rattle.xq_axes.specs.private.Passing.{is_before_node, places_above}
use Rattle.xq_axes.proofs.Lists.{got_none}
use Rattle.xq_axes.proofs.Ranges.{empty_step, last_is}
use Rattle.xq_axes.proofs.NamedAround.{before_all}
use Rattle.xq_axes.proofs.passing.search_before.Goals as goal

pub returns-in_default-clause-found : goal.returns-in_default-clause-found
returns-in_default-clause-found g c = λ k up. (
    let vs = c.args.places.now in
    let n = got_none vs (length vs - 1) (sym c.last_of.ensures ∙ c.in_default.is) in
    let t = tree_at (g.L.TreeSource.forest c.args.source.now) c.args.tree in
    c.new.ensures.items ∙ empty_step axis.Preceding c.args.test.now t vs (count (nodes t)) (omega (arith, n)))

pub returns-clause-found : goal.returns-clause-found
returns-clause-found g c = λ k up. (
    let vs = c.args.places.now in
    let t = tree_at (g.L.TreeSource.forest c.args.source.now) c.args.tree in
    let last = c.in-Some.last in
    let test = c.args.test.now in
    let l = last_is vs last up (sym c.in-Some.ensures) in
    let there = subst (λ o. IfSome o (λ (above : Vec ℕ). last < count (nodes t))) c.in-Some-2.is (c.in_ok-above.ensures.there k) in
    let above = subst (λ o. IfSome o (λ (above : Vec ℕ). above.items ≡ places_above t last)) c.in-Some-2.is (c.in_ok-above.ensures.above k) in
    let found = subst (λ o. IfSome o (λ (found : SmallVec ℕ). found.items ≡ below_where (is_before_node test t last) last)) c.in-Some-3.is (c.in_ok-found.ensures k there (c.deref.ensures.value ∙ above)) in
    found ∙ before_all t vs test last l (omega (arith, there)))

pub returns-2-clause-found : goal.returns-2-clause-found
returns-2-clause-found g c = λ k up. c.walk_before.ensures.found k (last_is c.args.places.now c.in-Some.last up (sym c.in-Some.ensures))

pub returns-2-clause-rows : goal.returns-2-clause-rows
returns-2-clause-rows g c = λ k up. c.walk_before.ensures.rows k (last_is c.args.places.now c.in-Some.last up (sym c.in-Some.ensures))
