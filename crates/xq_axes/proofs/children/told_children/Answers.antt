use Rattle.std.proofs.Common.{◌≡◌, ℕ, refl, subst, ◌∙◌}
use Rattle.std.specs.Global.{Vec}
use Rattle.std.specs.Prelude.{filter, IfSome, Some}
use Rattle.xq_trees.specs.Forest.{count}
use Rattle.xq_trees.specs.Tree.{nodes}
use Rattle.xq_sources.specs.Sources.{tree_at}
use Rattle.xq_meaning.specs.declared.node_tests.Test.TheVariants as tests
use Rattle.xq_axes.specs.private.Hits.{below_where}
use Rattle.xq_axes.specs.private.Named.{is_below_one}
use Rattle.xq_axes.proofs.ManyChildren.{named_children}
use Rattle.xq_axes.proofs.Named.{is_named_at, named_below}
use Rattle.xq_axes.proofs.children.told_children.Goals as goal

pub returns : goal.returns
returns g c = λ k up. (
    let t = tree_at (g.L.TreeSource.forest c.args.source.now) c.args.tree in
    let vs = c.args.places.now in
    let name = c.args.name.now in
    let places = c.in-Some.named.now in
    let all : places ≡ below_where (is_named_at t name) (count (nodes t)) = c.in-Some.ensures k ∙ named_below t name in
    let told = subst (λ o. IfSome o (λ (found : Vec ℕ). found.items ≡ filter (is_below_one t vs) places)) c.in-Some-2.is (c.in_ok-found.ensures k up) in
    c.from_vec.ensures.items ∙ named_children t vs places c.in-Some-2.found.items (tests.Element (Some name)) name refl all told)
