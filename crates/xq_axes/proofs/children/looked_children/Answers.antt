use Rattle.std.proofs.Common.{◌≡◌, ℕ, refl, subst, ◌∙◌}
use Rattle.std.specs.Global.{Vec}
use Rattle.std.specs.Prelude.{filter, IfSome, Some}
use Rattle.xq_sources.specs.Sources.{tree_at}
use Rattle.xq_meaning.specs.declared.node_tests.Test.TheVariants as tests
use Rattle.xq_axes.specs.private.Named.{is_below_one}
use Rattle.xq_axes.proofs.LookedBelow.{named_is}
use Rattle.xq_axes.proofs.ManyChildren.{named_children}
use Rattle.xq_axes.proofs.children.looked_children.Goals as goal

pub returns : goal.returns
returns g c = λ k name is up. (
    let t = tree_at (g.L.TreeSource.forest c.args.source.now) c.args.tree in
    let vs = c.args.places.now in
    let places = c.args.named.now in
    let told = subst (λ o. IfSome o (λ (found : Vec ℕ). found.items ≡ filter (is_below_one t vs) places)) c.in-Some.is (c.in_ok-told.ensures k up) in
    c.from_vec.ensures.items ∙ named_children t vs places c.in-Some.found.items (tests.Element (Some name)) name refl (named_is name t places is) told)
