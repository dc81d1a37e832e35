use Rattle.std.proofs.Common.{ℕ, IfSome, ap, subst, ◌∙◌, length, ◌≡◌}
use Rattle.std.specs.Global.{Vec}
use Rattle.xq_sources.specs.Sources.{tree_at}
use Rattle.xq_axes.specs.private.Hits.{is_among}
use Rattle.xq_axes.specs.private.KnownParents.{AreTold}
use Rattle.xq_axes.proofs.Owning.{owners_told}
use Rattle.xq_axes.proofs.owners.owners_of.Goals as goal

pub returns-clause-owners : goal.returns-clause-owners
returns-clause-owners g c = λ clean.
    let t = tree_at (g.L.TreeSource.forest c.args.source.now) c.args.tree in
    let places = c.in-Some.places.now in
    let told = c.in-Some-2.told in
    let are = subst (λ o. IfSome o (λ (v : Vec ℕ). AreTold t places v.items)) c.in-Some-2.is (c.in_ok-told.ensures.told clean) in
    let many = subst (λ o. IfSome o (λ (v : Vec ℕ). length v.items ≡ length places)) c.in-Some-2.is c.in_ok-told.ensures.all in
    owners_told t c.args.name.now c.args.value.now places told.items c.in_ok-in_order.field-0.items
    (c.in-Some.ensures clean) are many (λ n. c.in_ok-in_order.ensures.among n ∙ ap (λ l. is_among l n) c.deref.ensures.value)
