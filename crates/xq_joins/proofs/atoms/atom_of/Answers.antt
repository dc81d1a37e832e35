use Rattle.std.specs.Prelude.{IfSome}
use Rattle.std.proofs.Common.{◌≡◌, ◌∷◌, [], ap, sym, subst, ◌∙◌}
use Rattle.xq_atoms.specs.Atom.{atomic_of}
use Rattle.xq_meaning.specs.declared.plans.Plan.TheVariants as plan
use Rattle.xq_meaning.specs.Items.{atomized}
use Rattle.xq_operators.specs.Views.{frame_at, nodes_in}
use Rattle.xq_joins.proofs.Told.{step_places, call_atom, step_tells}
use Rattle.xq_joins.proofs.atoms.atom_of.Goals as goal

pub returns-in-Call-clause-tells : goal.returns-in-Call-clause-tells
returns-in-Call-clause-tells g c = λ k inside.
    let f = g.L.TreeSource.forest c.args.source.now in
    let parts = c.as_slice.result.now in
    call_atom c.in-Call.function c.args.plan.now parts (frame_at f c.args.frame) f c.atom_of_call.result (c.in-Call.is ∙ ap (plan.Call c.in-Call.function) (sym c.as_slice.ensures)) (c.atom_of_call.ensures.tells k inside)

pub returns-clause-tells : goal.returns-clause-tells
returns-clause-tells g c = λ k inside.
    let f = g.L.TreeSource.forest c.args.source.now in
    let step = c.in-Some.step in
    let at = c.in-Some.ensures in
    let tree = step.node.tree in
    let places = c.in_ok-places.places.items in
    let on = c.in_ok-places.ensures.nodes (c.only_atom.ensures.was_clean k) (at.there f inside) in
    let gives = step_places c.args.frame c.args.plan.now step f places at inside on in
    let one = c.in_ok-atom.ensures.atom k in
    let here = subst (λ h. IfSome c.in_ok-atom.atom (λ a. atomized h (nodes_in h tree c.as_slice-2.result.now) ≡ atomic_of a ∷ [])) c.places_on_axis.ensures.keeps one in
    step_tells c.args.plan.now (frame_at f c.args.frame) f (nodes_in f tree places) c.in_ok-atom.atom gives
    (subst (λ ps. IfSome c.in_ok-atom.atom (λ a. atomized f (nodes_in f tree ps) ≡ atomic_of a ∷ [])) c.as_slice-2.ensures here)
