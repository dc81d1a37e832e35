use Rattle.std.proofs.Common.{subst}
use Rattle.xq_functions.specs.Answers.{TellsAtom}
use Rattle.xq_meaning.specs.Functions.{of_one}
use Rattle.xq_operators.specs.Views.{frame_at, nodes_in}
use Rattle.xq_joins.proofs.Told.{step_places, call_tells}
use Rattle.xq_joins.proofs.atoms.atom_of_call.Goals as goal

pub returns-clause-tells : goal.returns-clause-tells
returns-clause-tells g c = λ k inside.
    let f = g.L.TreeSource.forest c.args.source.now in
    let function = c.args.function in
    let addresses = c.args.frame.addresses.now in
    let part = c.in-Some.part.now in
    let step = c.in-Some-step_at.step in
    let at = c.in-Some-step_at.ensures in
    let tree = step.node.tree in
    let places = c.in_ok-places.places.items in
    let on = c.in_ok-places.ensures.nodes (c.call_on_places.ensures.was_clean k) (at.there f inside) in
    let gives = step_places c.args.frame part step f places at inside on in
    let told = c.call_on_places.ensures.tells k addresses in
    let here = subst (λ h. TellsAtom (of_one function h addresses (nodes_in h tree c.as_slice.result.now)) c.call_on_places.result) c.places_on_axis.ensures.keeps told in
    call_tells function part c.args.parts.now (frame_at f c.args.frame) f (nodes_in f tree places) c.call_on_places.result c.in-Some.ensures gives
    (subst (λ ps. TellsAtom (of_one function f addresses (nodes_in f tree ps)) c.call_on_places.result) c.as_slice.ensures here)
