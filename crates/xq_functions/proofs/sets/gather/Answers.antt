use Rattle.std.proofs.Common.{◌≡◌, Ok, Err, map, ap, sym, ◌∙◌, subst}
use Rattle.std.specs.Global.{Vec}
use Rattle.xq_atoms.specs.declared.refusals.Fault.{Fault}
use Rattle.xq_atoms.specs.declared.refusals.Code.TheVariants.{XPTY0018}
use Rattle.xq_trees.specs.Items.{item_view, item_views}
use Rattle.xq_meaning.specs.Operators.{all_atoms, are_atoms}
use Rattle.xq_meaning.specs.Readings.{items_at}
use Rattle.xq_functions.specs.Answers.{lent_items}
use Rattle.xq_atoms.specs.Answers.{Gives}
use Rattle.xq_trees.specs.declared.items.Node.{Node as Spot}
use Rattle.xq_functions.specs.private.Places.{all_spots}
use Rattle.xq_functions.proofs.SetLemmas.{gathered-nodes, gathered-others, nodes-in}
use Rattle.xq_functions.proofs.sets.gather.Goals as goal

pub returns-in-Ok : goal.returns-in-Ok
returns-in-Ok c trees inside =
    let views = item_views c.args.items in
    let spots = c.in-Ok.spots.items in
    let e = ap (λ xs. all_spots XPTY0018 (map item_view xs)) (sym c.deref.ensures.value) ∙ c.in-Ok.ensures in
    gathered-nodes trees views spots e ∙ ap (λ items. Ok items) (sym (c.in_ok-in_order-in-Ok.ensures.items trees (nodes-in XPTY0018 trees views spots inside e)))

pub returns-then-are_atoms : goal.returns-then-are_atoms
returns-then-are_atoms c trees inside =
    let views = item_views c.args.items in
    let found : all_spots XPTY0018 (map item_view c.deref.result.now) ≡ Err c.in-Err-Code.field-0-0 = subst (λ (fault : Fault). Gives (λ (spots : Vec Spot). spots.items) (all_spots XPTY0018 (map item_view c.deref.result.now)) (Err fault)) c.in-Err-Code.field-0-is c.in-Err-Code.ensures in
    let e = ap (λ xs. all_spots XPTY0018 (map item_view xs)) (sym c.deref.ensures.value) ∙ found in
    let is = c.are_atoms.ensures trees ∙ ap (λ xs. are_atoms (lent_items trees xs)) c.deref-in-Err-Code.ensures.value in
    gathered-others trees views c.in-Err-Code.field-0-0 e c.are_atoms.result is ∙ ap (λ b. all_atoms b (items_at trees views)) c.if-are_atoms.true

pub returns : goal.returns
returns c trees inside =
    let views = item_views c.args.items in
    let found : all_spots XPTY0018 (map item_view c.deref.result.now) ≡ Err c.in-Err-Code.field-0-0 = subst (λ (fault : Fault). Gives (λ (spots : Vec Spot). spots.items) (all_spots XPTY0018 (map item_view c.deref.result.now)) (Err fault)) c.in-Err-Code.field-0-is c.in-Err-Code.ensures in
    let e = ap (λ xs. all_spots XPTY0018 (map item_view xs)) (sym c.deref.ensures.value) ∙ found in
    let is = c.are_atoms.ensures trees ∙ ap (λ xs. are_atoms (lent_items trees xs)) c.deref-in-Err-Code.ensures.value in
    gathered-others trees views c.in-Err-Code.field-0-0 e c.are_atoms.result is ∙ ap (λ b. all_atoms b (items_at trees views)) c.if-are_atoms.false
