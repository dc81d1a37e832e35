use Rattle.std.proofs.Common.{◌≡◌, ◌<◌, Some, length, set, rc_value, refl, ap, sym, subst, ◌∙◌, arith}
use Rattle.std.specs.Prelude.{slice_get}
use Rattle.xq_sources.specs.Sources.{tree_at}
use Rattle.xq_store.specs.private.Shelves.{HasReached, Reaches, kept_rows}
use Rattle.xq_store.proofs.FrontLaws.{as_many, fronts_set, front_set, its_front, on_ok_then}
use Rattle.xq_store.proofs.fronts.read_on.Goals as goal

pub returns-clause-fronts : goal.returns-clause-fronts
returns-clause-fronts g c = λ clean m stands trees listed are.
    let at = c.args.tree in
    let fronts = c.make_room.new.shelf.fronts.items in
    let list = c.deref.ensures ∙ ap rc_value (c.make_room.ensures.addresses ∙ c.has_reached.ensures.addresses) in
    let here : slice_get c.args.shelf.now.addresses.value at ≡ Some c.in-Some.address.now = subst (λ l. slice_get l at ≡ Some c.in-Some.address.now) list c.in-Some.ensures in
    let has = listed.found at c.in-Some.address.now here in
    let roomy = c.make_room.ensures.fronts trees (c.has_reached.ensures.fronts trees are) in
    let within : at < length fronts = omega (arith, c.in-Some-get_mut.ensures.variant.0 refl, c.make_room.new.shelf.fronts.ok.0) in
    let before = its_front trees fronts at c.in-Some-get_mut.front.now roomy within c.in-Some-get_mut.ensures.value in
    fronts_set trees fronts at c.read_front-read.new.front roomy (c.read_front-read.ensures.front clean m stands (tree_at trees at) has (c.read_at.ensures (tree_at trees at) before))

pub returns-clause-reached : goal.returns-clause-reached
returns-clause-reached g c = λ clean m stands trees listed are.
    let at = c.args.tree in
    let fronts = c.make_room.new.shelf.fronts.items in
    let list = c.deref.ensures ∙ ap rc_value (c.make_room.ensures.addresses ∙ c.has_reached.ensures.addresses) in
    let here : slice_get c.args.shelf.now.addresses.value at ≡ Some c.in-Some.address.now = subst (λ l. slice_get l at ≡ Some c.in-Some.address.now) list c.in-Some.ensures in
    let has = listed.found at c.in-Some.address.now here in
    let roomy = c.make_room.ensures.fronts trees (c.has_reached.ensures.fronts trees are) in
    let within : at < length fronts = omega (arith, c.in-Some-get_mut.ensures.variant.0 refl, c.make_room.new.shelf.fronts.ok.0) in
    let before = its_front trees fronts at c.in-Some-get_mut.front.now roomy within c.in-Some-get_mut.ensures.value in
    let many = as_many trees fronts roomy in
    on_ok_then (Reaches (tree_at trees at) c.args.place (kept_rows c.read_front-read.new.front)) (HasReached trees (set fronts at c.read_front-read.new.front) at c.args.place) c.read_front-read.result
    (λ reaches. record { tree_in = omega (arith, within, many); reaches = subst (Reaches (tree_at trees at) c.args.place) (sym (front_set fronts at c.read_front-read.new.front within)) reaches })
    (c.read_front-read.ensures.reaches clean m stands (tree_at trees at) has (c.read_at.ensures (tree_at trees at) before))
