use Rattle.std.proofs.Common.{◌≡◌, ◌∙◌, refl, map, length, Ok, arith}
use Rattle.std.proofs.lemmas.List.{length-map}
use Rattle.std.specs.Global.{Vec}
use Rattle.xq_trees.specs.declared.items.Item.{Item as HeldItem}
use Rattle.xq_trees.specs.Items.{item_view, item_views}
use Rattle.xq_tuples.specs.Views.{values_of}
use Rattle.xq_meaning.specs.Doing.{for_each}
use Rattle.xq_meaning.specs.PlanMeaning.{equal_items}
use Rattle.xq_operators.specs.Views.{tuple_at, tuples_at, lists_of, frame_at, TupleIn}
use Rattle.xq_joins.specs.Joins.{Matches}
use Rattle.xq_eval.proofs.GroupLaws.{groups_steady, if_both, if_always}
use Rattle.xq_eval.proofs.groups.steady_groups.Goals as goal

pub returns-clause-lists : goal.returns-clause-lists
returns-clause-lists g c = λ clean inside tuples_in items_in range is.
    let f = g.W.TreeSource.forest c.args.world.now in
    let held = c.args.frame in
    let join = c.args.join.now in
    let tuples = c.args.tuples.now in
    let views = map item_view c.args.items.now in
    if_both (λ (ls : Vec (Vec HeldItem)). Matches f join (values_of held.slots.now) tuples views (lists_of ls)) (λ (ls : Vec (Vec HeldItem)). length ls.items ≡ length tuples)
    (λ (ls : Vec (Vec HeldItem)). TupleIn f (lists_of ls) × (for_each (equal_items range join (frame_at f held)) (tuples_at f tuples) f ≡ (Ok (tuple_at f (lists_of ls)), f))) c.matching.result
    (λ ls found long. (
      found.inside,
      groups_steady f held join range views tuples (lists_of ls) (length-map ls.items item_views ∙ long) (c.if-not-is_steady.ensures refl) is (found.apart (frame_at f held) refl),
    ))
    (c.matching.ensures.lists clean inside.slots_in tuples_in items_in) c.matching.ensures.long

pub returns-clause-before : goal.returns-clause-before
returns-clause-before g c =
    let f = g.W.TreeSource.forest c.args.world.now in
    let long : length f ≡ c.args.before = omega (arith, c.if-trees-before.false, c.trees.ensures) in
    if_always (length f ≡ c.args.before) c.matching.result long
