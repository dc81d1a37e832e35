use Rattle.std.proofs.Common.{◌≡◌, ◌++◌, ◌∙◌, ap, sym, subst, map, Ok, Err, Bool}
use Rattle.xq_atoms.specs.declared.refusals.Fault.TheVariants.{Code as OfCode}
use Rattle.xq_trees.specs.Items.{item_view, item_views}
use Rattle.xq_trees.specs.Tree.{Tree}
use Rattle.xq_trees.specs.Tuples.{value_at}
use Rattle.xq_trees.proofs.Lists.{all_append}
use Rattle.xq_tuples.specs.Views.{values_of}
use Rattle.xq_meaning.specs.Arguments.{effective}
use Rattle.xq_meaning.specs.Doing.{on_trees}
use Rattle.xq_meaning.specs.Forms as Forms
use Rattle.xq_meaning.specs.Operators.{operated}
use Rattle.xq_meaning.specs.PlanMeaning.{key_from, keys_equal, at_tuple, comparison}
use Rattle.xq_meaning.specs.Readings.{items_at, AreIn}
use Rattle.xq_operators.specs.Views.{GivesSequence, TupleIn, tuple_at, frame_at}
use Rattle.xq_operators.proofs.Growth.{stays, goes_on_to, frame_in_grown, are_in_grown, value_in}
use Rattle.xq_eval.specs.private.Results.{GivesPlain}
use Rattle.xq_eval.proofs.JoinLaws.{left_stops, right_stops, operator_stops, left_given, keys_told, plainly, plainly_in}
use Rattle.xq_eval.proofs.Loops.{handed_on}
use Rattle.xq_eval.proofs.pairs.are_equal.Goals as goal

pub returns-in_err-left-clause-goes : goal.returns-in_err-left-clause-goes
returns-in_err-left-clause-goes g c = c.in_err-left.ensures.goes

pub returns-in_err-right-clause-goes : goal.returns-in_err-right-clause-goes
returns-in_err-right-clause-goes g c = goes_on_to c.key_value.ensures.goes c.in_err-right.ensures.goes

pub returns-in_err-answer-clause-goes : goal.returns-in_err-answer-clause-goes
returns-in_err-answer-clause-goes g c = goes_on_to (goes_on_to c.key_value.ensures.goes c.key_value-2.ensures.goes) c.in_err-answer.ensures.goes

pub returns-in_err-effective-clause-goes : goal.returns-in_err-effective-clause-goes
returns-in_err-effective-clause-goes g c = goes_on_to (goes_on_to c.key_value.ensures.goes c.key_value-2.ensures.goes) c.operate.ensures.goes

pub returns-clause-goes : goal.returns-clause-goes
returns-clause-goes g c = goes_on_to (goes_on_to c.key_value.ensures.goes c.key_value-2.ensures.goes) c.operate.ensures.goes

pub returns-in_err-left-clause-gives : goal.returns-in_err-left-clause-gives
returns-in_err-left-clause-gives g c = λ clean inside tuple_in.
    let f = g.W.TreeSource.forest c.args.world.now in
    let f1 = g.W.TreeSource.forest c.key_value.new.world in
    let held = c.args.frame in
    let join = c.args.join.now in
    let tuple = values_of c.args.tuple.now in
    let slots_in = all_append (AreIn f) (values_of held.slots.now) tuple inside.slots_in tuple_in in
    let e = c.in_err-left.field-0.0 in
    let at = c.value-start.ensures in
    let left = subst (λ xs. GivesSequence (key_from join.left (items_at f xs) f) f1 (Err e)) at
    (c.in_err-left.ensures.gives clean inside (subst (AreIn f) (sym at) (value_in f join.left.slot (values_of held.slots.now ++ tuple) slots_in).0)) in
    handed_on (λ (b : Bool). b) plainly plainly_in _ f1 e c.from_residual.result c.from_residual.ensures.1 (left_stops f held join tuple f1 e left)

pub returns-in_err-right-clause-gives : goal.returns-in_err-right-clause-gives
returns-in_err-right-clause-gives g c = λ clean inside tuple_in.
    let f = g.W.TreeSource.forest c.args.world.now in
    let f1 = g.W.TreeSource.forest c.key_value.new.world in
    let f2 = g.W.TreeSource.forest c.key_value-2.new.world in
    let held = c.args.frame in
    let join = c.args.join.now in
    let tuple = values_of c.args.tuple.now in
    let slots = values_of held.slots.now ++ tuple in
    let slots_in = all_append (AreIn f) (values_of held.slots.now) tuple inside.slots_in tuple_in in
    let grows = c.key_value.ensures.goes.grows in
    let e = c.in_err-right.field-0.0 in
    let left = left_given f f1 (key_from join.left) (map item_view c.value-start.result.now) (value_at join.left.slot slots) (item_views c.in_ok-left.left) c.value-start.ensures
    (value_in f join.left.slot slots slots_in).0 (c.in_ok-left.ensures.gives (c.key_value-2.ensures.goes.was_clean clean) inside) in
    let at = c.value-start-2.ensures in
    let right_in = are_in_grown grows (value_at join.right.slot slots) (value_in f join.right.slot slots slots_in).0 in
    let right = subst (λ xs. GivesSequence (key_from join.right (items_at f1 xs) f1) f2 (Err e)) at
    (c.in_err-right.ensures.gives clean (frame_in_grown grows held inside) (subst (AreIn f1) (sym at) right_in)) in
    handed_on (λ (b : Bool). b) plainly plainly_in _ f2 e c.from_residual-in_err-right.result c.from_residual-in_err-right.ensures.1
    (right_stops f held join tuple f1 (item_views c.in_ok-left.left) grows slots_in left.1 f2 e right)

pub returns-in_err-answer-clause-gives : goal.returns-in_err-answer-clause-gives
returns-in_err-answer-clause-gives g c = λ clean inside tuple_in.
    let f = g.W.TreeSource.forest c.args.world.now in
    let f1 = g.W.TreeSource.forest c.key_value.new.world in
    let f2 = g.W.TreeSource.forest c.key_value-2.new.world in
    let f3 = g.W.TreeSource.forest c.operate.new.world in
    let held = c.args.frame in
    let join = c.args.join.now in
    let tuple = values_of c.args.tuple.now in
    let slots = values_of held.slots.now ++ tuple in
    let slots_in = all_append (AreIn f) (values_of held.slots.now) tuple inside.slots_in tuple_in in
    let grows = c.key_value.ensures.goes.grows in
    let more = c.key_value-2.ensures.goes.grows in
    let l = item_views c.in_ok-left.left in
    let r = item_views c.in_ok-right.right in
    let e = c.in_err-answer.field-0.0 in
    let clean2 = c.operate.ensures.goes.was_clean clean in
    let left = left_given f f1 (key_from join.left) (map item_view c.value-start.result.now) (value_at join.left.slot slots) l c.value-start.ensures
    (value_in f join.left.slot slots slots_in).0 (c.in_ok-left.ensures.gives (c.key_value-2.ensures.goes.was_clean clean2) inside) in
    let right = left_given f1 f2 (key_from join.right) (map item_view c.value-start-2.result.now) (value_at join.right.slot slots) r c.value-start-2.ensures
    (are_in_grown grows (value_at join.right.slot slots) (value_in f join.right.slot slots slots_in).0) (c.in_ok-right.ensures.gives clean2 (frame_in_grown grows held inside)) in
    let given = subst (λ op. GivesSequence (on_trees (λ trees. operated op trees (items_at f2 l) (items_at f2 r)) f2) f3 (Err e)) c.comparison.ensures
    (c.in_err-answer.ensures.gives clean (are_in_grown more l left.0) right.0) in
    handed_on (λ (b : Bool). b) plainly plainly_in _ f3 e c.from_residual-in_err-answer.result c.from_residual-in_err-answer.ensures.1
    (operator_stops f held join tuple f1 l grows slots_in left.1 f2 r more left.0 right.1 f3 e given)

pub returns-in_err-effective-clause-gives : goal.returns-in_err-effective-clause-gives
returns-in_err-effective-clause-gives g c = λ clean inside tuple_in.
    let f = g.W.TreeSource.forest c.args.world.now in
    let f1 = g.W.TreeSource.forest c.key_value.new.world in
    let f2 = g.W.TreeSource.forest c.key_value-2.new.world in
    let f3 = g.W.TreeSource.forest c.operate.new.world in
    let held = c.args.frame in
    let join = c.args.join.now in
    let tuple = values_of c.args.tuple.now in
    let slots = values_of held.slots.now ++ tuple in
    let slots_in = all_append (AreIn f) (values_of held.slots.now) tuple inside.slots_in tuple_in in
    let grows = c.key_value.ensures.goes.grows in
    let more = c.key_value-2.ensures.goes.grows in
    let l = item_views c.in_ok-left.left in
    let r = item_views c.in_ok-right.right in
    let answer = item_views c.in_ok-answer.answer in
    let clean2 = c.operate.ensures.goes.was_clean clean in
    let left = left_given f f1 (key_from join.left) (map item_view c.value-start.result.now) (value_at join.left.slot slots) l c.value-start.ensures
    (value_in f join.left.slot slots slots_in).0 (c.in_ok-left.ensures.gives (c.key_value-2.ensures.goes.was_clean clean2) inside) in
    let right = left_given f1 f2 (key_from join.right) (map item_view c.value-start-2.result.now) (value_at join.right.slot slots) r c.value-start-2.ensures
    (are_in_grown grows (value_at join.right.slot slots) (value_in f join.right.slot slots slots_in).0) (c.in_ok-right.ensures.gives clean2 (frame_in_grown grows held inside)) in
    let given = c.in_ok-answer.ensures.gives clean (are_in_grown more l left.0) right.0 in
    let is : on_trees (λ trees. operated (comparison join.equality) trees (items_at f2 l) (items_at f2 r)) f2 ≡ (Ok (items_at f3 answer), f3) =
    ap (λ op. on_trees (λ trees. operated op trees (items_at f2 l) (items_at f2 r)) f2) (sym c.comparison.ensures) ∙ given.1 in
    let told : Forms.tested (keys_equal join) (at_tuple (frame_at f held) (tuple_at f tuple)) f ≡ (effective (items_at f3 answer), f3) =
    keys_told f held join tuple f1 l grows slots_in left.1 f2 r more left.0 right.1 f3 answer is in
    let d : map item_view c.deref.result.now ≡ answer = ap (map item_view) c.deref.ensures.value in
    handed_on (λ (b : Bool). b) plainly plainly_in _ f3 (OfCode c.in_err-effective.field-0.0) c.from_residual-in_err-effective.result c.from_residual-in_err-effective.ensures.1
    (ap (λ o. o.0) told ∙ ap (λ xs. effective (items_at f3 xs)) (sym d) ∙ sym (c.in_err-effective.ensures f3))

pub returns-clause-gives : goal.returns-clause-gives
returns-clause-gives g c = λ clean inside tuple_in.
    let f = g.W.TreeSource.forest c.args.world.now in
    let f1 = g.W.TreeSource.forest c.key_value.new.world in
    let f2 = g.W.TreeSource.forest c.key_value-2.new.world in
    let f3 = g.W.TreeSource.forest c.operate.new.world in
    let held = c.args.frame in
    let join = c.args.join.now in
    let tuple = values_of c.args.tuple.now in
    let slots = values_of held.slots.now ++ tuple in
    let slots_in = all_append (AreIn f) (values_of held.slots.now) tuple inside.slots_in tuple_in in
    let grows = c.key_value.ensures.goes.grows in
    let more = c.key_value-2.ensures.goes.grows in
    let l = item_views c.in_ok-left.left in
    let r = item_views c.in_ok-right.right in
    let answer = item_views c.in_ok-answer.answer in
    let clean2 = c.operate.ensures.goes.was_clean clean in
    let left = left_given f f1 (key_from join.left) (map item_view c.value-start.result.now) (value_at join.left.slot slots) l c.value-start.ensures
    (value_in f join.left.slot slots slots_in).0 (c.in_ok-left.ensures.gives (c.key_value-2.ensures.goes.was_clean clean2) inside) in
    let right = left_given f1 f2 (key_from join.right) (map item_view c.value-start-2.result.now) (value_at join.right.slot slots) r c.value-start-2.ensures
    (are_in_grown grows (value_at join.right.slot slots) (value_in f join.right.slot slots slots_in).0) (c.in_ok-right.ensures.gives clean2 (frame_in_grown grows held inside)) in
    let given = c.in_ok-answer.ensures.gives clean (are_in_grown more l left.0) right.0 in
    let is : on_trees (λ trees. operated (comparison join.equality) trees (items_at f2 l) (items_at f2 r)) f2 ≡ (Ok (items_at f3 answer), f3) =
    ap (λ op. on_trees (λ trees. operated op trees (items_at f2 l) (items_at f2 r)) f2) (sym c.comparison.ensures) ∙ given.1 in
    let told : Forms.tested (keys_equal join) (at_tuple (frame_at f held) (tuple_at f tuple)) f ≡ (effective (items_at f3 answer), f3) =
    keys_told f held join tuple f1 l grows slots_in left.1 f2 r more left.0 right.1 f3 answer is in
    let d : map item_view c.deref.result.now ≡ answer = ap (map item_view) c.deref.ensures.value in
    let judged : effective (items_at f3 answer) ≡ Ok c.in_ok-effective.field-0 =
    ap (λ xs. effective (items_at f3 xs)) (sym d) ∙ sym (c.in_ok-effective.ensures f3) in
    (tt, told ∙ ap (λ o. (o, f3)) judged)
