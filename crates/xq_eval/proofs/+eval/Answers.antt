use Rattle.std.proofs.Common.{rules, to_z, of_z, w64, ◌≡◌, ◌++◌, ◌+◌, ◌-◌, ◌*◌, List, [], ◌∷◌, map, subst, sym, ap, ◌∙◌, Ok, Err, arith, length, suc, add-one, refl, Bool, true, false, ◌<◌, ◌≤◌, ◌^◌, take, drop, not, Some}
use Rattle.std.specs.Global.{Vec, Global}
use Rattle.std.proofs.lemmas.List.{map-append, drop_all, length-map, length-append, append-nil, take_at, take_all}
use Rattle.xq_operators.specs.declared.contexts.EvalContext.{EvalContext as Held}
use Rattle.xq_atoms.specs.Atom.{Atomic, Integer, String as AtomicString, atomic_of}
use Rattle.xq_atoms.specs.declared.atoms.Atom.{Atom as AtomHeld}
use Rattle.xq_atoms.specs.declared.refusals.Fault.TheVariants.{Code as OfCode}
use Rattle.xq_trees.specs.Tuples.{Tuple, expanded, numbered, bound, satisfying}
use Rattle.xq_trees.specs.Items.{ItemView, Place as NodeAt, Value, item_view, item_views}
use Rattle.xq_eval.specs.declared.positions.ByPosition.{ByPosition}
use Rattle.xq_eval.specs.private.Positions.{IsPositional}
use Rattle.xq_eval.specs.private.Numbers.{TellsNumber}
use Rattle.xq_eval.proofs.PositionalPredicates.{same_number}
use Rattle.xq_tuples.specs.Views.{slot_items, values_of}
use Rattle.xq_meaning.specs.Items.{Item, Node, Atom, atomized}
use Rattle.xq_meaning.specs.Arguments.{atomic, boolean, effective}
use Rattle.xq_meaning.specs.Functions.{Focus as Spot}
use Rattle.xq_meaning.specs.Operators.{keeps, operated, signed, gathered}
use Rattle.xq_meaning.specs.Steps.{focuses, focuses_from, in_axis_order}
use Rattle.xq_meaning.specs.Readings.{node_at, item_at, items_at, IsIn, AreIn}
use Rattle.xq_meaning.specs.declared.plans.Plan.{Plan, size-Plan}
use Rattle.xq_meaning.specs.declared.plans.Plan.TheVariants as plan
use Rattle.xq_meaning.specs.declared.plans.Plan.TheViews.{sized-Quantified, sized-Chain, sized-If, sized-Filter, sized-Flwor, sized-Path, sized-Named, sized-Arrow, sized-Map, sized-For}
use Rattle.xq_meaning.specs.declared.plans.PlanClause.{size-PlanClause}
use Rattle.xq_meaning.specs.declared.plans.PlanStep.{size-PlanStep}
use denote.Param.Weighed.{most, at_most}
use Prim.Native.Nat.{max}
use Rattle.xq_expressions.specs.declared.signatures.Function.{Function}
use Rattle.xq_meaning.specs.declared.operators.Operator.{Operator}
use Rattle.xq_meaning.specs.Doing.{◌>>=◌, Outcome, go_on, give, judged, on_trees, collected, in_turn, more, one_more, for_each, first_that}
use Rattle.xq_meaning.specs.PlanMeaning.{if_equal, equal_items, Frame, Meaning, at_carried, flwor, plan_mean, plan_clause_mean, plan_step_mean, at_tuple, next_clause, next_step}
use Rattle.xq_meaning.proofs.PlanEquations.{plan-Int, plan-Str, plan-Root, plan-Step, plan-Named, plan-Unnamed, plan-Call, plan-Quantified, clause-Group, clause-Order, clause-Refused, clause-Join, clause-GroupJoin, step-Scan, plan-Dec, plan-Slot, plan-ContextItem, plan-Sequence, plan-Chain, plan-Unary, plan-If, plan-Or, plan-And, plan-Filter, plan-Path, plan-Flwor, step-Each, clause-For, clause-Let, clause-Where, clause-Count, plan-Arrow, plan-Map}
use Rattle.xq_meaning.proofs.Turns.{begun_then}
use Rattle.xq_operators.specs.Views.{order_specs, calling, ordering, after_double_slash, parents_below, plant_named, plant_unnamed, tuple_at, tuples_at, lists_of, spot_at, frame_at, TupleIn, TuplesIn, GivesNode, GivesSequence, GivesTuples, FrameIn}
use Rattle.xq_eval.specs.private.Results.{GivesKey, GivesKeys, GivesLists, GivesTests, GivesPlain}
use Rattle.xq_eval.specs.private.Filled.{filled}
use Rattle.xq_operators.proofs.Growth.{extends_itself, extends_more, stays, frame_grown, frame_in_grown, items_grown, are_in_grown, item_at_grown, in_grown, tuple_grown, tuple_in_grown, tuples_grown, tuples_in_grown, goes_on_to}
use Rattle.xq_trees.specs.declared.Axis.TheVariants.{Child, DescendantOrSelf}
use Rattle.xq_meaning.specs.declared.node_tests.Test.TheVariants.{Any}
use Rattle.xq_meaning.specs.declared.plans.PlanStep.TheVariants as plan_step
use Rattle.std.specs.Prelude.{IsSome, Option}
use Rattle.std.specs.Option.{option_copied}
use Rattle.xq_trees.specs.declared.items.Item.{Item as Item_held}
use Rattle.xq_trees.specs.Tree.{Tree}
use Rattle.xq_joins.proofs.Lists.{all_index}
use Rattle.xq_eval.specs.private.Joining.{carried_at, first_tuple}
use Rattle.xq_eval.proofs.GroupLaws.{groups_none, groups_stop, groups_later, groups_found, range_stops, equal_is}
use Rattle.xq_eval.proofs.JoinLaws.{first_is, no_more, later_of, carried_grown, carried_frame, read_in, join_none, join_steady, join_stops, later_stops, join_later}
use Rattle.xq_meaning.specs.declared.plans.PlanClause.{PlanClause}
use Rattle.xq_meaning.specs.declared.plans.PlanClause.TheVariants as clause
use Rattle.xq_eval.proofs.Loops.{got_at, left_over, left_from, two_left, none_taken, one_taken, turns_same, turns_two, turns_from, turns_stop_two, turns_next, turns_stop, turns_end, tries_next, tries_found, tries_stop, handed_on, stops, cut}
use Rattle.xq_atoms.specs.Text.{Text}
use Rattle.xq_expressions.specs.declared.operators.OrderModifier.{OrderModifier}
use Rattle.xq_tuples.specs.declared.rows.Key.TheVariants.{One, Several}
use Rattle.xq_tuples.specs.Keys.{values_in, row_of, rows_in, by_tuple}
use Rattle.xq_joins.specs.Atoms.{Tells}
use Rattle.xq_eval.proofs.Constructors.{one_node, name_refused, refused_so}
use Rattle.xq_eval.proofs.Telling.{told, told_stop}
use Rattle.xq_meaning.specs.Content.{name_of}
use Rattle.xq_eval.specs.private.Keys.{keys_at}
use Rattle.xq_eval.specs.private.Quantifying.{holds, at_top, resumed, tried, weigh, all_weigh}
use Rattle.std.specs.Prelude.{string_bytes, IfSome, if◌then◌else◌}
use Rattle.xq_eval.proofs.Steps.{double_slash_is, parents_below_is, axis_order_read, axis_order_in, step_from, named_is, same_goes, more_next, tested_ok, tested_err, go_on_stop, list_next, passed_ok, passed_err, kept_read, spots_left, element, left_at, frame_inner, frame_inner_in, bound_in, kept_in, expanded_in, numbered_in, slash_ok, slash_err, same_tests, any_tests}
use Rattle.xq_operators.proofs.Lists.{all_at}
use Rattle.xq_operators.proofs.Natural.{bound_natural, kept_natural, expanded_natural, numbered_natural}
use Rattle.xq_tuples.proofs.Copies.{values_of-clones}
use Rattle.xq_eval.specs.private.Bindings.{values_left, stack_of, Falls, Moved, MovesOn}
use Rattle.xq_eval.specs.private.Turns.{GivesTurn, IsTurn, values_found}
use Rattle.xq_eval.proofs.QuantifiedTurns.{At, moved_slots, moved_within, moved_lighter, turn_moves, turn_ends, turn_decides, turn_stops, frame_open, frame_open_in, some_found, none_found, turn_value, turn_refuses, turn_tested, turn_refused, turn_left}
use Rattle.xq_eval.proofs.NextValues.{next_left}
use Rattle.xq_meaning.specs.Forms as Forms
use Rattle.std.specs.List.{AllByRecursion}
use Rattle.std.proofs.Math.Nat.{mul-le-mul_right}
use Rattle.xq_meaning.specs.declared.plans.Plan.{out-Plan}
use Rattle.xq_operators.specs.Reads.{rows_of, AreOf, HasGrown}
use Rattle.xq_eval.specs.Reads.{rows_at}
use Rattle.xq_eval.specs.private.Scanning.{IsLiteral, IsScan}
use Rattle.xq_eval.proofs.DocumentScans.{other_form, literal_scans, call_scans, path_scans, are_scans, not_each, no_each, grown_more, not_grown, grown_from, grown_on, once, literal_value, document_value}
use Rattle.xq_eval.proofs.FirstScans.{all_drop, most_drop, slice_left, node_there, node_of, read_of, after_scans, read_after}
use Rattle.xq_eval.proofs.TextSteps.{slashes_then}
use Rattle.xq_eval.specs.private.Texts.{GivesFound, IsValueStep}
use Rattle.xq_eval.specs.declared.texts.TextStep.{TextStep}
use Rattle.xq_joins.specs.Equalities.{IsNodeOf, IsTreeAt}
use Rattle.xq_eval.proofs.Counted.{only_text, first_same}
use Rattle.xq_operators.specs.Reads.{IsAtom}
use Rattle.xq_expressions.specs.declared.operators.AllowingEmpty.TheVariants.{No}
use Rattle.xq_eval.proofs.FlatKeys.{from_done, collected_is, for_each_length, are_rows, order_is, order_stops}
use Rattle.xq_eval.proofs.LoneFor.{lone_for_is}
use Rattle.xq_eval.proofs.LentFilters.{lent_filters, filters_first, filters_then}
use Rattle.xq_eval.proofs.+eval.Goals as goal

pub evaluation::evaluate-returns-in-ContextItem-clause-gives : goal.evaluation::evaluate-returns-in-ContextItem-clause-gives
evaluation::evaluate-returns-in-ContextItem-clause-gives g t c = λ clean inside.
    let f = g.W.TreeSource.forest c.args.world.now in
    rw (c.in-ContextItem.is, plan-ContextItem) (c.context_item.ensures f inside.focus_in)

pub evaluation::evaluate-returns-in-Sequence-clause-gives : goal.evaluation::evaluate-returns-in-Sequence-clause-gives
evaluation::evaluate-returns-in-Sequence-clause-gives g t c = λ clean inside.
    rw (c.in-Sequence.is, plan-Sequence c.in-Sequence.parts, ← c.as_slice.ensures) (c.sequence.ensures.gives clean inside)

pub evaluation::evaluate-returns-in-ContextItem-clause-goes : goal.evaluation::evaluate-returns-in-ContextItem-clause-goes
evaluation::evaluate-returns-in-ContextItem-clause-goes g t c = stays _ _

pub evaluation::evaluate-returns-in-Sequence-clause-goes : goal.evaluation::evaluate-returns-in-Sequence-clause-goes
evaluation::evaluate-returns-in-Sequence-clause-goes g t c = c.sequence.ensures.goes

pub evaluation::sequence-loop-part-preserved : goal.evaluation::sequence-loop-part-preserved
evaluation::sequence-loop-part-preserved g t c =
    let i = c.loop-part.invariant in
    let part = c.part-item.result in
    let held = c.args.frame in
    let f = g.W.TreeSource.forest c.loop-part.world in
    record {
      goes = goes_on_to i.goes c.next_part.ensures.goes;
      turns = turns_next _ _ _ (item_views c.in_ok-items.items) (plan_mean part) _ _ i.turns (left_over plan_mean c.args.parts.now c.loop-part.part-index part (omega arith) c.part-item.is) c.next_part.ensures.goes.was_clean
          (λ clean inside is_in.
          let s = c.in_ok-items.ensures.gives clean (frame_in_grown i.goes.grows held inside) is_in in
          (s.0, ap (λ fr. more (λ (m : Meaning). m fr) (items_at f (item_views c.loop-part.items)) (plan_mean part) f) (sym (frame_grown i.goes.grows held inside)) ∙ s.1));
    }

pub evaluation::sequence-returns-in_err-items-clause-gives : goal.evaluation::sequence-returns-in_err-items-clause-gives
evaluation::sequence-returns-in_err-items-clause-gives g t c = λ clean inside.
    let i = c.loop-part.invariant in
    let part = c.part-item.result in
    let held = c.args.frame in
    let f = g.W.TreeSource.forest c.loop-part.world in
    let f' = g.W.TreeSource.forest c.next_part.new.world in
    let e = c.in_err-items.field-0.0 in
    handed_on item_views items_at AreIn _ f' e c.from_residual.result c.from_residual.ensures.1
    (turns_stop _ _ _ item_views items_at AreIn (plan_mean part) _ f' e i.turns (left_over plan_mean c.args.parts.now c.loop-part.part-index part (omega arith) c.part-item.is) c.next_part.ensures.goes.was_clean
    (λ clean inside is_in. subst (λ fr. GivesSequence (more (λ (m : Meaning). m fr) (items_at f (item_views c.loop-part.items)) (plan_mean part) f) f' (Err e)) (frame_grown i.goes.grows held inside) (c.in_err-items.ensures.gives clean (frame_in_grown i.goes.grows held inside) is_in)) clean inside)

pub evaluation::sequence-returns-in_err-items-clause-goes : goal.evaluation::sequence-returns-in_err-items-clause-goes
evaluation::sequence-returns-in_err-items-clause-goes g t c = goes_on_to c.loop-part.invariant.goes c.in_err-items.ensures.goes

pub evaluation::sequence-returns-clause-goes : goal.evaluation::sequence-returns-clause-goes
evaluation::sequence-returns-clause-goes g t c = c.loop-part.invariant.goes

pub evaluation::sequence-returns-clause-gives : goal.evaluation::sequence-returns-clause-gives
evaluation::sequence-returns-clause-gives g t c = λ clean inside.
    let old = g.W.TreeSource.forest c.args.world.now in
    turns_end _ _ _ c.loop-part.invariant.turns (ap (map plan_mean) (drop_all c.loop-part.part-index c.args.parts.now (omega arith))) clean inside

pub evaluation::next_part-returns-in-Some-clause-gives : goal.evaluation::next_part-returns-in-Some-clause-gives
evaluation::next_part-returns-in-Some-clause-gives g t c = λ clean inside done_in.
    let f = g.W.TreeSource.forest c.args.world.now in
    let frame = frame_at f c.args.frame in
    let act = plan_mean c.args.part.now in
    let a = atomic_of c.in-Some.value in
    let told : act frame f ≡ (Ok (atomic a), f) = subst (λ o. Tells atomic (act frame f) f (Ok o)) c.in-Some.is (c.in_ok-value.ensures f frame refl) in
    more_next (λ (part : Meaning). part frame) (item_views c.args.done) (Value a ∷ []) (item_views c.push.new.self) act f f (extends_itself f) done_in ((tt, tt), told)
    (ap (map item_view) c.in_ok-push.ensures.items ∙ map-append item_view c.args.done.items (_ ∷ []))

pub evaluation::next_part-returns-in_err-value-clause-gives : goal.evaluation::next_part-returns-in_err-value-clause-gives
evaluation::next_part-returns-in_err-value-clause-gives g t c = λ clean inside done_in.
    let f = g.W.TreeSource.forest c.args.world.now in
    let frame = frame_at f c.args.frame in
    let outcome = plan_mean c.args.part.now frame f in
    let next = λ (ys : List Item). give (items_at f (item_views c.args.done) ++ ys) in
    let e = c.in_err-value.field-0.0 in
    cut item_views items_at AreIn item_views items_at AreIn _ outcome next f e c.from_residual.result refl c.from_residual.ensures.1
    (told_stop atomic item_views items_at AreIn outcome f f e (c.in_err-value.ensures f frame refl))

pub evaluation::next_part-returns-in-Some-clause-goes : goal.evaluation::next_part-returns-in-Some-clause-goes
evaluation::next_part-returns-in-Some-clause-goes g t c = stays _ _

pub evaluation::next_part-returns-in_err-value-clause-goes : goal.evaluation::next_part-returns-in_err-value-clause-goes
evaluation::next_part-returns-in_err-value-clause-goes g t c = stays _ _

pub evaluation::next_part-returns-in_err-push-clause-goes : goal.evaluation::next_part-returns-in_err-push-clause-goes
evaluation::next_part-returns-in_err-push-clause-goes g t c = stays _ _

pub evaluation::next_part-returns-clause-gives : goal.evaluation::next_part-returns-clause-gives
evaluation::next_part-returns-clause-gives g t c = λ clean inside done_in.
    more_next (λ (part : Meaning). part (frame_at (g.W.TreeSource.forest c.args.world.now) c.args.frame)) (item_views c.args.done) (item_views c.in_ok-added.added) (item_views c.append.new.self) (plan_mean c.args.part.now) _ _
    c.in_ok-added.ensures.goes.grows done_in (c.in_ok-added.ensures.gives clean inside) (ap (map item_view) c.in_ok-append.ensures.items ∙ map-append item_view c.args.done.items c.in_ok-added.added.items)

pub evaluation::next_part-returns-in_err-added-clause-gives : goal.evaluation::next_part-returns-in_err-added-clause-gives
evaluation::next_part-returns-in_err-added-clause-gives g t c = λ clean inside done_in.
    let f = g.W.TreeSource.forest c.args.world.now in
    let held = c.args.frame in
    let frame = frame_at f held in
    let f' = g.W.TreeSource.forest c.evaluate.new.world in
    let next = λ (ys : List Item). give (items_at f (item_views c.args.done) ++ ys) in
    cut item_views items_at AreIn item_views items_at AreIn _ (plan_mean c.args.part.now frame f) next f' c.in_err-added.field-0.0 c.from_residual-in_err-added.result
    refl c.from_residual-in_err-added.ensures.1 (c.in_err-added.ensures.gives clean inside)

pub evaluation::next_part-returns-in_err-added-clause-goes : goal.evaluation::next_part-returns-in_err-added-clause-goes
evaluation::next_part-returns-in_err-added-clause-goes g t c = c.in_err-added.ensures.goes

pub evaluation::next_part-returns-in_err-append-clause-goes : goal.evaluation::next_part-returns-in_err-append-clause-goes
evaluation::next_part-returns-in_err-append-clause-goes g t c = c.in_ok-added.ensures.goes

pub evaluation::next_part-returns-clause-goes : goal.evaluation::next_part-returns-clause-goes
evaluation::next_part-returns-clause-goes g t c = c.in_ok-added.ensures.goes

pub evaluation::next_part-returns-in-Call-clause-gives : goal.evaluation::next_part-returns-in-Call-clause-gives
evaluation::next_part-returns-in-Call-clause-gives g t c = λ clean inside done_in.
    rw (c.in-Call.is, plan-Call c.in-Call.function c.in-Call.parts, ← c.as_slice.ensures) (c.next_called.ensures.gives clean inside done_in)

pub evaluation::next_part-returns-in-Call-clause-goes : goal.evaluation::next_part-returns-in-Call-clause-goes
evaluation::next_part-returns-in-Call-clause-goes g t c = c.next_called.ensures.goes

pub evaluation::next_part-returns-in-Named-clause-gives : goal.evaluation::next_part-returns-in-Named-clause-gives
evaluation::next_part-returns-in-Named-clause-gives g t c = λ clean inside done_in.
    rw (c.in-Named.is, plan-Named c.in-Named.kind c.in-Named.name c.in-Named.content, ← c.get.ensures, ← c.get-in-Named.ensures) (c.next_constructed.ensures.gives clean inside done_in)

pub evaluation::next_part-returns-in-Named-clause-goes : goal.evaluation::next_part-returns-in-Named-clause-goes
evaluation::next_part-returns-in-Named-clause-goes g t c = c.next_constructed.ensures.goes

pub evaluation::next_constructed-returns-clause-gives : goal.evaluation::next_constructed-returns-clause-gives
evaluation::next_constructed-returns-clause-gives g t c = λ clean inside done_in.
    let f = g.W.TreeSource.forest c.args.world.now in
    let f' = g.W.TreeSource.forest c.constructed.new.world in
    more_next (λ (part : Meaning). part (frame_at f c.args.frame)) (item_views c.args.done) (NodeAt c.in_ok-node.node ∷ []) (item_views c.push.new.self) (Forms.named_node c.args.kind (plan_mean c.args.name.now) (plan_mean c.args.part.now)) f f'
    c.in_ok-node.ensures.goes.grows done_in (c.in_ok-node.ensures.gives clean inside) (ap (map item_view) c.in_ok-push.ensures.items ∙ map-append item_view c.args.done.items (_ ∷ []))

pub evaluation::next_constructed-returns-in_err-node-clause-gives : goal.evaluation::next_constructed-returns-in_err-node-clause-gives
evaluation::next_constructed-returns-in_err-node-clause-gives g t c = λ clean inside done_in.
    let f = g.W.TreeSource.forest c.args.world.now in
    let f' = g.W.TreeSource.forest c.constructed.new.world in
    let outcome = Forms.named_node c.args.kind (plan_mean c.args.name.now) (plan_mean c.args.part.now) (frame_at f c.args.frame) f in
    let next = λ (ys : List Item). give (items_at f (item_views c.args.done) ++ ys) in
    cut one_node items_at AreIn item_views items_at AreIn _ outcome next f' c.in_err-node.field-0.0 c.from_residual.result refl c.from_residual.ensures.1 (c.in_err-node.ensures.gives clean inside)

pub evaluation::next_constructed-returns-in_err-node-clause-goes : goal.evaluation::next_constructed-returns-in_err-node-clause-goes
evaluation::next_constructed-returns-in_err-node-clause-goes g t c = c.in_err-node.ensures.goes

pub evaluation::next_constructed-returns-in_err-push-clause-goes : goal.evaluation::next_constructed-returns-in_err-push-clause-goes
evaluation::next_constructed-returns-in_err-push-clause-goes g t c = c.in_ok-node.ensures.goes

pub evaluation::next_constructed-returns-clause-goes : goal.evaluation::next_constructed-returns-clause-goes
evaluation::next_constructed-returns-clause-goes g t c = c.in_ok-node.ensures.goes

pub evaluation::next_called-returns-in-Some-clause-gives : goal.evaluation::next_called-returns-in-Some-clause-gives
evaluation::next_called-returns-in-Some-clause-gives g t c = λ clean inside done_in.
    let f = g.W.TreeSource.forest c.args.world.now in
    let f' = g.W.TreeSource.forest c.atom_of_call.new.source in
    let frame = frame_at f c.args.frame in
    let act = Forms.call c.args.function (map plan_mean c.args.parts.now) in
    let a = atomic_of c.in-Some.atom in
    let keeps = c.atom_of_call.ensures.keeps in
    let told : act frame f ≡ (Ok (atomic a), f') = subst (λ o. Tells atomic (act frame f) f (Ok o)) c.in-Some.is (c.in_ok-atom.ensures.tells clean inside) ∙ ap (λ h. (Ok (atomic a), h)) (sym keeps) in
    let goes = same_goes keeps c.atom_of_call.ensures.was_clean in
    more_next (λ (part : Meaning). part frame) (item_views c.args.done) (Value a ∷ []) (item_views c.push.new.self) act f f' goes.grows done_in ((tt, tt), told)
    (ap (map item_view) c.in_ok-push.ensures.items ∙ map-append item_view c.args.done.items (_ ∷ []))

pub evaluation::next_called-returns-in-Some-clause-goes : goal.evaluation::next_called-returns-in-Some-clause-goes
evaluation::next_called-returns-in-Some-clause-goes g t c = same_goes c.atom_of_call.ensures.keeps c.atom_of_call.ensures.was_clean

pub evaluation::next_called-returns-in_err-push-clause-goes : goal.evaluation::next_called-returns-in_err-push-clause-goes
evaluation::next_called-returns-in_err-push-clause-goes g t c = same_goes c.atom_of_call.ensures.keeps c.atom_of_call.ensures.was_clean

pub evaluation::next_called-returns-in_err-atom-clause-gives : goal.evaluation::next_called-returns-in_err-atom-clause-gives
evaluation::next_called-returns-in_err-atom-clause-gives g t c = λ clean inside done_in.
    let f = g.W.TreeSource.forest c.args.world.now in
    let f' = g.W.TreeSource.forest c.atom_of_call.new.source in
    let outcome = Forms.call c.args.function (map plan_mean c.args.parts.now) (frame_at f c.args.frame) f in
    let next = λ (ys : List Item). give (items_at f (item_views c.args.done) ++ ys) in
    let e = c.in_err-atom.field-0.0 in
    cut item_views items_at AreIn item_views items_at AreIn _ outcome next f' e c.from_residual.result refl c.from_residual.ensures.1
    (told_stop atomic item_views items_at AreIn outcome f f' e (c.in_err-atom.ensures.tells clean inside))

pub evaluation::next_called-returns-in_err-atom-clause-goes : goal.evaluation::next_called-returns-in_err-atom-clause-goes
evaluation::next_called-returns-in_err-atom-clause-goes g t c = same_goes c.atom_of_call.ensures.keeps c.atom_of_call.ensures.was_clean

pub evaluation::next_called-returns-clause-gives : goal.evaluation::next_called-returns-clause-gives
evaluation::next_called-returns-clause-gives g t c = λ clean inside done_in.
    let f = g.W.TreeSource.forest c.args.world.now in
    let f' = g.W.TreeSource.forest c.called.new.world in
    let held = c.args.frame in
    let frame = frame_at f held in
    let act = Forms.call c.args.function (map plan_mean c.args.parts.now) in
    let keeps = c.atom_of_call.ensures.keeps in
    let added = item_views c.in_ok-added.added in
    let goes = goes_on_to (same_goes keeps c.atom_of_call.ensures.was_clean) c.in_ok-added.ensures.goes in
    let value : AreIn f' added × (act frame f ≡ (Ok (items_at f' added), f')) =
    subst (λ h. AreIn f' added × (act (frame_at h held) h ≡ (Ok (items_at f' added), f'))) keeps (c.in_ok-added.ensures.gives clean (subst (λ h. FrameIn h held) (sym keeps) inside)) in
    more_next (λ (part : Meaning). part frame) (item_views c.args.done) added (item_views c.append.new.self) act f f' goes.grows done_in value
    (ap (map item_view) c.in_ok-append.ensures.items ∙ map-append item_view c.args.done.items c.in_ok-added.added.items)

pub evaluation::next_called-returns-in_err-added-clause-gives : goal.evaluation::next_called-returns-in_err-added-clause-gives
evaluation::next_called-returns-in_err-added-clause-gives g t c = λ clean inside done_in.
    let f = g.W.TreeSource.forest c.args.world.now in
    let f' = g.W.TreeSource.forest c.called.new.world in
    let held = c.args.frame in
    let act = Forms.call c.args.function (map plan_mean c.args.parts.now) in
    let keeps = c.atom_of_call.ensures.keeps in
    let next = λ (ys : List Item). give (items_at f (item_views c.args.done) ++ ys) in
    let e = c.in_err-added.field-0.0 in
    cut item_views items_at AreIn item_views items_at AreIn _ (act (frame_at f held) f) next f' e c.from_residual-in_err-added.result refl c.from_residual-in_err-added.ensures.1
    (subst (λ h. GivesSequence (act (frame_at h held) h) f' (Err e)) keeps (c.in_err-added.ensures.gives clean (subst (λ h. FrameIn h held) (sym keeps) inside)))

pub evaluation::next_called-returns-in_err-added-clause-goes : goal.evaluation::next_called-returns-in_err-added-clause-goes
evaluation::next_called-returns-in_err-added-clause-goes g t c = goes_on_to (same_goes c.atom_of_call.ensures.keeps c.atom_of_call.ensures.was_clean) c.in_err-added.ensures.goes

pub evaluation::next_called-returns-in_err-append-clause-goes : goal.evaluation::next_called-returns-in_err-append-clause-goes
evaluation::next_called-returns-in_err-append-clause-goes g t c = goes_on_to (same_goes c.atom_of_call.ensures.keeps c.atom_of_call.ensures.was_clean) c.in_ok-added.ensures.goes

pub evaluation::next_called-returns-clause-goes : goal.evaluation::next_called-returns-clause-goes
evaluation::next_called-returns-clause-goes g t c = goes_on_to (same_goes c.atom_of_call.ensures.keeps c.atom_of_call.ensures.was_clean) c.in_ok-added.ensures.goes

pub evaluation::chain-loop-operator-preserved : goal.evaluation::chain-loop-operator-preserved
evaluation::chain-loop-operator-preserved g t c =
    let i = c.loop-operator.invariant in
    let operand = c.loop-operator-item.result in
    let held = c.args.frame in
    let f = g.W.TreeSource.forest c.loop-operator.world in
    record {
      goes = goes_on_to i.goes c.next_operand.ensures.goes;
      turns = turns_next _ _ _ (item_views c.in_ok-total.total) (operand.0, plan_mean operand.1) _ _ i.turns (left_over (λ (op, p). (op, plan_mean p)) c.args.rest.now c.loop-operator.operator-index operand (omega arith) c.loop-operator-item.is) c.next_operand.ensures.goes.was_clean
          (λ clean inside is_in.
          let s = c.in_ok-total.ensures.gives clean (frame_in_grown i.goes.grows held inside.0) is_in in
          (s.0, ap (λ fr. Forms.next_operand fr (items_at f (item_views c.loop-operator.total)) (operand.0, plan_mean operand.1) f) (sym (frame_grown i.goes.grows held inside.0)) ∙ s.1));
    }

pub evaluation::chain-returns-in_err-total-clause-gives : goal.evaluation::chain-returns-in_err-total-clause-gives
evaluation::chain-returns-in_err-total-clause-gives g t c = λ clean inside first_in.
    let i = c.loop-operator.invariant in
    let operand = c.loop-operator-item.result in
    let held = c.args.frame in
    let f = g.W.TreeSource.forest c.loop-operator.world in
    let f' = g.W.TreeSource.forest c.next_operand.new.world in
    let e = c.in_err-total.field-0.0 in
    handed_on item_views items_at AreIn _ f' e c.from_residual.result c.from_residual.ensures.1
    (turns_stop _ _ _ item_views items_at AreIn (operand.0, plan_mean operand.1) _ f' e i.turns (left_over (λ (op, p). (op, plan_mean p)) c.args.rest.now c.loop-operator.operator-index operand (omega arith) c.loop-operator-item.is) c.next_operand.ensures.goes.was_clean
    (λ clean inside is_in. subst (λ fr. GivesSequence (Forms.next_operand fr (items_at f (item_views c.loop-operator.total)) (operand.0, plan_mean operand.1) f) f' (Err e)) (frame_grown i.goes.grows held inside.0) (c.in_err-total.ensures.gives clean (frame_in_grown i.goes.grows held inside.0) is_in)) clean (inside, first_in))

pub evaluation::chain-returns-in_err-total-clause-goes : goal.evaluation::chain-returns-in_err-total-clause-goes
evaluation::chain-returns-in_err-total-clause-goes g t c = goes_on_to c.loop-operator.invariant.goes c.in_err-total.ensures.goes

pub evaluation::chain-returns-clause-goes : goal.evaluation::chain-returns-clause-goes
evaluation::chain-returns-clause-goes g t c = c.loop-operator.invariant.goes

pub evaluation::chain-returns-clause-gives : goal.evaluation::chain-returns-clause-gives
evaluation::chain-returns-clause-gives g t c = λ clean inside rest_in.
    let old = g.W.TreeSource.forest c.args.world.now in
    turns_end _ _ _ c.loop-operator.invariant.turns (ap (map (λ (op, p). (op, plan_mean p))) (drop_all c.loop-operator.operator-index c.args.rest.now (omega arith))) clean (inside, rest_in)

pub evaluation::next_operand-returns-clause-gives : goal.evaluation::next_operand-returns-clause-gives
evaluation::next_operand-returns-clause-gives g t c = λ clean inside left_in.
    let f' = g.W.TreeSource.forest c.evaluate.new.world in
    let left = item_views c.args.left in
    let grows = c.in_ok-right.ensures.goes.grows in
    let right = c.in_ok-right.ensures.gives (c.operate.ensures.goes.was_clean clean) inside in
    rw (right.1, ← items_grown grows left left_in) (c.operate.ensures.gives clean (are_in_grown grows left left_in) right.0)

pub evaluation::next_operand-returns-in_err-right-clause-gives : goal.evaluation::next_operand-returns-in_err-right-clause-gives
evaluation::next_operand-returns-in_err-right-clause-gives g t c = λ clean inside left_in.
    let f = g.W.TreeSource.forest c.args.world.now in
    let held = c.args.frame in
    let frame = frame_at f held in
    let f' = g.W.TreeSource.forest c.evaluate.new.world in
    let next = λ (ys : List Item). on_trees (λ trees. operated c.args.operator trees (items_at f (item_views c.args.left)) ys) in
    cut item_views items_at AreIn item_views items_at AreIn _ (plan_mean c.args.part.now frame f) next f' c.in_err-right.field-0.0 c.from_residual.result
    refl c.from_residual.ensures.1 (c.in_err-right.ensures.gives clean inside)

pub evaluation::next_operand-returns-in_err-right-clause-goes : goal.evaluation::next_operand-returns-in_err-right-clause-goes
evaluation::next_operand-returns-in_err-right-clause-goes g t c = c.in_err-right.ensures.goes

pub evaluation::next_operand-returns-clause-goes : goal.evaluation::next_operand-returns-clause-goes
evaluation::next_operand-returns-clause-goes g t c = goes_on_to c.in_ok-right.ensures.goes c.operate.ensures.goes

pub evaluation::decided-loop-part-preserved : goal.evaluation::decided-loop-part-preserved
evaluation::decided-loop-part-preserved g t c =
    let i = c.loop-part.invariant in
    let part = c.part-item.result in
    let held = c.args.frame in
    let f = g.W.TreeSource.forest c.loop-part.world in
    let f' = g.W.TreeSource.forest c.tested.new.world in
    let left = left_over plan_mean c.args.parts.now c.loop-part.part-index part (omega arith) c.part-item.is in
    record {
      goes = goes_on_to i.goes c.tested.ensures.goes;
      tries = tries_next _ _ (plan_mean part) _ c.in_ok-truth.truth f' i.tries left c.tested.ensures.goes.was_clean (search rules)
          (λ clean inside. ap (λ fr. Forms.tested (plan_mean part) fr f) (sym (frame_grown i.goes.grows held inside)) ∙ (c.in_ok-truth.ensures.gives clean (frame_in_grown i.goes.grows held inside)).1);
    }

pub evaluation::decided-returns-then-truth-wanted-clause-gives : goal.evaluation::decided-returns-then-truth-wanted-clause-gives
evaluation::decided-returns-then-truth-wanted-clause-gives g t c = λ clean inside.
    let i = c.loop-part.invariant in
    let part = c.part-item.result in
    let held = c.args.frame in
    let f = g.W.TreeSource.forest c.loop-part.world in
    let f' = g.W.TreeSource.forest c.tested.new.world in
    let left = left_over plan_mean c.args.parts.now c.loop-part.part-index part (omega arith) c.part-item.is in
    let same : c.in_ok-truth.truth ≡ c.args.wanted = search rules in (
      tt,
      tries_found _ _ (plan_mean part) _ f' i.tries left c.tested.ensures.goes.was_clean
          (λ clean inside. ap (λ fr. Forms.tested (plan_mean part) fr f) (sym (frame_grown i.goes.grows held inside)) ∙ (c.in_ok-truth.ensures.gives clean (frame_in_grown i.goes.grows held inside)).1 ∙ ap (λ b. (Ok b, f')) same) clean inside,
    )

pub evaluation::decided-returns-in_err-truth-clause-gives : goal.evaluation::decided-returns-in_err-truth-clause-gives
evaluation::decided-returns-in_err-truth-clause-gives g t c = λ clean inside.
    let i = c.loop-part.invariant in
    let part = c.part-item.result in
    let held = c.args.frame in
    let f = g.W.TreeSource.forest c.loop-part.world in
    let f' = g.W.TreeSource.forest c.tested.new.world in
    let left = left_over plan_mean c.args.parts.now c.loop-part.part-index part (omega arith) c.part-item.is in
    let e = c.in_err-truth.field-0.0 in
    handed_on (λ (b : Bool). b) (λ trees b. b) (λ trees b. Unit {0}) _ f' e c.from_residual.result c.from_residual.ensures.1
    (tries_stop _ _ (plan_mean part) _ f' e i.tries left c.tested.ensures.goes.was_clean
    (λ clean inside. subst (λ fr. GivesPlain (Forms.tested (plan_mean part) fr f) f' (Err e)) (frame_grown i.goes.grows held inside) (c.in_err-truth.ensures.gives clean (frame_in_grown i.goes.grows held inside))) clean inside)

pub evaluation::decided-returns-clause-gives : goal.evaluation::decided-returns-clause-gives
evaluation::decided-returns-clause-gives g t c = λ clean inside.
    let i = c.loop-part.invariant in
    let f = g.W.TreeSource.forest c.loop-part.world in
    let frame = frame_at (g.W.TreeSource.forest c.args.world.now) c.args.frame in
    (tt, sym (i.tries.rest clean inside) ∙ ap (λ ps. first_that c.args.wanted (λ part. Forms.tested part frame) (map plan_mean ps) f) (drop_all c.loop-part.part-index c.args.parts.now (omega arith)))

pub evaluation::decided-returns-in_err-truth-clause-goes : goal.evaluation::decided-returns-in_err-truth-clause-goes
evaluation::decided-returns-in_err-truth-clause-goes g t c = goes_on_to c.loop-part.invariant.goes c.in_err-truth.ensures.goes

pub evaluation::decided-returns-clause-goes : goal.evaluation::decided-returns-clause-goes
evaluation::decided-returns-clause-goes g t c = c.loop-part.invariant.goes

pub evaluation::decided-returns-then-truth-wanted-clause-goes : goal.evaluation::decided-returns-then-truth-wanted-clause-goes
evaluation::decided-returns-then-truth-wanted-clause-goes g t c = goes_on_to c.loop-part.invariant.goes c.in_ok-truth.ensures.goes

pub evaluation::tested-returns-in-Some-clause-gives : goal.evaluation::tested-returns-in-Some-clause-gives
evaluation::tested-returns-in-Some-clause-gives g t c = λ clean inside.
    let f = g.W.TreeSource.forest c.args.world.now in
    let f' = g.W.TreeSource.forest c.leads_to_text.new.source in
    let it = c.in-Some.ensures in
    let answer = c.in_ok-leads_to_text.ensures.answer clean (it.there f inside) in
    let holds = tested_ok (plan_mean c.args.part.now) (frame_at f c.args.frame) _ _ f f (it.says f inside) refl in
    (tt, holds ∙ (λ i. (Ok (sym answer i), sym c.leads_to_text.ensures.keeps i)))

pub evaluation::tested-returns-in-Some-clause-goes : goal.evaluation::tested-returns-in-Some-clause-goes
evaluation::tested-returns-in-Some-clause-goes g t c = same_goes c.leads_to_text.ensures.keeps c.leads_to_text.ensures.was_clean

pub evaluation::tested-returns-in_err-leads_to_text-clause-goes : goal.evaluation::tested-returns-in_err-leads_to_text-clause-goes
evaluation::tested-returns-in_err-leads_to_text-clause-goes g t c = same_goes c.leads_to_text.ensures.keeps c.leads_to_text.ensures.was_clean

pub evaluation::tested-returns-in_err-value-clause-gives : goal.evaluation::tested-returns-in_err-value-clause-gives
evaluation::tested-returns-in_err-value-clause-gives g t c = λ clean inside.
    let f = g.W.TreeSource.forest c.args.world.now in
    let held = c.args.frame in
    let frame = frame_at f held in
    let f' = g.W.TreeSource.forest c.evaluate.new.world in
    let next = λ (xs : List Item). judged (effective xs) in
    cut item_views items_at AreIn (λ (b : Bool). b) (λ trees b. b) (λ trees b. Unit {0}) _ (plan_mean c.args.part.now frame f) next f' c.in_err-value.field-0.0 c.from_residual-in_err-value.result
    refl c.from_residual-in_err-value.ensures.1 (c.in_err-value.ensures.gives clean inside)

pub evaluation::tested-returns-in_err-effective-clause-gives : goal.evaluation::tested-returns-in_err-effective-clause-gives
evaluation::tested-returns-in_err-effective-clause-gives g t c = λ clean inside.
    let f = g.W.TreeSource.forest c.args.world.now in
    let held = c.args.frame in
    let frame = frame_at f held in
    let f' = g.W.TreeSource.forest c.evaluate.new.world in
    let code = c.in_err-effective.field-0.0 in
    let value = c.in_ok-value.ensures.gives clean inside in
    let failed = tested_err (plan_mean c.args.part.now) frame _ code f f' value.1 (ap (λ xs. effective (items_at f' (map item_view xs))) (sym c.deref.ensures.value) ∙ sym (c.in_err-effective.ensures f')) in
    handed_on (λ (b : Bool). b) (λ trees b. b) (λ trees b. Unit {0}) _ f' (OfCode code) c.from_residual-in_err-effective.result c.from_residual-in_err-effective.ensures.1 failed

pub evaluation::tested-returns-clause-gives : goal.evaluation::tested-returns-clause-gives
evaluation::tested-returns-clause-gives g t c = λ clean inside.
    let f = g.W.TreeSource.forest c.args.world.now in
    let held = c.args.frame in
    let frame = frame_at f held in
    let f' = g.W.TreeSource.forest c.evaluate.new.world in
    let value = c.in_ok-value.ensures.gives clean inside in
    (tt, tested_ok (plan_mean c.args.part.now) frame _ c.in_ok-effective.field-0 f f' value.1 (ap (λ xs. effective (items_at f' (map item_view xs))) (sym c.deref.ensures.value) ∙ sym (c.in_ok-effective.ensures f')))

pub evaluation::tested-returns-in_err-value-clause-goes : goal.evaluation::tested-returns-in_err-value-clause-goes
evaluation::tested-returns-in_err-value-clause-goes g t c = c.in_err-value.ensures.goes

pub evaluation::tested-returns-in_err-effective-clause-goes : goal.evaluation::tested-returns-in_err-effective-clause-goes
evaluation::tested-returns-in_err-effective-clause-goes g t c = c.in_ok-value.ensures.goes

pub evaluation::tested-returns-clause-goes : goal.evaluation::tested-returns-clause-goes
evaluation::tested-returns-clause-goes g t c = c.in_ok-value.ensures.goes

pub evaluation::filter-loop-predicate-preserved : goal.evaluation::filter-loop-predicate-preserved
evaluation::filter-loop-predicate-preserved g t c =
    let i = c.loop-predicate.invariant in
    let old = g.W.TreeSource.forest c.args.world.now in
    let f = g.W.TreeSource.forest c.loop-predicate.world in
    let f' = g.W.TreeSource.forest c.keep.new.world in
    let held = c.args.frame in
    let p = c.predicate-item.result in
    let left = item_views c.loop-predicate.left in
    let d : map item_view c.deref.result.now ≡ left = ap (map item_view) c.deref.ensures.value in
    record {
      goes = goes_on_to i.goes c.keep.ensures.goes;
      turns = turns_next _ _ _ (item_views c.in_ok-left.left) (plan_mean p) _ _ i.turns (left_over plan_mean c.args.predicates.now c.loop-predicate.predicate-index p (omega arith) c.predicate-item.is) c.keep.ensures.goes.was_clean
          (λ clean inside is_in.
          let s = c.in_ok-left.ensures.gives clean (frame_in_grown i.goes.grows held inside.0) (subst (AreIn f) (sym d) is_in) in
          (s.0, ap (λ fr. Forms.filtered fr (items_at f left) (plan_mean p) f) (sym (frame_grown i.goes.grows held inside.0)) ∙ ap (λ xs. Forms.filtered (frame_at f held) (items_at f xs) (plan_mean p) f) (sym d) ∙ s.1));
    }

pub evaluation::filter-returns-in_err-left-clause-gives : goal.evaluation::filter-returns-in_err-left-clause-gives
evaluation::filter-returns-in_err-left-clause-gives g t c = λ clean inside items_in.
    let i = c.loop-predicate.invariant in
    let old = g.W.TreeSource.forest c.args.world.now in
    let f = g.W.TreeSource.forest c.loop-predicate.world in
    let f' = g.W.TreeSource.forest c.keep.new.world in
    let held = c.args.frame in
    let p = c.predicate-item.result in
    let left = item_views c.loop-predicate.left in
    let d : map item_view c.deref.result.now ≡ left = ap (map item_view) c.deref.ensures.value in
    let e = c.in_err-left.field-0.0 in
    handed_on item_views items_at AreIn _ f' e c.from_residual.result c.from_residual.ensures.1
    (turns_stop _ _ _ item_views items_at AreIn (plan_mean p) _ f' e i.turns (left_over plan_mean c.args.predicates.now c.loop-predicate.predicate-index p (omega arith) c.predicate-item.is) c.keep.ensures.goes.was_clean
    (λ clean inside is_in. subst (λ fr. GivesSequence (Forms.filtered fr (items_at f left) (plan_mean p) f) f' (Err e)) (frame_grown i.goes.grows held inside.0)
    (subst (λ xs. GivesSequence (Forms.filtered (frame_at f held) (items_at f xs) (plan_mean p) f) f' (Err e)) d
    (c.in_err-left.ensures.gives clean (frame_in_grown i.goes.grows held inside.0) (subst (AreIn f) (sym d) is_in)))) clean (inside, items_in))

pub evaluation::filter-returns-in_err-left-clause-goes : goal.evaluation::filter-returns-in_err-left-clause-goes
evaluation::filter-returns-in_err-left-clause-goes g t c = goes_on_to c.loop-predicate.invariant.goes c.in_err-left.ensures.goes

pub evaluation::filter-returns-clause-goes : goal.evaluation::filter-returns-clause-goes
evaluation::filter-returns-clause-goes g t c = c.loop-predicate.invariant.goes

pub evaluation::filter-returns-clause-gives : goal.evaluation::filter-returns-clause-gives
evaluation::filter-returns-clause-gives g t c = λ clean inside rest_in.
    let old = g.W.TreeSource.forest c.args.world.now in
    turns_end _ _ _ c.loop-predicate.invariant.turns (ap (map plan_mean) (drop_all c.loop-predicate.predicate-index c.args.predicates.now (omega arith))) clean (inside, rest_in)

pub evaluation::keep-loop-index-preserved : goal.evaluation::keep-loop-index-preserved
evaluation::keep-loop-index-preserved g t c =
    let i = c.loop-index.invariant in
    let old = g.W.TreeSource.forest c.args.world.now in
    let f = g.W.TreeSource.forest c.loop-index.world in
    let f' = g.W.TreeSource.forest c.pass.new.world in
    let held = c.args.frame in
    let n = c.loop-index.index in
    let items = c.args.items.now in
    let x = c.index-items-index.result in
    let p = plan_mean c.args.predicate.now in
    let kept = item_views c.loop-index.kept in
    let spot : Item → Spot = λ it. record { item = it; position = n + 1; last = length items } in
    record {
      goes = goes_on_to i.goes c.pass.ensures.goes;
      turns = turns_next _ _ _ (item_views c.in_ok-kept.kept) (spot (item_at old (item_view x))) _ _ i.turns (spots_left old items n x (length items) (omega arith) c.index-items-index.is) c.pass.ensures.goes.was_clean
          (λ clean inside is_in.
          let x_in = all_at (IsIn old) item_view items n x inside.1 (omega arith) c.index-items-index.is in
          let s = c.in_ok-kept.ensures.gives clean (frame_in_grown i.goes.grows held inside.0) is_in (in_grown i.goes.grows (item_view x) x_in) in (
            s.0,
            ap (λ fr. more (Forms.passed p fr) (items_at f kept) (spot (item_at old (item_view x))) f) (sym (frame_grown i.goes.grows held inside.0))
                ∙ ap (λ it. more (Forms.passed p (frame_at f held)) (items_at f kept) (spot it) f) (sym (item_at_grown i.goes.grows (item_view x) x_in)) ∙ s.1,
          ));
    }

pub evaluation::keep-returns-in_err-kept-clause-gives : goal.evaluation::keep-returns-in_err-kept-clause-gives
evaluation::keep-returns-in_err-kept-clause-gives g t c = λ clean inside items_in.
    let i = c.loop-index.invariant in
    let old = g.W.TreeSource.forest c.args.world.now in
    let f = g.W.TreeSource.forest c.loop-index.world in
    let f' = g.W.TreeSource.forest c.pass.new.world in
    let held = c.args.frame in
    let n = c.loop-index.index in
    let items = c.args.items.now in
    let x = c.index-items-index.result in
    let p = plan_mean c.args.predicate.now in
    let kept = item_views c.loop-index.kept in
    let spot : Item → Spot = λ it. record { item = it; position = n + 1; last = length items } in
    let e = c.in_err-kept.field-0.0 in
    handed_on item_views items_at AreIn _ f' e c.from_residual-in_err-kept.result c.from_residual-in_err-kept.ensures.1
    (turns_stop _ _ _ item_views items_at AreIn (spot (item_at old (item_view x))) _ f' e i.turns (spots_left old items n x (length items) (omega arith) c.index-items-index.is) c.pass.ensures.goes.was_clean
    (λ clean inside is_in.
    let x_in = all_at (IsIn old) item_view items n x inside.1 (omega arith) c.index-items-index.is in
    subst (λ fr. GivesSequence (more (Forms.passed p fr) (items_at f kept) (spot (item_at old (item_view x))) f) f' (Err e)) (frame_grown i.goes.grows held inside.0)
    (subst (λ it. GivesSequence (more (Forms.passed p (frame_at f held)) (items_at f kept) (spot it) f) f' (Err e)) (item_at_grown i.goes.grows (item_view x) x_in)
    (c.in_err-kept.ensures.gives clean (frame_in_grown i.goes.grows held inside.0) is_in (in_grown i.goes.grows (item_view x) x_in)))) clean (inside, items_in))

pub evaluation::keep-returns-in_err-kept-clause-goes : goal.evaluation::keep-returns-in_err-kept-clause-goes
evaluation::keep-returns-in_err-kept-clause-goes g t c = goes_on_to c.loop-index.invariant.goes c.in_err-kept.ensures.goes

pub evaluation::keep-returns-clause-goes : goal.evaluation::keep-returns-clause-goes
evaluation::keep-returns-clause-goes g t c = c.loop-index.invariant.goes

pub evaluation::keep-returns-clause-gives : goal.evaluation::keep-returns-clause-gives
evaluation::keep-returns-clause-gives g t c = λ clean inside rest_in.
    let old = g.W.TreeSource.forest c.args.world.now in
    turns_end _ _ _ c.loop-index.invariant.turns (ap (λ xs. focuses_from (suc c.loop-index.index) (length c.args.items.now) (items_at old (map item_view xs))) (drop_all c.loop-index.index c.args.items.now (omega arith))) clean (inside, rest_in)

pub evaluation::pass-returns-clause-gives : goal.evaluation::pass-returns-clause-gives
evaluation::pass-returns-clause-gives g t c = λ clean inside done_in item_in.
    let f = g.W.TreeSource.forest c.args.world.now in
    let held = c.args.frame in
    let frame = frame_at f held in
    let f' = g.W.TreeSource.forest c.evaluate.new.world in
    let p = plan_mean c.args.predicate.now in
    let x = item_view c.args.spot.item.now in
    let keeps' = c.in_ok-keeps.keeps in
    let grows = c.in_ok-value.ensures.goes.grows in
    let value = c.in_ok-value.ensures.gives clean (record { slots_in = inside.slots_in; focus_in = item_in; addresses_in = inside.addresses_in }) in
    let step = passed_ok p frame (spot_at f c.args.spot) _ keeps' f f' value.1 (ap (λ xs. keeps c.args.spot.position (items_at f' (map item_view xs))) (sym c.deref.ensures.value) ∙ sym (c.in_ok-keeps.ensures f')) in
    let k = kept_read f f' x keeps' grows item_in in
    more_next (Forms.passed p frame) (item_views c.args.done) (Forms.kept_if x keeps') (item_views c.in_ok-push_copy.field-0) (spot_at f c.args.spot) f f' grows done_in (k.0, step ∙ ap (λ xs. (Ok xs, f')) k.1) c.in_ok-push_copy.ensures

pub evaluation::pass-returns-in_err-keeps-clause-gives : goal.evaluation::pass-returns-in_err-keeps-clause-gives
evaluation::pass-returns-in_err-keeps-clause-gives g t c = λ clean inside done_in item_in.
    let f = g.W.TreeSource.forest c.args.world.now in
    let held = c.args.frame in
    let frame = frame_at f held in
    let f' = g.W.TreeSource.forest c.evaluate.new.world in
    let p = plan_mean c.args.predicate.now in
    let code = c.in_err-keeps.field-0.0 in
    let value = c.in_ok-value.ensures.gives clean (record { slots_in = inside.slots_in; focus_in = item_in; addresses_in = inside.addresses_in }) in
    let step = passed_err p frame (spot_at f c.args.spot) _ code f f' value.1 (ap (λ xs. keeps c.args.spot.position (items_at f' (map item_view xs))) (sym c.deref.ensures.value) ∙ sym (c.in_err-keeps.ensures f')) in
    handed_on item_views items_at AreIn _ f' (OfCode code) c.from_residual-in_err-keeps.result c.from_residual-in_err-keeps.ensures.1
    (stops (Forms.passed p frame (spot_at f c.args.spot) f) (λ ys. give (items_at f (item_views c.args.done) ++ ys)) code step)

pub evaluation::pass-returns-in_err-value-clause-gives : goal.evaluation::pass-returns-in_err-value-clause-gives
evaluation::pass-returns-in_err-value-clause-gives g t c = λ clean inside done_in item_in.
    let f = g.W.TreeSource.forest c.args.world.now in
    let held = c.args.frame in
    let frame = frame_at f held in
    let f' = g.W.TreeSource.forest c.evaluate.new.world in
    let spot = spot_at f c.args.spot in
    let e = c.in_err-value.field-0.0 in
    let first = λ (v : List Item). judged (keeps c.args.spot.position v) >>= (λ k. give (Forms.kept_if spot.item k)) in
    let next = λ (ys : List Item). give (items_at f (item_views c.args.done) ++ ys) in
    let o = plan_mean c.args.predicate.now (Forms.in_focus frame spot) f in
    cut item_views items_at AreIn item_views items_at AreIn _ (go_on o first) next f' e c.from_residual.result
    refl c.from_residual.ensures.1
    (go_on_stop item_views items_at AreIn item_views items_at AreIn o first f' e (c.in_err-value.ensures.gives clean (record { slots_in = inside.slots_in; focus_in = item_in; addresses_in = inside.addresses_in })))

pub evaluation::pass-returns-in_err-value-clause-goes : goal.evaluation::pass-returns-in_err-value-clause-goes
evaluation::pass-returns-in_err-value-clause-goes g t c = c.in_err-value.ensures.goes

pub evaluation::pass-returns-in_err-keeps-clause-goes : goal.evaluation::pass-returns-in_err-keeps-clause-goes
evaluation::pass-returns-in_err-keeps-clause-goes g t c = c.in_ok-value.ensures.goes

pub evaluation::pass-returns-in_err-push_copy-clause-goes : goal.evaluation::pass-returns-in_err-push_copy-clause-goes
evaluation::pass-returns-in_err-push_copy-clause-goes g t c = c.in_ok-value.ensures.goes

pub evaluation::pass-returns-clause-goes : goal.evaluation::pass-returns-clause-goes
evaluation::pass-returns-clause-goes g t c = c.in_ok-value.ensures.goes

pub clauses::next_tuples-returns-in_err-lists-in-For-clause-gives : goal.clauses::next_tuples-returns-in_err-lists-in-For-clause-gives
clauses::next_tuples-returns-in_err-lists-in-For-clause-gives g t c = λ clean inside tuples_in.
    let f = g.W.TreeSource.forest c.args.world.now in
    let held = c.args.frame in
    let frame = frame_at f held in
    let tuples = c.args.tuples in
    let f' = g.W.TreeSource.forest c.values.new.world in
    let e = c.in_err-lists-in-For.field-0.0 in
    let at = c.in-For.at in
    let allows = Forms.allows c.in-For.empties in
    let meant : plan_clause_mean c.args.clause.now frame (tuples_at f tuples) f ≡ go_on (for_each (λ t. plan_mean c.in-For.part (at_tuple frame t)) (tuples_at f tuples) f) (λ ls. give (expanded Atom allows at (tuples_at f tuples) ls)) =
    ap (λ k. plan_clause_mean k frame (tuples_at f tuples) f) c.in-For.is ∙ ap (λ m. m frame (tuples_at f tuples) f) (clause-For c.in-For.empties at c.in-For.part) in
    subst (λ o. GivesTuples o f' c.from_residual.result) (sym meant)
    (handed_on (λ (ts : List (Tuple ItemView)). ts) tuples_at TuplesIn _ f' e c.from_residual.result c.from_residual.ensures.1
    (go_on_stop lists_of tuple_at TupleIn (λ (ts : List (Tuple ItemView)). ts) tuples_at TuplesIn _ (λ ls. give (expanded Atom allows at (tuples_at f tuples) ls)) f' e (c.in_err-lists-in-For.ensures.gives clean inside tuples_in)))

pub clauses::next_tuples-returns-in_ok-expand-in-For-clause-gives : goal.clauses::next_tuples-returns-in_ok-expand-in-For-clause-gives
clauses::next_tuples-returns-in_ok-expand-in-For-clause-gives g t c = λ clean inside tuples_in.
    let f = g.W.TreeSource.forest c.args.world.now in
    let held = c.args.frame in
    let frame = frame_at f held in
    let tuples = c.args.tuples in
    let f' = g.W.TreeSource.forest c.values.new.world in
    let grows = c.in_ok-lists-in-For.ensures.goes.grows in
    let lists = lists_of c.in_ok-lists-in-For.lists in
    let at = c.in-For.at in
    let allows = Forms.allows c.in-For.empties in
    let values = c.in_ok-lists-in-For.ensures.gives clean inside tuples_in in
    let stream : c.in_ok-expand-in-For.field-0 ≡ expanded Value allows at tuples lists = c.in_ok-expand-in-For.ensures.stream in
    let same : tuples_at f' c.in_ok-expand-in-For.field-0 ≡ expanded Atom allows at (tuples_at f tuples) (tuple_at f' lists) =
    ap (tuples_at f') stream ∙ expanded_natural (item_at f') Value Atom (λ a. refl) allows at tuples lists ∙ ap (λ ts. expanded Atom allows at ts (tuple_at f' lists)) (tuples_grown grows tuples tuples_in) in (
      subst (TuplesIn f') (sym stream) (expanded_in f' allows at tuples lists (tuples_in_grown grows tuples tuples_in) values.0),
      ap (λ k. plan_clause_mean k frame (tuples_at f tuples) f) c.in-For.is ∙ ap (λ m. m frame (tuples_at f tuples) f) (clause-For c.in-For.empties at c.in-For.part)
          ∙ ap (λ o. go_on o (λ ls. give (expanded Atom allows at (tuples_at f tuples) ls))) values.1 ∙ ap (λ ts. (Ok ts, f')) (sym same),
    )

pub clauses::next_tuples-returns-in_ok-bind-in-Let-clause-gives : goal.clauses::next_tuples-returns-in_ok-bind-in-Let-clause-gives
clauses::next_tuples-returns-in_ok-bind-in-Let-clause-gives g t c = λ clean inside tuples_in.
    let f = g.W.TreeSource.forest c.args.world.now in
    let held = c.args.frame in
    let frame = frame_at f held in
    let tuples = c.args.tuples in
    let f' = g.W.TreeSource.forest c.values-in-Let.new.world in
    let grows = c.in_ok-lists-in-Let.ensures.goes.grows in
    let lists = lists_of c.in_ok-lists-in-Let.lists in
    let values = c.in_ok-lists-in-Let.ensures.gives clean inside tuples_in in
    let stream : c.in_ok-bind-in-Let.field-0 ≡ bound tuples lists = c.in_ok-bind-in-Let.ensures.stream in
    let same : tuples_at f' c.in_ok-bind-in-Let.field-0 ≡ bound (tuples_at f tuples) (tuple_at f' lists) =
    ap (tuples_at f') stream ∙ bound_natural (item_at f') tuples lists ∙ ap (λ ts. bound ts (tuple_at f' lists)) (tuples_grown grows tuples tuples_in) in (
      subst (TuplesIn f') (sym stream) (bound_in f' tuples lists (tuples_in_grown grows tuples tuples_in) values.0),
      ap (λ k. plan_clause_mean k frame (tuples_at f tuples) f) c.in-Let.is ∙ ap (λ m. m frame (tuples_at f tuples) f) (clause-Let c.in-Let.part)
          ∙ ap (λ o. go_on o (λ ls. give (bound (tuples_at f tuples) ls))) values.1 ∙ ap (λ ts. (Ok ts, f')) (sym same),
    )

pub clauses::next_tuples-returns-in_ok-tests-in-Where-clause-gives : goal.clauses::next_tuples-returns-in_ok-tests-in-Where-clause-gives
clauses::next_tuples-returns-in_ok-tests-in-Where-clause-gives g t c = λ clean inside tuples_in.
    let f = g.W.TreeSource.forest c.args.world.now in
    let held = c.args.frame in
    let frame = frame_at f held in
    let tuples = c.args.tuples in
    let f' = g.W.TreeSource.forest c.tests.new.world in
    let grows = c.in_ok-tests-in-Where.ensures.goes.grows in
    let tests = c.in_ok-tests-in-Where.tests.items in
    let values = c.in_ok-tests-in-Where.ensures.gives clean inside tuples_in in
    let stream : c.keep.result ≡ satisfying tuples tests = c.keep.ensures ∙ ap (satisfying tuples) c.deref.ensures.value in
    let same : tuples_at f' c.keep.result ≡ satisfying (tuples_at f tuples) tests =
    ap (tuples_at f') stream ∙ kept_natural (tuple_at f') tuples tests ∙ ap (λ ts. satisfying ts tests) (tuples_grown grows tuples tuples_in) in (
      subst (TuplesIn f') (sym stream) (kept_in f' tuples tests (tuples_in_grown grows tuples tuples_in)),
      ap (λ k. plan_clause_mean k frame (tuples_at f tuples) f) c.in-Where.is ∙ ap (λ m. m frame (tuples_at f tuples) f) (clause-Where c.in-Where.part)
          ∙ ap (λ o. go_on o (λ bs. give (satisfying (tuples_at f tuples) bs))) values.1 ∙ ap (λ ts. (Ok ts, f')) (sym same),
    )

pub clauses::next_tuples-returns-in_err-lists-in-Let-clause-gives : goal.clauses::next_tuples-returns-in_err-lists-in-Let-clause-gives
clauses::next_tuples-returns-in_err-lists-in-Let-clause-gives g t c = λ clean inside tuples_in.
    let f = g.W.TreeSource.forest c.args.world.now in
    let held = c.args.frame in
    let frame = frame_at f held in
    let tuples = c.args.tuples in
    let f' = g.W.TreeSource.forest c.values-in-Let.new.world in
    let e = c.in_err-lists-in-Let.field-0.0 in
    let next = λ (values : List (List Item)). give (bound (tuples_at f tuples) values) in
    cut lists_of tuple_at TupleIn (λ (ts : List (Tuple ItemView)). ts) tuples_at TuplesIn (plan_clause_mean c.args.clause.now frame (tuples_at f tuples) f) (for_each (λ t. plan_mean c.in-Let.part (at_tuple frame t)) (tuples_at f tuples) f) next f' e c.from_residual-in_err-lists-in-Let.result
    (ap (λ k. plan_clause_mean k frame (tuples_at f tuples) f) c.in-Let.is ∙ ap (λ m. m frame (tuples_at f tuples) f) (clause-Let c.in-Let.part)) c.from_residual-in_err-lists-in-Let.ensures.1
    (c.in_err-lists-in-Let.ensures.gives clean inside tuples_in)

pub clauses::next_tuples-returns-in_err-tests-in-Where-clause-gives : goal.clauses::next_tuples-returns-in_err-tests-in-Where-clause-gives
clauses::next_tuples-returns-in_err-tests-in-Where-clause-gives g t c = λ clean inside tuples_in.
    let f = g.W.TreeSource.forest c.args.world.now in
    let held = c.args.frame in
    let frame = frame_at f held in
    let tuples = c.args.tuples in
    let f' = g.W.TreeSource.forest c.tests.new.world in
    let e = c.in_err-tests-in-Where.field-0.0 in
    let next = λ (tests : List Bool). give (satisfying (tuples_at f tuples) tests) in
    cut (λ (v : Vec Bool). v.items) same_tests any_tests (λ (ts : List (Tuple ItemView)). ts) tuples_at TuplesIn (plan_clause_mean c.args.clause.now frame (tuples_at f tuples) f) (for_each (λ t. Forms.tested (plan_mean c.in-Where.part) (at_tuple frame t)) (tuples_at f tuples) f) next f' e c.from_residual-in_err-tests-in-Where.result
    (ap (λ k. plan_clause_mean k frame (tuples_at f tuples) f) c.in-Where.is ∙ ap (λ m. m frame (tuples_at f tuples) f) (clause-Where c.in-Where.part)) c.from_residual-in_err-tests-in-Where.ensures.1
    (c.in_err-tests-in-Where.ensures.gives clean inside tuples_in)

pub clauses::next_tuples-returns-in_err-lists-in-For-clause-goes : goal.clauses::next_tuples-returns-in_err-lists-in-For-clause-goes
clauses::next_tuples-returns-in_err-lists-in-For-clause-goes g t c = c.in_err-lists-in-For.ensures.goes

pub clauses::next_tuples-returns-in_err-expand-in-For-clause-goes : goal.clauses::next_tuples-returns-in_err-expand-in-For-clause-goes
clauses::next_tuples-returns-in_err-expand-in-For-clause-goes g t c = c.in_ok-lists-in-For.ensures.goes

pub clauses::next_tuples-returns-in_ok-expand-in-For-clause-goes : goal.clauses::next_tuples-returns-in_ok-expand-in-For-clause-goes
clauses::next_tuples-returns-in_ok-expand-in-For-clause-goes g t c = c.in_ok-lists-in-For.ensures.goes

pub clauses::next_tuples-returns-in_err-lists-in-Let-clause-goes : goal.clauses::next_tuples-returns-in_err-lists-in-Let-clause-goes
clauses::next_tuples-returns-in_err-lists-in-Let-clause-goes g t c = c.in_err-lists-in-Let.ensures.goes

pub clauses::next_tuples-returns-in_err-bind-in-Let-clause-goes : goal.clauses::next_tuples-returns-in_err-bind-in-Let-clause-goes
clauses::next_tuples-returns-in_err-bind-in-Let-clause-goes g t c = c.in_ok-lists-in-Let.ensures.goes

pub clauses::next_tuples-returns-in_ok-bind-in-Let-clause-goes : goal.clauses::next_tuples-returns-in_ok-bind-in-Let-clause-goes
clauses::next_tuples-returns-in_ok-bind-in-Let-clause-goes g t c = c.in_ok-lists-in-Let.ensures.goes

pub clauses::next_tuples-returns-in_err-tests-in-Where-clause-goes : goal.clauses::next_tuples-returns-in_err-tests-in-Where-clause-goes
clauses::next_tuples-returns-in_err-tests-in-Where-clause-goes g t c = c.in_err-tests-in-Where.ensures.goes

pub clauses::next_tuples-returns-in_ok-tests-in-Where-clause-goes : goal.clauses::next_tuples-returns-in_ok-tests-in-Where-clause-goes
clauses::next_tuples-returns-in_ok-tests-in-Where-clause-goes g t c = c.in_ok-tests-in-Where.ensures.goes

pub clauses::values-loop-index-preserved : goal.clauses::values-loop-index-preserved
clauses::values-loop-index-preserved g t c =
    let i = c.loop-index.invariant in
    let old = g.W.TreeSource.forest c.args.world.now in
    let f = g.W.TreeSource.forest c.loop-index.world in
    let f' = g.W.TreeSource.forest c.next_value.new.world in
    let held = c.args.frame in
    let n = c.loop-index.index in
    let tuples = c.args.tuples.now in
    let x = values_of c.tuple.result.now in
    let slots = values_of held.slots.now in
    let at : values_of c.deref.result.now ≡ slots ++ x = ap values_of c.deref.ensures.value ∙ c.in_ok-refill.ensures ∙ ap (λ s. s ++ x) i.in_slots in
    let p = plan_mean c.args.part.now in
    let act = λ (fr : Frame). one_more (λ t. p (at_tuple fr t)) in
    record {
      goes = goes_on_to i.goes c.next_value.ensures.goes;
      turns = turns_next _ _ _ (lists_of c.in_ok-lists.lists) (tuple_at old x) _ _ i.turns (left_at (tuple_at old) tuples n x [] (omega arith) c.tuple.ensures) c.next_value.ensures.goes.was_clean
          (λ clean inside is_in.
          let x_in = element (TupleIn old) tuples n x [] inside.1 (omega arith) c.tuple.ensures in
          let s = c.in_ok-lists.ensures.gives clean (frame_in_grown i.goes.grows held inside.0) is_in x at (tuple_in_grown i.goes.grows x x_in) in
          (s.0, ap (λ fr. act fr (tuple_at f (lists_of c.loop-index.lists)) (tuple_at old x) f) (sym (frame_grown i.goes.grows held inside.0)) ∙ ap (λ y. act (frame_at f held) (tuple_at f (lists_of c.loop-index.lists)) y f) (sym (tuple_grown i.goes.grows x x_in)) ∙ s.1));
      long = c.in_ok-lists.ensures.long ∙ ap suc i.long ∙ sym (add-one n);
      in_slots =
          ap (take (length held.slots.now)) (c.in_ok-refill.ensures ∙ ap (λ s. s ++ x) i.in_slots)
          ∙ take_at slots x (length held.slots.now) (length-map held.slots.now slot_items);
    }

pub clauses::values-returns-in_err-lists-clause-gives : goal.clauses::values-returns-in_err-lists-clause-gives
clauses::values-returns-in_err-lists-clause-gives g t c = λ clean inside tuples_in.
    let i = c.loop-index.invariant in
    let old = g.W.TreeSource.forest c.args.world.now in
    let f = g.W.TreeSource.forest c.loop-index.world in
    let f' = g.W.TreeSource.forest c.next_value.new.world in
    let held = c.args.frame in
    let n = c.loop-index.index in
    let tuples = c.args.tuples.now in
    let x = values_of c.tuple.result.now in
    let slots = values_of held.slots.now in
    let at : values_of c.deref.result.now ≡ slots ++ x = ap values_of c.deref.ensures.value ∙ c.in_ok-refill.ensures ∙ ap (λ s. s ++ x) i.in_slots in
    let p = plan_mean c.args.part.now in
    let act = λ (fr : Frame). one_more (λ t. p (at_tuple fr t)) in
    let e = c.in_err-lists.field-0.0 in
    handed_on lists_of tuple_at TupleIn _ f' e c.from_residual-in_err-lists.result c.from_residual-in_err-lists.ensures.1
    (turns_stop _ _ _ lists_of tuple_at TupleIn (tuple_at old x) _ f' e i.turns (left_at (tuple_at old) tuples n x [] (omega arith) c.tuple.ensures) c.next_value.ensures.goes.was_clean
    (λ clean inside is_in.
    let x_in = element (TupleIn old) tuples n x [] inside.1 (omega arith) c.tuple.ensures in
    subst (λ fr. GivesLists (act fr (tuple_at f (lists_of c.loop-index.lists)) (tuple_at old x) f) f' (Err e)) (frame_grown i.goes.grows held inside.0)
    (subst (λ y. GivesLists (act (frame_at f held) (tuple_at f (lists_of c.loop-index.lists)) y f) f' (Err e)) (tuple_grown i.goes.grows x x_in)
    (c.in_err-lists.ensures.gives clean (frame_in_grown i.goes.grows held inside.0) is_in x at (tuple_in_grown i.goes.grows x x_in)))) clean (inside, tuples_in))

pub clauses::values-loop-index-init : goal.clauses::values-loop-index-init
clauses::values-loop-index-init g t c =
    let old = g.W.TreeSource.forest c.args.world.now in
    let held = c.args.frame in
    let frame = frame_at old held in
    let none : lists_of c.new-lists.result ≡ [] = ap (map item_views) c.new-lists.ensures.items in
    let slots = values_of held.slots.now in
    let long = length-map held.slots.now slot_items in
    record {
      goes = stays _ _;
      turns = record { rest = λ clean inside. subst (λ ls. TupleIn old ls × (in_turn (one_more (λ t. plan_mean c.args.part.now (at_tuple frame t))) (tuple_at old ls) (tuples_at old c.args.tuples.now) old ≡ for_each (λ t. plan_mean c.args.part.now (at_tuple frame t)) (tuples_at old c.args.tuples.now) old)) (sym none) (tt, refl) };
      long = ap length c.new-lists.ensures.items;
      in_slots = ap (take (length held.slots.now)) (values_of-clones held.slots.now c.in_ok-slots.slots.items c.in_ok-slots.ensures.ok) ∙ take_all (length held.slots.now) slots (omega (arith, long));
    }

pub clauses::values-returns-in_err-slots-clause-goes : goal.clauses::values-returns-in_err-slots-clause-goes
clauses::values-returns-in_err-slots-clause-goes g t c = stays _ _

pub clauses::values-returns-in_err-refill-clause-goes : goal.clauses::values-returns-in_err-refill-clause-goes
clauses::values-returns-in_err-refill-clause-goes g t c = c.loop-index.invariant.goes

pub clauses::values-returns-in_err-lists-clause-goes : goal.clauses::values-returns-in_err-lists-clause-goes
clauses::values-returns-in_err-lists-clause-goes g t c = goes_on_to c.loop-index.invariant.goes c.in_err-lists.ensures.goes

pub clauses::values-returns-clause-goes : goal.clauses::values-returns-clause-goes
clauses::values-returns-clause-goes g t c = c.loop-index.invariant.goes

pub clauses::values-returns-clause-gives : goal.clauses::values-returns-clause-gives
clauses::values-returns-clause-gives g t c = λ clean inside rest_in.
    let old = g.W.TreeSource.forest c.args.world.now in
    turns_end _ _ _ c.loop-index.invariant.turns (ap (map (tuple_at old)) (drop_all c.loop-index.index c.args.tuples.now (omega arith))) clean (inside, rest_in)

pub clauses::next_value-returns-clause-gives : goal.clauses::next_value-returns-clause-gives
clauses::next_value-returns-clause-gives g t c = λ clean inside done_in tuple at tuple_in.
    let f = g.W.TreeSource.forest c.args.world.now in
    let held = c.args.frame in
    let frame = frame_at f held in
    let p = plan_mean c.args.part.now in
    list_next (λ t. p (at_tuple frame t)) (lists_of c.args.done) (item_views c.in_ok-list.list) (lists_of c.push.new.self) (tuple_at f tuple) _ _
    c.in_ok-list.ensures.goes.grows done_in (c.in_ok-list.ensures.gives clean inside tuple at tuple_in) (ap (map item_views) c.in_ok-push.ensures.items ∙ map-append item_views c.args.done.items (c.in_ok-list.list ∷ []))

pub clauses::next_value-returns-in_err-list-clause-gives : goal.clauses::next_value-returns-in_err-list-clause-gives
clauses::next_value-returns-in_err-list-clause-gives g t c = λ clean inside done_in tuple at tuple_in.
    let f = g.W.TreeSource.forest c.args.world.now in
    let held = c.args.frame in
    let frame = frame_at f held in
    let f' = g.W.TreeSource.forest c.at_tuple.new.world in
    let e = c.in_err-list.field-0.0 in
    handed_on lists_of tuple_at TupleIn _ f' e c.from_residual.result c.from_residual.ensures.1
    (go_on_stop item_views items_at AreIn lists_of tuple_at TupleIn _ (λ y. give (tuple_at f (lists_of c.args.done) ++ y ∷ [])) f' e (c.in_err-list.ensures.gives clean inside tuple at tuple_in))

pub clauses::next_value-returns-in_err-list-clause-goes : goal.clauses::next_value-returns-in_err-list-clause-goes
clauses::next_value-returns-in_err-list-clause-goes g t c = c.in_err-list.ensures.goes

pub clauses::next_value-returns-in_err-push-clause-goes : goal.clauses::next_value-returns-in_err-push-clause-goes
clauses::next_value-returns-in_err-push-clause-goes g t c = c.in_ok-list.ensures.goes

pub clauses::next_value-returns-clause-goes : goal.clauses::next_value-returns-clause-goes
clauses::next_value-returns-clause-goes g t c = c.in_ok-list.ensures.goes

pub clauses::returned-loop-index-preserved : goal.clauses::returned-loop-index-preserved
clauses::returned-loop-index-preserved g t c =
    let i = c.loop-index.invariant in
    let old = g.W.TreeSource.forest c.args.world.now in
    let f = g.W.TreeSource.forest c.loop-index.world in
    let f' = g.W.TreeSource.forest c.next_returned.new.world in
    let held = c.args.frame in
    let n = c.loop-index.index in
    let tuples = c.args.tuples.now in
    let x = values_of c.tuple.result.now in
    let slots = values_of held.slots.now in
    let at : values_of c.deref.result.now ≡ slots ++ x = ap values_of c.deref.ensures.value ∙ c.in_ok-refill.ensures ∙ ap (λ s. s ++ x) i.in_slots in
    let p = plan_mean c.args.part.now in
    let done = item_views c.loop-index.items in
    let act = λ (fr : Frame). more (λ t. p (at_tuple fr t)) in
    record {
      goes = goes_on_to i.goes c.next_returned.ensures.goes;
      turns = turns_next _ _ _ (item_views c.in_ok-items.items) (tuple_at old x) _ _ i.turns (left_at (tuple_at old) tuples n x [] (omega arith) c.tuple.ensures) c.next_returned.ensures.goes.was_clean
          (λ clean inside is_in.
          let x_in = element (TupleIn old) tuples n x [] inside.1 (omega arith) c.tuple.ensures in
          let s = c.in_ok-items.ensures.gives clean (frame_in_grown i.goes.grows held inside.0) is_in x at (tuple_in_grown i.goes.grows x x_in) in
          (s.0, ap (λ fr. act fr (items_at f done) (tuple_at old x) f) (sym (frame_grown i.goes.grows held inside.0)) ∙ ap (λ y. act (frame_at f held) (items_at f done) y f) (sym (tuple_grown i.goes.grows x x_in)) ∙ s.1));
      in_slots =
          ap (take (length held.slots.now)) (c.in_ok-refill.ensures ∙ ap (λ s. s ++ x) i.in_slots)
          ∙ take_at slots x (length held.slots.now) (length-map held.slots.now slot_items);
    }

pub clauses::returned-returns-in_err-items-clause-gives : goal.clauses::returned-returns-in_err-items-clause-gives
clauses::returned-returns-in_err-items-clause-gives g t c = λ clean inside tuples_in.
    let i = c.loop-index.invariant in
    let old = g.W.TreeSource.forest c.args.world.now in
    let f = g.W.TreeSource.forest c.loop-index.world in
    let f' = g.W.TreeSource.forest c.next_returned.new.world in
    let held = c.args.frame in
    let n = c.loop-index.index in
    let tuples = c.args.tuples.now in
    let x = values_of c.tuple.result.now in
    let slots = values_of held.slots.now in
    let at : values_of c.deref.result.now ≡ slots ++ x = ap values_of c.deref.ensures.value ∙ c.in_ok-refill.ensures ∙ ap (λ s. s ++ x) i.in_slots in
    let p = plan_mean c.args.part.now in
    let done = item_views c.loop-index.items in
    let act = λ (fr : Frame). more (λ t. p (at_tuple fr t)) in
    let e = c.in_err-items.field-0.0 in
    handed_on item_views items_at AreIn _ f' e c.from_residual-in_err-items.result c.from_residual-in_err-items.ensures.1
    (turns_stop _ _ _ item_views items_at AreIn (tuple_at old x) _ f' e i.turns (left_at (tuple_at old) tuples n x [] (omega arith) c.tuple.ensures) c.next_returned.ensures.goes.was_clean
    (λ clean inside is_in.
    let x_in = element (TupleIn old) tuples n x [] inside.1 (omega arith) c.tuple.ensures in
    subst (λ fr. GivesSequence (act fr (items_at f done) (tuple_at old x) f) f' (Err e)) (frame_grown i.goes.grows held inside.0)
    (subst (λ y. GivesSequence (act (frame_at f held) (items_at f done) y f) f' (Err e)) (tuple_grown i.goes.grows x x_in)
    (c.in_err-items.ensures.gives clean (frame_in_grown i.goes.grows held inside.0) is_in x at (tuple_in_grown i.goes.grows x x_in)))) clean (inside, tuples_in))

pub clauses::returned-loop-index-init : goal.clauses::returned-loop-index-init
clauses::returned-loop-index-init g t c =
    let old = g.W.TreeSource.forest c.args.world.now in
    let held = c.args.frame in
    let p = plan_mean c.args.part.now in
    let frame = frame_at old held in
    let none : item_views c.new-items.result ≡ [] = ap (map item_view) c.new-items.ensures.items in
    let slots = values_of held.slots.now in
    let long = length-map held.slots.now slot_items in
    record {
      goes = stays _ _;
      turns = record { rest = λ clean inside. subst (λ xs. AreIn old xs × (in_turn (more (λ t. p (at_tuple frame t))) (items_at old xs) (tuples_at old c.args.tuples.now) old ≡ Forms.return_of p (at_tuple frame) (tuples_at old c.args.tuples.now) old)) (sym none) (tt, refl) };
      in_slots = ap (take (length held.slots.now)) (values_of-clones held.slots.now c.in_ok-slots.slots.items c.in_ok-slots.ensures.ok) ∙ take_all (length held.slots.now) slots (omega (arith, long));
    }

pub clauses::returned-returns-in_err-slots-clause-goes : goal.clauses::returned-returns-in_err-slots-clause-goes
clauses::returned-returns-in_err-slots-clause-goes g t c = stays _ _

pub clauses::returned-returns-in_err-refill-clause-goes : goal.clauses::returned-returns-in_err-refill-clause-goes
clauses::returned-returns-in_err-refill-clause-goes g t c = c.loop-index.invariant.goes

pub clauses::returned-returns-in_err-items-clause-goes : goal.clauses::returned-returns-in_err-items-clause-goes
clauses::returned-returns-in_err-items-clause-goes g t c = goes_on_to c.loop-index.invariant.goes c.in_err-items.ensures.goes

pub clauses::returned-returns-clause-goes : goal.clauses::returned-returns-clause-goes
clauses::returned-returns-clause-goes g t c = c.loop-index.invariant.goes

pub clauses::returned-returns-clause-gives : goal.clauses::returned-returns-clause-gives
clauses::returned-returns-clause-gives g t c = λ clean inside rest_in.
    let old = g.W.TreeSource.forest c.args.world.now in
    turns_end _ _ _ c.loop-index.invariant.turns (ap (map (tuple_at old)) (drop_all c.loop-index.index c.args.tuples.now (omega arith))) clean (inside, rest_in)

pub clauses::returned_each-loop-item-preserved : goal.clauses::returned_each-loop-item-preserved
clauses::returned_each-loop-item-preserved g t c =
    let i = c.loop-item.invariant in
    let old = g.W.TreeSource.forest c.args.world.now in
    let f = g.W.TreeSource.forest c.loop-item.world in
    let held = c.args.frame in
    let n = c.loop-item.item-index in
    let items = c.args.items.now in
    let item = c.item-item.result in
    let x : Tuple ItemView = (item_view item ∷ []) ∷ [] in
    let slots = values_of held.slots.now in
    let at : values_of c.deref.result.now ≡ slots ++ x = ap values_of c.deref.ensures.value ∙ c.in_ok-rebind.ensures ∙ ap (λ s. s ++ x) i.in_slots in
    let p = plan_mean c.args.part.now in
    let done = item_views c.loop-item.found in
    let act = λ (fr : Frame). more (λ t. p (at_tuple fr t)) in
    record {
      goes = goes_on_to i.goes c.next_returned.ensures.goes;
      turns = turns_next _ _ _ (item_views c.in_ok-found.found) (item_at old (item_view item)) _ _ i.turns (ap (items_at old) (left_over item_view items n item (omega arith) c.item-item.is)) c.next_returned.ensures.goes.was_clean
          (λ clean inside is_in.
          let item_in = all_at (IsIn old) item_view items n item inside.1 (omega arith) c.item-item.is in
          let x_in : TupleIn old x = ((item_in, tt), tt) in
          let s = c.in_ok-found.ensures.gives clean (frame_in_grown i.goes.grows held inside.0) is_in x at (tuple_in_grown i.goes.grows x x_in) in
          (s.0, ap (λ fr. act fr (items_at f done) (tuple_at old x) f) (sym (frame_grown i.goes.grows held inside.0)) ∙ ap (λ y. act (frame_at f held) (items_at f done) y f) (sym (tuple_grown i.goes.grows x x_in)) ∙ s.1));
      in_slots =
          ap (take (length held.slots.now)) (c.in_ok-rebind.ensures ∙ ap (λ s. s ++ x) i.in_slots)
          ∙ take_at slots x (length held.slots.now) (length-map held.slots.now slot_items);
    }

pub clauses::returned_each-returns-in_err-found-clause-gives : goal.clauses::returned_each-returns-in_err-found-clause-gives
clauses::returned_each-returns-in_err-found-clause-gives g t c = λ clean inside items_in.
    let i = c.loop-item.invariant in
    let old = g.W.TreeSource.forest c.args.world.now in
    let f = g.W.TreeSource.forest c.loop-item.world in
    let f' = g.W.TreeSource.forest c.next_returned.new.world in
    let held = c.args.frame in
    let n = c.loop-item.item-index in
    let items = c.args.items.now in
    let item = c.item-item.result in
    let x : Tuple ItemView = (item_view item ∷ []) ∷ [] in
    let slots = values_of held.slots.now in
    let at : values_of c.deref.result.now ≡ slots ++ x = ap values_of c.deref.ensures.value ∙ c.in_ok-rebind.ensures ∙ ap (λ s. s ++ x) i.in_slots in
    let p = plan_mean c.args.part.now in
    let done = item_views c.loop-item.found in
    let act = λ (fr : Frame). more (λ t. p (at_tuple fr t)) in
    let e = c.in_err-found.field-0.0 in
    handed_on item_views items_at AreIn _ f' e c.from_residual-in_err-found.result c.from_residual-in_err-found.ensures.1
    (turns_stop _ _ _ item_views items_at AreIn (item_at old (item_view item)) _ f' e i.turns (ap (items_at old) (left_over item_view items n item (omega arith) c.item-item.is)) c.next_returned.ensures.goes.was_clean
    (λ clean inside is_in.
    let item_in = all_at (IsIn old) item_view items n item inside.1 (omega arith) c.item-item.is in
    let x_in : TupleIn old x = ((item_in, tt), tt) in
    subst (λ fr. GivesSequence (act fr (items_at f done) (tuple_at old x) f) f' (Err e)) (frame_grown i.goes.grows held inside.0)
    (subst (λ y. GivesSequence (act (frame_at f held) (items_at f done) y f) f' (Err e)) (tuple_grown i.goes.grows x x_in)
    (c.in_err-found.ensures.gives clean (frame_in_grown i.goes.grows held inside.0) is_in x at (tuple_in_grown i.goes.grows x x_in)))) clean (inside, items_in))

pub clauses::returned_each-loop-item-init : goal.clauses::returned_each-loop-item-init
clauses::returned_each-loop-item-init g t c =
    let old = g.W.TreeSource.forest c.args.world.now in
    let held = c.args.frame in
    let p = plan_mean c.args.part.now in
    let frame = frame_at old held in
    let items = map item_view c.args.items.now in
    let none : item_views c.new-found.result ≡ [] = ap (map item_view) c.new-found.ensures.items in
    let slots = values_of held.slots.now in
    let long = length-map held.slots.now slot_items in
    let act = λ (x : Item). p (at_tuple frame ((x ∷ []) ∷ [])) in
    record {
      goes = stays _ _;
      turns = record { rest = λ clean inside. subst (λ xs. AreIn old xs × (in_turn (more act) (items_at old xs) (items_at old items) old ≡ collected act (items_at old items) old)) (sym none) (tt, refl) };
      in_slots = ap (take (length held.slots.now)) (values_of-clones held.slots.now c.in_ok-slots.slots.items c.in_ok-slots.ensures.ok) ∙ take_all (length held.slots.now) slots (omega (arith, long));
    }

pub clauses::returned_each-returns-in_err-slots-clause-goes : goal.clauses::returned_each-returns-in_err-slots-clause-goes
clauses::returned_each-returns-in_err-slots-clause-goes g t c = stays _ _

pub clauses::returned_each-returns-in_err-rebind-clause-goes : goal.clauses::returned_each-returns-in_err-rebind-clause-goes
clauses::returned_each-returns-in_err-rebind-clause-goes g t c = c.loop-item.invariant.goes

pub clauses::returned_each-returns-in_err-found-clause-goes : goal.clauses::returned_each-returns-in_err-found-clause-goes
clauses::returned_each-returns-in_err-found-clause-goes g t c = goes_on_to c.loop-item.invariant.goes c.in_err-found.ensures.goes

pub clauses::returned_each-returns-clause-goes : goal.clauses::returned_each-returns-clause-goes
clauses::returned_each-returns-clause-goes g t c = c.loop-item.invariant.goes

pub clauses::returned_each-returns-clause-gives : goal.clauses::returned_each-returns-clause-gives
clauses::returned_each-returns-clause-gives g t c = λ clean inside items_in.
    let old = g.W.TreeSource.forest c.args.world.now in
    turns_end _ _ _ c.loop-item.invariant.turns (ap (λ (xs : List Item_held). items_at old (map item_view xs)) (drop_all c.loop-item.item-index c.args.items.now (omega arith))) clean (inside, items_in)

pub clauses::next_returned-returns-clause-gives : goal.clauses::next_returned-returns-clause-gives
clauses::next_returned-returns-clause-gives g t c = λ clean inside done_in tuple at tuple_in.
    let f = g.W.TreeSource.forest c.args.world.now in
    let held = c.args.frame in
    let inner : Held = record { slots = c.args.slots; focus = held.focus; addresses = held.addresses } in
    subst (λ fr. GivesSequence (more (λ (m : Meaning). m fr) (items_at f (item_views c.args.done)) (plan_mean c.args.part.now) f) (g.W.TreeSource.forest c.next_part.new.world) c.next_part.result) (frame_inner f held inner tuple at refl refl)
    (c.next_part.ensures.gives clean (frame_inner_in f held inner tuple at refl refl inside tuple_in) done_in)

pub clauses::next_returned-returns-clause-goes : goal.clauses::next_returned-returns-clause-goes
clauses::next_returned-returns-clause-goes g t c = c.next_part.ensures.goes

pub clauses::tests-loop-index-preserved : goal.clauses::tests-loop-index-preserved
clauses::tests-loop-index-preserved g t c =
    let i = c.loop-index.invariant in
    let old = g.W.TreeSource.forest c.args.world.now in
    let f = g.W.TreeSource.forest c.loop-index.world in
    let f' = g.W.TreeSource.forest c.next_test.new.world in
    let held = c.args.frame in
    let n = c.loop-index.index in
    let tuples = c.args.tuples.now in
    let x = values_of c.tuple.result.now in
    let slots = values_of held.slots.now in
    let at : values_of c.deref.result.now ≡ slots ++ x = ap values_of c.deref.ensures.value ∙ c.in_ok-refill.ensures ∙ ap (λ s. s ++ x) i.in_slots in
    let p = plan_mean c.args.part.now in
    let act = λ (fr : Frame). one_more (λ t. Forms.tested p (at_tuple fr t)) in
    record {
      goes = goes_on_to i.goes c.next_test.ensures.goes;
      turns = turns_next _ _ _ (c.in_ok-tests.tests.items) (tuple_at old x) _ _ i.turns (left_at (tuple_at old) tuples n x [] (omega arith) c.tuple.ensures) c.next_test.ensures.goes.was_clean
          (λ clean inside is_in.
          let x_in = element (TupleIn old) tuples n x [] inside.1 (omega arith) c.tuple.ensures in
          let s = c.in_ok-tests.ensures.gives clean (frame_in_grown i.goes.grows held inside.0) x at (tuple_in_grown i.goes.grows x x_in) in
          (s.0, ap (λ fr. act fr (same_tests f (c.loop-index.tests.items)) (tuple_at old x) f) (sym (frame_grown i.goes.grows held inside.0)) ∙ ap (λ y. act (frame_at f held) (same_tests f (c.loop-index.tests.items)) y f) (sym (tuple_grown i.goes.grows x x_in)) ∙ s.1));
      long = c.in_ok-tests.ensures.long ∙ ap suc i.long ∙ sym (add-one n);
      in_slots =
          ap (take (length held.slots.now)) (c.in_ok-refill.ensures ∙ ap (λ s. s ++ x) i.in_slots)
          ∙ take_at slots x (length held.slots.now) (length-map held.slots.now slot_items);
    }

pub clauses::tests-returns-in_err-tests-clause-gives : goal.clauses::tests-returns-in_err-tests-clause-gives
clauses::tests-returns-in_err-tests-clause-gives g t c = λ clean inside tuples_in.
    let i = c.loop-index.invariant in
    let old = g.W.TreeSource.forest c.args.world.now in
    let f = g.W.TreeSource.forest c.loop-index.world in
    let f' = g.W.TreeSource.forest c.next_test.new.world in
    let held = c.args.frame in
    let n = c.loop-index.index in
    let tuples = c.args.tuples.now in
    let x = values_of c.tuple.result.now in
    let slots = values_of held.slots.now in
    let at : values_of c.deref.result.now ≡ slots ++ x = ap values_of c.deref.ensures.value ∙ c.in_ok-refill.ensures ∙ ap (λ s. s ++ x) i.in_slots in
    let p = plan_mean c.args.part.now in
    let act = λ (fr : Frame). one_more (λ t. Forms.tested p (at_tuple fr t)) in
    let e = c.in_err-tests.field-0.0 in
    handed_on (λ (v : Vec Bool). v.items) same_tests any_tests _ f' e c.from_residual-in_err-tests.result c.from_residual-in_err-tests.ensures.1
    (turns_stop _ _ _ (λ (v : Vec Bool). v.items) same_tests any_tests (tuple_at old x) _ f' e i.turns (left_at (tuple_at old) tuples n x [] (omega arith) c.tuple.ensures) c.next_test.ensures.goes.was_clean
    (λ clean inside is_in.
    let x_in = element (TupleIn old) tuples n x [] inside.1 (omega arith) c.tuple.ensures in
    subst (λ fr. GivesTests (act fr (same_tests f (c.loop-index.tests.items)) (tuple_at old x) f) f' (Err e)) (frame_grown i.goes.grows held inside.0)
    (subst (λ y. GivesTests (act (frame_at f held) (same_tests f (c.loop-index.tests.items)) y f) f' (Err e)) (tuple_grown i.goes.grows x x_in)
    (c.in_err-tests.ensures.gives clean (frame_in_grown i.goes.grows held inside.0) x at (tuple_in_grown i.goes.grows x x_in)))) clean (inside, tuples_in))

pub clauses::tests-loop-index-init : goal.clauses::tests-loop-index-init
clauses::tests-loop-index-init g t c =
    let old = g.W.TreeSource.forest c.args.world.now in
    let held = c.args.frame in
    let frame = frame_at old held in
    let none : c.new-tests.result.items ≡ [] = c.new-tests.ensures.items in
    let slots = values_of held.slots.now in
    let long = length-map held.slots.now slot_items in
    record {
      goes = stays _ _;
      turns = record { rest = λ clean inside. subst (λ bs. Unit {0} × (in_turn (one_more (λ t. Forms.tested (plan_mean c.args.part.now) (at_tuple frame t))) bs (tuples_at old c.args.tuples.now) old ≡ for_each (λ t. Forms.tested (plan_mean c.args.part.now) (at_tuple frame t)) (tuples_at old c.args.tuples.now) old)) (sym none) (tt, refl) };
      long = ap length c.new-tests.ensures.items;
      in_slots = ap (take (length held.slots.now)) (values_of-clones held.slots.now c.in_ok-slots.slots.items c.in_ok-slots.ensures.ok) ∙ take_all (length held.slots.now) slots (omega (arith, long));
    }

pub clauses::tests-returns-in_err-slots-clause-goes : goal.clauses::tests-returns-in_err-slots-clause-goes
clauses::tests-returns-in_err-slots-clause-goes g t c = stays _ _

pub clauses::tests-returns-in_err-refill-clause-goes : goal.clauses::tests-returns-in_err-refill-clause-goes
clauses::tests-returns-in_err-refill-clause-goes g t c = c.loop-index.invariant.goes

pub clauses::tests-returns-in_err-tests-clause-goes : goal.clauses::tests-returns-in_err-tests-clause-goes
clauses::tests-returns-in_err-tests-clause-goes g t c = goes_on_to c.loop-index.invariant.goes c.in_err-tests.ensures.goes

pub clauses::tests-returns-clause-goes : goal.clauses::tests-returns-clause-goes
clauses::tests-returns-clause-goes g t c = c.loop-index.invariant.goes

pub clauses::tests-returns-clause-gives : goal.clauses::tests-returns-clause-gives
clauses::tests-returns-clause-gives g t c = λ clean inside rest_in.
    let old = g.W.TreeSource.forest c.args.world.now in
    turns_end _ _ _ c.loop-index.invariant.turns (ap (map (tuple_at old)) (drop_all c.loop-index.index c.args.tuples.now (omega arith))) clean (inside, rest_in)

pub clauses::next_test-returns-clause-gives : goal.clauses::next_test-returns-clause-gives
clauses::next_test-returns-clause-gives g t c = λ clean inside tuple at tuple_in.
    let f = g.W.TreeSource.forest c.args.world.now in
    let held = c.args.frame in
    let f' = g.W.TreeSource.forest c.tested.new.world in
    let p = plan_mean c.args.part.now in
    let inner : Held = record { slots = c.args.slots; focus = held.focus; addresses = held.addresses } in
    let holds = c.in_ok-holds.ensures.gives clean (frame_inner_in f held inner tuple at refl refl inside tuple_in) in
    let made : Forms.tested p (at_tuple (frame_at f held) (tuple_at f tuple)) f ≡ (Ok c.in_ok-holds.holds, f') = ap (λ fr. Forms.tested p fr f) (sym (frame_inner f held inner tuple at refl refl)) ∙ holds.1 in
    (tt, ap (λ o. go_on o (λ y. give (c.args.done.items ++ y ∷ []))) made ∙ ap (λ bs. (Ok bs, f')) (sym c.in_ok-push.ensures.items))

pub clauses::next_test-returns-in_err-holds-clause-gives : goal.clauses::next_test-returns-in_err-holds-clause-gives
clauses::next_test-returns-in_err-holds-clause-gives g t c = λ clean inside tuple at tuple_in.
    let f = g.W.TreeSource.forest c.args.world.now in
    let held = c.args.frame in
    let f' = g.W.TreeSource.forest c.tested.new.world in
    let p = plan_mean c.args.part.now in
    let inner : Held = record { slots = c.args.slots; focus = held.focus; addresses = held.addresses } in
    let next = λ (y : Bool). give (c.args.done.items ++ y ∷ []) in
    let e = c.in_err-holds.field-0.0 in
    cut (λ (b : Bool). b) (λ trees b. b) (λ trees b. Unit {0}) (λ (v : Vec Bool). v.items) same_tests any_tests _ (Forms.tested p (at_tuple (frame_at f held) (tuple_at f tuple)) f) next f' e c.from_residual.result refl c.from_residual.ensures.1
    (subst (λ fr. GivesPlain (Forms.tested p fr f) f' (Err e)) (frame_inner f held inner tuple at refl refl)
    (c.in_err-holds.ensures.gives clean (frame_inner_in f held inner tuple at refl refl inside tuple_in)))

pub clauses::next_test-returns-in_err-holds-clause-goes : goal.clauses::next_test-returns-in_err-holds-clause-goes
clauses::next_test-returns-in_err-holds-clause-goes g t c = c.in_err-holds.ensures.goes

pub clauses::next_test-returns-in_err-push-clause-goes : goal.clauses::next_test-returns-in_err-push-clause-goes
clauses::next_test-returns-in_err-push-clause-goes g t c = c.in_ok-holds.ensures.goes

pub clauses::next_test-returns-clause-goes : goal.clauses::next_test-returns-clause-goes
clauses::next_test-returns-clause-goes g t c = c.in_ok-holds.ensures.goes

pub clauses::at_tuple-returns-clause-gives : goal.clauses::at_tuple-returns-clause-gives
clauses::at_tuple-returns-clause-gives g t c = λ clean inside tuple at tuple_in.
    let f = g.W.TreeSource.forest c.args.world.now in
    let held = c.args.frame in
    let inner : Held = record { slots = c.args.slots; focus = held.focus; addresses = held.addresses } in
    subst (λ fr. GivesSequence (plan_mean c.args.part.now fr f) (g.W.TreeSource.forest c.evaluate.new.world) c.evaluate.result) (frame_inner f held inner tuple at refl refl)
    (c.evaluate.ensures.gives clean (frame_inner_in f held inner tuple at refl refl inside tuple_in))

pub clauses::at_tuple-returns-clause-goes : goal.clauses::at_tuple-returns-clause-goes
clauses::at_tuple-returns-clause-goes g t c = c.evaluate.ensures.goes

pub paths::step_list-returns-in_err-first-clause-goes : goal.paths::step_list-returns-in_err-first-clause-goes
paths::step_list-returns-in_err-first-clause-goes g t c = same_goes c.items_after_scans.ensures.keeps c.items_after_scans.ensures.was_clean

pub paths::step_list-returns-in_err-first-clause-reads : goal.paths::step_list-returns-in_err-first-clause-reads
paths::step_list-returns-in_err-first-clause-reads g t c = λ clean all tree h.
    let f = g.W.TreeSource.forest c.args.world.now in
    let node = c.in-Some.node in
    let items = item_views c.args.items in
    let d : map item_view c.deref.result.now ≡ items = ap (map item_view) c.deref.ensures.value in
    let is : items ≡ NodeAt node ∷ [] = sym d ∙ c.in-Some.ensures in
    read_of f node items is tree h _ _ (length c.args.steps.now) (c.items_after_scans.ensures.reads_most clean (node_of f node items is tree h))

pub paths::step_list-returns-clause-gives : goal.paths::step_list-returns-clause-gives
paths::step_list-returns-clause-gives g t c = λ clean inside items_in.
    let f = g.W.TreeSource.forest c.args.world.now in
    let f' = g.W.TreeSource.forest c.later_steps-2.new.world in
    let held = c.args.frame in
    let steps = c.args.steps.now in
    let first = c.in_ok-first.first in
    let views = item_views first.items in
    let node = c.in-Some.node in
    let items = item_views c.args.items in
    let d : map item_view c.deref.result.now ≡ items = ap (map item_view) c.deref.ensures.value in
    let is : items ≡ NodeAt node ∷ [] = sym d ∙ c.in-Some.ensures in
    let given = c.in_ok-first.ensures.gives (c.later_steps-2.ensures.goes.was_clean clean) (node_there f node items is items_in) in
    let left = map plan_step_mean (take (length steps - first.taken) (drop first.taken steps)) in
    let rest = subst (λ h. FrameIn h held → AreIn h views → GivesSequence (in_turn (next_step (frame_at h held)) (items_at h views) left h) f' c.later_steps-2.result) c.items_after_scans.ensures.keeps (c.later_steps-2.ensures.gives clean) inside given.there in
    subst (λ o. GivesSequence o f' c.later_steps-2.result) (sym (after_scans f node items is steps first.taken views given (frame_at f held))) rest

pub paths::step_list-returns-clause-goes : goal.paths::step_list-returns-clause-goes
paths::step_list-returns-clause-goes g t c = goes_on_to (same_goes c.items_after_scans.ensures.keeps c.items_after_scans.ensures.was_clean) c.later_steps-2.ensures.goes

pub paths::step_list-returns-clause-reads : goal.paths::step_list-returns-clause-reads
paths::step_list-returns-clause-reads g t c = λ clean all tree h.
    let f = g.W.TreeSource.forest c.args.world.now in
    let start = g.W.TreeSource.meter c.args.world.now in
    let now = g.W.TreeSource.meter c.items_after_scans.new.source in
    let after = g.W.TreeSource.meter c.later_steps-2.new.world in
    let steps = c.args.steps.now in
    let first = c.in_ok-first.first in
    let views = item_views first.items in
    let node = c.in-Some.node in
    let items = item_views c.args.items in
    let d : map item_view c.deref.result.now ≡ items = ap (map item_view) c.deref.ensures.value in
    let is : items ≡ NodeAt node ∷ [] = sym d ∙ c.in-Some.ensures in
    let was = c.later_steps-2.ensures.goes.was_clean clean in
    let there = node_of f node items is tree h in
    let given = c.in_ok-first.ensures.gives was there in
    let left = take (length steps - first.taken) (drop first.taken steps) in
    let scans : AllByRecursion IsScan left = subst (AllByRecursion IsScan) (sym (slice_left first.taken steps)) (all_drop IsScan first.taken steps all) in
    let rest = subst (λ trees. AreOf trees node.tree views → HasGrown now after (length left * rows_of trees node.tree)) c.items_after_scans.ensures.keeps (c.later_steps-2.ensures.reads clean scans node.tree) given.of_tree in
    read_of f node items is tree h start after (length steps) (read_after f node items is steps first.taken views given start now after c.in_ok-first.ensures.taken (c.in_ok-first.ensures.reads was there) rest)

pub paths::later_steps-loop-index-preserved-then-is_taken : goal.paths::later_steps-loop-index-preserved-then-is_taken
paths::later_steps-loop-index-preserved-then-is_taken g t c =
    let i = c.loop-index.invariant in
    record {
      goes = i.goes;
      turns = turns_same _ _ _ _ i.turns (ap (λ n. map plan_step_mean (drop n c.args.steps.now)) (one_taken c.loop-index.is_taken c.loop-index.index c.if-is_taken.true));
      within = subst (λ n. n ≤ length c.args.steps.now) (one_taken c.loop-index.is_taken c.loop-index.index c.if-is_taken.true) i.within;
      reads = λ clean all tree h.
          let w = i.reads clean all tree h in
          (w.0, subst (λ n. HasGrown (g.W.TreeSource.meter c.args.world.now) (g.W.TreeSource.meter c.loop-index.world) (n * rows_of (g.W.TreeSource.forest c.args.world.now) tree)) (one_taken c.loop-index.is_taken c.loop-index.index c.if-is_taken.true) w.1);
    }

pub paths::later_steps-loop-index-preserved-in-Some : goal.paths::later_steps-loop-index-preserved-in-Some
paths::later_steps-loop-index-preserved-in-Some g t c =
    let i = c.loop-index.invariant in
    let old = g.W.TreeSource.forest c.args.world.now in
    let f = g.W.TreeSource.forest c.loop-index.world in
    let held = c.args.frame in
    let n = c.loop-index.index in
    let p = c.index-steps-index.result in
    let test = c.in-Some.test.now in
    let q = plan_step.Scan Child test in
    let left = item_views c.loop-index.left in
    let d : map item_view c.deref.result.now ≡ left = ap (map item_view) c.deref.ensures.value in
    let next = sym c.at-next.ensures ∙ c.in-Some.ensures in
    let are = ap (λ k. map plan_step_mean (drop k c.args.steps.now)) (none_taken c.loop-index.is_taken n c.if-is_taken.false) ∙ two_left plan_step_mean c.args.steps.now n p q (omega arith) c.index-steps-index.is next in
    record {
      goes = goes_on_to i.goes c.in_ok-found.ensures.goes;
      turns = turns_two _ _ _ (item_views c.in_ok-found.found) (plan_step_mean p) (plan_step_mean q) _ _ i.turns are c.in_ok-found.ensures.goes.was_clean
          (λ clean inside is_in.
          let s = c.in_ok-found.ensures.gives clean (subst (AreIn f) (sym d) is_in) in
          (s.0, double_slash_is p q test (frame_at old held) (items_at f left) f (c.is_double_slash.ensures c.if-is_double_slash.true) refl ∙ ap (λ xs. after_double_slash test (items_at f xs) f) (sym d) ∙ s.1));
      within = (let at = got_at c.args.steps.now (n + 1) q next in omega (arith, at.0));
      reads = λ clean all tree h.
          let w = i.reads (c.in_ok-found.ensures.goes.was_clean clean) all tree h in
          let of = subst (AreOf f tree) (sym d) w.0 in
          let before = subst (λ k. HasGrown (g.W.TreeSource.meter c.args.world.now) (g.W.TreeSource.meter c.loop-index.world) (k * rows_of old tree)) (none_taken c.loop-index.is_taken n c.if-is_taken.false) w.1 in
          (c.in_ok-found.ensures.of_tree clean tree of, grown_on old f tree n 2 (n + 1 + 1) i.goes.grows h.has_tree (omega arith) before (c.double_slash.ensures.reads clean tree of));
    }

pub paths::later_steps-returns-in_err-found-clause-gives : goal.paths::later_steps-returns-in_err-found-clause-gives
paths::later_steps-returns-in_err-found-clause-gives g t c = λ clean inside items_in.
    let i = c.loop-index.invariant in
    let old = g.W.TreeSource.forest c.args.world.now in
    let f = g.W.TreeSource.forest c.loop-index.world in
    let f' = g.W.TreeSource.forest c.double_slash.new.world in
    let held = c.args.frame in
    let n = c.loop-index.index in
    let p = c.index-steps-index.result in
    let test = c.in-Some.test.now in
    let q = plan_step.Scan Child test in
    let left = item_views c.loop-index.left in
    let e = c.in_err-found.field-0.0 in
    let d : map item_view c.deref.result.now ≡ left = ap (map item_view) c.deref.ensures.value in
    let next = sym c.at-next.ensures ∙ c.in-Some.ensures in
    let are = ap (λ k. map plan_step_mean (drop k c.args.steps.now)) (none_taken c.loop-index.is_taken n c.if-is_taken.false) ∙ two_left plan_step_mean c.args.steps.now n p q (omega arith) c.index-steps-index.is next in
    handed_on item_views items_at AreIn _ f' e c.from_residual.result c.from_residual.ensures.1
    (turns_stop_two _ _ _ item_views items_at AreIn (plan_step_mean p) (plan_step_mean q) _ f' e i.turns are c.double_slash.ensures.goes.was_clean
    (λ clean inside is_in.
    subst (λ o. GivesSequence o f' (Err e)) (sym (double_slash_is p q test (frame_at old held) (items_at f left) f (c.is_double_slash.ensures c.if-is_double_slash.true) refl ∙ ap (λ xs. after_double_slash test (items_at f xs) f) (sym d)))
    (c.in_err-found.ensures.gives clean (subst (AreIn f) (sym d) is_in))) clean (inside, items_in))

pub paths::later_steps-returns-in_err-found-clause-goes : goal.paths::later_steps-returns-in_err-found-clause-goes
paths::later_steps-returns-in_err-found-clause-goes g t c = goes_on_to c.loop-index.invariant.goes c.in_err-found.ensures.goes

pub paths::later_steps-loop-index-preserved-in-Some-2 : goal.paths::later_steps-loop-index-preserved-in-Some-2
paths::later_steps-loop-index-preserved-in-Some-2 g t c =
    let i = c.loop-index.invariant in
    let old = g.W.TreeSource.forest c.args.world.now in
    let f = g.W.TreeSource.forest c.loop-index.world in
    let held = c.args.frame in
    let slots = values_of held.slots.now in
    let frame = frame_at old held in
    let n = c.loop-index.index in
    let p = c.index-steps-index.result in
    let some = c.in-Some-chosen_children in
    let chosen = some.chosen in
    let q = plan_step.Each (plan.Step Child chosen.test.now chosen.predicates.now) in
    let left = item_views c.loop-index.left in
    let d : map item_view c.deref-in-Some-chosen_children.result.now ≡ left = ap (map item_view) c.deref-in-Some-chosen_children.ensures.value in
    let next = sym c.at-next.ensures ∙ some.ensures in
    let are = ap (λ k. map plan_step_mean (drop k c.args.steps.now)) (none_taken c.loop-index.is_taken n c.if-is_taken.false) ∙ two_left plan_step_mean c.args.steps.now n p q (omega arith) c.index-steps-index.is next in
    let double = c.is_double_slash.ensures c.if-is_double_slash.true in
    let then_q = λ (ys : List Item). plan_step_mean q frame ys in
    let f' = g.W.TreeSource.forest c.below_by_texts.new.world in
    let kept = c.in-Some-2.kept in
    record {
      goes = goes_on_to i.goes c.below_by_texts.ensures.goes;
      turns = turns_two _ _ _ (item_views kept) (plan_step_mean p) (plan_step_mean q) _ _ i.turns are c.below_by_texts.ensures.goes.was_clean
          (λ clean inside is_in.
          let within = tuple_in_grown i.goes.grows slots inside.0.slots_in in
          let env = sym (tuple_grown i.goes.grows slots inside.0.slots_in) in
          let whole = go_on (Forms.scan DescendantOrSelf Any (items_at f (map item_view c.deref-in-Some-chosen_children.result.now)) f) then_q in
          let s = subst (λ r. GivesFound whole f' (Ok r)) c.in-Some-2.is (c.in_ok-kept.ensures.gives clean within (subst (AreIn f) (sym d) is_in) frame env) in
          (s.0, slashes_then p then_q frame (items_at f left) f double ∙ ap (λ xs. go_on (Forms.scan DescendantOrSelf Any (items_at f xs) f) then_q) (sym d) ∙ s.1));
      within = (let at = got_at c.args.steps.now (n + 1) q next in omega (arith, at.0));
      reads = λ clean all tree h. absurd (no_each c.args.steps.now (n + 1) (plan.Step Child chosen.test.now chosen.predicates.now) next all);
    }

pub paths::later_steps-returns-in_err-kept-clause-gives : goal.paths::later_steps-returns-in_err-kept-clause-gives
paths::later_steps-returns-in_err-kept-clause-gives g t c = λ clean inside items_in.
    let i = c.loop-index.invariant in
    let old = g.W.TreeSource.forest c.args.world.now in
    let f = g.W.TreeSource.forest c.loop-index.world in
    let held = c.args.frame in
    let slots = values_of held.slots.now in
    let frame = frame_at old held in
    let n = c.loop-index.index in
    let p = c.index-steps-index.result in
    let some = c.in-Some-chosen_children in
    let chosen = some.chosen in
    let q = plan_step.Each (plan.Step Child chosen.test.now chosen.predicates.now) in
    let left = item_views c.loop-index.left in
    let d : map item_view c.deref-in-Some-chosen_children.result.now ≡ left = ap (map item_view) c.deref-in-Some-chosen_children.ensures.value in
    let next = sym c.at-next.ensures ∙ some.ensures in
    let are = ap (λ k. map plan_step_mean (drop k c.args.steps.now)) (none_taken c.loop-index.is_taken n c.if-is_taken.false) ∙ two_left plan_step_mean c.args.steps.now n p q (omega arith) c.index-steps-index.is next in
    let double = c.is_double_slash.ensures c.if-is_double_slash.true in
    let then_q = λ (ys : List Item). plan_step_mean q frame ys in
    let f' = g.W.TreeSource.forest c.below_by_texts.new.world in
    let e = c.in_err-kept.field-0.0 in
    handed_on item_views items_at AreIn _ f' e c.from_residual-in_err-kept.result c.from_residual-in_err-kept.ensures.1
    (turns_stop_two _ _ _ item_views items_at AreIn (plan_step_mean p) (plan_step_mean q) _ f' e i.turns are c.below_by_texts.ensures.goes.was_clean
    (λ clean inside is_in.
    let within = tuple_in_grown i.goes.grows slots inside.0.slots_in in
    let env = sym (tuple_grown i.goes.grows slots inside.0.slots_in) in
    subst (λ o. GivesSequence o f' (Err e)) (sym (slashes_then p then_q frame (items_at f left) f double ∙ ap (λ xs. go_on (Forms.scan DescendantOrSelf Any (items_at f xs) f) then_q) (sym d)))
    (c.in_err-kept.ensures.gives clean within (subst (AreIn f) (sym d) is_in) frame env)) clean (inside, items_in))

pub paths::later_steps-returns-in_err-kept-clause-goes : goal.paths::later_steps-returns-in_err-kept-clause-goes
paths::later_steps-returns-in_err-kept-clause-goes g t c = goes_on_to c.loop-index.invariant.goes c.below_by_texts.ensures.goes

pub paths::later_steps-returns-in_err-kept-clause-reads : goal.paths::later_steps-returns-in_err-kept-clause-reads
paths::later_steps-returns-in_err-kept-clause-reads g t c = λ clean all tree h.
    let some = c.in-Some-chosen_children in
    absurd (no_each c.args.steps.now (c.loop-index.index + 1) (plan.Step Child some.chosen.test.now some.chosen.predicates.now) (sym c.at-next.ensures ∙ some.ensures) all)

pub paths::later_steps-loop-index-preserved-in-Some-chosen_children : goal.paths::later_steps-loop-index-preserved-in-Some-chosen_children
paths::later_steps-loop-index-preserved-in-Some-chosen_children g t c =
    let i = c.loop-index.invariant in
    let old = g.W.TreeSource.forest c.args.world.now in
    let f = g.W.TreeSource.forest c.loop-index.world in
    let held = c.args.frame in
    let slots = values_of held.slots.now in
    let frame = frame_at old held in
    let n = c.loop-index.index in
    let p = c.index-steps-index.result in
    let some = c.in-Some-chosen_children in
    let chosen = some.chosen in
    let q = plan_step.Each (plan.Step Child chosen.test.now chosen.predicates.now) in
    let left = item_views c.loop-index.left in
    let d : map item_view c.deref-in-Some-chosen_children-2.result.now ≡ left = ap (map item_view) c.deref-in-Some-chosen_children-2.ensures.value in
    let next = sym c.at-next.ensures ∙ some.ensures in
    let are = ap (λ k. map plan_step_mean (drop k c.args.steps.now)) (none_taken c.loop-index.is_taken n c.if-is_taken.false) ∙ two_left plan_step_mean c.args.steps.now n p q (omega arith) c.index-steps-index.is next in
    let double = c.is_double_slash.ensures c.if-is_double_slash.true in
    let then_q = λ (ys : List Item). plan_step_mean q frame ys in
    let f1 = g.W.TreeSource.forest c.below_by_texts.new.world in
    let f' = g.W.TreeSource.forest c.parents_below.new.world in
    let same : f1 ≡ f = c.in_ok-kept.ensures.keeps (c.in_default-2.is) in
    let goes = goes_on_to c.below_by_texts.ensures.goes c.parents_below.ensures.goes in
    let parents = item_views c.in_ok-parents.parents in
    let there = turns_from _ _ _ parents (plan_step_mean p) (plan_step_mean q) _ f' i.turns are goes.was_clean
    (λ clean inside is_in.
    let s = subst (λ h. AreIn h left → AreIn f' parents × (parents_below chosen.test.now (items_at h left) h ≡ (Ok (items_at f' parents), f'))) same
    (subst (λ xs. AreIn f1 xs → AreIn f' parents × (parents_below chosen.test.now (items_at f1 xs) f1 ≡ (Ok (items_at f' parents), f'))) d (λ xs_in. c.in_ok-parents.ensures.gives clean xs_in)) is_in in (
      s.0,
      parents_below_is p q chosen.test.now chosen.predicates.now frame (items_at f left) f double refl ∙ ap (λ o. go_on o then_q) s.1,
    )) in
    record {
      goes = goes_on_to i.goes goes;
      turns = turns_same _ _ _ _ there (sym (left_from plan_step_mean c.args.steps.now (n + 1) q next) ∙ ap (λ k. map plan_step_mean (drop k c.args.steps.now)) (sym (none_taken c.loop-index.is_taken (n + 1) c.if-is_taken.false)));
      within = subst (λ k. k ≤ length c.args.steps.now) (sym (none_taken c.loop-index.is_taken (n + 1) c.if-is_taken.false)) (omega arith);
      reads = λ clean all tree h. absurd (no_each c.args.steps.now (n + 1) (plan.Step Child chosen.test.now chosen.predicates.now) next all);
    }

pub paths::later_steps-returns-in_err-parents-clause-gives : goal.paths::later_steps-returns-in_err-parents-clause-gives
paths::later_steps-returns-in_err-parents-clause-gives g t c = λ clean inside items_in.
    let i = c.loop-index.invariant in
    let old = g.W.TreeSource.forest c.args.world.now in
    let f = g.W.TreeSource.forest c.loop-index.world in
    let held = c.args.frame in
    let slots = values_of held.slots.now in
    let frame = frame_at old held in
    let n = c.loop-index.index in
    let p = c.index-steps-index.result in
    let some = c.in-Some-chosen_children in
    let chosen = some.chosen in
    let q = plan_step.Each (plan.Step Child chosen.test.now chosen.predicates.now) in
    let left = item_views c.loop-index.left in
    let d : map item_view c.deref-in-Some-chosen_children-2.result.now ≡ left = ap (map item_view) c.deref-in-Some-chosen_children-2.ensures.value in
    let next = sym c.at-next.ensures ∙ some.ensures in
    let are = ap (λ k. map plan_step_mean (drop k c.args.steps.now)) (none_taken c.loop-index.is_taken n c.if-is_taken.false) ∙ two_left plan_step_mean c.args.steps.now n p q (omega arith) c.index-steps-index.is next in
    let double = c.is_double_slash.ensures c.if-is_double_slash.true in
    let then_q = λ (ys : List Item). plan_step_mean q frame ys in
    let f1 = g.W.TreeSource.forest c.below_by_texts.new.world in
    let f' = g.W.TreeSource.forest c.parents_below.new.world in
    let same : f1 ≡ f = c.in_ok-kept.ensures.keeps (c.in_default-2.is) in
    let goes = goes_on_to c.below_by_texts.ensures.goes c.parents_below.ensures.goes in
    let e = c.in_err-parents.field-0.0 in
    handed_on item_views items_at AreIn _ f' e c.from_residual-in_err-parents.result c.from_residual-in_err-parents.ensures.1
    (turns_stop_two _ _ _ item_views items_at AreIn (plan_step_mean p) (plan_step_mean q) _ f' e i.turns are goes.was_clean
    (λ clean inside is_in.
    let stop = subst (λ h. AreIn h left → GivesSequence (parents_below chosen.test.now (items_at h left) h) f' (Err e)) same
    (subst (λ xs. AreIn f1 xs → GivesSequence (parents_below chosen.test.now (items_at f1 xs) f1) f' (Err e)) d (λ xs_in. c.in_err-parents.ensures.gives clean xs_in)) is_in in
    subst (λ o. GivesSequence o f' (Err e)) (sym (parents_below_is p q chosen.test.now chosen.predicates.now frame (items_at f left) f double refl))
    (go_on_stop item_views items_at AreIn item_views items_at AreIn (parents_below chosen.test.now (items_at f left) f) then_q f' e stop)) clean (inside, items_in))

pub paths::later_steps-returns-in_err-parents-clause-goes : goal.paths::later_steps-returns-in_err-parents-clause-goes
paths::later_steps-returns-in_err-parents-clause-goes g t c = goes_on_to c.loop-index.invariant.goes (goes_on_to c.below_by_texts.ensures.goes c.parents_below.ensures.goes)

pub paths::later_steps-returns-in_err-parents-clause-reads : goal.paths::later_steps-returns-in_err-parents-clause-reads
paths::later_steps-returns-in_err-parents-clause-reads g t c = λ clean all tree h.
    let some = c.in-Some-chosen_children in
    absurd (no_each c.args.steps.now (c.loop-index.index + 1) (plan.Step Child some.chosen.test.now some.chosen.predicates.now) (sym c.at-next.ensures ∙ some.ensures) all)

pub paths::later_steps-loop-index-preserved : goal.paths::later_steps-loop-index-preserved
paths::later_steps-loop-index-preserved g t c =
    let i = c.loop-index.invariant in
    let old = g.W.TreeSource.forest c.args.world.now in
    let f = g.W.TreeSource.forest c.loop-index.world in
    let f' = g.W.TreeSource.forest c.next_items.new.world in
    let held = c.args.frame in
    let p = c.index-steps-index.result in
    let left = item_views c.loop-index.left in
    let one = sym (none_taken c.loop-index.is_taken (c.loop-index.index + 1) c.if-is_taken.false) in
    record {
      goes = goes_on_to i.goes c.next_items.ensures.goes;
      turns = turns_same _ _ _ _ (turns_next _ _ _ (item_views c.in_ok-left.left) (plan_step_mean p) _ _ i.turns (ap (λ k. map plan_step_mean (drop k c.args.steps.now)) (none_taken c.loop-index.is_taken c.loop-index.index c.if-is_taken.false) ∙ left_over plan_step_mean c.args.steps.now c.loop-index.index p (omega arith) c.index-steps-index.is) c.next_items.ensures.goes.was_clean
          (λ clean inside is_in.
          let s = c.in_ok-left.ensures.gives clean (frame_in_grown i.goes.grows held inside.0) is_in in
          (s.0, ap (λ fr. plan_step_mean p fr (items_at f left) f) (sym (frame_grown i.goes.grows held inside.0)) ∙ s.1))) (ap (λ k. map plan_step_mean (drop k c.args.steps.now)) one);
      within = subst (λ k. k ≤ length c.args.steps.now) one (omega arith);
      reads = λ clean all tree h.
          let w = i.reads (c.next_items.ensures.goes.was_clean clean) all tree h in
          let scan = element IsScan c.args.steps.now c.loop-index.index p p all (omega arith) c.index-steps-index.is in
          let before = subst (λ k. HasGrown (g.W.TreeSource.meter c.args.world.now) (g.W.TreeSource.meter c.loop-index.world) (k * rows_of old tree)) (none_taken c.loop-index.is_taken c.loop-index.index c.if-is_taken.false) w.1 in
          let after = grown_on old f tree c.loop-index.index 1 (c.loop-index.index + 1) i.goes.grows h.has_tree (omega arith) before (once (c.next_items.ensures.reads clean scan tree w.0)) in
          (c.in_ok-left.ensures.of_tree clean scan tree w.0, subst (λ k. HasGrown (g.W.TreeSource.meter c.args.world.now) (g.W.TreeSource.meter c.next_items.new.world) (k * rows_of old tree)) one after);
    }

pub paths::later_steps-returns-in_err-left-clause-gives : goal.paths::later_steps-returns-in_err-left-clause-gives
paths::later_steps-returns-in_err-left-clause-gives g t c = λ clean inside items_in.
    let i = c.loop-index.invariant in
    let old = g.W.TreeSource.forest c.args.world.now in
    let f = g.W.TreeSource.forest c.loop-index.world in
    let f' = g.W.TreeSource.forest c.next_items.new.world in
    let held = c.args.frame in
    let p = c.index-steps-index.result in
    let left = item_views c.loop-index.left in
    let e = c.in_err-left.field-0.0 in
    handed_on item_views items_at AreIn _ f' e c.from_residual-in_err-left.result c.from_residual-in_err-left.ensures.1
    (turns_stop _ _ _ item_views items_at AreIn (plan_step_mean p) _ f' e i.turns (ap (λ k. map plan_step_mean (drop k c.args.steps.now)) (none_taken c.loop-index.is_taken c.loop-index.index c.if-is_taken.false) ∙ left_over plan_step_mean c.args.steps.now c.loop-index.index p (omega arith) c.index-steps-index.is) c.next_items.ensures.goes.was_clean
    (λ clean inside is_in. subst (λ fr. GivesSequence (plan_step_mean p fr (items_at f left) f) f' (Err e)) (frame_grown i.goes.grows held inside.0)
    (c.in_err-left.ensures.gives clean (frame_in_grown i.goes.grows held inside.0) is_in)) clean (inside, items_in))

pub paths::later_steps-returns-in_err-left-clause-goes : goal.paths::later_steps-returns-in_err-left-clause-goes
paths::later_steps-returns-in_err-left-clause-goes g t c = goes_on_to c.loop-index.invariant.goes c.in_err-left.ensures.goes

pub paths::later_steps-returns-clause-goes : goal.paths::later_steps-returns-clause-goes
paths::later_steps-returns-clause-goes g t c = c.loop-index.invariant.goes

pub paths::later_steps-loop-index-init : goal.paths::later_steps-loop-index-init
paths::later_steps-loop-index-init g t c = record {
  goes = stays _ _;
  turns = record { rest = λ clean p. (p.1, refl) };
  within = omega arith;
  reads = λ clean all tree h. (h, not_grown _ _ _ refl);
}

pub paths::later_steps-returns-in_err-found-clause-reads : goal.paths::later_steps-returns-in_err-found-clause-reads
paths::later_steps-returns-in_err-found-clause-reads g t c = λ clean all tree h.
    let i = c.loop-index.invariant in
    let old = g.W.TreeSource.forest c.args.world.now in
    let f = g.W.TreeSource.forest c.loop-index.world in
    let n = c.loop-index.index in
    let w = i.reads (c.double_slash.ensures.goes.was_clean clean) all tree h in
    let d : map item_view c.deref.result.now ≡ item_views c.loop-index.left = ap (map item_view) c.deref.ensures.value in
    let at = got_at c.args.steps.now (n + 1) (plan_step.Scan Child c.in-Some.test.now) (sym c.at-next.ensures ∙ c.in-Some.ensures) in
    let before = subst (λ k. HasGrown (g.W.TreeSource.meter c.args.world.now) (g.W.TreeSource.meter c.loop-index.world) (k * rows_of old tree)) (none_taken c.loop-index.is_taken n c.if-is_taken.false) w.1 in
    grown_on old f tree n 2 (length c.args.steps.now) i.goes.grows h.has_tree (omega (arith, at.0)) before (c.double_slash.ensures.reads clean tree (subst (AreOf f tree) (sym d) w.0))

pub paths::later_steps-returns-in_err-left-clause-reads : goal.paths::later_steps-returns-in_err-left-clause-reads
paths::later_steps-returns-in_err-left-clause-reads g t c = λ clean all tree h.
    let i = c.loop-index.invariant in
    let old = g.W.TreeSource.forest c.args.world.now in
    let f = g.W.TreeSource.forest c.loop-index.world in
    let n = c.loop-index.index in
    let p = c.index-steps-index.result in
    let w = i.reads (c.next_items.ensures.goes.was_clean clean) all tree h in
    let scan = element IsScan c.args.steps.now n p p all (omega arith) c.index-steps-index.is in
    let before = subst (λ k. HasGrown (g.W.TreeSource.meter c.args.world.now) (g.W.TreeSource.meter c.loop-index.world) (k * rows_of old tree)) (none_taken c.loop-index.is_taken n c.if-is_taken.false) w.1 in
    grown_on old f tree n 1 (length c.args.steps.now) i.goes.grows h.has_tree (omega arith) before (once (c.next_items.ensures.reads clean scan tree w.0))

pub paths::later_steps-returns-clause-reads : goal.paths::later_steps-returns-clause-reads
paths::later_steps-returns-clause-reads g t c = λ clean all tree h.
    let i = c.loop-index.invariant in
    grown_more (i.reads clean all tree h).1 (mul-le-mul_right (rows_of (g.W.TreeSource.forest c.args.world.now) tree) i.within)

pub paths::next_items-returns-in-Each-clause-reads : goal.paths::next_items-returns-in-Each-clause-reads
paths::next_items-returns-in-Each-clause-reads g t c = λ clean scan tree h. absurd (not_each c.args.step.now c.in-Each.part c.in-Each.is scan)

pub paths::next_items-returns-in-Each-clause-of_tree : goal.paths::next_items-returns-in-Each-clause-of_tree
paths::next_items-returns-in-Each-clause-of_tree g t c = λ clean scan tree h. absurd (not_each c.args.step.now c.in-Each.part c.in-Each.is scan)

pub paths::next_items-returns-clause-reads : goal.paths::next_items-returns-clause-reads
paths::next_items-returns-clause-reads g t c = λ clean scan tree h.
    let f = g.W.TreeSource.forest c.args.world.now in
    let d : map item_view c.deref-in-Scan.result.now ≡ item_views c.args.items = ap (map item_view) c.deref-in-Scan.ensures.value in
    c.scan.ensures.reads clean tree (subst (AreOf f tree) (sym d) h)

pub paths::next_items-returns-clause-of_tree : goal.paths::next_items-returns-clause-of_tree
paths::next_items-returns-clause-of_tree g t c = λ clean scan tree h.
    let f = g.W.TreeSource.forest c.args.world.now in
    let d : map item_view c.deref-in-Scan.result.now ≡ item_views c.args.items = ap (map item_view) c.deref-in-Scan.ensures.value in
    c.scan.ensures.of_tree clean tree (subst (AreOf f tree) (sym d) h)

pub paths::later_steps-returns-clause-gives : goal.paths::later_steps-returns-clause-gives
paths::later_steps-returns-clause-gives g t c = λ clean inside rest_in.
    let old = g.W.TreeSource.forest c.args.world.now in
    turns_end _ _ _ c.loop-index.invariant.turns (ap (map plan_step_mean) (drop_all (c.loop-index.index + (if c.loop-index.is_taken then 1 else 0)) c.args.steps.now (omega arith))) clean (inside, rest_in)

pub paths::each-loop-index-preserved : goal.paths::each-loop-index-preserved
paths::each-loop-index-preserved g t c =
    let i = c.loop-index.invariant in
    let old = g.W.TreeSource.forest c.args.world.now in
    let f = g.W.TreeSource.forest c.loop-index.world in
    let f' = g.W.TreeSource.forest c.at_spot.new.world in
    let held = c.args.frame in
    let n = c.loop-index.index in
    let items = c.args.items.now in
    let x = c.index-items-index.result in
    let p = plan_mean c.args.part.now in
    let found = item_views c.loop-index.found in
    let spot : Item → Spot = λ it. record { item = it; position = n + 1; last = length items } in
    record {
      goes = goes_on_to i.goes c.at_spot.ensures.goes;
      turns = turns_next _ _ _ (item_views c.in_ok-found.found) (spot (item_at old (item_view x))) _ _ i.turns (spots_left old items n x (length items) (omega arith) c.index-items-index.is) c.at_spot.ensures.goes.was_clean
          (λ clean inside is_in.
          let x_in = all_at (IsIn old) item_view items n x inside.1 (omega arith) c.index-items-index.is in
          let s = c.in_ok-found.ensures.gives clean (frame_in_grown i.goes.grows held inside.0) is_in (in_grown i.goes.grows (item_view x) x_in) in (
            s.0,
            ap (λ fr. more (λ (s : Spot). p (Forms.in_focus fr s)) (items_at f found) (spot (item_at old (item_view x))) f) (sym (frame_grown i.goes.grows held inside.0))
                ∙ ap (λ it. more (λ (s : Spot). p (Forms.in_focus (frame_at f held) s)) (items_at f found) (spot it) f) (sym (item_at_grown i.goes.grows (item_view x) x_in)) ∙ s.1,
          ));
    }

pub paths::each-returns-in_err-found-clause-gives : goal.paths::each-returns-in_err-found-clause-gives
paths::each-returns-in_err-found-clause-gives g t c = λ clean inside items_in.
    let i = c.loop-index.invariant in
    let old = g.W.TreeSource.forest c.args.world.now in
    let f = g.W.TreeSource.forest c.loop-index.world in
    let f' = g.W.TreeSource.forest c.at_spot.new.world in
    let held = c.args.frame in
    let n = c.loop-index.index in
    let items = c.args.items.now in
    let x = c.index-items-index.result in
    let p = plan_mean c.args.part.now in
    let found = item_views c.loop-index.found in
    let spot : Item → Spot = λ it. record { item = it; position = n + 1; last = length items } in
    let e = c.in_err-found.field-0.0 in
    handed_on item_views items_at AreIn _ f' e c.from_residual-in_err-found.result c.from_residual-in_err-found.ensures.1
    (turns_stop _ _ _ item_views items_at AreIn (spot (item_at old (item_view x))) _ f' e i.turns (spots_left old items n x (length items) (omega arith) c.index-items-index.is) c.at_spot.ensures.goes.was_clean
    (λ clean inside is_in.
    let x_in = all_at (IsIn old) item_view items n x inside.1 (omega arith) c.index-items-index.is in
    subst (λ fr. GivesSequence (more (λ (s : Spot). p (Forms.in_focus fr s)) (items_at f found) (spot (item_at old (item_view x))) f) f' (Err e)) (frame_grown i.goes.grows held inside.0)
    (subst (λ it. GivesSequence (more (λ (s : Spot). p (Forms.in_focus (frame_at f held) s)) (items_at f found) (spot it) f) f' (Err e)) (item_at_grown i.goes.grows (item_view x) x_in)
    (c.in_err-found.ensures.gives clean (frame_in_grown i.goes.grows held inside.0) is_in (in_grown i.goes.grows (item_view x) x_in)))) clean (inside, items_in))

pub paths::each-returns-in-Some-clause-gives : goal.paths::each-returns-in-Some-clause-gives
paths::each-returns-in-Some-clause-gives g t c = λ clean inside items_in.
    let f = g.W.TreeSource.forest c.args.world.now in
    let f' = g.W.TreeSource.forest c.call_per_node.new.source in
    let frame = frame_at f c.args.frame in
    let whole = collected (λ (s : Spot). plan_mean c.args.part.now (Forms.in_focus frame s)) (focuses (items_at f (map item_view c.args.items.now))) f in
    subst (λ r. GivesFound whole f' (Ok r)) c.in-Some.is (c.in_ok-told.ensures.gives clean items_in frame)

pub paths::each-returns-in-Some-clause-goes : goal.paths::each-returns-in-Some-clause-goes
paths::each-returns-in-Some-clause-goes g t c = same_goes c.call_per_node.ensures.keeps c.call_per_node.ensures.was_clean

pub paths::each-returns-in_err-told-clause-gives : goal.paths::each-returns-in_err-told-clause-gives
paths::each-returns-in_err-told-clause-gives g t c = λ clean inside items_in.
    let f = g.W.TreeSource.forest c.args.world.now in
    let f' = g.W.TreeSource.forest c.call_per_node.new.source in
    let frame = frame_at f c.args.frame in
    let whole = collected (λ (s : Spot). plan_mean c.args.part.now (Forms.in_focus frame s)) (focuses (items_at f (map item_view c.args.items.now))) f in
    handed_on item_views items_at AreIn whole f' c.in_err-told.field-0.0 c.from_residual.result c.from_residual.ensures.1 (c.in_err-told.ensures.gives clean items_in frame)

pub paths::each-returns-in_err-told-clause-goes : goal.paths::each-returns-in_err-told-clause-goes
paths::each-returns-in_err-told-clause-goes g t c = same_goes c.call_per_node.ensures.keeps c.call_per_node.ensures.was_clean

pub paths::each-returns-in_err-found-clause-goes : goal.paths::each-returns-in_err-found-clause-goes
paths::each-returns-in_err-found-clause-goes g t c = goes_on_to c.loop-index.invariant.goes c.in_err-found.ensures.goes

pub paths::each-returns-clause-goes : goal.paths::each-returns-clause-goes
paths::each-returns-clause-goes g t c = c.loop-index.invariant.goes

pub paths::each-returns-clause-gives : goal.paths::each-returns-clause-gives
paths::each-returns-clause-gives g t c = λ clean inside rest_in.
    let old = g.W.TreeSource.forest c.args.world.now in
    turns_end _ _ _ c.loop-index.invariant.turns (ap (λ xs. focuses_from (suc c.loop-index.index) (length c.args.items.now) (items_at old (map item_view xs))) (drop_all c.loop-index.index c.args.items.now (omega arith))) clean (inside, rest_in)

pub paths::at_spot-returns-clause-gives : goal.paths::at_spot-returns-clause-gives
paths::at_spot-returns-clause-gives g t c = λ clean inside done_in item_in.
    c.next_part.ensures.gives clean (record { slots_in = inside.slots_in; focus_in = item_in; addresses_in = inside.addresses_in }) done_in

pub paths::at_spot-returns-clause-goes : goal.paths::at_spot-returns-clause-goes
paths::at_spot-returns-clause-goes g t c = c.next_part.ensures.goes

pub evaluation::evaluate-returns-in-Root-clause-gives : goal.evaluation::evaluate-returns-in-Root-clause-gives
evaluation::evaluate-returns-in-Root-clause-gives g t c = λ clean inside. rw (c.in-Root.is, plan-Root) (c.root.ensures.gives clean inside)

pub evaluation::evaluate-returns-in-Root-clause-goes : goal.evaluation::evaluate-returns-in-Root-clause-goes
evaluation::evaluate-returns-in-Root-clause-goes g t c = c.root.ensures.goes

pub evaluation::arguments-loop-part-preserved : goal.evaluation::arguments-loop-part-preserved
evaluation::arguments-loop-part-preserved g t c =
    let i = c.loop-part.invariant in
    let part = c.part-item.result in
    let held = c.args.frame in
    let f = g.W.TreeSource.forest c.loop-part.world in
    record {
      goes = goes_on_to i.goes c.next_argument.ensures.goes;
      turns = turns_next _ _ _ (lists_of c.in_ok-lists.lists) (plan_mean part) _ _ i.turns (left_over plan_mean c.args.parts.now c.loop-part.part-index part (omega arith) c.part-item.is) c.next_argument.ensures.goes.was_clean
          (λ clean inside is_in.
          let s = c.in_ok-lists.ensures.gives clean (frame_in_grown i.goes.grows held inside.0) is_in in
          (s.0, ap (λ fr. one_more (λ (m : Meaning). m fr) (tuple_at f (lists_of c.loop-part.lists)) (plan_mean part) f) (sym (frame_grown i.goes.grows held inside.0)) ∙ s.1));
      reads = λ clean inside all.
          c.next_argument.ensures.reads clean (frame_in_grown i.goes.grows held inside) (element IsLiteral c.args.parts.now c.loop-part.part-index part part all (omega arith) c.part-item.is)
          ∙ i.reads (c.next_argument.ensures.goes.was_clean clean) inside all;
    }

pub evaluation::arguments-returns-in_err-lists-clause-gives : goal.evaluation::arguments-returns-in_err-lists-clause-gives
evaluation::arguments-returns-in_err-lists-clause-gives g t c = λ clean inside done_in.
    let i = c.loop-part.invariant in
    let part = c.part-item.result in
    let held = c.args.frame in
    let f = g.W.TreeSource.forest c.loop-part.world in
    let f' = g.W.TreeSource.forest c.next_argument.new.world in
    let e = c.in_err-lists.field-0.0 in
    handed_on lists_of tuple_at TupleIn _ f' e c.from_residual.result c.from_residual.ensures.1
    (turns_stop _ _ _ lists_of tuple_at TupleIn (plan_mean part) _ f' e i.turns (left_over plan_mean c.args.parts.now c.loop-part.part-index part (omega arith) c.part-item.is) c.next_argument.ensures.goes.was_clean
    (λ clean inside is_in. subst (λ fr. GivesLists (one_more (λ (m : Meaning). m fr) (tuple_at f (lists_of c.loop-part.lists)) (plan_mean part) f) f' (Err e)) (frame_grown i.goes.grows held inside.0) (c.in_err-lists.ensures.gives clean (frame_in_grown i.goes.grows held inside.0) is_in)) clean (inside, done_in))

pub evaluation::arguments-returns-in_err-lists-clause-goes : goal.evaluation::arguments-returns-in_err-lists-clause-goes
evaluation::arguments-returns-in_err-lists-clause-goes g t c = goes_on_to c.loop-part.invariant.goes c.in_err-lists.ensures.goes

pub evaluation::arguments-returns-clause-goes : goal.evaluation::arguments-returns-clause-goes
evaluation::arguments-returns-clause-goes g t c = c.loop-part.invariant.goes

pub evaluation::arguments-loop-part-init : goal.evaluation::arguments-loop-part-init
evaluation::arguments-loop-part-init g t c = record {
  goes = stays _ _;
  turns = record { rest = λ clean p. (p.1, refl) };
  reads = λ clean inside all. refl;
}

pub evaluation::arguments-returns-in_err-lists-clause-reads : goal.evaluation::arguments-returns-in_err-lists-clause-reads
evaluation::arguments-returns-in_err-lists-clause-reads g t c = λ clean inside all.
    let i = c.loop-part.invariant in
    let part = c.part-item.result in
    c.next_argument.ensures.reads clean (frame_in_grown i.goes.grows c.args.frame inside) (element IsLiteral c.args.parts.now c.loop-part.part-index part part all (omega arith) c.part-item.is)
    ∙ i.reads (c.next_argument.ensures.goes.was_clean clean) inside all

pub evaluation::arguments-returns-clause-reads : goal.evaluation::arguments-returns-clause-reads
evaluation::arguments-returns-clause-reads g t c = c.loop-part.invariant.reads

pub evaluation::next_argument-returns-in_err-list-clause-reads : goal.evaluation::next_argument-returns-in_err-list-clause-reads
evaluation::next_argument-returns-in_err-list-clause-reads g t c = λ clean inside literal. (c.evaluate.ensures.reads clean inside).literal literal

pub evaluation::next_argument-returns-in_err-push-clause-reads : goal.evaluation::next_argument-returns-in_err-push-clause-reads
evaluation::next_argument-returns-in_err-push-clause-reads g t c = λ clean inside literal. (c.evaluate.ensures.reads clean inside).literal literal

pub evaluation::next_argument-returns-clause-reads : goal.evaluation::next_argument-returns-clause-reads
evaluation::next_argument-returns-clause-reads g t c = λ clean inside literal. (c.evaluate.ensures.reads clean inside).literal literal

pub evaluation::called-returns-in_err-items-clause-reads : goal.evaluation::called-returns-in_err-items-clause-reads
evaluation::called-returns-in_err-items-clause-reads g t c = λ clean inside doc text is. refl

pub evaluation::called-returns-in-Some-clause-reads : goal.evaluation::called-returns-in-Some-clause-reads
evaluation::called-returns-in-Some-clause-reads g t c = λ clean inside doc text is. refl

pub evaluation::called-returns-in_err-values-clause-reads : goal.evaluation::called-returns-in_err-values-clause-reads
evaluation::called-returns-in_err-values-clause-reads g t c = λ clean inside doc text is.
    c.arguments.ensures.reads clean inside (subst (AllByRecursion IsLiteral) (sym is) ((text, refl), tt))

pub evaluation::called-returns-clause-reads : goal.evaluation::called-returns-clause-reads
evaluation::called-returns-clause-reads g t c = λ clean inside doc text is.
    let f = g.W.TreeSource.forest c.args.world.now in
    let frame = frame_at f c.args.frame in
    let f' = g.W.TreeSource.forest c.arguments.new.world in
    let was = c.call.ensures.goes.was_clean clean in
    let none : lists_of c.new.result ≡ [] = ap (map item_views) c.new.ensures.items in
    let all = λ (done : Tuple ItemView) (parts : List Plan). in_turn (one_more (λ (part : Meaning). part frame)) (tuple_at f done) (map plan_mean parts) f in
    let values = c.in_ok-values.ensures.gives was inside (subst (TupleIn f) (sym none) tt) in
    let one = literal_value frame f f' text (lists_of c.in_ok-values.values) (sym (ap (λ done. all done c.args.parts.now) none ∙ ap (all []) is) ∙ values.1) in
    c.call.ensures.reads doc one.xs one.is one.all ∙ c.arguments.ensures.reads was inside (subst (AllByRecursion IsLiteral) (sym is) ((text, refl), tt))

pub evaluation::arguments-returns-clause-gives : goal.evaluation::arguments-returns-clause-gives
evaluation::arguments-returns-clause-gives g t c = λ clean inside done_in.
    turns_end _ _ _ c.loop-part.invariant.turns (ap (map plan_mean) (drop_all c.loop-part.part-index c.args.parts.now (omega arith))) clean (inside, done_in)

pub evaluation::next_argument-returns-clause-gives : goal.evaluation::next_argument-returns-clause-gives
evaluation::next_argument-returns-clause-gives g t c = λ clean inside done_in.
    let f = g.W.TreeSource.forest c.args.world.now in
    list_next (λ (part : Meaning). part (frame_at f c.args.frame)) (lists_of c.args.done) (item_views c.in_ok-list.list) (lists_of c.push.new.self) (plan_mean c.args.part.now) _ _
    c.in_ok-list.ensures.goes.grows done_in (c.in_ok-list.ensures.gives clean inside) (ap (map item_views) c.in_ok-push.ensures.items ∙ map-append item_views c.args.done.items (c.in_ok-list.list ∷ []))

pub evaluation::next_argument-returns-in_err-list-clause-gives : goal.evaluation::next_argument-returns-in_err-list-clause-gives
evaluation::next_argument-returns-in_err-list-clause-gives g t c = λ clean inside done_in.
    let f = g.W.TreeSource.forest c.args.world.now in
    let f' = g.W.TreeSource.forest c.evaluate.new.world in
    handed_on lists_of tuple_at TupleIn _ f' c.in_err-list.field-0.0 c.from_residual.result c.from_residual.ensures.1
    (go_on_stop item_views items_at AreIn lists_of tuple_at TupleIn _ (λ y. give (tuple_at f (lists_of c.args.done) ++ y ∷ [])) f' c.in_err-list.field-0.0 (c.in_err-list.ensures.gives clean inside))

pub evaluation::next_argument-returns-in_err-list-clause-goes : goal.evaluation::next_argument-returns-in_err-list-clause-goes
evaluation::next_argument-returns-in_err-list-clause-goes g t c = c.in_err-list.ensures.goes

pub evaluation::next_argument-returns-in_err-push-clause-goes : goal.evaluation::next_argument-returns-in_err-push-clause-goes
evaluation::next_argument-returns-in_err-push-clause-goes g t c = c.in_ok-list.ensures.goes

pub evaluation::next_argument-returns-clause-goes : goal.evaluation::next_argument-returns-clause-goes
evaluation::next_argument-returns-clause-goes g t c = c.in_ok-list.ensures.goes

pub clauses::next_tuples-returns-in-Group-clause-gives : goal.clauses::next_tuples-returns-in-Group-clause-gives
clauses::next_tuples-returns-in-Group-clause-gives g t c = λ clean inside tuples_in.
    let f = g.W.TreeSource.forest c.args.world.now in
    let frame = frame_at f c.args.frame in
    let tuples = tuples_at f c.args.tuples in
    subst (λ o. GivesTuples o (g.W.TreeSource.forest c.group.new.world) c.group.result)
    (sym (ap (λ k. plan_clause_mean k frame tuples f) c.in-Group.is ∙ ap (λ m. m frame tuples f) (clause-Group c.in-Group.slots) ∙ ap (λ ss. Forms.group_tuples ss tuples f) (sym c.as_slice.ensures)))
    (c.group.ensures.gives clean tuples_in)

pub clauses::next_tuples-returns-in-Group-clause-goes : goal.clauses::next_tuples-returns-in-Group-clause-goes
clauses::next_tuples-returns-in-Group-clause-goes g t c = c.group.ensures.goes

pub clauses::next_tuples-returns-in_err-keys-in-Order-clause-gives : goal.clauses::next_tuples-returns-in_err-keys-in-Order-clause-gives
clauses::next_tuples-returns-in_err-keys-in-Order-clause-gives g t c = λ clean inside tuples_in.
    let f = g.W.TreeSource.forest c.args.world.now in
    let frame = frame_at f c.args.frame in
    let tuples = tuples_at f c.args.tuples in
    let f' = g.W.TreeSource.forest c.all_keys.new.world in
    let e = c.in_err-keys-in-Order.field-0.0 in
    let held = c.as_slice-specs.result.now in
    let act = λ (t : Tuple Item). keys_at (order_specs held) (at_tuple frame t) in
    let keys = λ (specs : List (Plan × OrderModifier)). for_each (λ t. keys_at (order_specs specs) (at_tuple frame t)) tuples f in
    let next = λ (rows : List (List (List Atomic))). ordering c.in-Order.specs tuples rows in
    cut rows_in (λ trees rows. rows) (λ trees rows. Unit {0}) (λ (ts : List (Tuple ItemView)). ts) tuples_at TuplesIn (plan_clause_mean c.args.clause.now frame tuples f) (keys held) next f' e c.from_residual-in_err-keys-in-Order.result
    (ap (λ k. plan_clause_mean k frame tuples f) c.in-Order.is ∙ ap (λ m. m frame tuples f) (clause-Order c.in-Order.specs) ∙ ap (λ ss. go_on (keys ss) next) (sym c.as_slice-specs.ensures)) c.from_residual-in_err-keys-in-Order.ensures.1
    (order_stops (keys held) f' e (subst (λ o. GivesKeys o f' (Err e)) (collected_is act tuples f) (c.in_err-keys-in-Order.ensures.gives clean inside tuples_in)))

pub clauses::next_tuples-returns-in_ok-keys-in-Order-clause-gives : goal.clauses::next_tuples-returns-in_ok-keys-in-Order-clause-gives
clauses::next_tuples-returns-in_ok-keys-in-Order-clause-gives g t c = λ clean inside tuples_in.
    let f = g.W.TreeSource.forest c.args.world.now in
    let frame = frame_at f c.args.frame in
    let held = c.args.tuples in
    let tuples = tuples_at f held in
    let f' = g.W.TreeSource.forest c.all_keys.new.world in
    let grows = c.in_ok-keys-in-Order.ensures.goes.grows in
    let specs = c.as_slice-specs.result.now in
    let m = length held in
    let n = length specs in
    let act = λ (t : Tuple Item). keys_at (order_specs specs) (at_tuple frame t) in
    let keys = λ (specs : List (Plan × OrderModifier)). for_each (λ t. keys_at (order_specs specs) (at_tuple frame t)) tuples f in
    let flat = row_of c.in_ok-keys-in-Order.keys in
    let rows = by_tuple m n flat in
    let values = c.in_ok-keys-in-Order.ensures.gives clean inside tuples_in in
    let next = λ (rows : List (List (List Atomic))). ordering c.in-Order.specs tuples rows in
    let wide : length (order_specs specs) ≡ n = length-map specs _ in
    let long = are_rows act n (λ t g. for_each_length (λ (p : Meaning × OrderModifier). Forms.atoms_of p.0 (at_tuple frame t)) (order_specs specs) n wide g) tuples m (length-map held (tuple_at f)) f in
    let meant : plan_clause_mean c.args.clause.now frame tuples f ≡ ordering specs (tuples_at f' held) rows f' =
    ap (λ k. plan_clause_mean k frame tuples f) c.in-Order.is ∙ ap (λ m. m frame tuples f) (clause-Order c.in-Order.specs) ∙ ap (λ ss. go_on (keys ss) next) (sym c.as_slice-specs.ensures)
    ∙ order_is m n (keys specs) next flat f' long (sym (collected_is act tuples f) ∙ values.1)
    ∙ ap (λ ss. ordering ss tuples rows f') (sym c.as_slice-specs.ensures) ∙ ap (λ ts. ordering specs ts rows f') (sym (tuples_grown grows held tuples_in)) in
    subst (λ o. GivesTuples o f' c.order_by_keys.result) (sym meant) (c.order_by_keys.ensures f' (tuples_in_grown grows held tuples_in))

pub clauses::next_tuples-returns-in_err-keys-in-Order-clause-goes : goal.clauses::next_tuples-returns-in_err-keys-in-Order-clause-goes
clauses::next_tuples-returns-in_err-keys-in-Order-clause-goes g t c = c.in_err-keys-in-Order.ensures.goes

pub clauses::next_tuples-returns-in_ok-keys-in-Order-clause-goes : goal.clauses::next_tuples-returns-in_ok-keys-in-Order-clause-goes
clauses::next_tuples-returns-in_ok-keys-in-Order-clause-goes g t c = c.in_ok-keys-in-Order.ensures.goes

pub clauses::next_tuples-returns-in-Refused-clause-gives : goal.clauses::next_tuples-returns-in-Refused-clause-gives
clauses::next_tuples-returns-in-Refused-clause-gives g t c = λ clean inside tuples_in.
    let f = g.W.TreeSource.forest c.args.world.now in
    let frame = frame_at f c.args.frame in
    let tuples = tuples_at f c.args.tuples in
    ap (λ k. (plan_clause_mean k frame tuples f).0) c.in-Refused.is ∙ ap (λ m. (m frame tuples f).0) (clause-Refused c.in-Refused.code)

pub clauses::next_tuples-returns-in-Refused-clause-goes : goal.clauses::next_tuples-returns-in-Refused-clause-goes
clauses::next_tuples-returns-in-Refused-clause-goes g t c = stays _ _

pub clauses::all_keys-loop-index-preserved : goal.clauses::all_keys-loop-index-preserved
clauses::all_keys-loop-index-preserved g t c =
    let i = c.loop-index.invariant in
    let old = g.W.TreeSource.forest c.args.world.now in
    let f = g.W.TreeSource.forest c.loop-index.world in
    let held = c.args.frame in
    let n = c.loop-index.index in
    let tuples = c.args.tuples.now in
    let x = values_of c.tuple.result.now in
    let slots = values_of held.slots.now in
    let at : values_of c.deref.result.now ≡ slots ++ x = ap values_of c.deref.ensures.value ∙ c.in_ok-refill.ensures ∙ ap (λ s. s ++ x) i.in_slots in
    let specs = order_specs c.args.specs.now in
    let done = row_of c.loop-index.done in
    let act = λ (fr : Frame). more (λ t. keys_at specs (at_tuple fr t)) in
    record {
      goes = goes_on_to i.goes c.next_keys.ensures.goes;
      turns = turns_next _ _ _ (row_of c.in_ok-done-2.done) (tuple_at old x) _ _ i.turns (left_at (tuple_at old) tuples n x [] (omega arith) c.tuple.ensures) c.next_keys.ensures.goes.was_clean
          (λ clean inside is_in.
          let x_in = element (TupleIn old) tuples n x [] inside.1 (omega arith) c.tuple.ensures in
          let s = c.in_ok-done-2.ensures.gives clean (frame_in_grown i.goes.grows held inside.0) x at (tuple_in_grown i.goes.grows x x_in) in
          (s.0, ap (λ fr. act fr done (tuple_at old x) f) (sym (frame_grown i.goes.grows held inside.0)) ∙ ap (λ y. act (frame_at f held) done y f) (sym (tuple_grown i.goes.grows x x_in)) ∙ s.1));
      in_slots =
          ap (take (length held.slots.now)) (c.in_ok-refill.ensures ∙ ap (λ s. s ++ x) i.in_slots)
          ∙ take_at slots x (length held.slots.now) (length-map held.slots.now slot_items);
    }

pub clauses::all_keys-returns-in_err-done-2-clause-gives : goal.clauses::all_keys-returns-in_err-done-2-clause-gives
clauses::all_keys-returns-in_err-done-2-clause-gives g t c = λ clean inside tuples_in.
    let i = c.loop-index.invariant in
    let old = g.W.TreeSource.forest c.args.world.now in
    let f = g.W.TreeSource.forest c.loop-index.world in
    let f' = g.W.TreeSource.forest c.next_keys.new.world in
    let held = c.args.frame in
    let n = c.loop-index.index in
    let tuples = c.args.tuples.now in
    let x = values_of c.tuple.result.now in
    let slots = values_of held.slots.now in
    let at : values_of c.deref.result.now ≡ slots ++ x = ap values_of c.deref.ensures.value ∙ c.in_ok-refill.ensures ∙ ap (λ s. s ++ x) i.in_slots in
    let specs = order_specs c.args.specs.now in
    let done = row_of c.loop-index.done in
    let act = λ (fr : Frame). more (λ t. keys_at specs (at_tuple fr t)) in
    let e = c.in_err-done-2.field-0.0 in
    handed_on row_of same_tests any_tests _ f' e c.from_residual-in_err-done-2.result c.from_residual-in_err-done-2.ensures.1
    (turns_stop _ _ _ row_of same_tests any_tests (tuple_at old x) _ f' e i.turns (left_at (tuple_at old) tuples n x [] (omega arith) c.tuple.ensures) c.next_keys.ensures.goes.was_clean
    (λ clean inside is_in.
    let x_in = element (TupleIn old) tuples n x [] inside.1 (omega arith) c.tuple.ensures in
    subst (λ fr. GivesKeys (act fr done (tuple_at old x) f) f' (Err e)) (frame_grown i.goes.grows held inside.0)
    (subst (λ y. GivesKeys (act (frame_at f held) done y f) f' (Err e)) (tuple_grown i.goes.grows x x_in)
    (c.in_err-done-2.ensures.gives clean (frame_in_grown i.goes.grows held inside.0) x at (tuple_in_grown i.goes.grows x x_in)))) clean (inside, tuples_in))

pub clauses::all_keys-loop-index-init : goal.clauses::all_keys-loop-index-init
clauses::all_keys-loop-index-init g t c =
    let old = g.W.TreeSource.forest c.args.world.now in
    let held = c.args.frame in
    let frame = frame_at old held in
    let none : row_of c.in_ok-done.done ≡ [] = ap (map values_in) c.in_ok-done.ensures.items in
    let slots = values_of held.slots.now in
    let long = length-map held.slots.now slot_items in
    record {
      goes = stays _ _;
      turns = record { rest = λ clean inside. subst (λ keys. Unit {0} × (in_turn (more (λ t. keys_at (order_specs c.args.specs.now) (at_tuple frame t))) keys (tuples_at old c.args.tuples.now) old ≡ collected (λ t. keys_at (order_specs c.args.specs.now) (at_tuple frame t)) (tuples_at old c.args.tuples.now) old)) (sym none) (tt, refl) };
      in_slots = ap (take (length held.slots.now)) (values_of-clones held.slots.now c.in_ok-slots.slots.items c.in_ok-slots.ensures.ok) ∙ take_all (length held.slots.now) slots (omega (arith, long));
    }

pub clauses::all_keys-returns-in_err-slots-clause-goes : goal.clauses::all_keys-returns-in_err-slots-clause-goes
clauses::all_keys-returns-in_err-slots-clause-goes g t c = stays _ _

pub clauses::all_keys-returns-in_err-done-clause-goes : goal.clauses::all_keys-returns-in_err-done-clause-goes
clauses::all_keys-returns-in_err-done-clause-goes g t c = stays _ _

pub clauses::all_keys-returns-in_err-refill-clause-goes : goal.clauses::all_keys-returns-in_err-refill-clause-goes
clauses::all_keys-returns-in_err-refill-clause-goes g t c = c.loop-index.invariant.goes

pub clauses::all_keys-returns-in_err-done-2-clause-goes : goal.clauses::all_keys-returns-in_err-done-2-clause-goes
clauses::all_keys-returns-in_err-done-2-clause-goes g t c = goes_on_to c.loop-index.invariant.goes c.in_err-done-2.ensures.goes

pub clauses::all_keys-returns-clause-goes : goal.clauses::all_keys-returns-clause-goes
clauses::all_keys-returns-clause-goes g t c = c.loop-index.invariant.goes

pub clauses::all_keys-returns-clause-gives : goal.clauses::all_keys-returns-clause-gives
clauses::all_keys-returns-clause-gives g t c = λ clean inside rest_in.
    let old = g.W.TreeSource.forest c.args.world.now in
    turns_end _ _ _ c.loop-index.invariant.turns (ap (map (tuple_at old)) (drop_all c.loop-index.index c.args.tuples.now (omega arith))) clean (inside, rest_in)

pub clauses::next_keys-returns-clause-gives : goal.clauses::next_keys-returns-clause-gives
clauses::next_keys-returns-clause-gives g t c = λ clean inside tuple at tuple_in.
    let f = g.W.TreeSource.forest c.args.world.now in
    let held = c.args.frame in
    let specs = order_specs c.args.specs.now in
    let inner : Held = record { slots = c.args.slots; focus = held.focus; addresses = held.addresses } in
    subst (λ fr. GivesKeys (more (keys_at specs) (row_of c.args.done) fr f) (g.W.TreeSource.forest c.keys.new.world) c.keys.result) (frame_inner f held inner tuple at refl refl)
    (c.keys.ensures.gives clean (frame_inner_in f held inner tuple at refl refl inside tuple_in))

pub clauses::next_keys-returns-clause-goes : goal.clauses::next_keys-returns-clause-goes
clauses::next_keys-returns-clause-goes g t c = c.keys.ensures.goes

pub clauses::keys-loop-part-preserved : goal.clauses::keys-loop-part-preserved
clauses::keys-loop-part-preserved g t c =
    let i = c.loop-part.invariant in
    let spec = c.loop-part-item.result in
    let held = c.args.frame in
    let f = g.W.TreeSource.forest c.loop-part.world in
    let done = row_of c.loop-part.keys in
    let act = λ (fr : Frame). one_more (λ (part : Meaning). Forms.atoms_of part fr) in
    record {
      goes = goes_on_to i.goes c.next_key.ensures.goes;
      turns = turns_next _ _ _ (row_of c.in_ok-keys.keys) (plan_mean spec.0, spec.1) _ _ i.turns (left_over (λ (part, modifier). (plan_mean part, modifier)) c.args.specs.now c.loop-part.part-index spec (omega arith) c.loop-part-item.is) c.next_key.ensures.goes.was_clean
          (λ clean inside is_in.
          let s = c.in_ok-keys.ensures.gives clean (frame_in_grown i.goes.grows held inside) in
          (s.0, ap (λ fr. act fr done (plan_mean spec.0) f) (sym (frame_grown i.goes.grows held inside)) ∙ s.1));
    }

pub clauses::keys-returns-in_err-keys-clause-gives : goal.clauses::keys-returns-in_err-keys-clause-gives
clauses::keys-returns-in_err-keys-clause-gives g t c = λ clean inside.
    let i = c.loop-part.invariant in
    let spec = c.loop-part-item.result in
    let held = c.args.frame in
    let f = g.W.TreeSource.forest c.loop-part.world in
    let f' = g.W.TreeSource.forest c.next_key.new.world in
    let done = row_of c.loop-part.keys in
    let act = λ (fr : Frame). one_more (λ (part : Meaning). Forms.atoms_of part fr) in
    let e = c.in_err-keys.field-0.0 in
    let old = g.W.TreeSource.forest c.args.world.now in
    let frame = frame_at old held in
    subst (λ o. GivesKeys o f' c.from_residual.result) (from_done (λ (p : Meaning × OrderModifier). Forms.atoms_of p.0 frame) (row_of c.args.done) (order_specs c.args.specs.now) old)
    (handed_on row_of same_tests any_tests _ f' e c.from_residual.result c.from_residual.ensures.1
    (turns_stop _ _ _ row_of same_tests any_tests (plan_mean spec.0, spec.1) _ f' e i.turns (left_over (λ (part, modifier). (plan_mean part, modifier)) c.args.specs.now c.loop-part.part-index spec (omega arith) c.loop-part-item.is) c.next_key.ensures.goes.was_clean
    (λ clean inside is_in. subst (λ fr. GivesKeys (act fr done (plan_mean spec.0) f) f' (Err e)) (frame_grown i.goes.grows held inside) (c.in_err-keys.ensures.gives clean (frame_in_grown i.goes.grows held inside))) clean inside))

pub clauses::keys-returns-in_err-keys-clause-goes : goal.clauses::keys-returns-in_err-keys-clause-goes
clauses::keys-returns-in_err-keys-clause-goes g t c = goes_on_to c.loop-part.invariant.goes c.in_err-keys.ensures.goes

pub clauses::keys-returns-clause-goes : goal.clauses::keys-returns-clause-goes
clauses::keys-returns-clause-goes g t c = c.loop-part.invariant.goes

pub clauses::keys-returns-clause-gives : goal.clauses::keys-returns-clause-gives
clauses::keys-returns-clause-gives g t c = λ clean inside.
    let old = g.W.TreeSource.forest c.args.world.now in
    let frame = frame_at old c.args.frame in
    let end = turns_end _ _ _ c.loop-part.invariant.turns (ap order_specs (drop_all c.loop-part.part-index c.args.specs.now (omega arith))) clean inside in
    (end.0, sym (from_done (λ (p : Meaning × OrderModifier). Forms.atoms_of p.0 frame) (row_of c.args.done) (order_specs c.args.specs.now) old) ∙ end.1)

pub clauses::next_key-returns-clause-gives : goal.clauses::next_key-returns-clause-gives
clauses::next_key-returns-clause-gives g t c = λ clean inside.
    let f' = g.W.TreeSource.forest c.key_of.new.world in
    let key = c.in_ok-key.key in
    let found = c.in_ok-key.ensures.gives clean inside in
    let made : row_of c.args.done ++ values_in key ∷ [] ≡ row_of c.push.new.self = sym (ap (map values_in) c.in_ok-push.ensures.items ∙ map-append values_in c.args.done.items (key ∷ [])) in
    (tt, ap (λ o. go_on o (λ y. give (row_of c.args.done ++ y ∷ []))) found.1 ∙ ap (λ ks. (Ok ks, f')) made)

pub clauses::next_key-returns-in_err-key-clause-gives : goal.clauses::next_key-returns-in_err-key-clause-gives
clauses::next_key-returns-in_err-key-clause-gives g t c = λ clean inside.
    let f = g.W.TreeSource.forest c.args.world.now in
    let frame = frame_at f c.args.frame in
    let f' = g.W.TreeSource.forest c.key_of.new.world in
    let next = λ (y : List Atomic). give (row_of c.args.done ++ y ∷ []) in
    cut values_in (λ trees key. key) (λ trees key. Unit {0}) row_of (λ trees keys. keys) (λ trees keys. Unit {0}) _ (Forms.atoms_of (plan_mean c.args.part.now) frame f) next f' c.in_err-key.field-0.0 c.from_residual.result refl c.from_residual.ensures.1
    (c.in_err-key.ensures.gives clean inside)

pub clauses::next_key-returns-in_err-key-clause-goes : goal.clauses::next_key-returns-in_err-key-clause-goes
clauses::next_key-returns-in_err-key-clause-goes g t c = c.in_err-key.ensures.goes

pub clauses::next_key-returns-in_err-push-clause-goes : goal.clauses::next_key-returns-in_err-push-clause-goes
clauses::next_key-returns-in_err-push-clause-goes g t c = c.in_ok-key.ensures.goes

pub clauses::next_key-returns-clause-goes : goal.clauses::next_key-returns-clause-goes
clauses::next_key-returns-clause-goes g t c = c.in_ok-key.ensures.goes

pub clauses::key_of-returns-in-Some-clause-gives : goal.clauses::key_of-returns-in-Some-clause-gives
clauses::key_of-returns-in-Some-clause-gives g t c = λ clean inside.
    let f = g.W.TreeSource.forest c.args.world.now in
    let outcome = Forms.atoms_of (plan_mean c.args.part.now) (frame_at f c.args.frame) f in
    told (λ a. a ∷ []) values_in (λ trees key. key) (λ trees key. Unit {0}) outcome f (g.W.TreeSource.forest c.atom_of.new.source) c.in-Some.atom (One c.in-Some.atom) c.atom_of.ensures.keeps tt refl
    (subst (λ o. Tells (λ a. a ∷ []) outcome f (Ok o)) c.in-Some.is (c.in_ok-atom.ensures.tells clean inside))

pub clauses::key_of-returns-in-Some-clause-goes : goal.clauses::key_of-returns-in-Some-clause-goes
clauses::key_of-returns-in-Some-clause-goes g t c = same_goes c.atom_of.ensures.keeps c.atom_of.ensures.was_clean

pub clauses::key_of-returns-in_err-atom-clause-gives : goal.clauses::key_of-returns-in_err-atom-clause-gives
clauses::key_of-returns-in_err-atom-clause-gives g t c = λ clean inside.
    let f = g.W.TreeSource.forest c.args.world.now in
    let f' = g.W.TreeSource.forest c.atom_of.new.source in
    let outcome = Forms.atoms_of (plan_mean c.args.part.now) (frame_at f c.args.frame) f in
    let e = c.in_err-atom.field-0.0 in
    handed_on values_in (λ trees key. key) (λ trees key. Unit {0}) outcome f' e c.from_residual.result c.from_residual.ensures.1
    (told_stop (λ a. a ∷ []) values_in (λ trees key. key) (λ trees key. Unit {0}) outcome f f' e (c.in_err-atom.ensures.tells clean inside))

pub clauses::key_of-returns-in_err-atom-clause-goes : goal.clauses::key_of-returns-in_err-atom-clause-goes
clauses::key_of-returns-in_err-atom-clause-goes g t c = same_goes c.atom_of.ensures.keeps c.atom_of.ensures.was_clean

pub clauses::key_of-returns-clause-gives : goal.clauses::key_of-returns-clause-gives
clauses::key_of-returns-clause-gives g t c = λ clean inside.
    let old = g.W.TreeSource.forest c.args.world.now in
    let f = g.W.TreeSource.forest c.atom_of.new.source in
    let f' = g.W.TreeSource.forest c.evaluate.new.world in
    let f'' = g.W.TreeSource.forest c.into_atoms.new.source in
    let keeps : f ≡ old = c.atom_of.ensures.keeps in
    let frame = c.args.frame in
    let part = plan_mean c.args.part.now in
    let was = c.into_atoms.ensures.was_clean clean in
    let found = c.in_ok-value.ensures.gives was (subst (λ h. FrameIn h frame) (sym keeps) inside) in
    let atoms : values_in (Several c.in_ok-atoms.atoms) ≡ atomized f' (items_at f' (item_views c.in_ok-value.value)) = c.in_ok-atoms.ensures.value clean in
    let same : f'' ≡ f' = c.into_atoms.ensures.keeps in
    let next = λ (o : Outcome (List Item)). go_on o (λ xs. on_trees (λ trees. Ok (atomized trees xs))) in
    (tt, subst (λ h. Forms.atoms_of part (frame_at h frame) h ≡ (Ok (values_in (Several c.in_ok-atoms.atoms)), f'')) keeps (ap next found.1 ∙ ap (λ as'. (Ok as', f')) (sym atoms) ∙ ap (λ h. (Ok (values_in (Several c.in_ok-atoms.atoms)), h)) (sym same)))

pub clauses::key_of-returns-in_err-value-clause-gives : goal.clauses::key_of-returns-in_err-value-clause-gives
clauses::key_of-returns-in_err-value-clause-gives g t c = λ clean inside.
    let f = g.W.TreeSource.forest c.atom_of.new.source in
    let f' = g.W.TreeSource.forest c.evaluate.new.world in
    let keeps = c.atom_of.ensures.keeps in
    let frame = c.args.frame in
    let part = plan_mean c.args.part.now in
    let e = c.in_err-value.field-0.0 in
    let first = λ (xs : List Item). on_trees (λ trees. Ok (atomized trees xs)) in
    handed_on values_in (λ trees key. key) (λ trees key. Unit {0}) _ f' e c.from_residual-in_err-value.result c.from_residual-in_err-value.ensures.1
    (subst (λ h. GivesKey (Forms.atoms_of part (frame_at h frame) h) f' (Err e)) keeps
    (go_on_stop item_views items_at AreIn values_in (λ trees key. key) (λ trees key. Unit {0}) (part (frame_at f frame) f) first f' e (c.in_err-value.ensures.gives clean (subst (λ h. FrameIn h frame) (sym keeps) inside))))

pub clauses::key_of-returns-in_err-value-clause-goes : goal.clauses::key_of-returns-in_err-value-clause-goes
clauses::key_of-returns-in_err-value-clause-goes g t c = goes_on_to (same_goes c.atom_of.ensures.keeps c.atom_of.ensures.was_clean) c.in_err-value.ensures.goes

pub clauses::key_of-returns-in_err-atoms-clause-goes : goal.clauses::key_of-returns-in_err-atoms-clause-goes
clauses::key_of-returns-in_err-atoms-clause-goes g t c = goes_on_to (goes_on_to (same_goes c.atom_of.ensures.keeps c.atom_of.ensures.was_clean) c.in_ok-value.ensures.goes) (same_goes c.into_atoms.ensures.keeps c.into_atoms.ensures.was_clean)

pub clauses::key_of-returns-clause-goes : goal.clauses::key_of-returns-clause-goes
clauses::key_of-returns-clause-goes g t c = goes_on_to (goes_on_to (same_goes c.atom_of.ensures.keeps c.atom_of.ensures.was_clean) c.in_ok-value.ensures.goes) (same_goes c.into_atoms.ensures.keeps c.into_atoms.ensures.was_clean)

pub evaluation::call_value-returns-in-Some-clause-gives : goal.evaluation::call_value-returns-in-Some-clause-gives
evaluation::call_value-returns-in-Some-clause-gives g t c = λ clean inside.
    let f = g.W.TreeSource.forest c.args.world.now in
    let f' = g.W.TreeSource.forest c.atom_of_call.new.source in
    let outcome = Forms.call c.args.function (map plan_mean c.args.parts.now) (frame_at f c.args.frame) f in
    let a = atomic_of c.in-Some.atom in
    let items = item_views c.in_ok-single.field-0 in
    let is : items ≡ Value a ∷ [] = c.in_ok-single.ensures in
    subst (λ vs. AreIn f' vs × (outcome ≡ (Ok (items_at f' vs), f'))) (sym is)
    ((tt, tt), subst (λ o. Tells atomic outcome f (Ok o)) c.in-Some.is (c.in_ok-atom.ensures.tells clean inside) ∙ ap (λ h. (Ok (atomic a), h)) (sym c.atom_of_call.ensures.keeps))

pub evaluation::call_value-returns-in-Some-clause-goes : goal.evaluation::call_value-returns-in-Some-clause-goes
evaluation::call_value-returns-in-Some-clause-goes g t c = same_goes c.atom_of_call.ensures.keeps c.atom_of_call.ensures.was_clean

pub evaluation::call_value-returns-in-Some-clause-reads : goal.evaluation::call_value-returns-in-Some-clause-reads
evaluation::call_value-returns-in-Some-clause-reads g t c = λ clean inside doc text is. c.atom_of_call.ensures.reads doc

pub evaluation::call_value-returns-in_err-single-clause-goes : goal.evaluation::call_value-returns-in_err-single-clause-goes
evaluation::call_value-returns-in_err-single-clause-goes g t c = same_goes c.atom_of_call.ensures.keeps c.atom_of_call.ensures.was_clean

pub evaluation::call_value-returns-in_err-single-clause-reads : goal.evaluation::call_value-returns-in_err-single-clause-reads
evaluation::call_value-returns-in_err-single-clause-reads g t c = λ clean inside doc text is. c.atom_of_call.ensures.reads doc

pub evaluation::call_value-returns-in_err-atom-clause-gives : goal.evaluation::call_value-returns-in_err-atom-clause-gives
evaluation::call_value-returns-in_err-atom-clause-gives g t c = λ clean inside.
    let f = g.W.TreeSource.forest c.args.world.now in
    let f' = g.W.TreeSource.forest c.atom_of_call.new.source in
    let outcome = Forms.call c.args.function (map plan_mean c.args.parts.now) (frame_at f c.args.frame) f in
    let e = c.in_err-atom.field-0.0 in
    handed_on item_views items_at AreIn outcome f' e c.from_residual.result c.from_residual.ensures.1
    (told_stop atomic item_views items_at AreIn outcome f f' e (c.in_err-atom.ensures.tells clean inside))

pub evaluation::call_value-returns-in_err-atom-clause-goes : goal.evaluation::call_value-returns-in_err-atom-clause-goes
evaluation::call_value-returns-in_err-atom-clause-goes g t c = same_goes c.atom_of_call.ensures.keeps c.atom_of_call.ensures.was_clean

pub evaluation::call_value-returns-in_err-atom-clause-reads : goal.evaluation::call_value-returns-in_err-atom-clause-reads
evaluation::call_value-returns-in_err-atom-clause-reads g t c = λ clean inside doc text is. c.atom_of_call.ensures.reads doc

pub evaluation::call_value-returns-clause-gives : goal.evaluation::call_value-returns-clause-gives
evaluation::call_value-returns-clause-gives g t c = λ clean inside.
    let keeps = c.atom_of_call.ensures.keeps in
    let frame = c.args.frame in
    subst (λ h. GivesSequence (Forms.call c.args.function (map plan_mean c.args.parts.now) (frame_at h frame) h) (g.W.TreeSource.forest c.called.new.world) c.called.result) keeps
    (c.called.ensures.gives clean (subst (λ h. FrameIn h frame) (sym keeps) inside))

pub evaluation::call_value-returns-clause-goes : goal.evaluation::call_value-returns-clause-goes
evaluation::call_value-returns-clause-goes g t c = goes_on_to (same_goes c.atom_of_call.ensures.keeps c.atom_of_call.ensures.was_clean) c.called.ensures.goes

pub evaluation::call_value-returns-clause-reads : goal.evaluation::call_value-returns-clause-reads
evaluation::call_value-returns-clause-reads g t c = λ clean inside doc text is.
    c.called.ensures.reads clean (subst (λ h. FrameIn h c.args.frame) (sym c.atom_of_call.ensures.keeps) inside) doc text is ∙ c.atom_of_call.ensures.reads doc

pub paths::next_items-returns-in-Each-clause-gives : goal.paths::next_items-returns-in-Each-clause-gives
paths::next_items-returns-in-Each-clause-gives g t c = λ clean inside items_in.
    let f = g.W.TreeSource.forest c.args.world.now in
    let frame = frame_at f c.args.frame in
    let items = item_views c.args.items in
    let f' = g.W.TreeSource.forest c.after_slash.new.world in
    let d : map item_view c.deref.result.now ≡ items = ap (map item_view) c.deref.ensures.value in
    let part = plan_mean c.in-Each.part in
    subst (λ o. GivesSequence o f' c.after_slash.result)
    (sym (ap (λ k. plan_step_mean k frame (items_at f items) f) c.in-Each.is ∙ ap (λ m. m frame (items_at f items) f) (step-Each c.in-Each.part) ∙ ap (λ xs. Forms.slash frame (items_at f xs) part f) (sym d)))
    (c.after_slash.ensures.gives clean inside (subst (AreIn f) (sym d) items_in))

pub paths::next_items-returns-in-Each-clause-goes : goal.paths::next_items-returns-in-Each-clause-goes
paths::next_items-returns-in-Each-clause-goes g t c = c.after_slash.ensures.goes

pub paths::after_slash-returns-in-Some-clause-gives : goal.paths::after_slash-returns-in-Some-clause-gives
paths::after_slash-returns-in-Some-clause-gives g t c = λ clean inside items_in.
    let f = g.W.TreeSource.forest c.args.world.now in
    let f' = g.W.TreeSource.forest c.children_by_value.new.world in
    let frame = frame_at f c.args.frame in
    let slots = values_of c.args.frame.slots.now in
    let views = map item_view c.args.items.now in
    let part = c.args.part.now in
    let step = c.in-Some.step in
    let of = step.test.now in
    let result = c.children_by_value.result in
    let is : IsValueStep slots step part = subst (λ r. IfSome r (λ (s : TextStep). IsValueStep slots s part)) c.in-Some.is c.in_ok-step.ensures.step in
    let trees : AllByRecursion (IsNodeOf (IsTreeAt f)) views = subst (λ r. IfSome r (λ (s : TextStep). AllByRecursion (IsNodeOf (IsTreeAt f)) views)) c.in-Some.is (c.in_ok-step.ensures.trees (c.children_by_value.ensures.goes.was_clean clean)) in
    let p = is.predicate in
    let given = subst (λ (h : List Tree). AreIn h views → AllByRecursion (IsNodeOf (IsTreeAt h)) views → frame.env ≡ tuple_at h slots → GivesSequence (Forms.slash frame (items_at h views) (Forms.step Child of (plan_mean p ∷ [])) h) f' result) c.value_step.ensures.keeps
    (λ a b d. c.children_by_value.ensures.gives clean a b slots p frame is.is_test d) items_in trees refl in
    subst (λ (m : Meaning). GivesSequence (Forms.slash frame (items_at f views) m f) f' result) (sym (ap plan_mean is.part_is ∙ plan-Step Child of (p ∷ []))) given

pub paths::after_slash-returns-in-Some-clause-goes : goal.paths::after_slash-returns-in-Some-clause-goes
paths::after_slash-returns-in-Some-clause-goes g t c = goes_on_to (same_goes c.value_step.ensures.keeps c.value_step.ensures.was_clean) c.children_by_value.ensures.goes

pub paths::after_slash-returns-in_err-step-clause-goes : goal.paths::after_slash-returns-in_err-step-clause-goes
paths::after_slash-returns-in_err-step-clause-goes g t c = same_goes c.value_step.ensures.keeps c.value_step.ensures.was_clean

pub paths::after_slash-returns-in_err-only_nodes-clause-gives : goal.paths::after_slash-returns-in_err-only_nodes-clause-gives
paths::after_slash-returns-in_err-only_nodes-clause-gives g t c = λ clean inside items_in.
    let f = g.W.TreeSource.forest c.args.world.now in
    let f1 = g.W.TreeSource.forest c.value_step.new.world in
    let code = c.in_err-only_nodes.field-0.0 in
    handed_on item_views items_at AreIn _ f1 (OfCode code) c.from_residual-in_err-only_nodes.result c.from_residual-in_err-only_nodes.ensures.1
    (slash_err (frame_at f c.args.frame) (items_at f (map item_view c.args.items.now)) (plan_mean c.args.part.now) f code (c.in_err-only_nodes.ensures f))

pub paths::after_slash-returns-in_err-only_nodes-clause-goes : goal.paths::after_slash-returns-in_err-only_nodes-clause-goes
paths::after_slash-returns-in_err-only_nodes-clause-goes g t c = same_goes c.value_step.ensures.keeps c.value_step.ensures.was_clean

pub paths::after_slash-returns-in_err-found-clause-gives : goal.paths::after_slash-returns-in_err-found-clause-gives
paths::after_slash-returns-in_err-found-clause-gives g t c = λ clean inside items_in.
    let f = g.W.TreeSource.forest c.args.world.now in
    let held = c.args.frame in
    let frame = frame_at f held in
    let views = map item_view c.args.items.now in
    let f' = g.W.TreeSource.forest c.each.new.world in
    let e = c.in_err-found.field-0.0 in
    let p = plan_mean c.args.part.now in
    let given = subst (λ (h : List Tree). FrameIn h held → AreIn h views → GivesSequence (collected (λ (s : Spot). p (Forms.in_focus (frame_at h held) s)) (focuses (items_at h views)) h) f' (Err e)) c.value_step.ensures.keeps
    (λ a b. c.in_err-found.ensures.gives clean a b) inside items_in in
    subst (λ o. GivesSequence o f' c.from_residual-in_err-found.result) (sym (slash_ok frame (items_at f views) p f (c.in_ok-only_nodes.ensures f)))
    (handed_on item_views items_at AreIn _ f' e c.from_residual-in_err-found.result c.from_residual-in_err-found.ensures.1
    (go_on_stop item_views items_at AreIn item_views items_at AreIn _ (λ ys. on_trees (λ trees. gathered trees ys)) f' e given))

pub paths::after_slash-returns-in_err-found-clause-goes : goal.paths::after_slash-returns-in_err-found-clause-goes
paths::after_slash-returns-in_err-found-clause-goes g t c = goes_on_to (same_goes c.value_step.ensures.keeps c.value_step.ensures.was_clean) c.in_err-found.ensures.goes

pub paths::after_slash-returns-clause-gives : goal.paths::after_slash-returns-clause-gives
paths::after_slash-returns-clause-gives g t c = λ clean inside items_in.
    let f = g.W.TreeSource.forest c.args.world.now in
    let held = c.args.frame in
    let frame = frame_at f held in
    let views = map item_view c.args.items.now in
    let f' = g.W.TreeSource.forest c.each.new.world in
    let found = item_views c.in_ok-found.found in
    let p = plan_mean c.args.part.now in
    let given = subst (λ (h : List Tree). FrameIn h held → AreIn h views → AreIn f' found × (collected (λ (s : Spot). p (Forms.in_focus (frame_at h held) s)) (focuses (items_at h views)) h ≡ (Ok (items_at f' found), f'))) c.value_step.ensures.keeps
    (λ a b. c.in_ok-found.ensures.gives clean a b) inside items_in in
    let meant = slash_ok frame (items_at f views) p f (c.in_ok-only_nodes.ensures f) ∙ ap (λ o. go_on o (λ ys. on_trees (λ trees. gathered trees ys))) given.1 in
    subst (λ o. GivesSequence o f' c.gather.result) (sym meant) (c.gather.ensures f' given.0)

pub paths::after_slash-returns-clause-goes : goal.paths::after_slash-returns-clause-goes
paths::after_slash-returns-clause-goes g t c = goes_on_to (same_goes c.value_step.ensures.keeps c.value_step.ensures.was_clean) c.in_ok-found.ensures.goes

pub paths::next_items-returns-clause-gives : goal.paths::next_items-returns-clause-gives
paths::next_items-returns-clause-gives g t c = λ clean inside items_in.
    let f = g.W.TreeSource.forest c.args.world.now in
    let frame = frame_at f c.args.frame in
    let items = item_views c.args.items in
    let f' = g.W.TreeSource.forest c.scan.new.world in
    let d : map item_view c.deref-in-Scan.result.now ≡ items = ap (map item_view) c.deref-in-Scan.ensures.value in
    subst (λ o. GivesSequence o f' c.scan.result)
    (sym (ap (λ k. plan_step_mean k frame (items_at f items) f) c.in-Scan.is ∙ ap (λ m. m frame (items_at f items) f) (step-Scan c.in-Scan.axis c.in-Scan.test) ∙ ap (λ xs. Forms.scan c.in-Scan.axis c.in-Scan.test (items_at f xs) f) (sym d)))
    (c.scan.ensures.gives clean (subst (AreIn f) (sym d) items_in))

pub paths::next_items-returns-clause-goes : goal.paths::next_items-returns-clause-goes
paths::next_items-returns-clause-goes g t c = c.scan.ensures.goes

pub quantified::satisfied-turn-requires : goal.quantified::satisfied-turn-requires
quantified::satisfied-turn-requires g t c = λ κs live.
    let all : 8 * size-Plan c.args.whole.now + 1 ≡ t = c.decreases in
    let below : 8 * size-Plan c.args.whole.now < t = omega (arith, all) in
    (below, (live, c.requires))

pub quantified::turn-evaluate-requires : goal.quantified::turn-evaluate-requires
quantified::turn-evaluate-requires g t c = λ κs live.
    let ranges = c.args.ranges.now in
    let part = c.index-ranges-opened.result in
    let among = at_most size-Plan ranges c.args.opened part (omega arith) in
    let this = ap size-Plan c.index-ranges-opened.is in
    let whole = ap size-Plan c.requires.is ∙ sized-Quantified c.requires.which ranges c.args.test.now in
    let all : 8 * size-Plan c.args.whole.now ≡ t = c.decreases in
    let below : 8 * size-Plan part + 3 < t = omega (arith, all, whole, among, this) in
    (below, live)

pub quantified::turn-tested-requires : goal.quantified::turn-tested-requires
quantified::turn-tested-requires g t c = λ κs live.
    let whole = ap size-Plan c.requires.is ∙ sized-Quantified c.requires.which c.args.ranges.now c.args.test.now in
    let all : 8 * size-Plan c.args.whole.now ≡ t = c.decreases in
    let below : 8 * size-Plan c.args.test.now + 4 < t = omega (arith, all, whole) in
    (below, live)

pub quantified::satisfied-turns-init : goal.quantified::satisfied-turns-init
quantified::satisfied-turns-init g t c =
    let none = c.new-stack.ensures.items in
    let empty : stack_of c.new-stack.result ≡ [] = ap (map values_left) none in
    let old = g.W.TreeSource.forest c.args.world.now in
    let held = c.args.frame in
    record {
      goes = stays _ _;
      within = (let long = ap length none in omega arith);
      in_slots = values_of-clones held.slots.now c.in_ok-slots.slots.items c.in_ok-slots.ensures.ok ∙ sym (append-nil (values_of held.slots.now)) ∙ ap (λ s. values_of held.slots.now ++ map (take 1) s) (sym empty);
      rest = λ clean inside. subst (λ s. TupleIn old s × (resumed c.args.wanted (plan_mean c.args.test.now) (holds c.args.wanted (plan_mean c.args.test.now)) (map plan_mean c.args.ranges.now) (frame_at old held) (tuple_at old s) old ≡ holds c.args.wanted (plan_mean c.args.test.now) (map plan_mean c.args.ranges.now) (frame_at old held) old)) (sym empty) (tt, refl);
    }

pub quantified::satisfied-turns-preserved : goal.quantified::satisfied-turns-preserved
quantified::satisfied-turns-preserved g t c =
    let i = c.turns.invariant in
    let old = g.W.TreeSource.forest c.args.world.now in
    let f = g.W.TreeSource.forest c.turns.world in
    let f' = g.W.TreeSource.forest c.turn.new.world in
    let held = c.args.frame in
    let frame = frame_at old held in
    let inner : Held = record { slots = c.deref.result; focus = held.focus; addresses = held.addresses } in
    let stack = stack_of c.turns.stack in
    let wanted = c.args.wanted in
    let test = plan_mean c.args.test.now in
    let parts = map plan_mean c.args.ranges.now in
    let whole = holds wanted test parts frame old in
    let n = c.len-opened.result in
    let high : length stack ≡ length c.turns.stack.items = length-map c.turns.stack.items values_left in
    let opened : n ≡ length stack = omega arith in
    let many : length parts ≡ length c.args.ranges.now = length-map c.args.ranges.now plan_mean in
    let within : length stack ≤ length parts = (let w = i.within in omega arith) in
    let slots_are : values_of inner.slots.now ≡ values_of held.slots.now ++ map (take 1) stack = ap values_of c.deref.ensures.value ∙ i.in_slots in
    let top : FrameIn old held → frame_at f inner ≡ at_top frame (tuple_at f stack) = λ inside. frame_open f held inner stack slots_are refl refl ∙ ap (λ fr. at_top fr (tuple_at f stack)) (frame_grown i.goes.grows held inside) in
    let at : (clean : g.W.TreeSource.is_clean c.turns.world) → FrameIn old held → At wanted test parts frame whole f stack = λ clean inside. record { within = within; is_in = (i.rest clean inside).0; rest = (i.rest clean inside).1 } in
    let inner_in : (clean : g.W.TreeSource.is_clean c.turns.world) → FrameIn old held → FrameIn f inner = λ clean inside. frame_open_in f held inner stack slots_are refl refl (frame_in_grown i.goes.grows held inside) (i.rest clean inside).0 in
    let items = item_views c.in-Some.items.value in
    let spent : length c.args.ranges.now ≤ n → items ≡ [] = λ full. subst (λ r. IfSome r (λ its. item_views its.value ≡ [])) c.in-Some.is (c.in_ok-found.ensures.spent full) in
    let outer = length held.slots.now in
    let slots = values_of c.turns.slots.items in
    let slots' = values_of c.advance.new.slots.items in
    let stack' = stack_of c.advance.new.stack in
    let moved : Moved outer slots stack items slots' stack' = subst (MovesOn outer slots stack items slots' stack') c.if-not-branch.false c.in_ok-advance.ensures in
    let after : length stack' ≡ length c.advance.new.stack.items = length-map c.advance.new.stack.items values_left in
    let few : length stack' ≤ length parts = moved_within (length parts) outer slots stack slots' stack' items within (λ full. spent (omega arith)) moved in
    record {
      goes = goes_on_to i.goes c.turn.ensures.goes;
      within = omega arith;
      in_slots = moved_slots outer (values_of held.slots.now) slots stack slots' stack' items (sym (length-map held.slots.now slot_items)) i.in_slots moved;
      rest = λ clean inside.
          let was = c.turn.ensures.goes.was_clean clean in
          let gives = c.in_ok-found.ensures.gives clean (inner_in was inside) in
          let step = some_found wanted test (drop n parts) (frame_at f inner) f f' c.in_ok-found.found c.in-Some.items c.in-Some.is gives in
          let next = turn_moves wanted test parts frame whole f f' stack stack' slots slots' items outer n (at was inside) c.turn.ensures.goes.grows opened (subst (λ fr. IsTurn wanted test (drop n parts) fr f f' (Some items)) (top inside) step) (λ full. spent (omega arith)) moved in
          (next.is_in, next.rest);
    }

pub quantified::satisfied-turns-smaller : goal.quantified::satisfied-turns-smaller
quantified::satisfied-turns-smaller g t c =
    let i = c.turns.invariant in
    let old = g.W.TreeSource.forest c.args.world.now in
    let f = g.W.TreeSource.forest c.turns.world in
    let f' = g.W.TreeSource.forest c.turn.new.world in
    let held = c.args.frame in
    let frame = frame_at old held in
    let inner : Held = record { slots = c.deref.result; focus = held.focus; addresses = held.addresses } in
    let stack = stack_of c.turns.stack in
    let wanted = c.args.wanted in
    let test = plan_mean c.args.test.now in
    let parts = map plan_mean c.args.ranges.now in
    let whole = holds wanted test parts frame old in
    let n = c.len-opened.result in
    let high : length stack ≡ length c.turns.stack.items = length-map c.turns.stack.items values_left in
    let opened : n ≡ length stack = omega arith in
    let many : length parts ≡ length c.args.ranges.now = length-map c.args.ranges.now plan_mean in
    let within : length stack ≤ length parts = (let w = i.within in omega arith) in
    let slots_are : values_of inner.slots.now ≡ values_of held.slots.now ++ map (take 1) stack = ap values_of c.deref.ensures.value ∙ i.in_slots in
    let top : FrameIn old held → frame_at f inner ≡ at_top frame (tuple_at f stack) = λ inside. frame_open f held inner stack slots_are refl refl ∙ ap (λ fr. at_top fr (tuple_at f stack)) (frame_grown i.goes.grows held inside) in
    let at : (clean : g.W.TreeSource.is_clean c.turns.world) → FrameIn old held → At wanted test parts frame whole f stack = λ clean inside. record { within = within; is_in = (i.rest clean inside).0; rest = (i.rest clean inside).1 } in
    let inner_in : (clean : g.W.TreeSource.is_clean c.turns.world) → FrameIn old held → FrameIn f inner = λ clean inside. frame_open_in f held inner stack slots_are refl refl (frame_in_grown i.goes.grows held inside) (i.rest clean inside).0 in
    let items = item_views c.in-Some.items.value in
    let spent : length c.args.ranges.now ≤ n → items ≡ [] = λ full. subst (λ r. IfSome r (λ its. item_views its.value ≡ [])) c.in-Some.is (c.in_ok-found.ensures.spent full) in
    let outer = length held.slots.now in
    let slots = values_of c.turns.slots.items in
    let slots' = values_of c.advance.new.slots.items in
    let stack' = stack_of c.advance.new.stack in
    let moved : Moved outer slots stack items slots' stack' = subst (MovesOn outer slots stack items slots' stack') c.if-not-branch.false c.in_ok-advance.ensures in
    let after : length stack' ≡ length c.advance.new.stack.items = length-map c.advance.new.stack.items values_left in
    let values : length items ≡ length c.in-Some.items.value.items = length-map c.in-Some.items.value.items item_view in
    let lighter = moved_lighter (2 ^ 64) (length parts) outer slots stack slots' stack' items within (omega arith) (λ full. spent (omega arith)) moved in
    subst (λ k. weigh (2 ^ 64) (all_weigh (2 ^ 64)) k stack' < weigh (2 ^ 64) (all_weigh (2 ^ 64)) k stack) many lighter

pub quantified::satisfied-advance-requires : goal.quantified::satisfied-advance-requires
quantified::satisfied-advance-requires g t c =
    let i = c.turns.invariant in
    let held = c.args.frame in
    let a = length-map c.turns.slots.items slot_items in
    let b = length-map held.slots.now slot_items in
    let d = length-map (stack_of c.turns.stack) (take 1) in
    let h = length-map c.turns.stack.items values_left in
    let long = ap length i.in_slots ∙ length-append (values_of held.slots.now) (map (take 1) (stack_of c.turns.stack)) in
    omega arith

pub quantified::satisfied-returns-in_err-found-clause-gives : goal.quantified::satisfied-returns-in_err-found-clause-gives
quantified::satisfied-returns-in_err-found-clause-gives g t c = λ clean inside.
    let i = c.turns.invariant in
    let old = g.W.TreeSource.forest c.args.world.now in
    let f = g.W.TreeSource.forest c.turns.world in
    let f' = g.W.TreeSource.forest c.turn.new.world in
    let held = c.args.frame in
    let frame = frame_at old held in
    let inner : Held = record { slots = c.deref.result; focus = held.focus; addresses = held.addresses } in
    let stack = stack_of c.turns.stack in
    let wanted = c.args.wanted in
    let test = plan_mean c.args.test.now in
    let parts = map plan_mean c.args.ranges.now in
    let whole = holds wanted test parts frame old in
    let n = c.len-opened.result in
    let high : length stack ≡ length c.turns.stack.items = length-map c.turns.stack.items values_left in
    let opened : n ≡ length stack = omega arith in
    let many : length parts ≡ length c.args.ranges.now = length-map c.args.ranges.now plan_mean in
    let within : length stack ≤ length parts = (let w = i.within in omega arith) in
    let slots_are : values_of inner.slots.now ≡ values_of held.slots.now ++ map (take 1) stack = ap values_of c.deref.ensures.value ∙ i.in_slots in
    let top : FrameIn old held → frame_at f inner ≡ at_top frame (tuple_at f stack) = λ inside. frame_open f held inner stack slots_are refl refl ∙ ap (λ fr. at_top fr (tuple_at f stack)) (frame_grown i.goes.grows held inside) in
    let at : (clean : g.W.TreeSource.is_clean c.turns.world) → FrameIn old held → At wanted test parts frame whole f stack = λ clean inside. record { within = within; is_in = (i.rest clean inside).0; rest = (i.rest clean inside).1 } in
    let inner_in : (clean : g.W.TreeSource.is_clean c.turns.world) → FrameIn old held → FrameIn f inner = λ clean inside. frame_open_in f held inner stack slots_are refl refl (frame_in_grown i.goes.grows held inside) (i.rest clean inside).0 in
    let e = c.in_err-found.field-0.0 in
    let was = c.turn.ensures.goes.was_clean clean in
    let step = subst (λ fr. GivesTurn wanted test (drop n parts) fr f f' (Err e)) (top inside) (c.in_err-found.ensures.gives clean (inner_in was inside)) in
    handed_on (λ (b : Bool). b) (λ trees b. b) (λ trees b. Unit {0}) whole f' e c.from_residual-in_err-found.result c.from_residual-in_err-found.ensures.1
    (turn_stops wanted test parts frame whole f f' stack n e (at was inside) opened step)

pub quantified::satisfied-returns-in_default-clause-gives : goal.quantified::satisfied-returns-in_default-clause-gives
quantified::satisfied-returns-in_default-clause-gives g t c = λ clean inside.
    let i = c.turns.invariant in
    let old = g.W.TreeSource.forest c.args.world.now in
    let f = g.W.TreeSource.forest c.turns.world in
    let f' = g.W.TreeSource.forest c.turn.new.world in
    let held = c.args.frame in
    let frame = frame_at old held in
    let inner : Held = record { slots = c.deref.result; focus = held.focus; addresses = held.addresses } in
    let stack = stack_of c.turns.stack in
    let wanted = c.args.wanted in
    let test = plan_mean c.args.test.now in
    let parts = map plan_mean c.args.ranges.now in
    let whole = holds wanted test parts frame old in
    let n = c.len-opened.result in
    let high : length stack ≡ length c.turns.stack.items = length-map c.turns.stack.items values_left in
    let opened : n ≡ length stack = omega arith in
    let many : length parts ≡ length c.args.ranges.now = length-map c.args.ranges.now plan_mean in
    let within : length stack ≤ length parts = (let w = i.within in omega arith) in
    let slots_are : values_of inner.slots.now ≡ values_of held.slots.now ++ map (take 1) stack = ap values_of c.deref.ensures.value ∙ i.in_slots in
    let top : FrameIn old held → frame_at f inner ≡ at_top frame (tuple_at f stack) = λ inside. frame_open f held inner stack slots_are refl refl ∙ ap (λ fr. at_top fr (tuple_at f stack)) (frame_grown i.goes.grows held inside) in
    let at : (clean : g.W.TreeSource.is_clean c.turns.world) → FrameIn old held → At wanted test parts frame whole f stack = λ clean inside. record { within = within; is_in = (i.rest clean inside).0; rest = (i.rest clean inside).1 } in
    let inner_in : (clean : g.W.TreeSource.is_clean c.turns.world) → FrameIn old held → FrameIn f inner = λ clean inside. frame_open_in f held inner stack slots_are refl refl (frame_in_grown i.goes.grows held inside) (i.rest clean inside).0 in
    let was = c.turn.ensures.goes.was_clean clean in
    let gives = c.in_ok-found.ensures.gives clean (inner_in was inside) in
    let step = none_found wanted test (drop n parts) (frame_at f inner) f f' c.in_ok-found.found c.in_default.is gives in
    (tt, turn_decides wanted test parts frame whole f f' stack n (at was inside) opened (subst (λ fr. holds wanted test (drop n parts) fr f ≡ (Ok wanted, f')) (top inside) step))

pub quantified::satisfied-returns-then-not-branch-clause-gives : goal.quantified::satisfied-returns-then-not-branch-clause-gives
quantified::satisfied-returns-then-not-branch-clause-gives g t c = λ clean inside.
    let i = c.turns.invariant in
    let old = g.W.TreeSource.forest c.args.world.now in
    let f = g.W.TreeSource.forest c.turns.world in
    let f' = g.W.TreeSource.forest c.turn.new.world in
    let held = c.args.frame in
    let frame = frame_at old held in
    let inner : Held = record { slots = c.deref.result; focus = held.focus; addresses = held.addresses } in
    let stack = stack_of c.turns.stack in
    let wanted = c.args.wanted in
    let test = plan_mean c.args.test.now in
    let parts = map plan_mean c.args.ranges.now in
    let whole = holds wanted test parts frame old in
    let n = c.len-opened.result in
    let high : length stack ≡ length c.turns.stack.items = length-map c.turns.stack.items values_left in
    let opened : n ≡ length stack = omega arith in
    let many : length parts ≡ length c.args.ranges.now = length-map c.args.ranges.now plan_mean in
    let within : length stack ≤ length parts = (let w = i.within in omega arith) in
    let slots_are : values_of inner.slots.now ≡ values_of held.slots.now ++ map (take 1) stack = ap values_of c.deref.ensures.value ∙ i.in_slots in
    let top : FrameIn old held → frame_at f inner ≡ at_top frame (tuple_at f stack) = λ inside. frame_open f held inner stack slots_are refl refl ∙ ap (λ fr. at_top fr (tuple_at f stack)) (frame_grown i.goes.grows held inside) in
    let at : (clean : g.W.TreeSource.is_clean c.turns.world) → FrameIn old held → At wanted test parts frame whole f stack = λ clean inside. record { within = within; is_in = (i.rest clean inside).0; rest = (i.rest clean inside).1 } in
    let inner_in : (clean : g.W.TreeSource.is_clean c.turns.world) → FrameIn old held → FrameIn f inner = λ clean inside. frame_open_in f held inner stack slots_are refl refl (frame_in_grown i.goes.grows held inside) (i.rest clean inside).0 in
    let items = item_views c.in-Some.items.value in
    let spent : length c.args.ranges.now ≤ n → items ≡ [] = λ full. subst (λ r. IfSome r (λ its. item_views its.value ≡ [])) c.in-Some.is (c.in_ok-found.ensures.spent full) in
    let outer = length held.slots.now in
    let slots = values_of c.turns.slots.items in
    let slots' = values_of c.advance.new.slots.items in
    let stack' = stack_of c.advance.new.stack in
    let ended : Falls stack items [] [] = subst (MovesOn outer slots stack items slots' stack') c.if-not-branch.true c.in_ok-advance.ensures in
    let was = c.turn.ensures.goes.was_clean clean in
    let gives = c.in_ok-found.ensures.gives clean (inner_in was inside) in
    let step = some_found wanted test (drop n parts) (frame_at f inner) f f' c.in_ok-found.found c.in-Some.items c.in-Some.is gives in
    (tt, turn_ends wanted test parts frame whole f f' stack items n (at was inside) c.turn.ensures.goes.grows opened (subst (λ fr. IsTurn wanted test (drop n parts) fr f f' (Some items)) (top inside) step).1 ended)

pub quantified::satisfied-returns-in_err-found-clause-goes : goal.quantified::satisfied-returns-in_err-found-clause-goes
quantified::satisfied-returns-in_err-found-clause-goes g t c = goes_on_to c.turns.invariant.goes c.turn.ensures.goes

pub quantified::satisfied-returns-in_default-clause-goes : goal.quantified::satisfied-returns-in_default-clause-goes
quantified::satisfied-returns-in_default-clause-goes g t c = goes_on_to c.turns.invariant.goes c.turn.ensures.goes

pub quantified::satisfied-returns-then-not-branch-clause-goes : goal.quantified::satisfied-returns-then-not-branch-clause-goes
quantified::satisfied-returns-then-not-branch-clause-goes g t c = goes_on_to c.turns.invariant.goes c.turn.ensures.goes

pub quantified::satisfied-returns-in_err-advance-clause-goes : goal.quantified::satisfied-returns-in_err-advance-clause-goes
quantified::satisfied-returns-in_err-advance-clause-goes g t c = goes_on_to c.turns.invariant.goes c.turn.ensures.goes

pub quantified::turn-returns-then-opened-ranges-2-clause-gives : goal.quantified::turn-returns-then-opened-ranges-2-clause-gives
quantified::turn-returns-then-opened-ranges-2-clause-gives g t c = λ clean inside.
    let f = g.W.TreeSource.forest c.args.world.now in
    let f' = g.W.TreeSource.forest c.evaluate.new.world in
    let frame = frame_at f c.args.frame in
    let n = c.args.opened in
    let ranges = c.args.ranges.now in
    let part = c.index-ranges-opened.result in
    let test = plan_mean c.args.test.now in
    let parts = drop n (map plan_mean ranges) in
    let rest = map plan_mean (drop (n + 1) ranges) in
    let split : parts ≡ plan_mean part ∷ rest = next_left plan_mean ranges n part (omega arith) c.index-ranges-opened.is in
    let value = c.in_ok-items.ensures.gives clean inside in
    let held : item_views c.in_ok-new.field-0.value ≡ item_views c.in_ok-items.items = ap item_views c.in_ok-new.ensures.ok in
    (subst (AreIn f') (sym held) value.0, turn_value c.args.wanted test (plan_mean part) rest frame parts _ f f' split value.1 ∙ ap (λ xs. tried c.args.wanted test (items_at f' xs) parts frame f') (sym held))

pub quantified::turn-returns-then-opened-ranges-clause-gives : goal.quantified::turn-returns-then-opened-ranges-clause-gives
quantified::turn-returns-then-opened-ranges-clause-gives g t c = λ clean inside.
    let f = g.W.TreeSource.forest c.args.world.now in
    let f' = g.W.TreeSource.forest c.evaluate.new.world in
    let f'' = g.W.TreeSource.forest c.undecided.new.world in
    let held = c.args.frame in
    let frame = frame_at f held in
    let n = c.args.opened in
    let ranges = c.args.ranges.now in
    let part = c.index-ranges-opened.result in
    let parts = drop n (map plan_mean ranges) in
    let split : parts ≡ plan_mean part ∷ map plan_mean (drop (n + 1) ranges) = next_left plan_mean ranges n part (omega arith) c.index-ranges-opened.is in
    let alone : parts ≡ plan_mean part ∷ [] = split ∙ ap (λ l. plan_mean part ∷ map plan_mean l) (drop_all (n + 1) ranges (omega arith)) in
    let value = c.in_ok-items.ensures.gives (c.undecided.ensures.was_clean clean) inside in
    let grows = c.in_ok-items.ensures.goes.grows in
    let left = c.in_ok-left.ensures.left clean (frame_in_grown grows held inside).slots_in value.0 frame (sym (tuple_grown grows (values_of held.slots.now) inside.slots_in)) in
    turn_left c.args.wanted c.args.test.now parts (plan_mean part) frame (item_views c.in_ok-items.items) (values_found c.in_ok-left.left) f f' f'' alone value.1 c.undecided.ensures.keeps left

pub quantified::turn-returns-in_err-items-clause-gives : goal.quantified::turn-returns-in_err-items-clause-gives
quantified::turn-returns-in_err-items-clause-gives g t c = λ clean inside.
    let f = g.W.TreeSource.forest c.args.world.now in
    let f' = g.W.TreeSource.forest c.evaluate.new.world in
    let frame = frame_at f c.args.frame in
    let n = c.args.opened in
    let ranges = c.args.ranges.now in
    let part = c.index-ranges-opened.result in
    let test = plan_mean c.args.test.now in
    let parts = drop n (map plan_mean ranges) in
    let rest = map plan_mean (drop (n + 1) ranges) in
    let split : parts ≡ plan_mean part ∷ rest = next_left plan_mean ranges n part (omega arith) c.index-ranges-opened.is in
    turn_refused item_views items_at AreIn (plan_mean part frame f) c.args.wanted test parts frame f f' c.in_err-items.field-0.0 c.from_residual.result
    (turn_refuses c.args.wanted test (plan_mean part) rest frame parts f split) c.from_residual.ensures.1 (c.in_err-items.ensures.gives clean inside)

pub quantified::turn-returns-in_err-truth-clause-gives : goal.quantified::turn-returns-in_err-truth-clause-gives
quantified::turn-returns-in_err-truth-clause-gives g t c = λ clean inside.
    let f = g.W.TreeSource.forest c.args.world.now in
    let f' = g.W.TreeSource.forest c.tested.new.world in
    let frame = frame_at f c.args.frame in
    let ranges = c.args.ranges.now in
    let test = plan_mean c.args.test.now in
    let parts = drop c.args.opened (map plan_mean ranges) in
    let many = length-map ranges plan_mean in
    let none : parts ≡ [] = drop_all c.args.opened (map plan_mean ranges) (omega arith) in
    turn_refused (λ (b : Bool). b) (λ trees b. b) (λ trees b. Unit {0}) (Forms.tested test frame f) c.args.wanted test parts frame f f' c.in_err-truth.field-0.0 c.from_residual-in_err-truth.result
    (λ code h. ap (λ ps. (holds c.args.wanted test ps frame f).0) none ∙ h) c.from_residual-in_err-truth.ensures.1 (c.in_err-truth.ensures.gives clean inside)

pub quantified::turn-returns-then-truth-wanted-clause-gives : goal.quantified::turn-returns-then-truth-wanted-clause-gives
quantified::turn-returns-then-truth-wanted-clause-gives g t c = λ clean inside.
    let f = g.W.TreeSource.forest c.args.world.now in
    let f' = g.W.TreeSource.forest c.tested.new.world in
    let frame = frame_at f c.args.frame in
    let ranges = c.args.ranges.now in
    let test = plan_mean c.args.test.now in
    let parts = drop c.args.opened (map plan_mean ranges) in
    let many = length-map ranges plan_mean in
    let none : parts ≡ [] = drop_all c.args.opened (map plan_mean ranges) (omega arith) in
    let answer = c.in_ok-truth.truth in
    let same : answer ≡ c.args.wanted = search rules in
    turn_tested c.args.wanted test parts frame answer f f' none (c.in_ok-truth.ensures.gives clean inside).1 ∙ ap (λ b. (Ok b, f')) same

pub quantified::turn-returns-clause-gives : goal.quantified::turn-returns-clause-gives
quantified::turn-returns-clause-gives g t c = λ clean inside.
    let f = g.W.TreeSource.forest c.args.world.now in
    let f' = g.W.TreeSource.forest c.tested.new.world in
    let frame = frame_at f c.args.frame in
    let ranges = c.args.ranges.now in
    let wanted = c.args.wanted in
    let test = plan_mean c.args.test.now in
    let parts = drop c.args.opened (map plan_mean ranges) in
    let many = length-map ranges plan_mean in
    let none : parts ≡ [] = drop_all c.args.opened (map plan_mean ranges) (omega arith) in
    let answer = c.in_ok-truth.truth in
    let other : answer ≡ not wanted = search rules in
    let held : item_views c.in_ok-new-2.field-0.value ≡ [] = ap item_views c.in_ok-new-2.ensures.ok ∙ ap (map item_view) c.new-2.ensures.items in (
      subst (AreIn f') (sym held) tt,
      turn_tested wanted test parts frame answer f f' none (c.in_ok-truth.ensures.gives clean inside).1
          ∙ ap (λ b. (Ok b, f')) other
          ∙ ap (λ ps. tried wanted test [] ps frame f') (sym none)
          ∙ ap (λ xs. tried wanted test (items_at f' xs) parts frame f') (sym held),
    )

pub quantified::turn-returns-then-opened-ranges-2-clause-goes : goal.quantified::turn-returns-then-opened-ranges-2-clause-goes
quantified::turn-returns-then-opened-ranges-2-clause-goes g t c = c.in_ok-items.ensures.goes

pub quantified::turn-returns-then-opened-ranges-clause-goes : goal.quantified::turn-returns-then-opened-ranges-clause-goes
quantified::turn-returns-then-opened-ranges-clause-goes g t c = goes_on_to c.in_ok-items.ensures.goes (same_goes c.undecided.ensures.keeps c.undecided.ensures.was_clean)

pub quantified::turn-returns-in_err-left-clause-goes : goal.quantified::turn-returns-in_err-left-clause-goes
quantified::turn-returns-in_err-left-clause-goes g t c = goes_on_to c.in_ok-items.ensures.goes (same_goes c.undecided.ensures.keeps c.undecided.ensures.was_clean)

pub quantified::turn-returns-in_err-items-clause-goes : goal.quantified::turn-returns-in_err-items-clause-goes
quantified::turn-returns-in_err-items-clause-goes g t c = c.in_err-items.ensures.goes

pub quantified::turn-returns-in_err-new-clause-goes : goal.quantified::turn-returns-in_err-new-clause-goes
quantified::turn-returns-in_err-new-clause-goes g t c = c.in_ok-items.ensures.goes

pub quantified::turn-returns-in_err-truth-clause-goes : goal.quantified::turn-returns-in_err-truth-clause-goes
quantified::turn-returns-in_err-truth-clause-goes g t c = c.in_err-truth.ensures.goes

pub quantified::turn-returns-then-truth-wanted-clause-goes : goal.quantified::turn-returns-then-truth-wanted-clause-goes
quantified::turn-returns-then-truth-wanted-clause-goes g t c = c.in_ok-truth.ensures.goes

pub quantified::turn-returns-in_err-new-2-clause-goes : goal.quantified::turn-returns-in_err-new-2-clause-goes
quantified::turn-returns-in_err-new-2-clause-goes g t c = c.in_ok-truth.ensures.goes

pub quantified::turn-returns-clause-goes : goal.quantified::turn-returns-clause-goes
quantified::turn-returns-clause-goes g t c = c.in_ok-truth.ensures.goes

pub quantified::satisfied-returns-in_err-slots-clause-goes : goal.quantified::satisfied-returns-in_err-slots-clause-goes
quantified::satisfied-returns-in_err-slots-clause-goes g t c = stays _ _

pub evaluation::called-returns-in-Some-clause-gives : goal.evaluation::called-returns-in-Some-clause-gives
evaluation::called-returns-in-Some-clause-gives g t c = λ clean inside.
    let f = g.W.TreeSource.forest c.args.world.now in
    let frame = frame_at f c.args.frame in
    subst (λ r. IfSome r (λ given. AreIn f (item_views given) × (Forms.call c.args.function (map plan_mean c.args.parts.now) frame f ≡ (Ok (items_at f (item_views given)), f)))) c.in-Some.is (c.in_ok-items.ensures f frame refl)

pub evaluation::called-returns-in-Some-2-clause-gives : goal.evaluation::called-returns-in-Some-2-clause-gives
evaluation::called-returns-in-Some-2-clause-gives g t c = λ clean inside.
    let f = g.W.TreeSource.forest c.args.world.now in
    let frame = frame_at f c.args.frame in
    let outcome = Forms.call c.args.function (map plan_mean c.args.parts.now) frame f in
    let is : item_views c.in_ok-single.field-0 ≡ Value (atomic_of c.in-Some-2.text) ∷ [] = c.in_ok-single.ensures in
    subst (λ vs. AreIn f vs × (outcome ≡ (Ok (items_at f vs), f))) (sym is)
    ((tt, tt), subst (λ o. Tells atomic outcome f (Ok o)) c.in-Some-2.is (c.in_ok-text.ensures f frame refl))

pub evaluation::called-returns-in_err-text-clause-gives : goal.evaluation::called-returns-in_err-text-clause-gives
evaluation::called-returns-in_err-text-clause-gives g t c = λ clean inside.
    let f = g.W.TreeSource.forest c.args.world.now in
    let frame = frame_at f c.args.frame in
    let outcome = Forms.call c.args.function (map plan_mean c.args.parts.now) frame f in
    let e = c.in_err-text.field-0.0 in
    handed_on item_views items_at AreIn outcome f e c.from_residual-in_err-text.result c.from_residual-in_err-text.ensures.1
    (told_stop atomic item_views items_at AreIn outcome f f e (c.in_err-text.ensures f frame refl))

pub evaluation::called-returns-in-Some-2-clause-goes : goal.evaluation::called-returns-in-Some-2-clause-goes
evaluation::called-returns-in-Some-2-clause-goes g t c = stays _ _

pub evaluation::called-returns-in_err-text-clause-goes : goal.evaluation::called-returns-in_err-text-clause-goes
evaluation::called-returns-in_err-text-clause-goes g t c = stays _ _

pub evaluation::called-returns-in_err-single-clause-goes : goal.evaluation::called-returns-in_err-single-clause-goes
evaluation::called-returns-in_err-single-clause-goes g t c = stays _ _

pub evaluation::called-returns-in-Some-only_part-clause-gives : goal.evaluation::called-returns-in-Some-only_part-clause-gives
evaluation::called-returns-in-Some-only_part-clause-gives g t c = λ clean inside.
    let f = g.W.TreeSource.forest c.args.world.now in
    let held = c.args.frame in
    let frame = frame_at f held in
    let f' = g.W.TreeSource.forest c.evaluate.new.world in
    let f'' = g.W.TreeSource.forest c.call_on_one.new.world in
    let grows = c.in_ok-value.ensures.goes.grows in
    let function = c.args.function in
    let xs = items_at f' (item_views c.in_ok-value.value) in
    let value = c.in_ok-value.ensures.gives (c.call_on_one.ensures.goes.was_clean clean) inside in
    let meant : Forms.call function (map plan_mean c.args.parts.now) frame f ≡ calling function (frame_at f' held) (xs ∷ []) f' =
    ap (λ ps. Forms.call function (map plan_mean ps) frame f) c.in-Some-only_part.ensures
    ∙ ap (λ o. go_on (go_on (go_on o (λ y. give ([] ++ y ∷ []))) (λ next. give next)) (λ values. calling function frame values)) value.1
    ∙ ap (λ fr. calling function fr (xs ∷ []) f') (sym (frame_grown grows held inside)) in
    subst (λ o. GivesSequence o f'' c.call_on_one.result) (sym meant) (c.call_on_one.ensures.gives clean (frame_in_grown grows held inside) value.0)

pub evaluation::called-returns-in-Some-only_part-clause-goes : goal.evaluation::called-returns-in-Some-only_part-clause-goes
evaluation::called-returns-in-Some-only_part-clause-goes g t c = goes_on_to c.in_ok-value.ensures.goes c.call_on_one.ensures.goes

pub evaluation::called-returns-in-Some-only_part-clause-reads : goal.evaluation::called-returns-in-Some-only_part-clause-reads
evaluation::called-returns-in-Some-only_part-clause-reads g t c = λ clean inside doc text is.
    let f = g.W.TreeSource.forest c.args.world.now in
    let frame = frame_at f c.args.frame in
    let f' = g.W.TreeSource.forest c.evaluate.new.world in
    let was = c.call_on_one.ensures.goes.was_clean clean in
    let views = item_views c.in_ok-value.value in
    let value = c.in_ok-value.ensures.gives was inside in
    let part = only_text c.args.parts.now c.in-Some-only_part.part.now text c.in-Some-only_part.ensures is in
    let one = literal_value frame f f' text (views ∷ []) (ap (λ p. in_turn (one_more (λ (m : Meaning). m frame)) [] (plan_mean p ∷ []) f) (sym part) ∙ ap (λ o. go_on (go_on o (λ y. give ([] ++ y ∷ []))) (λ next. give next)) value.1) in
    c.call_on_one.ensures.reads doc (subst (AllByRecursion IsAtom) (sym (first_same views one.xs one.is)) one.all) ∙ (c.evaluate.ensures.reads was inside).literal (text, part)

pub evaluation::called-returns-in_err-value-clause-gives : goal.evaluation::called-returns-in_err-value-clause-gives
evaluation::called-returns-in_err-value-clause-gives g t c = λ clean inside.
    let f = g.W.TreeSource.forest c.args.world.now in
    let frame = frame_at f c.args.frame in
    let f' = g.W.TreeSource.forest c.evaluate.new.world in
    let function = c.args.function in
    let e = c.in_err-value.field-0.0 in
    let made = λ (y : List Item). give ([] ++ y ∷ []) in
    let next = λ (values : List (List Item)). calling function frame values in
    let first = go_on (plan_mean c.in-Some-only_part.part.now frame f) made in
    cut lists_of tuple_at TupleIn item_views items_at AreIn _ (go_on first (λ values. give values)) next f' e c.from_residual-in_err-value.result
    (ap (λ ps. Forms.call function (map plan_mean ps) frame f) c.in-Some-only_part.ensures) c.from_residual-in_err-value.ensures.1
    (go_on_stop lists_of tuple_at TupleIn lists_of tuple_at TupleIn first (λ values. give values) f' e
    (go_on_stop item_views items_at AreIn lists_of tuple_at TupleIn (plan_mean c.in-Some-only_part.part.now frame f) made f' e (c.in_err-value.ensures.gives clean inside)))

pub evaluation::called-returns-in_err-value-clause-goes : goal.evaluation::called-returns-in_err-value-clause-goes
evaluation::called-returns-in_err-value-clause-goes g t c = c.in_err-value.ensures.goes

pub evaluation::called-returns-in_err-value-clause-reads : goal.evaluation::called-returns-in_err-value-clause-reads
evaluation::called-returns-in_err-value-clause-reads g t c = λ clean inside doc text is.
    (c.evaluate.ensures.reads clean inside).literal (text, only_text c.args.parts.now c.in-Some-only_part.part.now text c.in-Some-only_part.ensures is)

pub evaluation::called-evaluate-requires : goal.evaluation::called-evaluate-requires
evaluation::called-evaluate-requires g t c = λ κs live.
    let all : 8 * most size-Plan c.args.parts.now + 6 ≡ t = c.decreases in
    let one : most size-Plan c.args.parts.now ≡ max (size-Plan c.in-Some-only_part.part.now) 0 = ap (most size-Plan) c.in-Some-only_part.ensures in
    let below : 8 * size-Plan c.in-Some-only_part.part.now + 3 < t = omega (arith, all, one) in
    (below, live)

pub evaluation::called-returns-in_err-values-clause-gives : goal.evaluation::called-returns-in_err-values-clause-gives
evaluation::called-returns-in_err-values-clause-gives g t c = λ clean inside.
    let f = g.W.TreeSource.forest c.args.world.now in
    let frame = frame_at f c.args.frame in
    let f' = g.W.TreeSource.forest c.arguments.new.world in
    let none : lists_of c.new.result ≡ [] = ap (map item_views) c.new.ensures.items in
    let lists = λ (done : Tuple ItemView). in_turn (one_more (λ (part : Meaning). part frame)) (tuple_at f done) (map plan_mean c.args.parts.now) f in
    let next = λ (values : List (List Item)). calling c.args.function frame values in
    cut lists_of tuple_at TupleIn item_views items_at AreIn _ (lists (lists_of c.new.result)) next f' c.in_err-values.field-0.0 c.from_residual-in_err-values.result (ap (λ done. go_on (lists done) next) (sym none)) c.from_residual-in_err-values.ensures.1
    (c.in_err-values.ensures.gives clean inside (subst (TupleIn f) (sym none) tt))

pub evaluation::called-returns-clause-gives : goal.evaluation::called-returns-clause-gives
evaluation::called-returns-clause-gives g t c = λ clean inside.
    let f = g.W.TreeSource.forest c.args.world.now in
    let held = c.args.frame in
    let frame = frame_at f held in
    let f' = g.W.TreeSource.forest c.arguments.new.world in
    let f'' = g.W.TreeSource.forest c.call.new.world in
    let grows = c.in_ok-values.ensures.goes.grows in
    let function = c.args.function in
    let none : lists_of c.new.result ≡ [] = ap (map item_views) c.new.ensures.items in
    let all = λ (done : Tuple ItemView). in_turn (one_more (λ (part : Meaning). part frame)) (tuple_at f done) (map plan_mean c.args.parts.now) f in
    let lists = tuple_at f' (lists_of c.in_ok-values.values) in
    let values = c.in_ok-values.ensures.gives (c.call.ensures.goes.was_clean clean) inside (subst (TupleIn f) (sym none) tt) in
    let meant : Forms.call function (map plan_mean c.args.parts.now) frame f ≡ calling function (frame_at f' held) lists f' =
    ap (λ done. go_on (all done) (λ values. calling function frame values)) (sym none)
    ∙ ap (λ o. go_on o (λ values. calling function frame values)) values.1 ∙ ap (λ fr. calling function fr lists f') (sym (frame_grown grows held inside)) in
    subst (λ o. GivesSequence o f'' c.call.result) (sym meant) (c.call.ensures.gives clean (frame_in_grown grows held inside) values.0)

pub evaluation::called-returns-in_err-items-clause-goes : goal.evaluation::called-returns-in_err-items-clause-goes
evaluation::called-returns-in_err-items-clause-goes g t c = stays _ _

pub evaluation::called-returns-in-Some-clause-goes : goal.evaluation::called-returns-in-Some-clause-goes
evaluation::called-returns-in-Some-clause-goes g t c = stays _ _

pub evaluation::called-returns-in_err-values-clause-goes : goal.evaluation::called-returns-in_err-values-clause-goes
evaluation::called-returns-in_err-values-clause-goes g t c = c.in_err-values.ensures.goes

pub evaluation::called-returns-clause-goes : goal.evaluation::called-returns-clause-goes
evaluation::called-returns-clause-goes g t c = goes_on_to c.in_ok-values.ensures.goes c.call.ensures.goes

pub evaluation::evaluate-returns-in-Call-clause-gives : goal.evaluation::evaluate-returns-in-Call-clause-gives
evaluation::evaluate-returns-in-Call-clause-gives g t c = λ clean inside.
    rw (c.in-Call.is, plan-Call c.in-Call.function c.in-Call.parts, ← c.as_slice-in-Call.ensures) (c.call_value.ensures.gives clean inside)

pub evaluation::evaluate-returns-in-Call-clause-goes : goal.evaluation::evaluate-returns-in-Call-clause-goes
evaluation::evaluate-returns-in-Call-clause-goes g t c = c.call_value.ensures.goes

pub evaluation::next_call-returns-clause-gives : goal.evaluation::next_call-returns-clause-gives
evaluation::next_call-returns-clause-gives g t c = λ clean inside items_in.
    let f = g.W.TreeSource.forest c.args.world.now in
    let held = c.args.frame in
    let frame = frame_at f held in
    let f' = g.W.TreeSource.forest c.arguments.new.world in
    let f'' = g.W.TreeSource.forest c.call.new.world in
    let grows = c.in_ok-values.ensures.goes.grows in
    let function = c.args.function in
    let items = item_views c.args.items in
    let parts = map plan_mean c.args.parts.now in
    let value = λ (part : Meaning). part frame in
    let next = λ (values : List (List Item)). calling function frame values in
    let one : lists_of c.push.new.self ≡ items ∷ [] = ap (map item_views) c.in_ok-push.ensures.items ∙ ap (λ l. map item_views (l ++ c.args.items ∷ [])) c.new-first.ensures.items in
    let lists = tuple_at f' (lists_of c.in_ok-values.values) in
    let values = c.in_ok-values.ensures.gives (c.call.ensures.goes.was_clean clean) inside (subst (TupleIn f) (sym one) (items_in, tt)) in
    let meant : Forms.next_call frame (items_at f items) (function, parts) f ≡ calling function (frame_at f' held) lists f' =
    sym (begun_then value (items_at f items) parts next f)
    ∙ ap (λ done. go_on (in_turn (one_more value) (tuple_at f done) parts f) next) (sym one)
    ∙ ap (λ o. go_on o next) values.1 ∙ ap (λ fr. calling function fr lists f') (sym (frame_grown grows held inside)) in
    subst (λ o. GivesSequence o f'' c.call.result) (sym meant) (c.call.ensures.gives clean (frame_in_grown grows held inside) values.0)

pub evaluation::next_call-returns-in_err-values-clause-gives : goal.evaluation::next_call-returns-in_err-values-clause-gives
evaluation::next_call-returns-in_err-values-clause-gives g t c = λ clean inside items_in.
    let f = g.W.TreeSource.forest c.args.world.now in
    let frame = frame_at f c.args.frame in
    let f' = g.W.TreeSource.forest c.arguments.new.world in
    let function = c.args.function in
    let items = item_views c.args.items in
    let parts = map plan_mean c.args.parts.now in
    let value = λ (part : Meaning). part frame in
    let next = λ (values : List (List Item)). calling function frame values in
    let one : lists_of c.push.new.self ≡ items ∷ [] = ap (map item_views) c.in_ok-push.ensures.items ∙ ap (λ l. map item_views (l ++ c.args.items ∷ [])) c.new-first.ensures.items in
    let all = λ (done : Tuple ItemView). in_turn (one_more value) (tuple_at f done) parts f in
    cut lists_of tuple_at TupleIn item_views items_at AreIn (Forms.next_call frame (items_at f items) (function, parts) f) (all (lists_of c.push.new.self)) next f' c.in_err-values.field-0.0 c.from_residual-in_err-values.result
    (sym (begun_then value (items_at f items) parts next f) ∙ ap (λ done. go_on (all done) next) (sym one)) c.from_residual-in_err-values.ensures.1
    (c.in_err-values.ensures.gives clean inside (subst (TupleIn f) (sym one) (items_in, tt)))

pub evaluation::next_call-returns-in_err-push-clause-goes : goal.evaluation::next_call-returns-in_err-push-clause-goes
evaluation::next_call-returns-in_err-push-clause-goes g t c = stays _ _

pub evaluation::next_call-returns-in_err-values-clause-goes : goal.evaluation::next_call-returns-in_err-values-clause-goes
evaluation::next_call-returns-in_err-values-clause-goes g t c = c.in_err-values.ensures.goes

pub evaluation::next_call-returns-clause-goes : goal.evaluation::next_call-returns-clause-goes
evaluation::next_call-returns-clause-goes g t c = goes_on_to c.in_ok-values.ensures.goes c.call.ensures.goes

pub evaluation::call_list-next_call-requires : goal.evaluation::call_list-next_call-requires
evaluation::call_list-next_call-requires g t c = λ κs live.
    let depth = λ (o : Function × List Plan). max 0 (max (most size-Plan o.1) 0) in
    let all : 8 * most depth c.args.calls.now + 7 ≡ t = c.decreases in
    let among = at_most depth c.args.calls.now c.loop-function.function-index c.loop-function-item.result (omega (arith, c.loop-function-test.true)) in
    let this = ap depth c.loop-function-item.is in
    let same = ap (most size-Plan) c.as_slice.ensures in
    let below : 8 * most size-Plan c.as_slice.result.now + 6 < t = omega (arith, all, among, this, same) in
    (below, live)

pub evaluation::call_list-loop-function-preserved : goal.evaluation::call_list-loop-function-preserved
evaluation::call_list-loop-function-preserved g t c =
    let i = c.loop-function.invariant in
    let it = c.loop-function-item.result in
    let held = c.args.frame in
    let f = g.W.TreeSource.forest c.loop-function.world in
    let same : map plan_mean c.as_slice.result.now ≡ map plan_mean it.1 = ap (map plan_mean) c.as_slice.ensures in
    record {
      goes = goes_on_to i.goes c.next_call.ensures.goes;
      turns = turns_next _ _ _ (item_views c.in_ok-value.value) (it.0, map plan_mean it.1) _ _ i.turns (left_over (λ (op, ps). (op, map plan_mean ps)) c.args.calls.now c.loop-function.function-index it (omega arith) c.loop-function-item.is) c.next_call.ensures.goes.was_clean
          (λ clean inside is_in.
          let s = c.in_ok-value.ensures.gives clean (frame_in_grown i.goes.grows held inside.0) is_in in
          (s.0, ap (λ fr. Forms.next_call fr (items_at f (item_views c.loop-function.value)) (it.0, map plan_mean it.1) f) (sym (frame_grown i.goes.grows held inside.0)) ∙ ap (λ ps. Forms.next_call (frame_at f held) (items_at f (item_views c.loop-function.value)) (it.0, ps) f) (sym same) ∙ s.1));
    }

pub evaluation::call_list-returns-in_err-value-clause-gives : goal.evaluation::call_list-returns-in_err-value-clause-gives
evaluation::call_list-returns-in_err-value-clause-gives g t c = λ clean inside first_in.
    let i = c.loop-function.invariant in
    let it = c.loop-function-item.result in
    let held = c.args.frame in
    let f = g.W.TreeSource.forest c.loop-function.world in
    let f' = g.W.TreeSource.forest c.next_call.new.world in
    let same : map plan_mean c.as_slice.result.now ≡ map plan_mean it.1 = ap (map plan_mean) c.as_slice.ensures in
    let e = c.in_err-value.field-0.0 in
    handed_on item_views items_at AreIn _ f' e c.from_residual.result c.from_residual.ensures.1
    (turns_stop _ _ _ item_views items_at AreIn (it.0, map plan_mean it.1) _ f' e i.turns (left_over (λ (op, ps). (op, map plan_mean ps)) c.args.calls.now c.loop-function.function-index it (omega arith) c.loop-function-item.is) c.next_call.ensures.goes.was_clean
    (λ clean inside is_in. subst (λ fr. GivesSequence (Forms.next_call fr (items_at f (item_views c.loop-function.value)) (it.0, map plan_mean it.1) f) f' (Err e)) (frame_grown i.goes.grows held inside.0)
    (subst (λ ps. GivesSequence (Forms.next_call (frame_at f held) (items_at f (item_views c.loop-function.value)) (it.0, ps) f) f' (Err e)) same (c.in_err-value.ensures.gives clean (frame_in_grown i.goes.grows held inside.0) is_in))) clean (inside, first_in))

pub evaluation::call_list-returns-in_err-value-clause-goes : goal.evaluation::call_list-returns-in_err-value-clause-goes
evaluation::call_list-returns-in_err-value-clause-goes g t c = goes_on_to c.loop-function.invariant.goes c.in_err-value.ensures.goes

pub evaluation::call_list-returns-clause-goes : goal.evaluation::call_list-returns-clause-goes
evaluation::call_list-returns-clause-goes g t c = c.loop-function.invariant.goes

pub evaluation::call_list-returns-clause-gives : goal.evaluation::call_list-returns-clause-gives
evaluation::call_list-returns-clause-gives g t c = λ clean inside rest_in.
    let old = g.W.TreeSource.forest c.args.world.now in
    turns_end _ _ _ c.loop-function.invariant.turns (ap (map (λ (op, ps). (op, map plan_mean ps))) (drop_all c.loop-function.function-index c.args.calls.now (omega arith))) clean (inside, rest_in)

pub paths::map_list-loop-part-preserved : goal.paths::map_list-loop-part-preserved
paths::map_list-loop-part-preserved g t c =
    let i = c.loop-part.invariant in
    let old = g.W.TreeSource.forest c.args.world.now in
    let f = g.W.TreeSource.forest c.loop-part.world in
    let f' = g.W.TreeSource.forest c.each.new.world in
    let held = c.args.frame in
    let p = c.part-item.result in
    let left = item_views c.loop-part.left in
    let d : map item_view c.deref.result.now ≡ left = ap (map item_view) c.deref.ensures.value in
    record {
      goes = goes_on_to i.goes c.each.ensures.goes;
      turns = turns_next _ _ _ (item_views c.in_ok-left.left) (plan_mean p) _ _ i.turns (left_over plan_mean c.args.parts.now c.loop-part.part-index p (omega arith) c.part-item.is) c.each.ensures.goes.was_clean
          (λ clean inside is_in.
          let s = c.in_ok-left.ensures.gives clean (frame_in_grown i.goes.grows held inside.0) (subst (AreIn f) (sym d) is_in) in
          (s.0, ap (λ fr. Forms.bang fr (items_at f left) (plan_mean p) f) (sym (frame_grown i.goes.grows held inside.0)) ∙ ap (λ xs. Forms.bang (frame_at f held) (items_at f xs) (plan_mean p) f) (sym d) ∙ s.1));
    }

pub paths::map_list-returns-in_err-left-clause-gives : goal.paths::map_list-returns-in_err-left-clause-gives
paths::map_list-returns-in_err-left-clause-gives g t c = λ clean inside items_in.
    let i = c.loop-part.invariant in
    let old = g.W.TreeSource.forest c.args.world.now in
    let f = g.W.TreeSource.forest c.loop-part.world in
    let f' = g.W.TreeSource.forest c.each.new.world in
    let held = c.args.frame in
    let p = c.part-item.result in
    let left = item_views c.loop-part.left in
    let d : map item_view c.deref.result.now ≡ left = ap (map item_view) c.deref.ensures.value in
    let e = c.in_err-left.field-0.0 in
    handed_on item_views items_at AreIn _ f' e c.from_residual.result c.from_residual.ensures.1
    (turns_stop _ _ _ item_views items_at AreIn (plan_mean p) _ f' e i.turns (left_over plan_mean c.args.parts.now c.loop-part.part-index p (omega arith) c.part-item.is) c.each.ensures.goes.was_clean
    (λ clean inside is_in. subst (λ fr. GivesSequence (Forms.bang fr (items_at f left) (plan_mean p) f) f' (Err e)) (frame_grown i.goes.grows held inside.0)
    (subst (λ xs. GivesSequence (Forms.bang (frame_at f held) (items_at f xs) (plan_mean p) f) f' (Err e)) d
    (c.in_err-left.ensures.gives clean (frame_in_grown i.goes.grows held inside.0) (subst (AreIn f) (sym d) is_in)))) clean (inside, items_in))

pub paths::map_list-returns-in_err-left-clause-goes : goal.paths::map_list-returns-in_err-left-clause-goes
paths::map_list-returns-in_err-left-clause-goes g t c = goes_on_to c.loop-part.invariant.goes c.in_err-left.ensures.goes

pub paths::map_list-returns-clause-goes : goal.paths::map_list-returns-clause-goes
paths::map_list-returns-clause-goes g t c = c.loop-part.invariant.goes

pub paths::map_list-returns-clause-gives : goal.paths::map_list-returns-clause-gives
paths::map_list-returns-clause-gives g t c = λ clean inside rest_in.
    let old = g.W.TreeSource.forest c.args.world.now in
    turns_end _ _ _ c.loop-part.invariant.turns (ap (map plan_mean) (drop_all c.loop-part.part-index c.args.parts.now (omega arith))) clean (inside, rest_in)

pub clauses::next_tuples-returns-in_ok-number-in-Count-clause-gives : goal.clauses::next_tuples-returns-in_ok-number-in-Count-clause-gives
clauses::next_tuples-returns-in_ok-number-in-Count-clause-gives g t c = λ clean inside tuples_in.
    let f = g.W.TreeSource.forest c.args.world.now in
    let frame = frame_at f c.args.frame in
    let tuples = c.args.tuples in
    let stream : c.in_ok-number-in-Count.field-0 ≡ numbered Value tuples = c.in_ok-number-in-Count.ensures.stream in (
      subst (TuplesIn f) (sym stream) (numbered_in f tuples tuples_in),
      ap (λ k. plan_clause_mean k frame (tuples_at f tuples) f) c.in-Count.is ∙ ap (λ m. m frame (tuples_at f tuples) f) clause-Count
          ∙ ap (λ ts. (Ok ts, f)) (sym (ap (tuples_at f) stream ∙ numbered_natural (item_at f) Value Atom (λ a. refl) tuples)),
    )

pub clauses::next_tuples-returns-in_err-number-in-Count-clause-goes : goal.clauses::next_tuples-returns-in_err-number-in-Count-clause-goes
clauses::next_tuples-returns-in_err-number-in-Count-clause-goes g t c = stays _ _

pub clauses::next_tuples-returns-in_ok-number-in-Count-clause-goes : goal.clauses::next_tuples-returns-in_ok-number-in-Count-clause-goes
clauses::next_tuples-returns-in_ok-number-in-Count-clause-goes g t c = stays _ _

pub evaluation::evaluate-returns-in-Int-clause-reads : goal.evaluation::evaluate-returns-in-Int-clause-reads
evaluation::evaluate-returns-in-Int-clause-reads g t c = λ clean inside. other_form _ _ _ _ _ (ap out-Plan c.in-Int.is ∙ plan.outs-Int _) tt

pub evaluation::evaluate-returns-in-Dec-clause-reads : goal.evaluation::evaluate-returns-in-Dec-clause-reads
evaluation::evaluate-returns-in-Dec-clause-reads g t c = λ clean inside. other_form _ _ _ _ _ (ap out-Plan c.in-Dec.is ∙ plan.outs-Dec _) tt

pub evaluation::evaluate-returns-in-Slot-clause-reads : goal.evaluation::evaluate-returns-in-Slot-clause-reads
evaluation::evaluate-returns-in-Slot-clause-reads g t c = λ clean inside. other_form _ _ _ _ _ (ap out-Plan c.in-Slot.is ∙ plan.outs-Slot _) tt

pub evaluation::evaluate-returns-in-ContextItem-clause-reads : goal.evaluation::evaluate-returns-in-ContextItem-clause-reads
evaluation::evaluate-returns-in-ContextItem-clause-reads g t c = λ clean inside. other_form _ _ _ _ _ (ap out-Plan c.in-ContextItem.is ∙ plan.outs-ContextItem) tt

pub evaluation::evaluate-returns-in-Sequence-clause-reads : goal.evaluation::evaluate-returns-in-Sequence-clause-reads
evaluation::evaluate-returns-in-Sequence-clause-reads g t c = λ clean inside. other_form _ _ _ _ _ (ap out-Plan c.in-Sequence.is ∙ plan.outs-Sequence _) tt

pub evaluation::evaluate-returns-in-Chain-clause-reads : goal.evaluation::evaluate-returns-in-Chain-clause-reads
evaluation::evaluate-returns-in-Chain-clause-reads g t c = λ clean inside. other_form _ _ _ _ _ (ap out-Plan c.in-Chain.is ∙ plan.outs-Chain _ _) tt

pub evaluation::evaluate-returns-in-Unary-clause-reads : goal.evaluation::evaluate-returns-in-Unary-clause-reads
evaluation::evaluate-returns-in-Unary-clause-reads g t c = λ clean inside. other_form _ _ _ _ _ (ap out-Plan c.in-Unary.is ∙ plan.outs-Unary _ _) tt

pub evaluation::evaluate-returns-in-If-clause-reads : goal.evaluation::evaluate-returns-in-If-clause-reads
evaluation::evaluate-returns-in-If-clause-reads g t c = λ clean inside. other_form _ _ _ _ _ (ap out-Plan c.in-If.is ∙ plan.outs-If _ _ _) tt

pub evaluation::evaluate-returns-in-Or-clause-reads : goal.evaluation::evaluate-returns-in-Or-clause-reads
evaluation::evaluate-returns-in-Or-clause-reads g t c = λ clean inside. other_form _ _ _ _ _ (ap out-Plan c.in-Or.is ∙ plan.outs-Or _) tt

pub evaluation::evaluate-returns-in-And-clause-reads : goal.evaluation::evaluate-returns-in-And-clause-reads
evaluation::evaluate-returns-in-And-clause-reads g t c = λ clean inside. other_form _ _ _ _ _ (ap out-Plan c.in-And.is ∙ plan.outs-And _) tt

pub evaluation::evaluate-returns-in-Filter-clause-reads : goal.evaluation::evaluate-returns-in-Filter-clause-reads
evaluation::evaluate-returns-in-Filter-clause-reads g t c = λ clean inside. other_form _ _ _ _ _ (ap out-Plan c.in-Filter.is ∙ plan.outs-Filter _ _) tt

pub evaluation::evaluate-returns-in-Flwor-clause-reads : goal.evaluation::evaluate-returns-in-Flwor-clause-reads
evaluation::evaluate-returns-in-Flwor-clause-reads g t c = λ clean inside. other_form _ _ _ _ _ (ap out-Plan c.in-Flwor.is ∙ plan.outs-Flwor _ _) tt

pub evaluation::evaluate-returns-in-Root-clause-reads : goal.evaluation::evaluate-returns-in-Root-clause-reads
evaluation::evaluate-returns-in-Root-clause-reads g t c = λ clean inside. other_form _ _ _ _ _ (ap out-Plan c.in-Root.is ∙ plan.outs-Root) tt

pub evaluation::evaluate-returns-in-Step-clause-reads : goal.evaluation::evaluate-returns-in-Step-clause-reads
evaluation::evaluate-returns-in-Step-clause-reads g t c = λ clean inside. other_form _ _ _ _ _ (ap out-Plan c.in-Step.is ∙ plan.outs-Step _ _ _) tt

pub evaluation::evaluate-returns-in-Named-clause-reads : goal.evaluation::evaluate-returns-in-Named-clause-reads
evaluation::evaluate-returns-in-Named-clause-reads g t c = λ clean inside. other_form _ _ _ _ _ (ap out-Plan c.in-Named.is ∙ plan.outs-Named _ _ _) tt

pub evaluation::evaluate-returns-in-Unnamed-clause-reads : goal.evaluation::evaluate-returns-in-Unnamed-clause-reads
evaluation::evaluate-returns-in-Unnamed-clause-reads g t c = λ clean inside. other_form _ _ _ _ _ (ap out-Plan c.in-Unnamed.is ∙ plan.outs-Unnamed _ _) tt

pub evaluation::evaluate-returns-in-Arrow-clause-reads : goal.evaluation::evaluate-returns-in-Arrow-clause-reads
evaluation::evaluate-returns-in-Arrow-clause-reads g t c = λ clean inside. other_form _ _ _ _ _ (ap out-Plan c.in-Arrow.is ∙ plan.outs-Arrow _ _) tt

pub evaluation::evaluate-returns-in-Map-clause-reads : goal.evaluation::evaluate-returns-in-Map-clause-reads
evaluation::evaluate-returns-in-Map-clause-reads g t c = λ clean inside. other_form _ _ _ _ _ (ap out-Plan c.in-Map.is ∙ plan.outs-Map _ _) tt

pub evaluation::evaluate-returns-in-Quantified-clause-reads : goal.evaluation::evaluate-returns-in-Quantified-clause-reads
evaluation::evaluate-returns-in-Quantified-clause-reads g t c = λ clean inside. other_form _ _ _ _ _ (ap out-Plan c.in-Quantified.is ∙ plan.outs-Quantified _ _ _) tt

pub evaluation::evaluate-returns-in-Str-clause-reads : goal.evaluation::evaluate-returns-in-Str-clause-reads
evaluation::evaluate-returns-in-Str-clause-reads g t c = λ clean inside. literal_scans _ _ _ _ _ (ap out-Plan c.in-Str.is ∙ plan.outs-Str _) refl

pub evaluation::evaluate-returns-in-Call-clause-reads : goal.evaluation::evaluate-returns-in-Call-clause-reads
evaluation::evaluate-returns-in-Call-clause-reads g t c = λ clean inside. call_scans _ _ _ _ _ (ap out-Plan c.in-Call.is ∙ plan.outs-Call _ _) (λ doc text parts. c.call_value.ensures.reads clean inside doc text (c.as_slice-in-Call.ensures ∙ parts))

-- # Forms of expressions, and the dispatcher

pub evaluation::evaluate-returns-in-Int-clause-gives : goal.evaluation::evaluate-returns-in-Int-clause-gives
evaluation::evaluate-returns-in-Int-clause-gives g t c = λ clean inside.
    let f = g.W.TreeSource.forest c.args.world.now in
    let same : to_z w64 (of_z w64 c.in-Int.value) ≡ c.in-Int.value = search rules in
    rw (c.in-Int.is, plan-Int c.in-Int.value) (subst (λ n. GivesSequence (give (atomic (Integer n)) f) f c.integer.result) same (c.integer.ensures f))

pub evaluation::evaluate-returns-in-Int-clause-goes : goal.evaluation::evaluate-returns-in-Int-clause-goes
evaluation::evaluate-returns-in-Int-clause-goes g t c = stays _ _

pub evaluation::evaluate-returns-in-Dec-clause-gives : goal.evaluation::evaluate-returns-in-Dec-clause-gives
evaluation::evaluate-returns-in-Dec-clause-gives g t c = λ clean inside.
    rw (c.in-Dec.is, plan-Dec _) (c.decimal.ensures (g.W.TreeSource.forest c.args.world.now))

pub evaluation::evaluate-returns-in-Dec-clause-goes : goal.evaluation::evaluate-returns-in-Dec-clause-goes
evaluation::evaluate-returns-in-Dec-clause-goes g t c = stays _ _

pub evaluation::evaluate-returns-in-Str-clause-gives : goal.evaluation::evaluate-returns-in-Str-clause-gives
evaluation::evaluate-returns-in-Str-clause-gives g t c = λ clean inside.
    rw (c.in-Str.is, plan-Str c.in-Str.text, ← c.as_str.ensures) (c.string.ensures (g.W.TreeSource.forest c.args.world.now))

pub evaluation::evaluate-returns-in-Str-clause-goes : goal.evaluation::evaluate-returns-in-Str-clause-goes
evaluation::evaluate-returns-in-Str-clause-goes g t c = stays _ _

pub evaluation::evaluate-returns-in-Slot-clause-gives : goal.evaluation::evaluate-returns-in-Slot-clause-gives
evaluation::evaluate-returns-in-Slot-clause-gives g t c = λ clean inside.
    rw (c.in-Slot.is, plan-Slot c.in-Slot.number) (c.variable.ensures (g.W.TreeSource.forest c.args.world.now) inside.slots_in)

pub evaluation::evaluate-returns-in-Slot-clause-goes : goal.evaluation::evaluate-returns-in-Slot-clause-goes
evaluation::evaluate-returns-in-Slot-clause-goes g t c = stays _ _

pub evaluation::evaluate-returns-in-Chain-clause-gives : goal.evaluation::evaluate-returns-in-Chain-clause-gives
evaluation::evaluate-returns-in-Chain-clause-gives g t c = λ clean inside.
    rw (c.in-Chain.is, plan-Chain c.in-Chain.first c.in-Chain.rest, ← c.get.ensures, ← c.as_slice-in-Chain.ensures) (c.operands.ensures.gives clean inside)

pub evaluation::evaluate-returns-in-Chain-clause-goes : goal.evaluation::evaluate-returns-in-Chain-clause-goes
evaluation::evaluate-returns-in-Chain-clause-goes g t c = c.operands.ensures.goes

pub evaluation::evaluate-returns-in-Unary-clause-gives : goal.evaluation::evaluate-returns-in-Unary-clause-gives
evaluation::evaluate-returns-in-Unary-clause-gives g t c = λ clean inside.
    rw (c.in-Unary.is, plan-Unary c.in-Unary.signs c.in-Unary.part, ← c.get-in-Unary.ensures, ← c.as_slice-in-Unary.ensures) (c.signed.ensures.gives clean inside)

pub evaluation::evaluate-returns-in-Unary-clause-goes : goal.evaluation::evaluate-returns-in-Unary-clause-goes
evaluation::evaluate-returns-in-Unary-clause-goes g t c = c.signed.ensures.goes

pub evaluation::evaluate-returns-in-If-clause-gives : goal.evaluation::evaluate-returns-in-If-clause-gives
evaluation::evaluate-returns-in-If-clause-gives g t c = λ clean inside.
    rw (c.in-If.is, plan-If c.in-If.test c.in-If.yes c.in-If.no, ← c.get-in-If.ensures, ← c.get-in-If-2.ensures, ← c.get-in-If-3.ensures) (c.conditional.ensures.gives clean inside)

pub evaluation::evaluate-returns-in-If-clause-goes : goal.evaluation::evaluate-returns-in-If-clause-goes
evaluation::evaluate-returns-in-If-clause-goes g t c = c.conditional.ensures.goes

pub evaluation::evaluate-returns-in-Or-clause-gives : goal.evaluation::evaluate-returns-in-Or-clause-gives
evaluation::evaluate-returns-in-Or-clause-gives g t c = λ clean inside.
    rw (c.in-Or.is, plan-Or c.in-Or.parts, ← c.as_slice-in-Or.ensures) (c.logical.ensures.gives clean inside)

pub evaluation::evaluate-returns-in-Or-clause-goes : goal.evaluation::evaluate-returns-in-Or-clause-goes
evaluation::evaluate-returns-in-Or-clause-goes g t c = c.logical.ensures.goes

pub evaluation::evaluate-returns-in-And-clause-gives : goal.evaluation::evaluate-returns-in-And-clause-gives
evaluation::evaluate-returns-in-And-clause-gives g t c = λ clean inside.
    rw (c.in-And.is, plan-And c.in-And.parts, ← c.as_slice-in-And.ensures) (c.logical-in-And.ensures.gives clean inside)

pub evaluation::evaluate-returns-in-And-clause-goes : goal.evaluation::evaluate-returns-in-And-clause-goes
evaluation::evaluate-returns-in-And-clause-goes g t c = c.logical-in-And.ensures.goes

pub evaluation::evaluate-returns-in-Filter-clause-gives : goal.evaluation::evaluate-returns-in-Filter-clause-gives
evaluation::evaluate-returns-in-Filter-clause-gives g t c = λ clean inside.
    rw (c.in-Filter.is, plan-Filter c.in-Filter.start c.in-Filter.predicates, ← c.get-in-Filter.ensures, ← c.as_slice-in-Filter.ensures) (c.filtered.ensures.gives clean inside)

pub evaluation::evaluate-returns-in-Filter-clause-goes : goal.evaluation::evaluate-returns-in-Filter-clause-goes
evaluation::evaluate-returns-in-Filter-clause-goes g t c = c.filtered.ensures.goes

pub evaluation::evaluate-returns-in-Flwor-clause-gives : goal.evaluation::evaluate-returns-in-Flwor-clause-gives
evaluation::evaluate-returns-in-Flwor-clause-gives g t c = λ clean inside.
    rw (c.in-Flwor.is, plan-Flwor c.in-Flwor.clauses c.in-Flwor.part, ← c.get-in-Flwor.ensures, ← c.as_slice-in-Flwor.ensures) (c.flwor.ensures.gives clean inside)

pub evaluation::evaluate-returns-in-Flwor-clause-goes : goal.evaluation::evaluate-returns-in-Flwor-clause-goes
evaluation::evaluate-returns-in-Flwor-clause-goes g t c = c.flwor.ensures.goes

pub evaluation::evaluate-returns-in-Path-clause-gives : goal.evaluation::evaluate-returns-in-Path-clause-gives
evaluation::evaluate-returns-in-Path-clause-gives g t c = λ clean inside.
    rw (c.in-Path.is, plan-Path c.in-Path.start c.in-Path.steps, ← c.get-in-Path.ensures, ← c.as_slice-in-Path.ensures) (c.path.ensures.gives clean inside)

pub evaluation::evaluate-returns-in-Path-clause-goes : goal.evaluation::evaluate-returns-in-Path-clause-goes
evaluation::evaluate-returns-in-Path-clause-goes g t c = c.path.ensures.goes

pub evaluation::evaluate-returns-in-Path-clause-reads : goal.evaluation::evaluate-returns-in-Path-clause-reads
evaluation::evaluate-returns-in-Path-clause-reads g t c = λ clean inside.
    path_scans _ _ _ _ _ (ap out-Plan c.in-Path.is ∙ plan.outs-Path _ _)
    (λ address steps start parts. c.path.ensures.reads clean inside address steps (c.get-in-Path.ensures ∙ start) (c.as_slice-in-Path.ensures ∙ parts))

pub evaluation::evaluate-returns-in-Step-clause-gives : goal.evaluation::evaluate-returns-in-Step-clause-gives
evaluation::evaluate-returns-in-Step-clause-gives g t c = λ clean inside.
    rw (c.in-Step.is, plan-Step c.in-Step.axis c.in-Step.test c.in-Step.predicates, ← c.as_slice-in-Step.ensures) (c.axis_step.ensures.gives clean inside)

pub evaluation::evaluate-returns-in-Step-clause-goes : goal.evaluation::evaluate-returns-in-Step-clause-goes
evaluation::evaluate-returns-in-Step-clause-goes g t c = c.axis_step.ensures.goes

pub evaluation::evaluate-returns-in-Named-clause-gives : goal.evaluation::evaluate-returns-in-Named-clause-gives
evaluation::evaluate-returns-in-Named-clause-gives g t c = λ clean inside.
    rw (c.in-Named.is, plan-Named c.in-Named.kind c.in-Named.name c.in-Named.part, ← c.get-in-Named.ensures, ← c.get-in-Named-2.ensures) (c.named_node.ensures.gives clean inside)

pub evaluation::evaluate-returns-in-Named-clause-goes : goal.evaluation::evaluate-returns-in-Named-clause-goes
evaluation::evaluate-returns-in-Named-clause-goes g t c = c.named_node.ensures.goes

pub evaluation::evaluate-returns-in-Unnamed-clause-gives : goal.evaluation::evaluate-returns-in-Unnamed-clause-gives
evaluation::evaluate-returns-in-Unnamed-clause-gives g t c = λ clean inside.
    rw (c.in-Unnamed.is, plan-Unnamed c.in-Unnamed.kind c.in-Unnamed.part, ← c.get-in-Unnamed.ensures) (c.unnamed_node.ensures.gives clean inside)

pub evaluation::evaluate-returns-in-Unnamed-clause-goes : goal.evaluation::evaluate-returns-in-Unnamed-clause-goes
evaluation::evaluate-returns-in-Unnamed-clause-goes g t c = c.unnamed_node.ensures.goes

pub evaluation::evaluate-returns-in-Arrow-clause-gives : goal.evaluation::evaluate-returns-in-Arrow-clause-gives
evaluation::evaluate-returns-in-Arrow-clause-gives g t c = λ clean inside.
    rw (c.in-Arrow.is, plan-Arrow c.in-Arrow.first c.in-Arrow.calls, ← c.get-in-Arrow.ensures, ← c.as_slice-in-Arrow.ensures) (c.arrow.ensures.gives clean inside)

pub evaluation::evaluate-returns-in-Arrow-clause-goes : goal.evaluation::evaluate-returns-in-Arrow-clause-goes
evaluation::evaluate-returns-in-Arrow-clause-goes g t c = c.arrow.ensures.goes

pub evaluation::evaluate-returns-in-Map-clause-gives : goal.evaluation::evaluate-returns-in-Map-clause-gives
evaluation::evaluate-returns-in-Map-clause-gives g t c = λ clean inside.
    rw (c.in-Map.is, plan-Map c.in-Map.start c.in-Map.parts, ← c.get-in-Map.ensures, ← c.as_slice-in-Map.ensures) (c.simple_map.ensures.gives clean inside)

pub evaluation::evaluate-returns-in-Map-clause-goes : goal.evaluation::evaluate-returns-in-Map-clause-goes
evaluation::evaluate-returns-in-Map-clause-goes g t c = c.simple_map.ensures.goes

pub evaluation::evaluate-returns-in-Quantified-clause-gives : goal.evaluation::evaluate-returns-in-Quantified-clause-gives
evaluation::evaluate-returns-in-Quantified-clause-gives g t c = λ clean inside.
    rw (c.in-Quantified.is, plan-Quantified c.in-Quantified.which c.in-Quantified.ranges c.in-Quantified.test, ← c.get-in-Quantified.ensures, ← c.as_slice-ranges.ensures) (c.quantified.ensures.gives clean inside)

pub evaluation::evaluate-returns-in-Quantified-clause-goes : goal.evaluation::evaluate-returns-in-Quantified-clause-goes
evaluation::evaluate-returns-in-Quantified-clause-goes g t c = c.quantified.ensures.goes

pub expressions::operands-returns-in-Some-clause-gives : goal.expressions::operands-returns-in-Some-clause-gives
expressions::operands-returns-in-Some-clause-gives g t c = λ clean inside.
    let f = g.W.TreeSource.forest c.args.world.now in
    let frame = frame_at f c.args.frame in
    let outcome = Forms.chain (plan_mean c.args.first.now) (map (λ (op, p). (op, plan_mean p)) c.args.rest.now) frame f in
    let is : item_views c.in_ok-single.field-0 ≡ Value (atomic_of c.in-Some.number) ∷ [] = c.in_ok-single.ensures in
    subst (λ vs. AreIn f vs × (outcome ≡ (Ok (items_at f vs), f))) (sym is)
    ((tt, tt), subst (λ o. TellsNumber outcome f (Ok o)) c.in-Some.is (c.in_ok-number.ensures f frame refl))

pub expressions::operands-returns-in_err-number-clause-gives : goal.expressions::operands-returns-in_err-number-clause-gives
expressions::operands-returns-in_err-number-clause-gives g t c = λ clean inside.
    let f = g.W.TreeSource.forest c.args.world.now in
    let frame = frame_at f c.args.frame in
    let outcome = Forms.chain (plan_mean c.args.first.now) (map (λ (op, p). (op, plan_mean p)) c.args.rest.now) frame f in
    handed_on item_views items_at AreIn outcome f (OfCode c.in_err-number.field-0.0) c.from_residual.result c.from_residual.ensures.1
    (ap (λ (o : Outcome (List Item)). o.0) (c.in_err-number.ensures f frame refl))

pub expressions::operands-returns-in-Some-clause-goes : goal.expressions::operands-returns-in-Some-clause-goes
expressions::operands-returns-in-Some-clause-goes g t c = stays _ _

pub expressions::operands-returns-in_err-number-clause-goes : goal.expressions::operands-returns-in_err-number-clause-goes
expressions::operands-returns-in_err-number-clause-goes g t c = stays _ _

pub expressions::operands-returns-in_err-single-clause-goes : goal.expressions::operands-returns-in_err-single-clause-goes
expressions::operands-returns-in_err-single-clause-goes g t c = stays _ _

pub expressions::operands-returns-clause-gives : goal.expressions::operands-returns-clause-gives
expressions::operands-returns-clause-gives g t c = λ clean inside.
    let f = g.W.TreeSource.forest c.args.world.now in
    let held = c.args.frame in
    let frame = frame_at f held in
    let f' = g.W.TreeSource.forest c.evaluate.new.world in
    let grows = c.in_ok-left.ensures.goes.grows in
    let first = c.in_ok-left.ensures.gives (c.chain.ensures.goes.was_clean clean) inside in
    let second = c.chain.ensures.gives clean (frame_in_grown grows held inside) first.0 in
    let value : plan_mean c.args.first.now frame f ≡ (Ok (items_at f' (item_views c.in_ok-left.left)), f') = first.1 in
    rw (value, ← frame_grown grows held inside) second

pub expressions::operands-returns-in_err-left-clause-gives : goal.expressions::operands-returns-in_err-left-clause-gives
expressions::operands-returns-in_err-left-clause-gives g t c = λ clean inside.
    let f = g.W.TreeSource.forest c.args.world.now in
    let held = c.args.frame in
    let frame = frame_at f held in
    let f' = g.W.TreeSource.forest c.evaluate.new.world in
    let next = λ (xs : List Item). in_turn (Forms.next_operand frame) xs (map (λ (op, p). (op, plan_mean p)) c.args.rest.now) in
    cut item_views items_at AreIn item_views items_at AreIn _ (plan_mean c.args.first.now frame f) next f' c.in_err-left.field-0.0 c.from_residual-in_err-left.result refl c.from_residual-in_err-left.ensures.1 (c.in_err-left.ensures.gives clean inside)

pub expressions::operands-returns-in_err-left-clause-goes : goal.expressions::operands-returns-in_err-left-clause-goes
expressions::operands-returns-in_err-left-clause-goes g t c = c.in_err-left.ensures.goes

pub expressions::operands-returns-clause-goes : goal.expressions::operands-returns-clause-goes
expressions::operands-returns-clause-goes g t c = goes_on_to c.in_ok-left.ensures.goes c.chain.ensures.goes

pub expressions::filtered-returns-in-Some-clause-gives : goal.expressions::filtered-returns-in-Some-clause-gives
expressions::filtered-returns-in-Some-clause-gives g t c = λ clean inside.
    let f = g.W.TreeSource.forest c.args.world.now in
    let frame = frame_at f c.args.frame in
    let outcome = Forms.filter_of (plan_mean c.args.start.now) (map plan_mean c.args.predicates.now) in
    let is : item_views c.in_ok-single.field-0 ≡ Value (atomic_of c.in-Some.atom) ∷ [] = c.in_ok-single.ensures in
    let one = subst (λ o. IfSome o (λ (a : AtomHeld). (trees : List Tree) (fr : Frame) → fr.env ≡ tuple_at trees (values_of c.args.frame.slots.now) → outcome fr trees ≡ (Ok (atomic (atomic_of a)), trees))) c.in-Some.is c.in_ok-atom.ensures in
    subst (λ vs. AreIn f vs × (outcome frame f ≡ (Ok (items_at f vs), f))) (sym is) ((tt, tt), one f frame refl)

pub expressions::filtered-returns-in-Some-clause-goes : goal.expressions::filtered-returns-in-Some-clause-goes
expressions::filtered-returns-in-Some-clause-goes g t c = stays _ _

pub expressions::filtered-returns-in_err-atom-clause-goes : goal.expressions::filtered-returns-in_err-atom-clause-goes
expressions::filtered-returns-in_err-atom-clause-goes g t c = stays _ _

pub expressions::filtered-returns-in_err-single-clause-goes : goal.expressions::filtered-returns-in_err-single-clause-goes
expressions::filtered-returns-in_err-single-clause-goes g t c = stays _ _

pub expressions::filtered-returns-in-Some-filtered_variable-clause-gives : goal.expressions::filtered-returns-in-Some-filtered_variable-clause-gives
expressions::filtered-returns-in-Some-filtered_variable-clause-gives g t c = λ clean inside.
    let f = g.W.TreeSource.forest c.args.world.now in
    let held = c.args.frame in
    let f' = g.W.TreeSource.forest c.keep.new.world in
    let f'' = g.W.TreeSource.forest c.filter.new.world in
    let found = c.in-Some-filtered_variable.found in
    let is = lent_filters held.slots.now c.args.start.now c.args.predicates.now c.filtered_variable.result found c.in-Some-filtered_variable.is c.filtered_variable.ensures in
    let grows = c.in_ok-kept.ensures.goes.grows in
    let kept = item_views c.in_ok-kept.kept in
    let first = c.in_ok-kept.ensures.gives (c.filter.ensures.goes.was_clean clean) inside (is.items_in f inside.slots_in) in
    let second = c.filter.ensures.gives clean (frame_in_grown grows held inside) first.0 in
    let whole = filters_then held.slots.now c.args.start.now c.args.predicates.now found is f f' (frame_at f held) refl (items_at f' kept) first.1 in
    subst (λ o. GivesSequence o f'' c.filter.result) (sym (whole ∙ ap (λ fr. in_turn (Forms.filtered fr) (items_at f' kept) (map plan_mean found.rest.now) f') (sym (frame_grown grows held inside)))) second

pub expressions::filtered-returns-in-Some-filtered_variable-clause-goes : goal.expressions::filtered-returns-in-Some-filtered_variable-clause-goes
expressions::filtered-returns-in-Some-filtered_variable-clause-goes g t c = goes_on_to c.in_ok-kept.ensures.goes c.filter.ensures.goes

pub expressions::filtered-returns-in_err-kept-clause-gives : goal.expressions::filtered-returns-in_err-kept-clause-gives
expressions::filtered-returns-in_err-kept-clause-gives g t c = λ clean inside.
    let f = g.W.TreeSource.forest c.args.world.now in
    let held = c.args.frame in
    let frame = frame_at f held in
    let f' = g.W.TreeSource.forest c.keep.new.world in
    let found = c.in-Some-filtered_variable.found in
    let is = lent_filters held.slots.now c.args.start.now c.args.predicates.now c.filtered_variable.result found c.in-Some-filtered_variable.is c.filtered_variable.ensures in
    let next = λ (xs : List Item). in_turn (Forms.filtered frame) xs (map plan_mean found.rest.now) in
    cut item_views items_at AreIn item_views items_at AreIn _ (Forms.filtered frame (items_at f (map item_view found.items.now)) (plan_mean found.first.now) f) next f' c.in_err-kept.field-0.0 c.from_residual-in_err-kept.result
    (filters_first held.slots.now c.args.start.now c.args.predicates.now found is f frame refl) c.from_residual-in_err-kept.ensures.1 (c.in_err-kept.ensures.gives clean inside (is.items_in f inside.slots_in))

pub expressions::filtered-returns-in_err-kept-clause-goes : goal.expressions::filtered-returns-in_err-kept-clause-goes
expressions::filtered-returns-in_err-kept-clause-goes g t c = c.in_err-kept.ensures.goes

pub expressions::filtered-returns-clause-gives : goal.expressions::filtered-returns-clause-gives
expressions::filtered-returns-clause-gives g t c = λ clean inside.
    let f = g.W.TreeSource.forest c.args.world.now in
    let held = c.args.frame in
    let frame = frame_at f held in
    let f' = g.W.TreeSource.forest c.evaluate.new.world in
    let grows = c.in_ok-items.ensures.goes.grows in
    let first = c.in_ok-items.ensures.gives (c.filter-2.ensures.goes.was_clean clean) inside in
    let second = c.filter-2.ensures.gives clean (frame_in_grown grows held inside) first.0 in
    let value : plan_mean c.args.start.now frame f ≡ (Ok (items_at f' (item_views c.in_ok-items.items)), f') = first.1 in
    rw (value, ← frame_grown grows held inside) second

pub expressions::filtered-returns-in_err-items-clause-gives : goal.expressions::filtered-returns-in_err-items-clause-gives
expressions::filtered-returns-in_err-items-clause-gives g t c = λ clean inside.
    let f = g.W.TreeSource.forest c.args.world.now in
    let held = c.args.frame in
    let frame = frame_at f held in
    let f' = g.W.TreeSource.forest c.evaluate.new.world in
    let next = λ (xs : List Item). in_turn (Forms.filtered frame) xs (map plan_mean c.args.predicates.now) in
    cut item_views items_at AreIn item_views items_at AreIn _ (plan_mean c.args.start.now frame f) next f' c.in_err-items.field-0.0 c.from_residual-in_err-items.result refl c.from_residual-in_err-items.ensures.1 (c.in_err-items.ensures.gives clean inside)

pub expressions::filtered-returns-in_err-items-clause-goes : goal.expressions::filtered-returns-in_err-items-clause-goes
expressions::filtered-returns-in_err-items-clause-goes g t c = c.in_err-items.ensures.goes

pub expressions::filtered-returns-clause-goes : goal.expressions::filtered-returns-clause-goes
expressions::filtered-returns-clause-goes g t c = goes_on_to c.in_ok-items.ensures.goes c.filter-2.ensures.goes

pub expressions::arrow-returns-clause-gives : goal.expressions::arrow-returns-clause-gives
expressions::arrow-returns-clause-gives g t c = λ clean inside.
    let f = g.W.TreeSource.forest c.args.world.now in
    let held = c.args.frame in
    let frame = frame_at f held in
    let f' = g.W.TreeSource.forest c.evaluate.new.world in
    let grows = c.in_ok-items.ensures.goes.grows in
    let first = c.in_ok-items.ensures.gives (c.call_list.ensures.goes.was_clean clean) inside in
    let second = c.call_list.ensures.gives clean (frame_in_grown grows held inside) first.0 in
    let value : plan_mean c.args.first.now frame f ≡ (Ok (items_at f' (item_views c.in_ok-items.items)), f') = first.1 in
    rw (value, ← frame_grown grows held inside) second

pub expressions::arrow-returns-in_err-items-clause-gives : goal.expressions::arrow-returns-in_err-items-clause-gives
expressions::arrow-returns-in_err-items-clause-gives g t c = λ clean inside.
    let f = g.W.TreeSource.forest c.args.world.now in
    let held = c.args.frame in
    let frame = frame_at f held in
    let f' = g.W.TreeSource.forest c.evaluate.new.world in
    let next = λ (xs : List Item). in_turn (Forms.next_call frame) xs (map (λ (op, ps). (op, map plan_mean ps)) c.args.calls.now) in
    cut item_views items_at AreIn item_views items_at AreIn _ (plan_mean c.args.first.now frame f) next f' c.in_err-items.field-0.0 c.from_residual.result refl c.from_residual.ensures.1 (c.in_err-items.ensures.gives clean inside)

pub expressions::arrow-returns-in_err-items-clause-goes : goal.expressions::arrow-returns-in_err-items-clause-goes
expressions::arrow-returns-in_err-items-clause-goes g t c = c.in_err-items.ensures.goes

pub expressions::arrow-returns-clause-goes : goal.expressions::arrow-returns-clause-goes
expressions::arrow-returns-clause-goes g t c = goes_on_to c.in_ok-items.ensures.goes c.call_list.ensures.goes

pub expressions::simple_map-returns-clause-gives : goal.expressions::simple_map-returns-clause-gives
expressions::simple_map-returns-clause-gives g t c = λ clean inside.
    let f = g.W.TreeSource.forest c.args.world.now in
    let held = c.args.frame in
    let frame = frame_at f held in
    let f' = g.W.TreeSource.forest c.evaluate.new.world in
    let grows = c.in_ok-items.ensures.goes.grows in
    let first = c.in_ok-items.ensures.gives (c.map_list.ensures.goes.was_clean clean) inside in
    let second = c.map_list.ensures.gives clean (frame_in_grown grows held inside) first.0 in
    let value : plan_mean c.args.start.now frame f ≡ (Ok (items_at f' (item_views c.in_ok-items.items)), f') = first.1 in
    rw (value, ← frame_grown grows held inside) second

pub expressions::simple_map-returns-in_err-items-clause-gives : goal.expressions::simple_map-returns-in_err-items-clause-gives
expressions::simple_map-returns-in_err-items-clause-gives g t c = λ clean inside.
    let f = g.W.TreeSource.forest c.args.world.now in
    let held = c.args.frame in
    let frame = frame_at f held in
    let f' = g.W.TreeSource.forest c.evaluate.new.world in
    let next = λ (xs : List Item). in_turn (Forms.bang frame) xs (map plan_mean c.args.parts.now) in
    cut item_views items_at AreIn item_views items_at AreIn _ (plan_mean c.args.start.now frame f) next f' c.in_err-items.field-0.0 c.from_residual.result refl c.from_residual.ensures.1 (c.in_err-items.ensures.gives clean inside)

pub expressions::simple_map-returns-in_err-items-clause-goes : goal.expressions::simple_map-returns-in_err-items-clause-goes
expressions::simple_map-returns-in_err-items-clause-goes g t c = c.in_err-items.ensures.goes

pub expressions::simple_map-returns-clause-goes : goal.expressions::simple_map-returns-clause-goes
expressions::simple_map-returns-clause-goes g t c = goes_on_to c.in_ok-items.ensures.goes c.map_list.ensures.goes

pub expressions::path-returns-clause-gives : goal.expressions::path-returns-clause-gives
expressions::path-returns-clause-gives g t c = λ clean inside.
    let f = g.W.TreeSource.forest c.args.world.now in
    let held = c.args.frame in
    let frame = frame_at f held in
    let f' = g.W.TreeSource.forest c.evaluate.new.world in
    let grows = c.in_ok-items.ensures.goes.grows in
    let first = c.in_ok-items.ensures.gives (c.step_list.ensures.goes.was_clean clean) inside in
    let second = c.step_list.ensures.gives clean (frame_in_grown grows held inside) first.0 in
    let value : plan_mean c.args.start.now frame f ≡ (Ok (items_at f' (item_views c.in_ok-items.items)), f') = first.1 in
    rw (value, ← frame_grown grows held inside) second

pub expressions::path-returns-in_err-items-clause-gives : goal.expressions::path-returns-in_err-items-clause-gives
expressions::path-returns-in_err-items-clause-gives g t c = λ clean inside.
    let f = g.W.TreeSource.forest c.args.world.now in
    let held = c.args.frame in
    let frame = frame_at f held in
    let f' = g.W.TreeSource.forest c.evaluate.new.world in
    let next = λ (xs : List Item). in_turn (next_step frame) xs (map plan_step_mean c.args.steps.now) in
    cut item_views items_at AreIn item_views items_at AreIn _ (plan_mean c.args.start.now frame f) next f' c.in_err-items.field-0.0 c.from_residual-in_err-items.result refl c.from_residual-in_err-items.ensures.1 (c.in_err-items.ensures.gives clean inside)

pub expressions::path-returns-in_err-items-clause-goes : goal.expressions::path-returns-in_err-items-clause-goes
expressions::path-returns-in_err-items-clause-goes g t c = c.in_err-items.ensures.goes

pub expressions::path-returns-clause-goes : goal.expressions::path-returns-clause-goes
expressions::path-returns-clause-goes g t c = goes_on_to c.in_ok-items.ensures.goes c.step_list.ensures.goes

pub expressions::signed-returns-in_err-items-clause-gives : goal.expressions::signed-returns-in_err-items-clause-gives
expressions::signed-returns-in_err-items-clause-gives g t c = λ clean inside.
    let f = g.W.TreeSource.forest c.args.world.now in
    let held = c.args.frame in
    let frame = frame_at f held in
    let f' = g.W.TreeSource.forest c.evaluate.new.world in
    let e = c.in_err-items.field-0.0 in
    let first = λ (xs : List Item). on_trees (λ trees. Ok (atomized trees xs)) in
    let next = λ (as' : List Atomic). judged (signed c.args.signs.now as') in
    cut (λ (as' : List Atomic). as') (λ trees as'. as') (λ trees as'. Unit {0}) item_views items_at AreIn _ (go_on (plan_mean c.args.part.now frame f) first) next f' e c.from_residual.result refl c.from_residual.ensures.1
    (go_on_stop item_views items_at AreIn (λ (as' : List Atomic). as') (λ trees as'. as') (λ trees as'. Unit {0}) (plan_mean c.args.part.now frame f) first f' e (c.in_err-items.ensures.gives clean inside))

pub expressions::signed-returns-clause-gives : goal.expressions::signed-returns-clause-gives
expressions::signed-returns-clause-gives g t c = λ clean inside.
    let f = g.W.TreeSource.forest c.args.world.now in
    let held = c.args.frame in
    let frame = frame_at f held in
    let f' = g.W.TreeSource.forest c.evaluate.new.world in
    let f'' = g.W.TreeSource.forest c.sign.new.world in
    let items = item_views c.in_ok-items.items in
    let value = c.in_ok-items.ensures.gives (c.sign.ensures.goes.was_clean clean) inside in
    let d : map item_view c.deref.result.now ≡ items = ap (map item_view) c.deref.ensures.value in
    let found = c.sign.ensures.gives clean (subst (AreIn f') (sym d) value.0) in
    let first = λ (xs : List Item). on_trees (λ trees. Ok (atomized trees xs)) in
    let next = λ (as' : List Atomic). judged (signed c.args.signs.now as') in
    let meant : Forms.unary c.args.signs.now (plan_mean c.args.part.now) frame f ≡ on_trees (λ trees. signed c.args.signs.now (atomized trees (items_at f' (map item_view c.deref.result.now)))) f' =
    ap (λ o. go_on (go_on o first) next) value.1
    ∙ ap (λ xs. on_trees (λ trees. signed c.args.signs.now (atomized trees (items_at f' xs))) f') (sym d) in
    subst (λ o. GivesSequence o f'' c.sign.result) (sym meant) found

pub expressions::signed-returns-in_err-items-clause-goes : goal.expressions::signed-returns-in_err-items-clause-goes
expressions::signed-returns-in_err-items-clause-goes g t c = c.in_err-items.ensures.goes

pub expressions::signed-returns-clause-goes : goal.expressions::signed-returns-clause-goes
expressions::signed-returns-clause-goes g t c = goes_on_to c.in_ok-items.ensures.goes c.sign.ensures.goes

pub expressions::conditional-returns-in_err-value-clause-gives : goal.expressions::conditional-returns-in_err-value-clause-gives
expressions::conditional-returns-in_err-value-clause-gives g t c = λ clean inside.
    let f = g.W.TreeSource.forest c.args.world.now in
    let held = c.args.frame in
    let frame = frame_at f held in
    let f' = g.W.TreeSource.forest c.evaluate.new.world in
    let e = c.in_err-value.field-0.0 in
    let first = λ (xs : List Item). judged (effective xs) in
    let next = λ (answer : Bool). Forms.chosen answer (plan_mean c.args.yes.now) (plan_mean c.args.no.now) frame in
    cut (λ (b : Bool). b) (λ trees b. b) (λ trees b. Unit {0}) item_views items_at AreIn _ (go_on (plan_mean c.args.test.now frame f) first) next f' e c.from_residual.result refl c.from_residual.ensures.1
    (go_on_stop item_views items_at AreIn (λ (b : Bool). b) (λ trees b. b) (λ trees b. Unit {0}) (plan_mean c.args.test.now frame f) first f' e (c.in_err-value.ensures.gives clean inside))

pub expressions::conditional-returns-in_err-effective-clause-gives : goal.expressions::conditional-returns-in_err-effective-clause-gives
expressions::conditional-returns-in_err-effective-clause-gives g t c = λ clean inside.
    let f = g.W.TreeSource.forest c.args.world.now in
    let held = c.args.frame in
    let frame = frame_at f held in
    let f' = g.W.TreeSource.forest c.evaluate.new.world in
    let value = c.in_ok-value.ensures.gives clean inside in
    let code = c.in_err-effective.field-0.0 in
    let test = plan_mean c.args.test.now in
    let failed = tested_err test frame _ code f f' value.1 (ap (λ xs. effective (items_at f' (map item_view xs))) (sym c.deref.ensures.value) ∙ sym (c.in_err-effective.ensures f')) in
    let next = λ (answer : Bool). Forms.chosen answer (plan_mean c.args.yes.now) (plan_mean c.args.no.now) frame in
    cut (λ (b : Bool). b) (λ trees b. b) (λ trees b. Unit {0}) item_views items_at AreIn _ (Forms.tested test frame f) next f' (OfCode code) c.from_residual-in_err-effective.result refl c.from_residual-in_err-effective.ensures.1 failed

pub expressions::conditional-returns-then-branch-clause-gives : goal.expressions::conditional-returns-then-branch-clause-gives
expressions::conditional-returns-then-branch-clause-gives g t c = λ clean inside.
    let f = g.W.TreeSource.forest c.args.world.now in
    let held = c.args.frame in
    let frame = frame_at f held in
    let f' = g.W.TreeSource.forest c.evaluate.new.world in
    let grows = c.in_ok-value.ensures.goes.grows in
    let value = c.in_ok-value.ensures.gives (c.evaluate-then-branch.ensures.goes.was_clean clean) inside in
    let tested = tested_ok (plan_mean c.args.test.now) frame _ true f f' value.1
    (ap (λ xs. effective (items_at f' (map item_view xs))) (sym c.deref.ensures.value) ∙ sym (c.in_ok-effective.ensures f') ∙ ap Ok c.if-branch.true) in
    rw (tested, ← frame_grown grows held inside) (c.evaluate-then-branch.ensures.gives clean (frame_in_grown grows held inside))

pub expressions::conditional-returns-then-branch-clause-goes : goal.expressions::conditional-returns-then-branch-clause-goes
expressions::conditional-returns-then-branch-clause-goes g t c = goes_on_to c.in_ok-value.ensures.goes c.evaluate-then-branch.ensures.goes

pub expressions::conditional-returns-clause-gives : goal.expressions::conditional-returns-clause-gives
expressions::conditional-returns-clause-gives g t c = λ clean inside.
    let f = g.W.TreeSource.forest c.args.world.now in
    let held = c.args.frame in
    let frame = frame_at f held in
    let f' = g.W.TreeSource.forest c.evaluate.new.world in
    let grows = c.in_ok-value.ensures.goes.grows in
    let value = c.in_ok-value.ensures.gives (c.evaluate-else-branch.ensures.goes.was_clean clean) inside in
    let tested = tested_ok (plan_mean c.args.test.now) frame _ false f f' value.1
    (ap (λ xs. effective (items_at f' (map item_view xs))) (sym c.deref.ensures.value) ∙ sym (c.in_ok-effective.ensures f') ∙ ap Ok c.if-branch.false) in
    rw (tested, ← frame_grown grows held inside) (c.evaluate-else-branch.ensures.gives clean (frame_in_grown grows held inside))

pub expressions::conditional-returns-clause-goes : goal.expressions::conditional-returns-clause-goes
expressions::conditional-returns-clause-goes g t c = goes_on_to c.in_ok-value.ensures.goes c.evaluate-else-branch.ensures.goes

pub expressions::conditional-returns-in_err-value-clause-goes : goal.expressions::conditional-returns-in_err-value-clause-goes
expressions::conditional-returns-in_err-value-clause-goes g t c = c.in_err-value.ensures.goes

pub expressions::conditional-returns-in_err-effective-clause-goes : goal.expressions::conditional-returns-in_err-effective-clause-goes
expressions::conditional-returns-in_err-effective-clause-goes g t c = c.in_ok-value.ensures.goes

pub expressions::logical-returns-in_err-answer-clause-gives : goal.expressions::logical-returns-in_err-answer-clause-gives
expressions::logical-returns-in_err-answer-clause-gives g t c = λ clean inside.
    let f = g.W.TreeSource.forest c.args.world.now in
    let held = c.args.frame in
    let frame = frame_at f held in
    let f' = g.W.TreeSource.forest c.decided.new.world in
    cut (λ (b : Bool). b) (λ trees b. b) (λ trees b. Unit {0}) item_views items_at AreIn _ (first_that c.args.wanted (λ part. Forms.tested part frame) (map plan_mean c.args.parts.now) f) (λ (answer : Bool). give (boolean answer)) f' c.in_err-answer.field-0.0 c.from_residual.result
    refl c.from_residual.ensures.1 (c.in_err-answer.ensures.gives clean inside)

pub expressions::logical-returns-clause-gives : goal.expressions::logical-returns-clause-gives
expressions::logical-returns-clause-gives g t c = λ clean inside.
    let f = g.W.TreeSource.forest c.args.world.now in
    let held = c.args.frame in
    let frame = frame_at f held in
    let f' = g.W.TreeSource.forest c.decided.new.world in
    let answer = c.in_ok-answer.ensures.gives clean inside in
    subst (λ o. GivesSequence o f' c.boolean.result) (sym (ap (λ o. go_on o (λ answer. give (boolean answer))) answer.1)) (c.boolean.ensures f')

pub expressions::logical-returns-in_err-answer-clause-goes : goal.expressions::logical-returns-in_err-answer-clause-goes
expressions::logical-returns-in_err-answer-clause-goes g t c = c.in_err-answer.ensures.goes

pub expressions::logical-returns-clause-goes : goal.expressions::logical-returns-clause-goes
expressions::logical-returns-clause-goes g t c = c.in_ok-answer.ensures.goes

pub expressions::quantified-returns-in_err-answer-clause-gives : goal.expressions::quantified-returns-in_err-answer-clause-gives
expressions::quantified-returns-in_err-answer-clause-gives g t c = λ clean inside.
    let f = g.W.TreeSource.forest c.args.world.now in
    let held = c.args.frame in
    let frame = frame_at f held in
    let f' = g.W.TreeSource.forest c.satisfied.new.world in
    cut (λ (b : Bool). b) (λ trees b. b) (λ trees b. Unit {0}) item_views items_at AreIn _ (holds c.deciding-wanted.result (plan_mean c.args.test.now) (map plan_mean c.args.ranges.now) frame f) (λ (answer : Bool). give (boolean answer)) f' c.in_err-answer.field-0.0 c.from_residual.result
    (ap (λ b. go_on (holds b (plan_mean c.args.test.now) (map plan_mean c.args.ranges.now) frame f) (λ answer. give (boolean answer))) (sym c.deciding-wanted.ensures)) c.from_residual.ensures.1 (c.in_err-answer.ensures.gives clean inside)

pub expressions::quantified-returns-clause-gives : goal.expressions::quantified-returns-clause-gives
expressions::quantified-returns-clause-gives g t c = λ clean inside.
    let f = g.W.TreeSource.forest c.args.world.now in
    let held = c.args.frame in
    let frame = frame_at f held in
    let f' = g.W.TreeSource.forest c.satisfied.new.world in
    let answer = c.in_ok-answer.ensures.gives clean inside in
    subst (λ o. GivesSequence o f' c.boolean.result) (sym ((ap (λ b. go_on (holds b (plan_mean c.args.test.now) (map plan_mean c.args.ranges.now) frame f) (λ answer. give (boolean answer))) (sym c.deciding-wanted.ensures)) ∙ ap (λ o. go_on o (λ answer. give (boolean answer))) answer.1)) (c.boolean.ensures f')

pub expressions::quantified-returns-in_err-answer-clause-goes : goal.expressions::quantified-returns-in_err-answer-clause-goes
expressions::quantified-returns-in_err-answer-clause-goes g t c = c.in_err-answer.ensures.goes

pub expressions::quantified-returns-clause-goes : goal.expressions::quantified-returns-clause-goes
expressions::quantified-returns-clause-goes g t c = c.in_ok-answer.ensures.goes

pub expressions::flwor-returns-in_err-items-clause-gives : goal.expressions::flwor-returns-in_err-items-clause-gives
expressions::flwor-returns-in_err-items-clause-gives g t c = λ clean inside.
    let f = g.W.TreeSource.forest c.args.world.now in
    let held = c.args.frame in
    let frame = frame_at f held in
    let f' = g.W.TreeSource.forest c.evaluate.new.world in
    let source = c.in-Some.source.now in
    let part = plan_mean c.args.part.now in
    let next = λ (xs : List Item). collected (λ x. part (at_tuple frame ((x ∷ []) ∷ []))) xs in
    cut item_views items_at AreIn item_views items_at AreIn _ (plan_mean source frame f) next f' c.in_err-items.field-0.0 c.from_residual.result (lone_for_is c.args.clauses.now source part frame f c.in-Some.ensures) c.from_residual.ensures.1
    (c.in_err-items.ensures.gives clean inside)

pub expressions::flwor-returns-in-Some-clause-gives : goal.expressions::flwor-returns-in-Some-clause-gives
expressions::flwor-returns-in-Some-clause-gives g t c = λ clean inside.
    let f = g.W.TreeSource.forest c.args.world.now in
    let held = c.args.frame in
    let frame = frame_at f held in
    let f' = g.W.TreeSource.forest c.evaluate.new.world in
    let f'' = g.W.TreeSource.forest c.returned_each.new.world in
    let source = c.in-Some.source.now in
    let grows = c.in_ok-items.ensures.goes.grows in
    let found = c.in_ok-items.ensures.gives (c.returned_each.ensures.goes.was_clean clean) inside in
    let items = c.in_ok-items.items in
    let part = plan_mean c.args.part.now in
    let each = λ (fr : Frame) (x : Item). part (at_tuple fr ((x ∷ []) ∷ [])) in
    let same : map item_view c.deref.result.now ≡ item_views items = ap (map item_view) c.deref.ensures.value in
    let meant : flwor (map plan_clause_mean c.args.clauses.now) part frame f ≡ collected (each (frame_at f' held)) (items_at f' (map item_view c.deref.result.now)) f' =
    lone_for_is c.args.clauses.now source part frame f c.in-Some.ensures
    ∙ ap (λ o. go_on o (λ xs. collected (each frame) xs)) found.1
    ∙ (λ i. collected (each (sym (frame_grown grows held inside) i)) (items_at f' (sym same i)) f') in
    subst (λ o. GivesSequence o f'' c.returned_each.result) (sym meant) (c.returned_each.ensures.gives clean (frame_in_grown grows held inside) (subst (AreIn f') (sym same) found.0))

pub expressions::flwor-returns-in_err-items-clause-goes : goal.expressions::flwor-returns-in_err-items-clause-goes
expressions::flwor-returns-in_err-items-clause-goes g t c = c.in_err-items.ensures.goes

pub expressions::flwor-returns-in-Some-clause-goes : goal.expressions::flwor-returns-in-Some-clause-goes
expressions::flwor-returns-in-Some-clause-goes g t c = goes_on_to c.in_ok-items.ensures.goes c.returned_each.ensures.goes

pub expressions::flwor-evaluate-requires : goal.expressions::flwor-evaluate-requires
expressions::flwor-evaluate-requires g t c = λ κs live.
    let all : 8 * max (most size-PlanClause c.args.clauses.now) (size-Plan c.args.part.now) + 9 ≡ t = c.decreases in
    let one : most size-PlanClause c.args.clauses.now ≡ max (size-PlanClause (clause.For No false c.in-Some.source.now)) 0 = ap (most size-PlanClause) c.in-Some.ensures in
    let whole = sized-For No false c.in-Some.source.now in
    let below : 8 * size-Plan c.in-Some.source.now + 3 < t = omega (arith, all, one, whole) in
    (below, live)

pub expressions::flwor-returned_each-requires : goal.expressions::flwor-returned_each-requires
expressions::flwor-returned_each-requires g t c = λ κs live.
    let all : 8 * max (most size-PlanClause c.args.clauses.now) (size-Plan c.args.part.now) + 9 ≡ t = c.decreases in
    let below : 8 * size-Plan c.args.part.now + 6 < t = omega (arith, all) in
    (below, live)

pub expressions::flwor-returns-in_err-tuples-clause-gives : goal.expressions::flwor-returns-in_err-tuples-clause-gives
expressions::flwor-returns-in_err-tuples-clause-gives g t c = λ clean inside.
    let f = g.W.TreeSource.forest c.args.world.now in
    let held = c.args.frame in
    let frame = frame_at f held in
    let f' = g.W.TreeSource.forest c.clause_list.new.world in
    let next = λ (tuples : List (Tuple Item)). Forms.return_of (plan_mean c.args.part.now) (at_tuple frame) tuples in
    cut (λ (ts : List (Tuple ItemView)). ts) tuples_at TuplesIn item_views items_at AreIn _ (in_turn (next_clause frame) ([] ∷ []) (map plan_clause_mean c.args.clauses.now) f) next f' c.in_err-tuples.field-0.0 c.from_residual-in_err-tuples.result refl c.from_residual-in_err-tuples.ensures.1
    (c.in_err-tuples.ensures.gives clean inside)

pub expressions::flwor-returns-clause-gives : goal.expressions::flwor-returns-clause-gives
expressions::flwor-returns-clause-gives g t c = λ clean inside.
    let f = g.W.TreeSource.forest c.args.world.now in
    let held = c.args.frame in
    let frame = frame_at f held in
    let f' = g.W.TreeSource.forest c.clause_list.new.world in
    let f'' = g.W.TreeSource.forest c.returned.new.world in
    let grows = c.in_ok-tuples.ensures.goes.grows in
    let stream = c.in_ok-tuples.ensures.gives (c.returned.ensures.goes.was_clean clean) inside in
    let tuples = c.in_ok-tuples.tuples in
    let part = plan_mean c.args.part.now in
    let meant : flwor (map plan_clause_mean c.args.clauses.now) part frame f ≡ Forms.return_of part (at_tuple (frame_at f' held)) (tuples_at f' tuples) f' =
    ap (λ o. go_on o (λ ts. Forms.return_of part (at_tuple frame) ts)) stream.1
    ∙ ap (λ fr. Forms.return_of part (at_tuple fr) (tuples_at f' tuples) f') (sym (frame_grown grows held inside)) in
    subst (λ o. GivesSequence o f'' c.returned.result) (sym meant) (c.returned.ensures.gives clean (frame_in_grown grows held inside) stream.0)

pub expressions::flwor-returns-in_err-tuples-clause-goes : goal.expressions::flwor-returns-in_err-tuples-clause-goes
expressions::flwor-returns-in_err-tuples-clause-goes g t c = c.in_err-tuples.ensures.goes

pub expressions::flwor-returns-clause-goes : goal.expressions::flwor-returns-clause-goes
expressions::flwor-returns-clause-goes g t c = goes_on_to c.in_ok-tuples.ensures.goes c.returned.ensures.goes

pub expressions::path-returns-in-Some-clause-gives : goal.expressions::path-returns-in-Some-clause-gives
expressions::path-returns-in-Some-clause-gives g t c = λ clean inside.
    let f = g.W.TreeSource.forest c.args.world.now in
    let held = c.args.frame in
    let frame = frame_at f held in
    let f' = g.W.TreeSource.forest c.scan_from.new.world in
    let at = c.in-Some.ensures.0 in
    let test = c.in-Some.found.test.now in
    let value = at.value f inside in
    let found = c.in_ok-scan_from.ensures.gives clean (at.there f inside) in
    let here = Node (node_at f c.in-Some.found.node) ∷ [] in (
      found.0,
      ap (λ o. go_on o (λ xs. in_turn (next_step frame) xs (map plan_step_mean c.args.steps.now))) value
          ∙ ap (λ ss. in_turn (next_step frame) here (map plan_step_mean ss) f) c.in-Some.ensures.1
          ∙ ap (λ m. go_on (m frame here f) (λ xs. give xs)) (step-Scan c.in-Some.found.axis test)
          ∙ ap (λ o. go_on o (λ xs. give xs)) found.1,
    )

pub expressions::path-returns-in-Some-clause-goes : goal.expressions::path-returns-in-Some-clause-goes
expressions::path-returns-in-Some-clause-goes g t c = c.scan_from.ensures.goes

pub expressions::path-returns-in_err-scan_from-clause-goes : goal.expressions::path-returns-in_err-scan_from-clause-goes
expressions::path-returns-in_err-scan_from-clause-goes g t c = c.scan_from.ensures.goes

pub expressions::path-returns-in-Some-clause-reads : goal.expressions::path-returns-in-Some-clause-reads
expressions::path-returns-in-Some-clause-reads g t c = λ clean inside address steps start parts. absurd (c.in-Some.ensures.0.no_call _ _ start)

pub expressions::path-returns-in_err-scan_from-clause-reads : goal.expressions::path-returns-in_err-scan_from-clause-reads
expressions::path-returns-in_err-scan_from-clause-reads g t c = λ clean inside address steps start parts. absurd (c.in-Some.ensures.0.no_call _ _ start)

pub expressions::path-returns-in_err-items-clause-reads : goal.expressions::path-returns-in_err-items-clause-reads
expressions::path-returns-in_err-items-clause-reads g t c = λ clean inside address steps start parts.
    not_grown _ _ _ ((c.evaluate.ensures.reads clean inside).document (address, start))

pub expressions::path-returns-clause-reads : goal.expressions::path-returns-clause-reads
expressions::path-returns-clause-reads g t c = λ clean inside address steps start parts.
    let f = g.W.TreeSource.forest c.args.world.now in
    let frame = frame_at f c.args.frame in
    let f' = g.W.TreeSource.forest c.evaluate.new.world in
    let was = c.step_list.ensures.goes.was_clean clean in
    let first = c.in_ok-items.ensures.gives was inside in
    let it = document_value frame f f' address (item_views c.in_ok-items.items) inside.addresses_in first.0 (ap (λ p. plan_mean p frame f) (sym start) ∙ first.1) in
    let read = c.step_list.ensures.reads clean (subst (AllByRecursion IsScan) (sym parts) (are_scans steps)) it.0.number it.0.are in
    let most : length c.args.steps.now * rows_of f' it.0.number ≡ length steps * rows_at address frame.addresses f =
    ap (λ n. n * rows_of f' it.0.number) (ap length parts ∙ length-map steps _) ∙ ap (λ r. length steps * r) (sym it.0.rows) ∙ ap (λ trees. length steps * rows_at address frame.addresses trees) (sym it.1) in
    grown_from ((c.in_ok-items.ensures.reads was inside).document (address, start)) (subst (HasGrown (g.W.TreeSource.meter c.evaluate.new.world) (g.W.TreeSource.meter c.step_list.new.world)) most read)

pub expressions::axis_step-returns-in_err-nodes-clause-gives : goal.expressions::axis_step-returns-in_err-nodes-clause-gives
expressions::axis_step-returns-in_err-nodes-clause-gives g t c = λ clean inside.
    let f = g.W.TreeSource.forest c.args.world.now in
    let held = c.args.frame in
    let frame = frame_at f held in
    let f' = g.W.TreeSource.forest c.nodes_of_step.new.world in
    let axis = c.args.axis in
    let test = c.args.test.now in
    let predicates = map plan_mean c.args.predicates.now in
    let next = λ (xs : List Item). in_turn (Forms.filtered frame) xs predicates >>= (λ ys. give (in_axis_order axis ys)) in
    let nodes = c.in_err-nodes.ensures.gives clean inside in
    cut item_views items_at AreIn item_views items_at AreIn _ nodes.outcome next f' c.in_err-nodes.field-0.0 c.from_residual.result
    (step_from axis test predicates frame f nodes.outcome nodes.keeps) c.from_residual.ensures.1 nodes.gives

pub expressions::axis_step-returns-in_err-kept-clause-gives : goal.expressions::axis_step-returns-in_err-kept-clause-gives
expressions::axis_step-returns-in_err-kept-clause-gives g t c = λ clean inside.
    let f = g.W.TreeSource.forest c.args.world.now in
    let held = c.args.frame in
    let frame = frame_at f held in
    let f' = g.W.TreeSource.forest c.nodes_of_step.new.world in
    let axis = c.args.axis in
    let test = c.args.test.now in
    let f'' = g.W.TreeSource.forest c.filter.new.world in
    let grows = c.in_ok-nodes.ensures.goes.grows in
    let predicates = map plan_mean c.args.predicates.now in
    let nodes = item_views c.in_ok-nodes.nodes in
    let some = c.in_ok-nodes.ensures.gives (c.filter.ensures.goes.was_clean clean) inside in
    let first = some.gives in
    let filtering = λ (fr : Frame). in_turn (Forms.filtered fr) (items_at f' nodes) predicates f' in
    let next = λ (ys : List Item). give (in_axis_order axis ys) in
    let meant : Forms.step axis test predicates frame f ≡ go_on (filtering (frame_at f' held)) next =
    step_from axis test predicates frame f some.outcome some.keeps ∙ ap (λ o. go_on o (λ xs. in_turn (Forms.filtered frame) xs predicates >>= next)) first.1 ∙ ap (λ fr. go_on (filtering fr) next) (sym (frame_grown grows held inside)) in
    cut item_views items_at AreIn item_views items_at AreIn _ (filtering (frame_at f' held)) next f'' c.in_err-kept.field-0.0 c.from_residual-in_err-kept.result
    meant c.from_residual-in_err-kept.ensures.1 (c.in_err-kept.ensures.gives clean (frame_in_grown grows held inside) first.0)

pub expressions::axis_step-returns-clause-gives : goal.expressions::axis_step-returns-clause-gives
expressions::axis_step-returns-clause-gives g t c = λ clean inside.
    let f = g.W.TreeSource.forest c.args.world.now in
    let held = c.args.frame in
    let frame = frame_at f held in
    let f' = g.W.TreeSource.forest c.nodes_of_step.new.world in
    let axis = c.args.axis in
    let test = c.args.test.now in
    let f'' = g.W.TreeSource.forest c.filter.new.world in
    let grows = c.in_ok-nodes.ensures.goes.grows in
    let predicates = map plan_mean c.args.predicates.now in
    let nodes = item_views c.in_ok-nodes.nodes in
    let some = c.in_ok-nodes.ensures.gives (c.filter.ensures.goes.was_clean clean) inside in
    let first = some.gives in
    let filtering = λ (fr : Frame). in_turn (Forms.filtered fr) (items_at f' nodes) predicates f' in
    let next = λ (ys : List Item). give (in_axis_order axis ys) in
    let meant : Forms.step axis test predicates frame f ≡ go_on (filtering (frame_at f' held)) next =
    step_from axis test predicates frame f some.outcome some.keeps ∙ ap (λ o. go_on o (λ xs. in_turn (Forms.filtered frame) xs predicates >>= next)) first.1 ∙ ap (λ fr. go_on (filtering fr) next) (sym (frame_grown grows held inside)) in
    let kept = item_views c.in_ok-kept.kept in
    let second = c.in_ok-kept.ensures.gives clean (frame_in_grown grows held inside) first.0 in
    let ordered : item_views c.in_axis_order.result ≡ in_axis_order axis kept = c.in_axis_order.ensures in (
      subst (AreIn f'') (sym ordered) (axis_order_in f'' axis kept second.0),
      meant ∙ ap (λ o. go_on o next) second.1 ∙ ap (λ xs. (Ok xs, f'')) (axis_order_read f'' axis kept ∙ ap (items_at f'') (sym ordered)),
    )

pub expressions::axis_step-returns-in_err-nodes-clause-goes : goal.expressions::axis_step-returns-in_err-nodes-clause-goes
expressions::axis_step-returns-in_err-nodes-clause-goes g t c = c.in_err-nodes.ensures.goes

pub expressions::axis_step-returns-in_err-kept-clause-goes : goal.expressions::axis_step-returns-in_err-kept-clause-goes
expressions::axis_step-returns-in_err-kept-clause-goes g t c = goes_on_to c.in_ok-nodes.ensures.goes c.in_err-kept.ensures.goes

pub expressions::axis_step-returns-clause-goes : goal.expressions::axis_step-returns-clause-goes
expressions::axis_step-returns-clause-goes g t c = goes_on_to c.in_ok-nodes.ensures.goes c.in_ok-kept.ensures.goes

pub expressions::unnamed_node-returns-in-Some-clause-gives : goal.expressions::unnamed_node-returns-in-Some-clause-gives
expressions::unnamed_node-returns-in-Some-clause-gives g t c = λ clean inside.
    let f = g.W.TreeSource.forest c.args.world.now in
    let f' = g.W.TreeSource.forest c.unnamed.new.world in
    let frame = frame_at f c.args.frame in
    let part = plan_mean c.args.part.now in
    let a = atomic_of c.in-Some.atom in
    let last = λ (xs : List Item). plant_unnamed c.args.kind xs in
    let told : part frame f ≡ (Ok (atomic a), f) = subst (λ o. Tells atomic (part frame f) f (Ok o)) c.in-Some.is (c.in_ok-atom.ensures f frame refl) in
    let d : map item_view c.from_ref.result.now ≡ Value a ∷ [] = search rules in
    let meant = ap (λ o. go_on o last) told ∙ ap (λ xs. last (items_at f xs) f) (sym d) in
    subst (λ o. GivesSequence o f' c.unnamed.result) (sym meant) (c.unnamed.ensures.gives clean (subst (AreIn f) (sym d) (tt, tt)))

pub expressions::unnamed_node-returns-in_err-atom-clause-gives : goal.expressions::unnamed_node-returns-in_err-atom-clause-gives
expressions::unnamed_node-returns-in_err-atom-clause-gives g t c = λ clean inside.
    let f = g.W.TreeSource.forest c.args.world.now in
    let frame = frame_at f c.args.frame in
    let outcome = plan_mean c.args.part.now frame f in
    let last = λ (xs : List Item). plant_unnamed c.args.kind xs in
    let e = c.in_err-atom.field-0.0 in
    cut item_views items_at AreIn item_views items_at AreIn _ outcome last f e c.from_residual.result refl c.from_residual.ensures.1
    (told_stop atomic item_views items_at AreIn outcome f f e (c.in_err-atom.ensures f frame refl))

pub expressions::unnamed_node-returns-in-Some-clause-goes : goal.expressions::unnamed_node-returns-in-Some-clause-goes
expressions::unnamed_node-returns-in-Some-clause-goes g t c = c.unnamed.ensures.goes

pub expressions::unnamed_node-returns-in_err-atom-clause-goes : goal.expressions::unnamed_node-returns-in_err-atom-clause-goes
expressions::unnamed_node-returns-in_err-atom-clause-goes g t c = stays _ _

pub expressions::unnamed_node-returns-in_err-content-clause-gives : goal.expressions::unnamed_node-returns-in_err-content-clause-gives
expressions::unnamed_node-returns-in_err-content-clause-gives g t c = λ clean inside.
    let f = g.W.TreeSource.forest c.args.world.now in
    let held = c.args.frame in
    let frame = frame_at f held in
    let f' = g.W.TreeSource.forest c.evaluate.new.world in
    let next = λ (xs : List Item). plant_unnamed c.args.kind xs in
    cut item_views items_at AreIn item_views items_at AreIn _ (plan_mean c.args.part.now frame f) next f' c.in_err-content.field-0.0 c.from_residual-in_err-content.result refl c.from_residual-in_err-content.ensures.1 (c.in_err-content.ensures.gives clean inside)

pub expressions::unnamed_node-returns-clause-gives : goal.expressions::unnamed_node-returns-clause-gives
expressions::unnamed_node-returns-clause-gives g t c = λ clean inside.
    let f = g.W.TreeSource.forest c.args.world.now in
    let held = c.args.frame in
    let frame = frame_at f held in
    let f' = g.W.TreeSource.forest c.evaluate.new.world in
    let f'' = g.W.TreeSource.forest c.unnamed-2.new.world in
    let kind = c.args.kind in
    let content = item_views c.in_ok-content.content in
    let value = c.in_ok-content.ensures.gives (c.unnamed-2.ensures.goes.was_clean clean) inside in
    let d : map item_view c.deref.result.now ≡ content = ap (map item_view) c.deref.ensures.value in
    let meant : Forms.unnamed_node kind (plan_mean c.args.part.now) frame f ≡ plant_unnamed kind (items_at f' (map item_view c.deref.result.now)) f' =
    ap (λ o. go_on o (λ xs. plant_unnamed kind xs)) value.1 ∙ ap (λ xs. plant_unnamed kind (items_at f' xs) f') (sym d) in
    subst (λ o. GivesSequence o f'' c.unnamed-2.result) (sym meant) (c.unnamed-2.ensures.gives clean (subst (AreIn f') (sym d) value.0))

pub expressions::unnamed_node-returns-in_err-content-clause-goes : goal.expressions::unnamed_node-returns-in_err-content-clause-goes
expressions::unnamed_node-returns-in_err-content-clause-goes g t c = c.in_err-content.ensures.goes

pub expressions::unnamed_node-returns-clause-goes : goal.expressions::unnamed_node-returns-clause-goes
expressions::unnamed_node-returns-clause-goes g t c = goes_on_to c.in_ok-content.ensures.goes c.unnamed-2.ensures.goes

pub expressions::named_node-returns-clause-gives : goal.expressions::named_node-returns-clause-gives
expressions::named_node-returns-clause-gives g t c = λ clean inside.
    let f = g.W.TreeSource.forest c.args.world.now in
    let f' = g.W.TreeSource.forest c.constructed.new.world in
    let outcome = Forms.named_node c.args.kind (plan_mean c.args.name.now) (plan_mean c.args.part.now) (frame_at f c.args.frame) f in
    let is : item_views c.in_ok-single.field-0 ≡ NodeAt c.in_ok-node.node ∷ [] = c.in_ok-single.ensures in
    subst (λ vs. AreIn f' vs × (outcome ≡ (Ok (items_at f' vs), f'))) (sym is) (c.in_ok-node.ensures.gives clean inside)

pub expressions::named_node-returns-in_err-node-clause-gives : goal.expressions::named_node-returns-in_err-node-clause-gives
expressions::named_node-returns-in_err-node-clause-gives g t c = λ clean inside.
    let f = g.W.TreeSource.forest c.args.world.now in
    let f' = g.W.TreeSource.forest c.constructed.new.world in
    let outcome = Forms.named_node c.args.kind (plan_mean c.args.name.now) (plan_mean c.args.part.now) (frame_at f c.args.frame) f in
    refused_so one_node item_views items_at items_at AreIn AreIn outcome f' c.in_err-node.field-0.0 c.from_residual.result c.from_residual.ensures.1 (c.in_err-node.ensures.gives clean inside)

pub expressions::named_node-returns-clause-goes : goal.expressions::named_node-returns-clause-goes
expressions::named_node-returns-clause-goes g t c = c.in_ok-node.ensures.goes

pub expressions::named_node-returns-in_err-node-clause-goes : goal.expressions::named_node-returns-in_err-node-clause-goes
expressions::named_node-returns-in_err-node-clause-goes g t c = c.in_err-node.ensures.goes

pub expressions::named_node-returns-in_err-single-clause-goes : goal.expressions::named_node-returns-in_err-single-clause-goes
expressions::named_node-returns-in_err-single-clause-goes g t c = c.in_ok-node.ensures.goes

pub expressions::constructed-returns-in-Str-clause-gives : goal.expressions::constructed-returns-in-Str-clause-gives
expressions::constructed-returns-in-Str-clause-gives g t c = λ clean inside.
    rw (c.in-Str.is, plan-Str c.in-Str.text, ← c.as_str.ensures) (c.literally_named.ensures.gives clean inside)

pub expressions::constructed-returns-in-Str-clause-goes : goal.expressions::constructed-returns-in-Str-clause-goes
expressions::constructed-returns-in-Str-clause-goes g t c = c.literally_named.ensures.goes

pub expressions::with_content-returns-in-Some-clause-gives : goal.expressions::with_content-returns-in-Some-clause-gives
expressions::with_content-returns-in-Some-clause-gives g t c = λ clean inside.
    let f = g.W.TreeSource.forest c.args.world.now in
    let f' = g.W.TreeSource.forest c.planted_named.new.world in
    let frame = frame_at f c.args.frame in
    let part = plan_mean c.args.part.now in
    let a = atomic_of c.in-Some.atom in
    let last = λ (xs : List Item). plant_named c.args.kind c.args.name.now xs in
    let told : part frame f ≡ (Ok (atomic a), f) = subst (λ o. Tells atomic (part frame f) f (Ok o)) c.in-Some.is (c.in_ok-atom.ensures f frame refl) in
    let d : map item_view c.from_ref.result.now ≡ Value a ∷ [] = search rules in
    let meant = ap (λ o. go_on o last) told ∙ ap (λ xs. last (items_at f xs) f) (sym d) in
    subst (λ o. GivesNode o f' c.planted_named.result) (sym meant) (c.planted_named.ensures.gives clean (subst (AreIn f) (sym d) (tt, tt)))

pub expressions::with_content-returns-in_err-atom-clause-gives : goal.expressions::with_content-returns-in_err-atom-clause-gives
expressions::with_content-returns-in_err-atom-clause-gives g t c = λ clean inside.
    let f = g.W.TreeSource.forest c.args.world.now in
    let frame = frame_at f c.args.frame in
    let outcome = plan_mean c.args.part.now frame f in
    let last = λ (xs : List Item). plant_named c.args.kind c.args.name.now xs in
    let e = c.in_err-atom.field-0.0 in
    cut item_views items_at AreIn one_node items_at AreIn _ outcome last f e c.from_residual.result refl c.from_residual.ensures.1
    (told_stop atomic item_views items_at AreIn outcome f f e (c.in_err-atom.ensures f frame refl))

pub expressions::with_content-returns-in_err-content-clause-gives : goal.expressions::with_content-returns-in_err-content-clause-gives
expressions::with_content-returns-in_err-content-clause-gives g t c = λ clean inside.
    let f = g.W.TreeSource.forest c.args.world.now in
    let f' = g.W.TreeSource.forest c.evaluate.new.world in
    let last = λ (xs : List Item). plant_named c.args.kind c.args.name.now xs in
    cut item_views items_at AreIn one_node items_at AreIn _ (plan_mean c.args.part.now (frame_at f c.args.frame) f) last f' c.in_err-content.field-0.0 c.from_residual-in_err-content.result
    refl c.from_residual-in_err-content.ensures.1 (c.in_err-content.ensures.gives clean inside)

pub expressions::with_content-returns-clause-gives : goal.expressions::with_content-returns-clause-gives
expressions::with_content-returns-clause-gives g t c = λ clean inside.
    let f' = g.W.TreeSource.forest c.evaluate.new.world in
    let f'' = g.W.TreeSource.forest c.planted_named-2.new.world in
    let last = λ (xs : List Item). plant_named c.args.kind c.args.name.now xs in
    let d : map item_view c.deref.result.now ≡ item_views c.in_ok-content.content = ap (map item_view) c.deref.ensures.value in
    let inner = c.in_ok-content.ensures.gives (c.planted_named-2.ensures.goes.was_clean clean) inside in
    let meant = ap (λ o. go_on o last) inner.1 ∙ ap (λ xs. last (items_at f' xs) f') (sym d) in
    subst (λ o. GivesNode o f'' c.planted_named-2.result) (sym meant) (c.planted_named-2.ensures.gives clean (subst (AreIn f') (sym d) inner.0))

pub expressions::with_content-returns-in-Some-clause-goes : goal.expressions::with_content-returns-in-Some-clause-goes
expressions::with_content-returns-in-Some-clause-goes g t c = c.planted_named.ensures.goes

pub expressions::with_content-returns-in_err-atom-clause-goes : goal.expressions::with_content-returns-in_err-atom-clause-goes
expressions::with_content-returns-in_err-atom-clause-goes g t c = stays _ _

pub expressions::with_content-returns-in_err-content-clause-goes : goal.expressions::with_content-returns-in_err-content-clause-goes
expressions::with_content-returns-in_err-content-clause-goes g t c = c.in_err-content.ensures.goes

pub expressions::with_content-returns-clause-goes : goal.expressions::with_content-returns-clause-goes
expressions::with_content-returns-clause-goes g t c = goes_on_to c.in_ok-content.ensures.goes c.planted_named-2.ensures.goes

pub expressions::literally_named-returns-in_err-name-clause-gives : goal.expressions::literally_named-returns-in_err-name-clause-gives
expressions::literally_named-returns-in_err-name-clause-gives g t c = λ clean inside.
    let f = g.W.TreeSource.forest c.args.world.now in
    let frame = frame_at f c.args.frame in
    let part = plan_mean c.args.part.now in
    let next = λ (good : Text). part frame >>= (λ ys. plant_named c.args.kind good ys) in
    let begun = named_is c.args.kind (Forms.literal (AtomicString c.args.text.now)) part frame f in
    name_refused c.args.kind c.args.text.now (Forms.named_node c.args.kind (Forms.literal (AtomicString c.args.text.now)) part frame f) next f c.in_err-name.field-0.0 c.from_residual.result begun c.from_residual.ensures.1 c.in_err-name.ensures

pub expressions::literally_named-returns-clause-gives : goal.expressions::literally_named-returns-clause-gives
expressions::literally_named-returns-clause-gives g t c = λ clean inside.
    let f = g.W.TreeSource.forest c.args.world.now in
    let f' = g.W.TreeSource.forest c.with_content.new.world in
    let kind = c.args.kind in
    let frame = frame_at f c.args.frame in
    let part = plan_mean c.args.part.now in
    let wanted : Meaning = Forms.literal (AtomicString c.args.text.now) in
    let next = λ (good : Text). part frame >>= (λ ys. plant_named kind good ys) in
    let meant : Forms.named_node kind wanted part frame f ≡ filled kind c.in_ok-name.name.now part frame f =
    named_is kind wanted part frame f ∙ ap (λ j. go_on (judged j f) next) c.in_ok-name.ensures in
    subst (λ o. GivesNode o f' c.with_content.result) (sym meant) (c.with_content.ensures.gives clean inside)

pub expressions::literally_named-returns-in_err-name-clause-goes : goal.expressions::literally_named-returns-in_err-name-clause-goes
expressions::literally_named-returns-in_err-name-clause-goes g t c = stays _ _

pub expressions::literally_named-returns-clause-goes : goal.expressions::literally_named-returns-clause-goes
expressions::literally_named-returns-clause-goes g t c = c.with_content.ensures.goes

pub expressions::constructed-returns-in_err-value-clause-gives : goal.expressions::constructed-returns-in_err-value-clause-gives
expressions::constructed-returns-in_err-value-clause-gives g t c = λ clean inside.
    let f = g.W.TreeSource.forest c.args.world.now in
    let held = c.args.frame in
    let frame = frame_at f held in
    let f' = g.W.TreeSource.forest c.evaluate.new.world in
    let kind = c.args.kind in
    let part = plan_mean c.args.part.now in
    let wanted = plan_mean c.args.name.now in
    let next = λ (xs : List Item). on_trees (λ trees. name_of kind (atomized trees xs)) >>= (λ good. part frame >>= (λ ys. plant_named kind good ys)) in
    cut item_views items_at AreIn one_node items_at AreIn _ (wanted frame f) next f' c.in_err-value.field-0.0 c.from_residual.result
    (named_is kind wanted part frame f) c.from_residual.ensures.1 (c.in_err-value.ensures.gives clean inside)

pub expressions::constructed-returns-in_err-name-clause-gives : goal.expressions::constructed-returns-in_err-name-clause-gives
expressions::constructed-returns-in_err-name-clause-gives g t c = λ clean inside.
    let f = g.W.TreeSource.forest c.args.world.now in
    let held = c.args.frame in
    let frame = frame_at f held in
    let f' = g.W.TreeSource.forest c.evaluate.new.world in
    let kind = c.args.kind in
    let part = plan_mean c.args.part.now in
    let wanted = plan_mean c.args.name.now in
    let f'' = g.W.TreeSource.forest c.node_name.new.world in
    let found = c.in_ok-value.ensures.gives (c.node_name.ensures.goes.was_clean clean) inside in
    let value = item_views c.in_ok-value.value in
    let d : map item_view c.deref.result.now ≡ value = ap (map item_view) c.deref.ensures.value in
    let naming = λ (xs : List ItemView). on_trees (λ trees. name_of kind (atomized trees (items_at f' xs))) f' in
    let next = λ (good : Text). part frame >>= (λ ys. plant_named kind good ys) in
    let begun : Forms.named_node kind wanted part frame f ≡ go_on (naming (map item_view c.deref.result.now)) next =
    named_is kind wanted part frame f ∙ ap (λ o. go_on o (λ xs. on_trees (λ trees. name_of kind (atomized trees xs)) >>= next)) found.1 ∙ ap (λ xs. go_on (naming xs) next) (sym d) in
    cut (string_bytes {Z = Global}) (λ trees t. t) (λ trees t. Unit {0}) one_node items_at AreIn _ (naming (map item_view c.deref.result.now)) next f'' c.in_err-name.field-0.0 c.from_residual-in_err-name.result
    begun c.from_residual-in_err-name.ensures.1 (c.in_err-name.ensures.gives clean (subst (AreIn f') (sym d) found.0))

pub expressions::constructed-returns-clause-gives : goal.expressions::constructed-returns-clause-gives
expressions::constructed-returns-clause-gives g t c = λ clean inside.
    let f = g.W.TreeSource.forest c.args.world.now in
    let held = c.args.frame in
    let frame = frame_at f held in
    let f' = g.W.TreeSource.forest c.evaluate.new.world in
    let kind = c.args.kind in
    let part = plan_mean c.args.part.now in
    let wanted = plan_mean c.args.name.now in
    let f'' = g.W.TreeSource.forest c.node_name.new.world in
    let f3 = g.W.TreeSource.forest c.with_content.new.world in
    let before = c.with_content.ensures.goes.was_clean clean in
    let found = c.in_ok-value.ensures.gives (c.node_name.ensures.goes.was_clean before) inside in
    let value = item_views c.in_ok-value.value in
    let d : map item_view c.deref.result.now ≡ value = ap (map item_view) c.deref.ensures.value in
    let naming = λ (xs : List ItemView). on_trees (λ trees. name_of kind (atomized trees (items_at f' xs))) f' in
    let next = λ (good : Text). part frame >>= (λ ys. plant_named kind good ys) in
    let begun : Forms.named_node kind wanted part frame f ≡ go_on (naming (map item_view c.deref.result.now)) next =
    named_is kind wanted part frame f ∙ ap (λ o. go_on o (λ xs. on_trees (λ trees. name_of kind (atomized trees xs)) >>= next)) found.1 ∙ ap (λ xs. go_on (naming xs) next) (sym d) in
    let name = c.in_ok-name.ensures.gives before (subst (AreIn f') (sym d) found.0) in
    let good = string_bytes c.in_ok-name.name in
    let grows = extends_more c.in_ok-value.ensures.goes.grows c.in_ok-name.ensures.goes.grows in
    let last = λ (ys : List Item). plant_named kind good ys in
    let meant : Forms.named_node kind wanted part frame f ≡ filled kind good part (frame_at f'' held) f'' =
    begun ∙ ap (λ o. go_on o next) name.1 ∙ ap (λ fr. go_on (part fr f'') last) (sym (frame_grown grows held inside)) in
    subst (λ o. GivesNode o f3 c.with_content.result) (sym (meant ∙ ap (λ n. filled kind n part (frame_at f'' held) f'') (sym c.as_str-2.ensures.value))) (c.with_content.ensures.gives clean (frame_in_grown grows held inside))

pub expressions::constructed-returns-in_err-value-clause-goes : goal.expressions::constructed-returns-in_err-value-clause-goes
expressions::constructed-returns-in_err-value-clause-goes g t c = c.in_err-value.ensures.goes

pub expressions::constructed-returns-in_err-name-clause-goes : goal.expressions::constructed-returns-in_err-name-clause-goes
expressions::constructed-returns-in_err-name-clause-goes g t c = goes_on_to c.in_ok-value.ensures.goes c.in_err-name.ensures.goes

pub expressions::constructed-returns-clause-goes : goal.expressions::constructed-returns-clause-goes
expressions::constructed-returns-clause-goes g t c = goes_on_to (goes_on_to c.in_ok-value.ensures.goes c.in_ok-name.ensures.goes) c.with_content.ensures.goes

pub evaluation::evaluate-quantified-requires : goal.evaluation::evaluate-quantified-requires
evaluation::evaluate-quantified-requires g t c = λ κs live.
    let is = c.in-Quantified.is ∙ ap (λ rs. plan.Quantified c.in-Quantified.which rs c.in-Quantified.test) (sym c.as_slice-ranges.ensures) ∙ ap (λ p. plan.Quantified c.in-Quantified.which c.as_slice-ranges.result.now p) (sym c.get-in-Quantified.ensures) in
    let all : 8 * size-Plan c.args.plan.now + 3 ≡ t = c.decreases in
    let below : 8 * size-Plan c.args.plan.now + 2 < t = omega (arith, all) in
    (below, (live, record { which = c.in-Quantified.which; is = is }))

pub expressions::quantified-satisfied-requires : goal.expressions::quantified-satisfied-requires
expressions::quantified-satisfied-requires g t c = λ κs live.
    let all : 8 * size-Plan c.args.whole.now + 2 ≡ t = c.decreases in
    let below : 8 * size-Plan c.args.whole.now + 1 < t = omega (arith, all) in
    (below, (live, c.requires))

-- # Of a form with several parts, the size of the greatest

pub expressions::operands-evaluate-requires : goal.expressions::operands-evaluate-requires
expressions::operands-evaluate-requires g t c = λ κs live.
    let depth = λ (o : Operator × Plan). max 0 (max (size-Plan o.1) 0) in
    let all : 8 * max (size-Plan c.args.first.now) (most depth c.args.rest.now) + 9 ≡ t = c.decreases in
    let below : 8 * size-Plan c.args.first.now + 3 < t = omega (arith, all) in
    (below, live)

pub expressions::operands-chain-requires : goal.expressions::operands-chain-requires
expressions::operands-chain-requires g t c = λ κs live.
    let depth = λ (o : Operator × Plan). max 0 (max (size-Plan o.1) 0) in
    let all : 8 * max (size-Plan c.args.first.now) (most depth c.args.rest.now) + 9 ≡ t = c.decreases in
    let below : 8 * most depth c.args.rest.now + 5 < t = omega (arith, all) in
    (below, live)

pub expressions::conditional-evaluate-requires : goal.expressions::conditional-evaluate-requires
expressions::conditional-evaluate-requires g t c = λ κs live.
    let all : 8 * max (size-Plan c.args.test.now) (max (size-Plan c.args.yes.now) (size-Plan c.args.no.now)) + 9 ≡ t = c.decreases in
    let below : 8 * size-Plan c.args.test.now + 3 < t = omega (arith, all) in
    (below, live)

pub expressions::conditional-evaluate-requires-then-branch : goal.expressions::conditional-evaluate-requires-then-branch
expressions::conditional-evaluate-requires-then-branch g t c = λ κs live.
    let all : 8 * max (size-Plan c.args.test.now) (max (size-Plan c.args.yes.now) (size-Plan c.args.no.now)) + 9 ≡ t = c.decreases in
    let below : 8 * size-Plan c.args.yes.now + 3 < t = omega (arith, all) in
    (below, live)

pub expressions::conditional-evaluate-requires-else-branch : goal.expressions::conditional-evaluate-requires-else-branch
expressions::conditional-evaluate-requires-else-branch g t c = λ κs live.
    let all : 8 * max (size-Plan c.args.test.now) (max (size-Plan c.args.yes.now) (size-Plan c.args.no.now)) + 9 ≡ t = c.decreases in
    let below : 8 * size-Plan c.args.no.now + 3 < t = omega (arith, all) in
    (below, live)

pub expressions::filtered-evaluate-requires : goal.expressions::filtered-evaluate-requires
expressions::filtered-evaluate-requires g t c = λ κs live.
    let all : 8 * max (size-Plan c.args.start.now) (most size-Plan c.args.predicates.now) + 9 ≡ t = c.decreases in
    let below : 8 * size-Plan c.args.start.now + 3 < t = omega (arith, all) in
    (below, live)

pub expressions::filtered-keep-requires : goal.expressions::filtered-keep-requires
expressions::filtered-keep-requires g t c = λ κs live.
    let found = c.in-Some-filtered_variable.found in
    let all : 8 * max (size-Plan c.args.start.now) (most size-Plan c.args.predicates.now) + 9 ≡ t = c.decreases in
    let is = lent_filters c.args.frame.slots.now c.args.start.now c.args.predicates.now c.filtered_variable.result found c.in-Some-filtered_variable.is c.filtered_variable.ensures in
    let parts : most size-Plan c.args.predicates.now ≡ max (size-Plan found.first.now) (most size-Plan found.rest.now) = ap (most size-Plan) is.predicates_are in
    let below : 8 * size-Plan found.first.now + 5 < t = omega (arith, all, parts) in
    (below, live)

pub expressions::filtered-filter-requires : goal.expressions::filtered-filter-requires
expressions::filtered-filter-requires g t c = λ κs live.
    let found = c.in-Some-filtered_variable.found in
    let all : 8 * max (size-Plan c.args.start.now) (most size-Plan c.args.predicates.now) + 9 ≡ t = c.decreases in
    let is = lent_filters c.args.frame.slots.now c.args.start.now c.args.predicates.now c.filtered_variable.result found c.in-Some-filtered_variable.is c.filtered_variable.ensures in
    let parts : most size-Plan c.args.predicates.now ≡ max (size-Plan found.first.now) (most size-Plan found.rest.now) = ap (most size-Plan) is.predicates_are in
    let below : 8 * most size-Plan found.rest.now + 6 < t = omega (arith, all, parts) in
    (below, live)

pub expressions::filtered-filter-requires-2 : goal.expressions::filtered-filter-requires-2
expressions::filtered-filter-requires-2 g t c = λ κs live.
    let all : 8 * max (size-Plan c.args.start.now) (most size-Plan c.args.predicates.now) + 9 ≡ t = c.decreases in
    let below : 8 * most size-Plan c.args.predicates.now + 6 < t = omega (arith, all) in
    (below, live)

pub expressions::flwor-clause_list-requires : goal.expressions::flwor-clause_list-requires
expressions::flwor-clause_list-requires g t c = λ κs live.
    let all : 8 * max (most size-PlanClause c.args.clauses.now) (size-Plan c.args.part.now) + 9 ≡ t = c.decreases in
    let below : 8 * most size-PlanClause c.args.clauses.now + 8 < t = omega (arith, all) in
    (below, live)

pub expressions::flwor-returned-requires : goal.expressions::flwor-returned-requires
expressions::flwor-returned-requires g t c = λ κs live.
    let all : 8 * max (most size-PlanClause c.args.clauses.now) (size-Plan c.args.part.now) + 9 ≡ t = c.decreases in
    let below : 8 * size-Plan c.args.part.now + 6 < t = omega (arith, all) in
    (below, live)

pub expressions::path-evaluate-requires : goal.expressions::path-evaluate-requires
expressions::path-evaluate-requires g t c = λ κs live.
    let all : 8 * max (size-Plan c.args.start.now) (most size-PlanStep c.args.steps.now) + 9 ≡ t = c.decreases in
    let below : 8 * size-Plan c.args.start.now + 3 < t = omega (arith, all) in
    (below, live)

pub expressions::path-step_list-requires : goal.expressions::path-step_list-requires
expressions::path-step_list-requires g t c = λ κs live.
    let all : 8 * max (size-Plan c.args.start.now) (most size-PlanStep c.args.steps.now) + 9 ≡ t = c.decreases in
    let below : 8 * most size-PlanStep c.args.steps.now + 8 < t = omega (arith, all) in
    (below, live)

pub paths::step_list-later_steps-requires : goal.paths::step_list-later_steps-requires
paths::step_list-later_steps-requires g t c = λ κs live.
    let all : 8 * most size-PlanStep c.args.steps.now + 8 ≡ t = c.decreases in
    let below : 8 * most size-PlanStep c.args.steps.now + 7 < t = omega (arith, all) in
    (below, live)

pub paths::step_list-later_steps-requires-2 : goal.paths::step_list-later_steps-requires-2
paths::step_list-later_steps-requires-2 g t c = λ κs live.
    let steps = c.args.steps.now in
    let taken = c.in_ok-first.first.taken in
    let all : 8 * most size-PlanStep steps + 8 ≡ t = c.decreases in
    let same = ap (most size-PlanStep) (slice_left taken steps) in
    let least = most_drop size-PlanStep taken steps in
    let below : 8 * most size-PlanStep (take (length steps - taken) (drop taken steps)) + 7 < t = omega (arith, all, same, least) in
    (below, live)

pub expressions::named_node-constructed-requires : goal.expressions::named_node-constructed-requires
expressions::named_node-constructed-requires g t c = λ κs live.
    let all : 8 * max (size-Plan c.args.name.now) (size-Plan c.args.part.now) + 9 ≡ t = c.decreases in
    let below : 8 * max (size-Plan c.args.name.now) (size-Plan c.args.part.now) + 8 < t = omega (arith, all) in
    (below, live)

pub evaluation::next_constructed-constructed-requires : goal.evaluation::next_constructed-constructed-requires
evaluation::next_constructed-constructed-requires g t c = λ κs live.
    let all : 8 * max (size-Plan c.args.name.now) (size-Plan c.args.part.now) + 9 ≡ t = c.decreases in
    let below : 8 * max (size-Plan c.args.name.now) (size-Plan c.args.part.now) + 8 < t = omega (arith, all) in
    (below, live)

pub evaluation::next_part-next_constructed-requires : goal.evaluation::next_part-next_constructed-requires
evaluation::next_part-next_constructed-requires g t c = λ κs live.
    let all : 8 * size-Plan c.args.part.now + 4 ≡ t = c.decreases in
    let whole = ap size-Plan c.in-Named.is ∙ sized-Named c.in-Named.kind c.in-Named.name c.in-Named.content in
    let e0 = ap (size-Plan) c.get.ensures in
    let e1 = ap (size-Plan) c.get-in-Named.ensures in
    let below : 8 * max (size-Plan c.get.result.now) (size-Plan c.get-in-Named.result.now) + 9 < t = omega (arith, all, whole, e0, e1) in
    (below, live)

pub expressions::constructed-literally_named-requires : goal.expressions::constructed-literally_named-requires
expressions::constructed-literally_named-requires g t c = λ κs live.
    let all : 8 * max (size-Plan c.args.name.now) (size-Plan c.args.part.now) + 8 ≡ t = c.decreases in
    let below : 8 * size-Plan c.args.part.now + 5 < t = omega (arith, all) in
    (below, live)

pub expressions::constructed-evaluate-requires : goal.expressions::constructed-evaluate-requires
expressions::constructed-evaluate-requires g t c = λ κs live.
    let all : 8 * max (size-Plan c.args.name.now) (size-Plan c.args.part.now) + 8 ≡ t = c.decreases in
    let below : 8 * size-Plan c.args.name.now + 3 < t = omega (arith, all) in
    (below, live)

pub expressions::constructed-with_content-requires : goal.expressions::constructed-with_content-requires
expressions::constructed-with_content-requires g t c = λ κs live.
    let all : 8 * max (size-Plan c.args.name.now) (size-Plan c.args.part.now) + 8 ≡ t = c.decreases in
    let below : 8 * size-Plan c.args.part.now + 4 < t = omega (arith, all) in
    (below, live)

pub expressions::arrow-evaluate-requires : goal.expressions::arrow-evaluate-requires
expressions::arrow-evaluate-requires g t c = λ κs live.
    let depth = λ (o : Function × List Plan). max 0 (max (most size-Plan o.1) 0) in
    let all : 8 * max (size-Plan c.args.first.now) (most depth c.args.calls.now) + 9 ≡ t = c.decreases in
    let below : 8 * size-Plan c.args.first.now + 3 < t = omega (arith, all) in
    (below, live)

pub expressions::arrow-call_list-requires : goal.expressions::arrow-call_list-requires
expressions::arrow-call_list-requires g t c = λ κs live.
    let depth = λ (o : Function × List Plan). max 0 (max (most size-Plan o.1) 0) in
    let all : 8 * max (size-Plan c.args.first.now) (most depth c.args.calls.now) + 9 ≡ t = c.decreases in
    let below : 8 * most depth c.args.calls.now + 7 < t = omega (arith, all) in
    (below, live)

pub expressions::simple_map-evaluate-requires : goal.expressions::simple_map-evaluate-requires
expressions::simple_map-evaluate-requires g t c = λ κs live.
    let all : 8 * max (size-Plan c.args.start.now) (most size-Plan c.args.parts.now) + 9 ≡ t = c.decreases in
    let below : 8 * size-Plan c.args.start.now + 3 < t = omega (arith, all) in
    (below, live)

pub expressions::simple_map-map_list-requires : goal.expressions::simple_map-map_list-requires
expressions::simple_map-map_list-requires g t c = λ κs live.
    let all : 8 * max (size-Plan c.args.start.now) (most size-Plan c.args.parts.now) + 9 ≡ t = c.decreases in
    let below : 8 * most size-Plan c.args.parts.now + 7 < t = omega (arith, all) in
    (below, live)

pub evaluation::evaluate-operands-requires : goal.evaluation::evaluate-operands-requires
evaluation::evaluate-operands-requires g t c = λ κs live.
    let depth = λ (o : Operator × Plan). max 0 (max (size-Plan o.1) 0) in
    let all : 8 * size-Plan c.args.plan.now + 3 ≡ t = c.decreases in
    let whole = ap size-Plan c.in-Chain.is ∙ sized-Chain c.in-Chain.first c.in-Chain.rest in
    let e0 = ap (size-Plan) c.get.ensures in
    let e1 = ap (most depth) c.as_slice-in-Chain.ensures in
    let below : 8 * max (size-Plan c.get.result.now) (most depth c.as_slice-in-Chain.result.now) + 9 < t = omega (arith, all, whole, e0, e1) in
    (below, live)

pub evaluation::evaluate-conditional-requires : goal.evaluation::evaluate-conditional-requires
evaluation::evaluate-conditional-requires g t c = λ κs live.
    let all : 8 * size-Plan c.args.plan.now + 3 ≡ t = c.decreases in
    let whole = ap size-Plan c.in-If.is ∙ sized-If c.in-If.test c.in-If.yes c.in-If.no in
    let e0 = ap (size-Plan) c.get-in-If.ensures in
    let e1 = ap (size-Plan) c.get-in-If-2.ensures in
    let e2 = ap (size-Plan) c.get-in-If-3.ensures in
    let below : 8 * max (size-Plan c.get-in-If.result.now) (max (size-Plan c.get-in-If-2.result.now) (size-Plan c.get-in-If-3.result.now)) + 9 < t = omega (arith, all, whole, e0, e1, e2) in
    (below, live)

pub evaluation::evaluate-filtered-requires : goal.evaluation::evaluate-filtered-requires
evaluation::evaluate-filtered-requires g t c = λ κs live.
    let all : 8 * size-Plan c.args.plan.now + 3 ≡ t = c.decreases in
    let whole = ap size-Plan c.in-Filter.is ∙ sized-Filter c.in-Filter.start c.in-Filter.predicates in
    let e0 = ap (size-Plan) c.get-in-Filter.ensures in
    let e1 = ap (most size-Plan) c.as_slice-in-Filter.ensures in
    let below : 8 * max (size-Plan c.get-in-Filter.result.now) (most size-Plan c.as_slice-in-Filter.result.now) + 9 < t = omega (arith, all, whole, e0, e1) in
    (below, live)

pub evaluation::evaluate-flwor-requires : goal.evaluation::evaluate-flwor-requires
evaluation::evaluate-flwor-requires g t c = λ κs live.
    let all : 8 * size-Plan c.args.plan.now + 3 ≡ t = c.decreases in
    let whole = ap size-Plan c.in-Flwor.is ∙ sized-Flwor c.in-Flwor.clauses c.in-Flwor.part in
    let e0 = ap (most size-PlanClause) c.as_slice-in-Flwor.ensures in
    let e1 = ap (size-Plan) c.get-in-Flwor.ensures in
    let below : 8 * max (most size-PlanClause c.as_slice-in-Flwor.result.now) (size-Plan c.get-in-Flwor.result.now) + 9 < t = omega (arith, all, whole, e0, e1) in
    (below, live)

pub evaluation::evaluate-path-requires : goal.evaluation::evaluate-path-requires
evaluation::evaluate-path-requires g t c = λ κs live.
    let all : 8 * size-Plan c.args.plan.now + 3 ≡ t = c.decreases in
    let whole = ap size-Plan c.in-Path.is ∙ sized-Path c.in-Path.start c.in-Path.steps in
    let e0 = ap (size-Plan) c.get-in-Path.ensures in
    let e1 = ap (most size-PlanStep) c.as_slice-in-Path.ensures in
    let below : 8 * max (size-Plan c.get-in-Path.result.now) (most size-PlanStep c.as_slice-in-Path.result.now) + 9 < t = omega (arith, all, whole, e0, e1) in
    (below, live)

pub evaluation::evaluate-named_node-requires : goal.evaluation::evaluate-named_node-requires
evaluation::evaluate-named_node-requires g t c = λ κs live.
    let all : 8 * size-Plan c.args.plan.now + 3 ≡ t = c.decreases in
    let whole = ap size-Plan c.in-Named.is ∙ sized-Named c.in-Named.kind c.in-Named.name c.in-Named.part in
    let e0 = ap (size-Plan) c.get-in-Named.ensures in
    let e1 = ap (size-Plan) c.get-in-Named-2.ensures in
    let below : 8 * max (size-Plan c.get-in-Named.result.now) (size-Plan c.get-in-Named-2.result.now) + 9 < t = omega (arith, all, whole, e0, e1) in
    (below, live)

pub evaluation::evaluate-arrow-requires : goal.evaluation::evaluate-arrow-requires
evaluation::evaluate-arrow-requires g t c = λ κs live.
    let depth = λ (o : Function × List Plan). max 0 (max (most size-Plan o.1) 0) in
    let all : 8 * size-Plan c.args.plan.now + 3 ≡ t = c.decreases in
    let whole = ap size-Plan c.in-Arrow.is ∙ sized-Arrow c.in-Arrow.first c.in-Arrow.calls in
    let e0 = ap (size-Plan) c.get-in-Arrow.ensures in
    let e1 = ap (most depth) c.as_slice-in-Arrow.ensures in
    let below : 8 * max (size-Plan c.get-in-Arrow.result.now) (most depth c.as_slice-in-Arrow.result.now) + 9 < t = omega (arith, all, whole, e0, e1) in
    (below, live)

pub evaluation::evaluate-simple_map-requires : goal.evaluation::evaluate-simple_map-requires
evaluation::evaluate-simple_map-requires g t c = λ κs live.
    let all : 8 * size-Plan c.args.plan.now + 3 ≡ t = c.decreases in
    let whole = ap size-Plan c.in-Map.is ∙ sized-Map c.in-Map.start c.in-Map.parts in
    let e0 = ap (size-Plan) c.get-in-Map.ensures in
    let e1 = ap (most size-Plan) c.as_slice-in-Map.ensures in
    let below : 8 * max (size-Plan c.get-in-Map.result.now) (most size-Plan c.as_slice-in-Map.result.now) + 9 < t = omega (arith, all, whole, e0, e1) in
    (below, live)

-- # Predicates whose value an item's position tells

pub evaluation::keep-returns-in-Some-clause-gives : goal.evaluation::keep-returns-in-Some-clause-gives
evaluation::keep-returns-in-Some-clause-gives g t c = λ clean inside items_in.
    let f = g.W.TreeSource.forest c.args.world.now in
    let p = c.args.predicate.now in
    let items = c.args.items.now in
    let told = subst (λ r. IfSome r (λ (v : ByPosition). IsPositional c.args.frame.slots.now p (length items) v)) c.in-Some.is c.positional.ensures in
    let frame = frame_at f c.args.frame in
    c.keep_positional.ensures f frame p (told f frame refl) items_in

pub evaluation::keep-returns-in-Ok-Some-clause-gives : goal.evaluation::keep-returns-in-Ok-Some-clause-gives
evaluation::keep-returns-in-Ok-Some-clause-gives g t c = λ clean inside items_in.
    let f = g.W.TreeSource.forest c.args.world.now in
    let p = c.args.predicate.now in
    let frame = frame_at f c.args.frame in
    let a = atomic_of c.in-Ok-Some.number in
    let value = c.in_ok-single.field-0 in
    let told : (focus : Spot) → plan_mean p (Forms.in_focus frame focus) f ≡ (Ok (atomic a), f) =
    λ focus. subst (λ o. TellsNumber (plan_mean p (Forms.in_focus frame focus) f) f (Ok o)) c.in-Ok-Some.field-0-is
    (subst (TellsNumber (plan_mean p (Forms.in_focus frame focus) f) f) c.in-Ok-Some.is (c.number_of.ensures f (Forms.in_focus frame focus) refl)) in
    c.keep_positional-in-Ok-Some.ensures f frame p (same_number f frame p (length c.args.items.now) value a c.in_ok-single.ensures told) items_in

pub evaluation::keep-returns-in-Some-2-clause-gives : goal.evaluation::keep-returns-in-Some-2-clause-gives
evaluation::keep-returns-in-Some-2-clause-gives g t c = λ clean inside items_in.
    let f = g.W.TreeSource.forest c.args.world.now in
    let f' = g.W.TreeSource.forest c.keep_by_texts.new.world in
    let whole = Forms.filtered (frame_at f c.args.frame) (items_at f (map item_view c.args.items.now)) (plan_mean c.args.predicate.now) f in
    subst (λ r. IfSome r (λ (kept : Vec Item_held). GivesSequence whole f' (Ok kept))) c.in-Some-2.is (c.in_ok-found.ensures.gives clean inside items_in)

pub evaluation::keep-returns-in-Some-2-clause-goes : goal.evaluation::keep-returns-in-Some-2-clause-goes
evaluation::keep-returns-in-Some-2-clause-goes g t c = same_goes c.keep_by_texts.ensures.keeps c.keep_by_texts.ensures.was_clean

pub evaluation::keep-returns-in_err-found-clause-goes : goal.evaluation::keep-returns-in_err-found-clause-goes
evaluation::keep-returns-in_err-found-clause-goes g t c = same_goes c.keep_by_texts.ensures.keeps c.keep_by_texts.ensures.was_clean

pub evaluation::keep-loop-index-init : goal.evaluation::keep-loop-index-init
evaluation::keep-loop-index-init g t c =
    let old = g.W.TreeSource.forest c.args.world.now in
    let now = g.W.TreeSource.forest c.keep_by_texts.new.world in
    let same : now ≡ old = c.keep_by_texts.ensures.keeps in
    let none = c.new-kept.ensures.items in
    let items = c.args.items.now in
    let act = more (Forms.passed (plan_mean c.args.predicate.now) (frame_at old c.args.frame)) in
    let xs = items_at old (map item_view items) in
    let many : length xs ≡ length items = length-map (map item_view items) (item_at old) ∙ length-map items item_view in
    record {
      goes = same_goes same c.keep_by_texts.ensures.was_clean;
      turns = record { rest = λ clean p. (subst (λ xs. AreIn now (map item_view xs)) (sym none) tt, (λ i. in_turn act (items_at (same i) (map item_view (none i))) (focuses_from 1 (length items) xs) (same i)) ∙ sym (ap (λ n. in_turn act [] (focuses_from 1 n xs) old) many)) };
    }

pub evaluation::keep-returns-in-Some-clause-goes : goal.evaluation::keep-returns-in-Some-clause-goes
evaluation::keep-returns-in-Some-clause-goes g t c = stays _ _

pub clauses::clause_list-loop-clause-preserved : goal.clauses::clause_list-loop-clause-preserved
clauses::clause_list-loop-clause-preserved g t c =
    let i = c.loop-clause.invariant in
    let f = g.W.TreeSource.forest c.loop-clause.world in
    let f' = g.W.TreeSource.forest c.next_tuples.new.world in
    let held = c.args.frame in
    let clauses = c.args.clauses.now in
    let n = c.loop-clause.clause-index in
    let p = c.clause-item.result in
    let tuples = c.loop-clause.tuples in
    record {
      goes = goes_on_to i.goes c.next_tuples.ensures.goes;
      turns = turns_next _ _ _ c.in_ok-tuples-2.tuples (plan_clause_mean p) _ _ i.turns (left_over plan_clause_mean clauses n p (omega arith) c.clause-item.is) c.next_tuples.ensures.goes.was_clean
          (λ clean inside is_in.
          let s = c.in_ok-tuples-2.ensures.gives clean (frame_in_grown i.goes.grows held inside) is_in in
          (s.0, ap (λ fr. plan_clause_mean p fr (tuples_at f tuples) f) (sym (frame_grown i.goes.grows held inside)) ∙ s.1));
    }

pub clauses::clause_list-returns-in_err-tuples-2-clause-gives : goal.clauses::clause_list-returns-in_err-tuples-2-clause-gives
clauses::clause_list-returns-in_err-tuples-2-clause-gives g t c = λ clean inside.
    let i = c.loop-clause.invariant in
    let f = g.W.TreeSource.forest c.loop-clause.world in
    let f' = g.W.TreeSource.forest c.next_tuples.new.world in
    let held = c.args.frame in
    let clauses = c.args.clauses.now in
    let n = c.loop-clause.clause-index in
    let p = c.clause-item.result in
    let tuples = c.loop-clause.tuples in
    let e = c.in_err-tuples-2.field-0.0 in
    handed_on (λ (ts : List (Tuple ItemView)). ts) tuples_at TuplesIn _ f' e c.from_residual-in_err-tuples-2.result c.from_residual-in_err-tuples-2.ensures.1
    (turns_stop _ _ _ (λ (ts : List (Tuple ItemView)). ts) tuples_at TuplesIn (plan_clause_mean p) _ f' e i.turns (left_over plan_clause_mean clauses n p (omega arith) c.clause-item.is) c.next_tuples.ensures.goes.was_clean
    (λ clean inside is_in. subst (λ fr. GivesTuples (plan_clause_mean p fr (tuples_at f tuples) f) f' (Err e)) (frame_grown i.goes.grows held inside) (c.in_err-tuples-2.ensures.gives clean (frame_in_grown i.goes.grows held inside) is_in)) clean inside)

pub clauses::next_tuples-returns-in-Join-clause-gives : goal.clauses::next_tuples-returns-in-Join-clause-gives
clauses::next_tuples-returns-in-Join-clause-gives g t c = λ clean inside tuples_in.
    let f = g.W.TreeSource.forest c.args.world.now in
    let frame = frame_at f c.args.frame in
    let tuples = tuples_at f c.args.tuples in
    subst (λ o. GivesTuples o (g.W.TreeSource.forest c.join_tuples.new.world) c.join_tuples.result)
    (sym (ap (λ k. plan_clause_mean k frame tuples f) c.in-Join.is ∙ ap (λ m. m frame tuples f) (clause-Join c.in-Join.range c.in-Join.join)))
    (c.join_tuples.ensures.gives clean inside tuples_in)

pub clauses::next_tuples-returns-in-Join-clause-goes : goal.clauses::next_tuples-returns-in-Join-clause-goes
clauses::next_tuples-returns-in-Join-clause-goes g t c = c.join_tuples.ensures.goes

-- # Joins

pub clauses::join_tuples-returns-then-len-eq0-clause-goes : goal.clauses::join_tuples-returns-then-len-eq0-clause-goes
clauses::join_tuples-returns-then-len-eq0-clause-goes g t c = stays _ _

pub clauses::join_tuples-returns-then-len-eq0-clause-gives : goal.clauses::join_tuples-returns-then-len-eq0-clause-gives
clauses::join_tuples-returns-then-len-eq0-clause-gives g t c = λ clean inside tuples_in.
    join_none (g.W.TreeSource.forest c.args.world.now) c.args.frame c.args.join.now (plan_mean c.args.range.now) c.args.tuples (omega arith)

pub clauses::join_tuples-returns-in_err-slots-clause-goes : goal.clauses::join_tuples-returns-in_err-slots-clause-goes
clauses::join_tuples-returns-in_err-slots-clause-goes g t c = stays _ _

pub clauses::join_tuples-returns-in_err-items-clause-goes : goal.clauses::join_tuples-returns-in_err-items-clause-goes
clauses::join_tuples-returns-in_err-items-clause-goes g t c = c.in_err-items.ensures.goes

pub clauses::join_tuples-returns-in_err-items-clause-gives : goal.clauses::join_tuples-returns-in_err-items-clause-gives
clauses::join_tuples-returns-in_err-items-clause-gives g t c = λ clean inside tuples_in.
    let f = g.W.TreeSource.forest c.args.world.now in
    let f' = g.W.TreeSource.forest c.at_tuple.new.world in
    let held = c.args.frame in
    let join = c.args.join.now in
    let range = plan_mean c.args.range.now in
    let tuples = c.args.tuples in
    let outside = values_of held.slots.now in
    let e = c.in_err-items.field-0.0 in
    let here = carried_at join.carried (outside ++ first_tuple tuples) in
    let first = c.tuple.ensures ∙ first_is tuples in
    let at : values_of c.deref.result.now ≡ outside ++ here = ap values_of c.deref.ensures.value ∙ c.in_ok-slots.ensures ∙ ap (λ u. outside ++ carried_at join.carried (outside ++ u)) first in
    let first_in = subst (TupleIn f) (first_is tuples) (all_index (TupleIn f) tuples 0 [] tuples_in (omega arith)) in
    let here_in = read_in f held join (first_tuple tuples) inside first_in in
    handed_on (λ (ts : List (Tuple ItemView)). ts) tuples_at TuplesIn _ f' e c.from_residual-in_err-items.result c.from_residual-in_err-items.ensures.1
    (join_stops f held join range tuples f' e (omega arith) (c.in_err-items.ensures.gives clean inside here at here_in))

pub clauses::join_tuples-returns-then-is_steady-clause-goes : goal.clauses::join_tuples-returns-then-is_steady-clause-goes
clauses::join_tuples-returns-then-is_steady-clause-goes g t c = goes_on_to c.in_ok-items.ensures.goes c.with_equal.ensures.goes

pub clauses::join_tuples-returns-then-is_steady-clause-gives : goal.clauses::join_tuples-returns-then-is_steady-clause-gives
clauses::join_tuples-returns-then-is_steady-clause-gives g t c = λ clean inside tuples_in.
    let f = g.W.TreeSource.forest c.args.world.now in
    let f' = g.W.TreeSource.forest c.at_tuple.new.world in
    let held = c.args.frame in
    let join = c.args.join.now in
    let range = plan_mean c.args.range.now in
    let tuples = c.args.tuples in
    let outside = values_of held.slots.now in
    let here = carried_at join.carried (outside ++ first_tuple tuples) in
    let first = c.tuple.ensures ∙ first_is tuples in
    let at : values_of c.deref.result.now ≡ outside ++ here = ap values_of c.deref.ensures.value ∙ c.in_ok-slots.ensures ∙ ap (λ u. outside ++ carried_at join.carried (outside ++ u)) first in
    let first_in = subst (TupleIn f) (first_is tuples) (all_index (TupleIn f) tuples 0 [] tuples_in (omega arith)) in
    let here_in = read_in f held join (first_tuple tuples) inside first_in in
    let grows = c.in_ok-items.ensures.goes.grows in
    let views = item_views c.in_ok-items.items in
    let later_frame = frame_in_grown grows held inside in
    let later_tuples = tuples_in_grown grows tuples tuples_in in
    let given = c.in_ok-items.ensures.gives (c.with_equal.ensures.goes.was_clean clean) inside here at here_in in
    let long : length f' ≡ length f = omega (arith, c.trees-trees.ensures, c.trees.ensures) in
    join_steady f held join range views tuples f' (g.W.TreeSource.forest c.with_equal.new.world) c.with_equal.result (no_more f f' grows long) (c.if-is_steady.ensures refl) given.1
    (c.with_equal.ensures.gives clean later_frame later_tuples given.0)

pub clauses::join_tuples-returns-in_err-lists-clause-goes : goal.clauses::join_tuples-returns-in_err-lists-clause-goes
clauses::join_tuples-returns-in_err-lists-clause-goes g t c = goes_on_to c.in_ok-items.ensures.goes c.in_err-lists.ensures.goes

pub clauses::join_tuples-returns-in_err-lists-clause-gives : goal.clauses::join_tuples-returns-in_err-lists-clause-gives
clauses::join_tuples-returns-in_err-lists-clause-gives g t c = λ clean inside tuples_in.
    let f = g.W.TreeSource.forest c.args.world.now in
    let f' = g.W.TreeSource.forest c.at_tuple.new.world in
    let held = c.args.frame in
    let join = c.args.join.now in
    let range = plan_mean c.args.range.now in
    let tuples = c.args.tuples in
    let outside = values_of held.slots.now in
    let here = carried_at join.carried (outside ++ first_tuple tuples) in
    let first = c.tuple.ensures ∙ first_is tuples in
    let at : values_of c.deref.result.now ≡ outside ++ here = ap values_of c.deref.ensures.value ∙ c.in_ok-slots.ensures ∙ ap (λ u. outside ++ carried_at join.carried (outside ++ u)) first in
    let first_in = subst (TupleIn f) (first_is tuples) (all_index (TupleIn f) tuples 0 [] tuples_in (omega arith)) in
    let here_in = read_in f held join (first_tuple tuples) inside first_in in
    let grows = c.in_ok-items.ensures.goes.grows in
    let views = item_views c.in_ok-items.items in
    let later_frame = frame_in_grown grows held inside in
    let later_tuples = tuples_in_grown grows tuples tuples_in in
    let f'' = g.W.TreeSource.forest c.later_ranges.new.world in
    let e = c.in_err-lists.field-0.0 in
    let given = c.in_ok-items.ensures.gives (c.later_ranges.ensures.goes.was_clean clean) inside here at here_in in
    handed_on (λ (ts : List (Tuple ItemView)). ts) tuples_at TuplesIn _ f'' e c.from_residual-in_err-lists.result c.from_residual-in_err-lists.ensures.1
    (later_stops f held join range views tuples f' (omega arith) grows inside tuples_in given.1 f'' e (c.in_err-lists.ensures.gives clean later_frame later_tuples given.0))

pub clauses::join_tuples-returns-in_err-pairs-clause-goes : goal.clauses::join_tuples-returns-in_err-pairs-clause-goes
clauses::join_tuples-returns-in_err-pairs-clause-goes g t c = goes_on_to c.in_ok-items.ensures.goes c.in_ok-lists.ensures.goes

pub clauses::join_tuples-returns-clause-goes : goal.clauses::join_tuples-returns-clause-goes
clauses::join_tuples-returns-clause-goes g t c = goes_on_to (goes_on_to c.in_ok-items.ensures.goes c.in_ok-lists.ensures.goes) c.keep_equal.ensures.goes

pub clauses::join_tuples-returns-clause-gives : goal.clauses::join_tuples-returns-clause-gives
clauses::join_tuples-returns-clause-gives g t c = λ clean inside tuples_in.
    let f = g.W.TreeSource.forest c.args.world.now in
    let f' = g.W.TreeSource.forest c.at_tuple.new.world in
    let held = c.args.frame in
    let join = c.args.join.now in
    let range = plan_mean c.args.range.now in
    let tuples = c.args.tuples in
    let outside = values_of held.slots.now in
    let here = carried_at join.carried (outside ++ first_tuple tuples) in
    let first = c.tuple.ensures ∙ first_is tuples in
    let at : values_of c.deref.result.now ≡ outside ++ here = ap values_of c.deref.ensures.value ∙ c.in_ok-slots.ensures ∙ ap (λ u. outside ++ carried_at join.carried (outside ++ u)) first in
    let first_in = subst (TupleIn f) (first_is tuples) (all_index (TupleIn f) tuples 0 [] tuples_in (omega arith)) in
    let here_in = read_in f held join (first_tuple tuples) inside first_in in
    let grows = c.in_ok-items.ensures.goes.grows in
    let views = item_views c.in_ok-items.items in
    let later_frame = frame_in_grown grows held inside in
    let later_tuples = tuples_in_grown grows tuples tuples_in in
    let f'' = g.W.TreeSource.forest c.later_ranges.new.world in
    let clean2 = c.keep_equal.ensures.goes.was_clean clean in
    let given = c.in_ok-items.ensures.gives (c.later_ranges.ensures.goes.was_clean clean2) inside here at here_in in
    let values = c.in_ok-lists.ensures.gives clean2 later_frame later_tuples given.0 in
    let more = extends_more grows c.later_ranges.ensures.goes.grows in
    let lists = lists_of c.in_ok-lists.lists in
    let pairs = c.in_ok-pairs.pairs in
    let stream : pairs ≡ expanded Value false false tuples lists = c.in_ok-pairs.ensures.stream in
    let pairs_in = subst (TuplesIn f'') (sym stream) (expanded_in f'' false false tuples lists (tuples_in_grown more tuples tuples_in) values.0) in
    join_later f held join range views tuples f' (omega arith) grows inside tuples_in given.1 lists pairs f'' (g.W.TreeSource.forest c.keep_equal.new.world) c.keep_equal.result more values.1 stream
    (c.keep_equal.ensures.gives clean (frame_in_grown more held inside) pairs_in)

pub clauses::later_ranges-returns-in_err-lists-clause-goes : goal.clauses::later_ranges-returns-in_err-lists-clause-goes
clauses::later_ranges-returns-in_err-lists-clause-goes g t c = stays _ _

pub clauses::later_ranges-returns-in_err-push-clause-goes : goal.clauses::later_ranges-returns-in_err-push-clause-goes
clauses::later_ranges-returns-in_err-push-clause-goes g t c = stays _ _

pub clauses::later_ranges-loop-index-init : goal.clauses::later_ranges-loop-index-init
clauses::later_ranges-loop-index-init g t c =
    let old = g.W.TreeSource.forest c.args.world.now in
    let held = c.args.frame in
    let range = plan_mean c.args.range.now in
    let views = item_views c.args.first in
    let tuples = c.args.tuples.now in
    let act = one_more (λ (t : Tuple Item). range (at_carried c.args.join.now (frame_at old held) t)) in
    let pushed = c.in_ok-push.ensures.items ∙ ap (λ l. l ++ c.args.first ∷ []) c.in_ok-lists.ensures.items in
    let one : lists_of c.push.new.self ≡ views ∷ [] = ap (map item_views) pushed in
    record {
      goes = stays _ _;
      turns = record {
        rest = λ clean inside. (
          subst (TupleIn old) (sym one) (inside.2, tt),
          ap (λ ls. in_turn act (tuple_at old ls) (map (tuple_at old) (drop 1 tuples)) old) one
              ∙ ap (λ us. in_turn act (items_at old views ∷ []) us old) (sym (later_of (tuple_at old) tuples)),
        );
      };
      long = ap length pushed;
    }

pub clauses::later_ranges-loop-index-preserved : goal.clauses::later_ranges-loop-index-preserved
clauses::later_ranges-loop-index-preserved g t c =
    let i = c.loop-index.invariant in
    let old = g.W.TreeSource.forest c.args.world.now in
    let f = g.W.TreeSource.forest c.loop-index.world in
    let f' = g.W.TreeSource.forest c.next_value.new.world in
    let held = c.args.frame in
    let join = c.args.join.now in
    let range = plan_mean c.args.range.now in
    let n = c.loop-index.index in
    let tuples = c.args.tuples.now in
    let x = values_of c.tuple.result.now in
    let lists = lists_of c.loop-index.lists in
    let there = carried_at join.carried (values_of held.slots.now ++ x) in
    let at : values_of c.deref.result.now ≡ values_of held.slots.now ++ there = ap values_of c.deref.ensures.value ∙ c.in_ok-slots.ensures in
    record {
      goes = goes_on_to i.goes c.next_value.ensures.goes;
      turns = turns_next _ _ _ (lists_of c.in_ok-lists-2.lists) (tuple_at old x) _ _ i.turns (left_at (tuple_at old) tuples n x [] (omega arith) c.tuple.ensures) c.next_value.ensures.goes.was_clean
          (λ clean inside is_in.
          let x_in = element (TupleIn old) tuples n x [] inside.1 (omega arith) c.tuple.ensures in
          let there_in = read_in old held join x inside.0 x_in in
          let s = c.in_ok-lists-2.ensures.gives clean (frame_in_grown i.goes.grows held inside.0) is_in there at (tuple_in_grown i.goes.grows there there_in) in
          (s.0, ap (λ fr. go_on (range fr f) (λ y. give (tuple_at f lists ++ y ∷ []))) (carried_grown old held join f i.goes.grows inside.0 x x_in) ∙ s.1));
      long = c.in_ok-lists-2.ensures.long ∙ ap suc i.long ∙ sym (add-one n);
    }

pub clauses::later_ranges-returns-in_err-slots-clause-goes : goal.clauses::later_ranges-returns-in_err-slots-clause-goes
clauses::later_ranges-returns-in_err-slots-clause-goes g t c = c.loop-index.invariant.goes

pub clauses::later_ranges-returns-in_err-lists-2-clause-goes : goal.clauses::later_ranges-returns-in_err-lists-2-clause-goes
clauses::later_ranges-returns-in_err-lists-2-clause-goes g t c = goes_on_to c.loop-index.invariant.goes c.in_err-lists-2.ensures.goes

pub clauses::later_ranges-returns-in_err-lists-2-clause-gives : goal.clauses::later_ranges-returns-in_err-lists-2-clause-gives
clauses::later_ranges-returns-in_err-lists-2-clause-gives g t c = λ clean inside tuples_in first_in.
    let i = c.loop-index.invariant in
    let old = g.W.TreeSource.forest c.args.world.now in
    let f = g.W.TreeSource.forest c.loop-index.world in
    let f' = g.W.TreeSource.forest c.next_value.new.world in
    let held = c.args.frame in
    let join = c.args.join.now in
    let range = plan_mean c.args.range.now in
    let n = c.loop-index.index in
    let tuples = c.args.tuples.now in
    let x = values_of c.tuple.result.now in
    let lists = lists_of c.loop-index.lists in
    let there = carried_at join.carried (values_of held.slots.now ++ x) in
    let at : values_of c.deref.result.now ≡ values_of held.slots.now ++ there = ap values_of c.deref.ensures.value ∙ c.in_ok-slots.ensures in
    let e = c.in_err-lists-2.field-0.0 in
    handed_on lists_of tuple_at TupleIn _ f' e c.from_residual-in_err-lists-2.result c.from_residual-in_err-lists-2.ensures.1
    (turns_stop _ _ _ lists_of tuple_at TupleIn (tuple_at old x) _ f' e i.turns (left_at (tuple_at old) tuples n x [] (omega arith) c.tuple.ensures) c.next_value.ensures.goes.was_clean
    (λ clean inside is_in.
    let x_in = element (TupleIn old) tuples n x [] inside.1 (omega arith) c.tuple.ensures in
    let there_in = read_in old held join x inside.0 x_in in
    subst (λ fr. GivesLists (go_on (range fr f) (λ y. give (tuple_at f lists ++ y ∷ []))) f' (Err e)) (sym (carried_grown old held join f i.goes.grows inside.0 x x_in))
    (c.in_err-lists-2.ensures.gives clean (frame_in_grown i.goes.grows held inside.0) is_in there at (tuple_in_grown i.goes.grows there there_in))) clean (inside, tuples_in, first_in))

pub clauses::later_ranges-returns-clause-goes : goal.clauses::later_ranges-returns-clause-goes
clauses::later_ranges-returns-clause-goes g t c = c.loop-index.invariant.goes

pub clauses::later_ranges-returns-clause-gives : goal.clauses::later_ranges-returns-clause-gives
clauses::later_ranges-returns-clause-gives g t c = λ clean inside tuples_in first_in.
    let old = g.W.TreeSource.forest c.args.world.now in
    turns_end _ _ _ c.loop-index.invariant.turns (ap (map (tuple_at old)) (drop_all c.loop-index.index c.args.tuples.now (omega arith))) clean (inside, tuples_in, first_in)

-- # Group joins

pub clauses::next_tuples-returns-in_ok-bind-in-GroupJoin-clause-gives : goal.clauses::next_tuples-returns-in_ok-bind-in-GroupJoin-clause-gives
clauses::next_tuples-returns-in_ok-bind-in-GroupJoin-clause-gives g t c = λ clean inside tuples_in.
    let f = g.W.TreeSource.forest c.args.world.now in
    let held = c.args.frame in
    let frame = frame_at f held in
    let tuples = c.args.tuples in
    let f' = g.W.TreeSource.forest c.group_lists.new.world in
    let grows = c.in_ok-lists-in-GroupJoin.ensures.goes.grows in
    let lists = lists_of c.in_ok-lists-in-GroupJoin.lists in
    let values = c.in_ok-lists-in-GroupJoin.ensures.gives clean inside tuples_in in
    let stream : c.in_ok-bind-in-GroupJoin.field-0 ≡ bound tuples lists = c.in_ok-bind-in-GroupJoin.ensures.stream in
    let same : tuples_at f' c.in_ok-bind-in-GroupJoin.field-0 ≡ bound (tuples_at f tuples) (tuple_at f' lists) =
    ap (tuples_at f') stream ∙ bound_natural (item_at f') tuples lists ∙ ap (λ ts. bound ts (tuple_at f' lists)) (tuples_grown grows tuples tuples_in) in (
      subst (TuplesIn f') (sym stream) (bound_in f' tuples lists (tuples_in_grown grows tuples tuples_in) values.0),
      ap (λ k. plan_clause_mean k frame (tuples_at f tuples) f) c.in-GroupJoin.is ∙ ap (λ m. m frame (tuples_at f tuples) f) (clause-GroupJoin c.in-GroupJoin.range c.in-GroupJoin.join)
          ∙ ap (λ o. go_on o (λ ls. give (bound (tuples_at f tuples) ls))) values.1 ∙ ap (λ ts. (Ok ts, f')) (sym same),
    )

pub clauses::next_tuples-returns-in_err-lists-in-GroupJoin-clause-gives : goal.clauses::next_tuples-returns-in_err-lists-in-GroupJoin-clause-gives
clauses::next_tuples-returns-in_err-lists-in-GroupJoin-clause-gives g t c = λ clean inside tuples_in.
    let f = g.W.TreeSource.forest c.args.world.now in
    let held = c.args.frame in
    let frame = frame_at f held in
    let tuples = c.args.tuples in
    let f' = g.W.TreeSource.forest c.group_lists.new.world in
    let e = c.in_err-lists-in-GroupJoin.field-0.0 in
    let next = λ (values : List (List Item)). give (bound (tuples_at f tuples) values) in
    cut lists_of tuple_at TupleIn (λ (ts : List (Tuple ItemView)). ts) tuples_at TuplesIn (plan_clause_mean c.args.clause.now frame (tuples_at f tuples) f) (for_each (equal_items (plan_mean c.in-GroupJoin.range) c.in-GroupJoin.join frame) (tuples_at f tuples) f) next f' e c.from_residual-in_err-lists-in-GroupJoin.result
    (ap (λ k. plan_clause_mean k frame (tuples_at f tuples) f) c.in-GroupJoin.is ∙ ap (λ m. m frame (tuples_at f tuples) f) (clause-GroupJoin c.in-GroupJoin.range c.in-GroupJoin.join)) c.from_residual-in_err-lists-in-GroupJoin.ensures.1
    (c.in_err-lists-in-GroupJoin.ensures.gives clean inside tuples_in)

pub clauses::next_tuples-returns-in_err-lists-in-GroupJoin-clause-goes : goal.clauses::next_tuples-returns-in_err-lists-in-GroupJoin-clause-goes
clauses::next_tuples-returns-in_err-lists-in-GroupJoin-clause-goes g t c = c.in_err-lists-in-GroupJoin.ensures.goes

pub clauses::next_tuples-returns-in_err-bind-in-GroupJoin-clause-goes : goal.clauses::next_tuples-returns-in_err-bind-in-GroupJoin-clause-goes
clauses::next_tuples-returns-in_err-bind-in-GroupJoin-clause-goes g t c = c.in_ok-lists-in-GroupJoin.ensures.goes

pub clauses::next_tuples-returns-in_ok-bind-in-GroupJoin-clause-goes : goal.clauses::next_tuples-returns-in_ok-bind-in-GroupJoin-clause-goes
clauses::next_tuples-returns-in_ok-bind-in-GroupJoin-clause-goes g t c = c.in_ok-lists-in-GroupJoin.ensures.goes

pub groups::group_lists-returns-then-len-eq0-clause-goes : goal.groups::group_lists-returns-then-len-eq0-clause-goes
groups::group_lists-returns-then-len-eq0-clause-goes g t c = stays _ _

pub groups::group_lists-returns-then-len-eq0-clause-gives : goal.groups::group_lists-returns-then-len-eq0-clause-gives
groups::group_lists-returns-then-len-eq0-clause-gives g t c = λ clean inside tuples_in.
    groups_none (g.W.TreeSource.forest c.args.world.now) c.args.frame c.args.join.now (plan_mean c.args.range.now) c.args.tuples.now (lists_of c.new.result) (omega arith) (ap (map item_views) c.new.ensures.items)

pub groups::group_lists-returns-in_err-slots-clause-goes : goal.groups::group_lists-returns-in_err-slots-clause-goes
groups::group_lists-returns-in_err-slots-clause-goes g t c = stays _ _

pub groups::group_lists-returns-in_err-items-clause-goes : goal.groups::group_lists-returns-in_err-items-clause-goes
groups::group_lists-returns-in_err-items-clause-goes g t c = c.in_err-items.ensures.goes

pub groups::group_lists-returns-in_err-items-clause-gives : goal.groups::group_lists-returns-in_err-items-clause-gives
groups::group_lists-returns-in_err-items-clause-gives g t c = λ clean inside tuples_in.
    let f = g.W.TreeSource.forest c.args.world.now in
    let f' = g.W.TreeSource.forest c.at_tuple.new.world in
    let held = c.args.frame in
    let join = c.args.join.now in
    let range = plan_mean c.args.range.now in
    let tuples = c.args.tuples.now in
    let outside = values_of held.slots.now in
    let e = c.in_err-items.field-0.0 in
    let here = carried_at join.carried (outside ++ first_tuple tuples) in
    let first = c.tuple.ensures ∙ first_is tuples in
    let at : values_of c.deref.result.now ≡ outside ++ here = ap values_of c.deref.ensures.value ∙ c.in_ok-slots.ensures ∙ ap (λ u. outside ++ carried_at join.carried (outside ++ u)) first in
    let first_in = subst (TupleIn f) (first_is tuples) (all_index (TupleIn f) tuples 0 [] tuples_in (omega arith)) in
    let here_in = read_in f held join (first_tuple tuples) inside first_in in
    handed_on lists_of tuple_at TupleIn _ f' e c.from_residual-in_err-items.result c.from_residual-in_err-items.ensures.1
    (groups_stop f held join range tuples f' e (omega arith) (range_stops f held join range (first_tuple tuples) f' e (c.in_err-items.ensures.gives clean inside here at here_in)))

pub groups::group_lists-returns-in_err-lists-clause-goes : goal.groups::group_lists-returns-in_err-lists-clause-goes
groups::group_lists-returns-in_err-lists-clause-goes g t c = goes_on_to c.in_ok-items.ensures.goes (same_goes c.steady_groups.ensures.keeps c.steady_groups.ensures.was_clean)

pub groups::group_lists-returns-in-Some-clause-goes : goal.groups::group_lists-returns-in-Some-clause-goes
groups::group_lists-returns-in-Some-clause-goes g t c = goes_on_to c.in_ok-items.ensures.goes (same_goes c.steady_groups.ensures.keeps c.steady_groups.ensures.was_clean)

pub groups::group_lists-returns-in-Some-clause-gives : goal.groups::group_lists-returns-in-Some-clause-gives
groups::group_lists-returns-in-Some-clause-gives g t c = λ clean inside tuples_in.
    let f = g.W.TreeSource.forest c.args.world.now in
    let f' = g.W.TreeSource.forest c.at_tuple.new.world in
    let f1 = g.W.TreeSource.forest c.steady_groups.new.world in
    let held = c.args.frame in
    let join = c.args.join.now in
    let range = plan_mean c.args.range.now in
    let tuples = c.args.tuples.now in
    let outside = values_of held.slots.now in
    let here = carried_at join.carried (outside ++ first_tuple tuples) in
    let first = c.tuple.ensures ∙ first_is tuples in
    let at : values_of c.deref.result.now ≡ outside ++ here = ap values_of c.deref.ensures.value ∙ c.in_ok-slots.ensures ∙ ap (λ u. outside ++ carried_at join.carried (outside ++ u)) first in
    let first_in = subst (TupleIn f) (first_is tuples) (all_index (TupleIn f) tuples 0 [] tuples_in (omega arith)) in
    let here_in = read_in f held join (first_tuple tuples) inside first_in in
    let grows = c.in_ok-items.ensures.goes.grows in
    let views = item_views c.in_ok-items.items in
    let lists = c.in-Some.lists in
    let d : map item_view c.deref-2.result.now ≡ views = ap (map item_view) c.deref-2.ensures.value in
    let given = c.in_ok-items.ensures.gives (c.steady_groups.ensures.was_clean clean) inside here at here_in in
    let before = subst (λ (o : Option (Vec (Vec Item_held))). IfSome o (λ ls. length f' ≡ c.trees-trees.result)) c.in-Some.is c.in_ok-lists.ensures.before in
    let long : length f' ≡ length f = before ∙ c.trees-trees.ensures in
    groups_found f held join range views tuples (lists_of lists) f' f1 (no_more f f' grows long) c.steady_groups.ensures.keeps given.1
    (λ is. subst (λ (o : Option (Vec (Vec Item_held))). IfSome o (λ ls. TupleIn f' (lists_of ls) × (for_each (equal_items range join (frame_at f' held)) (tuples_at f' tuples) f' ≡ (Ok (tuple_at f' (lists_of ls)), f')))) c.in-Some.is
    (c.in_ok-lists.ensures.lists clean (frame_in_grown grows held inside) (tuples_in_grown grows tuples tuples_in) (subst (AreIn f') (sym d) given.0) range (is ∙ ap (λ xs. (Ok (items_at f' xs), f')) (sym d))))

pub groups::group_lists-returns-in-Some-clause-long : goal.groups::group_lists-returns-in-Some-clause-long
groups::group_lists-returns-in-Some-clause-long g t c =
    subst (λ (o : Option (Vec (Vec Item_held))). IfSome o (λ ls. length ls.items ≡ length c.args.tuples.now)) c.in-Some.is c.in_ok-lists.ensures.long

pub groups::group_lists-returns-in_err-first-clause-goes : goal.groups::group_lists-returns-in_err-first-clause-goes
groups::group_lists-returns-in_err-first-clause-goes g t c = goes_on_to (goes_on_to c.in_ok-items.ensures.goes (same_goes c.steady_groups.ensures.keeps c.steady_groups.ensures.was_clean)) c.in_err-first.ensures.goes

pub groups::group_lists-returns-clause-goes : goal.groups::group_lists-returns-clause-goes
groups::group_lists-returns-clause-goes g t c = goes_on_to (goes_on_to (goes_on_to c.in_ok-items.ensures.goes (same_goes c.steady_groups.ensures.keeps c.steady_groups.ensures.was_clean)) c.in_ok-first.ensures.goes) c.later_groups.ensures.goes

pub groups::group_lists-returns-in_err-first-clause-gives : goal.groups::group_lists-returns-in_err-first-clause-gives
groups::group_lists-returns-in_err-first-clause-gives g t c = λ clean inside tuples_in.
    let f = g.W.TreeSource.forest c.args.world.now in
    let f' = g.W.TreeSource.forest c.at_tuple.new.world in
    let f1 = g.W.TreeSource.forest c.steady_groups.new.world in
    let f2 = g.W.TreeSource.forest c.equal_among.new.world in
    let held = c.args.frame in
    let join = c.args.join.now in
    let range = plan_mean c.args.range.now in
    let tuples = c.args.tuples.now in
    let outside = values_of held.slots.now in
    let here = carried_at join.carried (outside ++ first_tuple tuples) in
    let first = c.tuple.ensures ∙ first_is tuples in
    let at : values_of c.deref.result.now ≡ outside ++ here = ap values_of c.deref.ensures.value ∙ c.in_ok-slots.ensures ∙ ap (λ u. outside ++ carried_at join.carried (outside ++ u)) first in
    let first_in = subst (TupleIn f) (first_is tuples) (all_index (TupleIn f) tuples 0 [] tuples_in (omega arith)) in
    let here_in = read_in f held join (first_tuple tuples) inside first_in in
    let grows = c.in_ok-items.ensures.goes.grows in
    let kept = c.steady_groups.ensures.keeps in
    let views = item_views c.in_ok-items.items in
    let ys = map item_view c.deref-3.result.now in
    let d : ys ≡ views = ap (map item_view) c.deref-3.ensures.value in
    let u = values_of c.tuple-2.result.now in
    let second : u ≡ first_tuple tuples = c.tuple-2.ensures ∙ first_is tuples in
    let e = c.in_err-first.field-0.0 in
    let clean1 = c.equal_among.ensures.goes.was_clean clean in
    let given = c.in_ok-items.ensures.gives (c.steady_groups.ensures.was_clean clean1) inside here at here_in in
    let now_in = subst (TupleIn f1) (sym second) (subst (λ t. TupleIn t (first_tuple tuples)) (sym kept) (tuple_in_grown grows (first_tuple tuples) first_in)) in
    let items_in = subst (AreIn f1) (sym d) (subst (λ t. AreIn t views) (sym kept) given.0) in
    let frame_in = subst (λ t. FrameIn t held) (sym kept) (frame_in_grown grows held inside) in
    handed_on lists_of tuple_at TupleIn _ f2 e c.from_residual-in_err-first.result c.from_residual-in_err-first.ensures.1
    (groups_stop f held join range tuples f2 e (omega arith)
    (subst (λ o. GivesSequence o f2 (Err e)) (sym (equal_is f held join range (first_tuple tuples) u views ys f' f1 grows inside first_in given.1 kept d second))
    (c.in_err-first.ensures.gives clean frame_in now_in items_in)))

pub groups::group_lists-returns-clause-gives : goal.groups::group_lists-returns-clause-gives
groups::group_lists-returns-clause-gives g t c = λ clean inside tuples_in.
    let f = g.W.TreeSource.forest c.args.world.now in
    let f' = g.W.TreeSource.forest c.at_tuple.new.world in
    let f1 = g.W.TreeSource.forest c.steady_groups.new.world in
    let f2 = g.W.TreeSource.forest c.equal_among.new.world in
    let f3 = g.W.TreeSource.forest c.later_groups.new.world in
    let held = c.args.frame in
    let join = c.args.join.now in
    let range = plan_mean c.args.range.now in
    let tuples = c.args.tuples.now in
    let outside = values_of held.slots.now in
    let here = carried_at join.carried (outside ++ first_tuple tuples) in
    let first = c.tuple.ensures ∙ first_is tuples in
    let at : values_of c.deref.result.now ≡ outside ++ here = ap values_of c.deref.ensures.value ∙ c.in_ok-slots.ensures ∙ ap (λ u. outside ++ carried_at join.carried (outside ++ u)) first in
    let first_in = subst (TupleIn f) (first_is tuples) (all_index (TupleIn f) tuples 0 [] tuples_in (omega arith)) in
    let here_in = read_in f held join (first_tuple tuples) inside first_in in
    let grows = c.in_ok-items.ensures.goes.grows in
    let kept = c.steady_groups.ensures.keeps in
    let views = item_views c.in_ok-items.items in
    let ys = map item_view c.deref-3.result.now in
    let d : ys ≡ views = ap (map item_view) c.deref-3.ensures.value in
    let u = values_of c.tuple-2.result.now in
    let second : u ≡ first_tuple tuples = c.tuple-2.ensures ∙ first_is tuples in
    let clean2 = c.later_groups.ensures.goes.was_clean clean in
    let clean1 = c.equal_among.ensures.goes.was_clean clean2 in
    let given = c.in_ok-items.ensures.gives (c.steady_groups.ensures.was_clean clean1) inside here at here_in in
    let now_in = subst (TupleIn f1) (sym second) (subst (λ t. TupleIn t (first_tuple tuples)) (sym kept) (tuple_in_grown grows (first_tuple tuples) first_in)) in
    let items_in = subst (AreIn f1) (sym d) (subst (λ t. AreIn t views) (sym kept) given.0) in
    let frame_in = subst (λ t. FrameIn t held) (sym kept) (frame_in_grown grows held inside) in
    let found = c.in_ok-first.ensures.gives clean2 frame_in now_in items_in in
    let more = extends_more (extends_more grows (same_goes kept c.steady_groups.ensures.was_clean).grows) c.in_ok-first.ensures.goes.grows in
    groups_later f held join range tuples (item_views c.in_ok-first.first) f2 f3 c.later_groups.result (omega arith) more inside tuples_in
    (equal_is f held join range (first_tuple tuples) u views ys f' f1 grows inside first_in given.1 kept d second ∙ found.1)
    (c.later_groups.ensures.gives clean (frame_in_grown more held inside) (tuples_in_grown more tuples tuples_in) found.0)

pub groups::later_groups-returns-in_err-lists-clause-goes : goal.groups::later_groups-returns-in_err-lists-clause-goes
groups::later_groups-returns-in_err-lists-clause-goes g t c = stays _ _

pub groups::later_groups-returns-in_err-push-clause-goes : goal.groups::later_groups-returns-in_err-push-clause-goes
groups::later_groups-returns-in_err-push-clause-goes g t c = stays _ _

pub groups::later_groups-loop-index-init : goal.groups::later_groups-loop-index-init
groups::later_groups-loop-index-init g t c =
    let old = g.W.TreeSource.forest c.args.world.now in
    let held = c.args.frame in
    let views = item_views c.args.first in
    let tuples = c.args.tuples.now in
    let act = one_more (equal_items (plan_mean c.args.range.now) c.args.join.now (frame_at old held)) in
    let pushed = c.in_ok-push.ensures.items ∙ ap (λ l. l ++ c.args.first ∷ []) c.in_ok-lists.ensures.items in
    let one : lists_of c.push.new.self ≡ views ∷ [] = ap (map item_views) pushed in
    record {
      goes = stays _ _;
      turns = record {
        rest = λ clean inside. (
          subst (TupleIn old) (sym one) (inside.2, tt),
          ap (λ ls. in_turn act (tuple_at old ls) (map (tuple_at old) (drop 1 tuples)) old) one
              ∙ ap (λ us. in_turn act (items_at old views ∷ []) us old) (sym (later_of (tuple_at old) tuples)),
        );
      };
      long = ap length pushed;
    }

pub groups::later_groups-loop-index-preserved : goal.groups::later_groups-loop-index-preserved
groups::later_groups-loop-index-preserved g t c =
    let i = c.loop-index.invariant in
    let old = g.W.TreeSource.forest c.args.world.now in
    let f = g.W.TreeSource.forest c.loop-index.world in
    let f' = g.W.TreeSource.forest c.next_group.new.world in
    let held = c.args.frame in
    let n = c.loop-index.index in
    let tuples = c.args.tuples.now in
    let x = values_of c.tuple.result.now in
    let lists = tuple_at f (lists_of c.loop-index.lists) in
    let act = λ (fr : Frame). one_more (equal_items (plan_mean c.args.range.now) c.args.join.now fr) in
    record {
      goes = goes_on_to i.goes c.next_group.ensures.goes;
      turns = turns_next _ _ _ (lists_of c.in_ok-lists-2.lists) (tuple_at old x) _ _ i.turns (left_at (tuple_at old) tuples n x [] (omega arith) c.tuple.ensures) c.next_group.ensures.goes.was_clean
          (λ clean inside is_in.
          let x_in = element (TupleIn old) tuples n x [] inside.1 (omega arith) c.tuple.ensures in
          let s = c.in_ok-lists-2.ensures.gives clean (frame_in_grown i.goes.grows held inside.0) is_in (tuple_in_grown i.goes.grows x x_in) in
          (s.0, ap (λ fr. act fr lists (tuple_at old x) f) (sym (frame_grown i.goes.grows held inside.0)) ∙ ap (λ y. act (frame_at f held) lists y f) (sym (tuple_grown i.goes.grows x x_in)) ∙ s.1));
      long = c.in_ok-lists-2.ensures.long ∙ ap suc i.long ∙ sym (add-one n);
    }

pub groups::later_groups-returns-in_err-lists-2-clause-goes : goal.groups::later_groups-returns-in_err-lists-2-clause-goes
groups::later_groups-returns-in_err-lists-2-clause-goes g t c = goes_on_to c.loop-index.invariant.goes c.in_err-lists-2.ensures.goes

pub groups::later_groups-returns-in_err-lists-2-clause-gives : goal.groups::later_groups-returns-in_err-lists-2-clause-gives
groups::later_groups-returns-in_err-lists-2-clause-gives g t c = λ clean inside tuples_in first_in.
    let i = c.loop-index.invariant in
    let old = g.W.TreeSource.forest c.args.world.now in
    let f = g.W.TreeSource.forest c.loop-index.world in
    let f' = g.W.TreeSource.forest c.next_group.new.world in
    let held = c.args.frame in
    let n = c.loop-index.index in
    let tuples = c.args.tuples.now in
    let x = values_of c.tuple.result.now in
    let lists = tuple_at f (lists_of c.loop-index.lists) in
    let act = λ (fr : Frame). one_more (equal_items (plan_mean c.args.range.now) c.args.join.now fr) in
    let e = c.in_err-lists-2.field-0.0 in
    handed_on lists_of tuple_at TupleIn _ f' e c.from_residual-in_err-lists-2.result c.from_residual-in_err-lists-2.ensures.1
    (turns_stop _ _ _ lists_of tuple_at TupleIn (tuple_at old x) _ f' e i.turns (left_at (tuple_at old) tuples n x [] (omega arith) c.tuple.ensures) c.next_group.ensures.goes.was_clean
    (λ clean inside is_in.
    let x_in = element (TupleIn old) tuples n x [] inside.1 (omega arith) c.tuple.ensures in
    subst (λ fr. GivesLists (act fr lists (tuple_at old x) f) f' (Err e)) (frame_grown i.goes.grows held inside.0)
    (subst (λ y. GivesLists (act (frame_at f held) lists y f) f' (Err e)) (tuple_grown i.goes.grows x x_in)
    (c.in_err-lists-2.ensures.gives clean (frame_in_grown i.goes.grows held inside.0) is_in (tuple_in_grown i.goes.grows x x_in)))) clean (inside, tuples_in, first_in))

pub groups::later_groups-returns-clause-goes : goal.groups::later_groups-returns-clause-goes
groups::later_groups-returns-clause-goes g t c = c.loop-index.invariant.goes

pub groups::later_groups-returns-clause-gives : goal.groups::later_groups-returns-clause-gives
groups::later_groups-returns-clause-gives g t c = λ clean inside tuples_in first_in.
    let old = g.W.TreeSource.forest c.args.world.now in
    turns_end _ _ _ c.loop-index.invariant.turns (ap (map (tuple_at old)) (drop_all c.loop-index.index c.args.tuples.now (omega arith))) clean (inside, tuples_in, first_in)

pub groups::next_group-returns-in_err-slots-clause-goes : goal.groups::next_group-returns-in_err-slots-clause-goes
groups::next_group-returns-in_err-slots-clause-goes g t c = stays _ _

pub groups::next_group-returns-in_err-items-clause-goes : goal.groups::next_group-returns-in_err-items-clause-goes
groups::next_group-returns-in_err-items-clause-goes g t c = c.in_err-items.ensures.goes

pub groups::next_group-returns-in_err-found-clause-goes : goal.groups::next_group-returns-in_err-found-clause-goes
groups::next_group-returns-in_err-found-clause-goes g t c = goes_on_to c.in_ok-items.ensures.goes c.in_err-found.ensures.goes

pub groups::next_group-returns-in_err-push-clause-goes : goal.groups::next_group-returns-in_err-push-clause-goes
groups::next_group-returns-in_err-push-clause-goes g t c = goes_on_to c.in_ok-items.ensures.goes c.in_ok-found.ensures.goes

pub groups::next_group-returns-clause-goes : goal.groups::next_group-returns-clause-goes
groups::next_group-returns-clause-goes g t c = goes_on_to c.in_ok-items.ensures.goes c.in_ok-found.ensures.goes

pub groups::next_group-returns-in_err-items-clause-gives : goal.groups::next_group-returns-in_err-items-clause-gives
groups::next_group-returns-in_err-items-clause-gives g t c = λ clean inside done_in tuple_in.
    let f = g.W.TreeSource.forest c.args.world.now in
    let f' = g.W.TreeSource.forest c.at_tuple.new.world in
    let held = c.args.frame in
    let join = c.args.join.now in
    let range = plan_mean c.args.range.now in
    let tuple = values_of c.args.tuple.now in
    let outside = values_of held.slots.now in
    let there = carried_at join.carried (outside ++ tuple) in
    let at : values_of c.deref.result.now ≡ outside ++ there = ap values_of c.deref.ensures.value ∙ c.in_ok-slots.ensures in
    let there_in = read_in f held join tuple inside tuple_in in
    let e = c.in_err-items.field-0.0 in
    handed_on lists_of tuple_at TupleIn _ f' e c.from_residual-in_err-items.result c.from_residual-in_err-items.ensures.1
    (go_on_stop item_views items_at AreIn lists_of tuple_at TupleIn (equal_items range join (frame_at f held) (tuple_at f tuple) f) (λ y. give (tuple_at f (lists_of c.args.done) ++ y ∷ [])) f' e
    (range_stops f held join range tuple f' e (c.in_err-items.ensures.gives clean inside there at there_in)))

pub groups::next_group-returns-in_err-found-clause-gives : goal.groups::next_group-returns-in_err-found-clause-gives
groups::next_group-returns-in_err-found-clause-gives g t c = λ clean inside done_in tuple_in.
    let f = g.W.TreeSource.forest c.args.world.now in
    let f' = g.W.TreeSource.forest c.at_tuple.new.world in
    let f'' = g.W.TreeSource.forest c.equal_among.new.world in
    let held = c.args.frame in
    let join = c.args.join.now in
    let range = plan_mean c.args.range.now in
    let tuple = values_of c.args.tuple.now in
    let outside = values_of held.slots.now in
    let there = carried_at join.carried (outside ++ tuple) in
    let at : values_of c.deref.result.now ≡ outside ++ there = ap values_of c.deref.ensures.value ∙ c.in_ok-slots.ensures in
    let there_in = read_in f held join tuple inside tuple_in in
    let grows = c.in_ok-items.ensures.goes.grows in
    let views = item_views c.in_ok-items.items in
    let ys = map item_view c.deref-2.result.now in
    let d : ys ≡ views = ap (map item_view) c.deref-2.ensures.value in
    let e = c.in_err-found.field-0.0 in
    let given = c.in_ok-items.ensures.gives (c.equal_among.ensures.goes.was_clean clean) inside there at there_in in
    let is = equal_is f held join range tuple tuple views ys f' f' grows inside tuple_in given.1 refl d refl in
    handed_on lists_of tuple_at TupleIn _ f'' e c.from_residual-in_err-found.result c.from_residual-in_err-found.ensures.1
    (go_on_stop item_views items_at AreIn lists_of tuple_at TupleIn (equal_items range join (frame_at f held) (tuple_at f tuple) f) (λ y. give (tuple_at f (lists_of c.args.done) ++ y ∷ [])) f'' e
    (subst (λ o. GivesSequence o f'' (Err e)) (sym is) (c.in_err-found.ensures.gives clean (frame_in_grown grows held inside) (tuple_in_grown grows tuple tuple_in) (subst (AreIn f') (sym d) given.0))))

pub groups::next_group-returns-clause-gives : goal.groups::next_group-returns-clause-gives
groups::next_group-returns-clause-gives g t c = λ clean inside done_in tuple_in.
    let f = g.W.TreeSource.forest c.args.world.now in
    let f' = g.W.TreeSource.forest c.at_tuple.new.world in
    let held = c.args.frame in
    let join = c.args.join.now in
    let range = plan_mean c.args.range.now in
    let tuple = values_of c.args.tuple.now in
    let outside = values_of held.slots.now in
    let there = carried_at join.carried (outside ++ tuple) in
    let at : values_of c.deref.result.now ≡ outside ++ there = ap values_of c.deref.ensures.value ∙ c.in_ok-slots.ensures in
    let there_in = read_in f held join tuple inside tuple_in in
    let grows = c.in_ok-items.ensures.goes.grows in
    let views = item_views c.in_ok-items.items in
    let ys = map item_view c.deref-2.result.now in
    let d : ys ≡ views = ap (map item_view) c.deref-2.ensures.value in
    let given = c.in_ok-items.ensures.gives (c.equal_among.ensures.goes.was_clean clean) inside there at there_in in
    let is = equal_is f held join range tuple tuple views ys f' f' grows inside tuple_in given.1 refl d refl in
    let found = c.in_ok-found.ensures.gives clean (frame_in_grown grows held inside) (tuple_in_grown grows tuple tuple_in) (subst (AreIn f') (sym d) given.0) in
    list_next (equal_items range join (frame_at f held)) (lists_of c.args.done) (item_views c.in_ok-found.found) (lists_of c.push.new.self) (tuple_at f tuple) _ _
    (extends_more grows c.in_ok-found.ensures.goes.grows) done_in (found.0, is ∙ found.1) (ap (map item_views) c.in_ok-push.ensures.items ∙ map-append item_views c.args.done.items (c.in_ok-found.found ∷ []))
