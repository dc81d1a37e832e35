use Rattle.std.proofs.Common.{◌≡◌, ◌++◌, ◌∷◌, [], ◌∙◌, ap, sym, subst, refl, arith, length, map, take, List, Err}
use Rattle.std.proofs.lemmas.List.{drop_all, length-map, take_at, take_all}
use Rattle.xq_trees.specs.declared.items.Item.{Item as HeldItem}
use Rattle.xq_trees.specs.Items.{item_view, item_views}
use Rattle.xq_tuples.specs.Views.{slot_items, values_of}
use Rattle.xq_tuples.proofs.Copies.{values_of-clones}
use Rattle.xq_meaning.specs.Doing.{give, in_turn, more, collected}
use Rattle.xq_meaning.specs.Forms as Forms
use Rattle.xq_meaning.specs.PlanMeaning.{at_tuple, keys_equal, if_equal}
use Rattle.xq_meaning.specs.Readings.{item_at, items_at, IsIn, AreIn}
use Rattle.xq_operators.specs.Views.{tuple_at, frame_at, TupleIn}
use Rattle.xq_operators.proofs.Lists.{all_at}
use Rattle.xq_operators.proofs.Growth.{stays, goes_on_to, frame_in_grown, tuple_in_grown}
use Rattle.xq_eval.specs.private.Results.{GivesPlain}
use Rattle.xq_eval.proofs.GroupLaws.{row_in, kept_one, kept_stops}
use Rattle.xq_eval.proofs.Loops.{left_over, turns_next, turns_stop, turns_end, handed_on}
use Rattle.xq_eval.proofs.Steps.{more_next, go_on_stop}
use Rattle.xq_eval.proofs.groups.equal_among.Goals as goal

pub loop-item-init : goal.loop-item-init
loop-item-init g c =
    let old = g.W.TreeSource.forest c.args.world.now in
    let tuple = values_of c.args.tuple.now in
    let items = map item_view c.args.items.now in
    let none : item_views c.new-found.result ≡ [] = ap (map item_view) c.new-found.ensures.items in
    let long = length-map c.args.tuple.now slot_items in
    let act = if_equal c.args.join.now (frame_at old c.args.frame) (tuple_at old tuple) in
    record {
      goes = stays _ _;
      turns = record { rest = λ clean inside. subst (λ xs. AreIn old xs × (in_turn (more act) (items_at old xs) (items_at old items) old ≡ collected act (items_at old items) old)) (sym none) (tt, refl) };
      in_slots = ap (take (length c.args.tuple.now)) (values_of-clones c.args.tuple.now c.in_ok-slots.slots.items c.in_ok-slots.ensures.ok) ∙ take_all (length c.args.tuple.now) tuple (omega (arith, long));
    }

pub loop-item-preserved : goal.loop-item-preserved
loop-item-preserved g c =
    let i = c.loop-item.invariant in
    let old = g.W.TreeSource.forest c.args.world.now in
    let f = g.W.TreeSource.forest c.loop-item.world in
    let f' = g.W.TreeSource.forest c.are_equal.new.world in
    let held = c.args.frame in
    let join = c.args.join.now in
    let n = c.loop-item.item-index in
    let items = c.args.items.now in
    let item = c.item-item.result in
    let x = item_view item in
    let tuple = values_of c.args.tuple.now in
    let at : values_of c.deref.result.now ≡ tuple ++ (x ∷ []) ∷ [] = ap values_of c.deref.ensures.value ∙ c.in_ok-rebind.ensures ∙ ap (λ s. s ++ (x ∷ []) ∷ []) i.in_slots in
    let keep = c.in_ok-keep.keep in
    let act = if_equal join (frame_at old held) (tuple_at old tuple) in
    record {
      goes = goes_on_to i.goes c.are_equal.ensures.goes;
      turns = turns_next _ _ _ (item_views c.in_ok-found.found) (item_at old x) _ _ i.turns (ap (items_at old) (left_over item_view items n item (omega arith) c.item-item.is)) c.are_equal.ensures.goes.was_clean
          (λ clean inside is_in.
          let x_in = all_at (IsIn old) item_view items n item inside.2 (omega arith) c.item-item.is in
          let grows = i.goes.grows in
          let more_trees = c.are_equal.ensures.goes.grows in
          let there_in = tuple_in_grown grows (tuple ++ (x ∷ []) ∷ []) (row_in old f grows held join inside.0 tuple inside.1 x x_in) in
          let s = c.in_ok-keep.ensures.gives clean (frame_in_grown grows held inside.0) (subst (TupleIn f) (sym at) there_in) in
          let is = ap (λ t. Forms.tested (keys_equal join) (at_tuple (frame_at f held) (tuple_at f t)) f) (sym at) ∙ s.1 in
          more_next act (item_views c.loop-item.found) (Forms.kept_if x keep) (item_views c.in_ok-found.found) (item_at old x) f f' more_trees is_in
          (kept_one old f grows held join inside.0 tuple inside.1 x x_in f' keep more_trees is) c.in_ok-found.ensures);
      in_slots =
          ap (take (length c.args.tuple.now)) (c.in_ok-rebind.ensures ∙ ap (λ s. s ++ (x ∷ []) ∷ []) i.in_slots)
          ∙ take_at tuple ((x ∷ []) ∷ []) (length c.args.tuple.now) (length-map c.args.tuple.now slot_items);
    }

pub returns-in_err-slots-clause-goes : goal.returns-in_err-slots-clause-goes
returns-in_err-slots-clause-goes g c = stays _ _

pub returns-in_err-rebind-clause-goes : goal.returns-in_err-rebind-clause-goes
returns-in_err-rebind-clause-goes g c = c.loop-item.invariant.goes

pub returns-in_err-keep-clause-goes : goal.returns-in_err-keep-clause-goes
returns-in_err-keep-clause-goes g c = goes_on_to c.loop-item.invariant.goes c.in_err-keep.ensures.goes

pub returns-in_err-found-clause-goes : goal.returns-in_err-found-clause-goes
returns-in_err-found-clause-goes g c = goes_on_to c.loop-item.invariant.goes c.in_ok-keep.ensures.goes

pub returns-in_err-keep-clause-gives : goal.returns-in_err-keep-clause-gives
returns-in_err-keep-clause-gives g c = λ clean inside tuple_in items_in.
    let i = c.loop-item.invariant in
    let old = g.W.TreeSource.forest c.args.world.now in
    let f = g.W.TreeSource.forest c.loop-item.world in
    let f' = g.W.TreeSource.forest c.are_equal.new.world in
    let held = c.args.frame in
    let join = c.args.join.now in
    let n = c.loop-item.item-index in
    let items = c.args.items.now in
    let item = c.item-item.result in
    let x = item_view item in
    let tuple = values_of c.args.tuple.now in
    let at : values_of c.deref.result.now ≡ tuple ++ (x ∷ []) ∷ [] = ap values_of c.deref.ensures.value ∙ c.in_ok-rebind.ensures ∙ ap (λ s. s ++ (x ∷ []) ∷ []) i.in_slots in
    let act = if_equal join (frame_at old held) (tuple_at old tuple) in
    let done = items_at f (item_views c.loop-item.found) in
    let e = c.in_err-keep.field-0.0 in
    handed_on item_views items_at AreIn _ f' e c.from_residual-in_err-keep.result c.from_residual-in_err-keep.ensures.1
    (turns_stop _ _ _ item_views items_at AreIn (item_at old x) _ f' e i.turns (ap (items_at old) (left_over item_view items n item (omega arith) c.item-item.is)) c.are_equal.ensures.goes.was_clean
    (λ clean inside is_in.
    let x_in = all_at (IsIn old) item_view items n item inside.2 (omega arith) c.item-item.is in
    let grows = i.goes.grows in
    let there_in = tuple_in_grown grows (tuple ++ (x ∷ []) ∷ []) (row_in old f grows held join inside.0 tuple inside.1 x x_in) in
    let s = subst (λ t. GivesPlain (Forms.tested (keys_equal join) (at_tuple (frame_at f held) (tuple_at f t)) f) f' (Err e)) at
    (c.in_err-keep.ensures.gives clean (frame_in_grown grows held inside.0) (subst (TupleIn f) (sym at) there_in)) in
    go_on_stop item_views items_at AreIn item_views items_at AreIn (act (item_at old x) f) (λ ys. give (done ++ ys)) f' e
    (kept_stops old f grows held join inside.0 tuple inside.1 x x_in f' e s)) clean (inside, tuple_in, items_in))

pub returns-clause-goes : goal.returns-clause-goes
returns-clause-goes g c = c.loop-item.invariant.goes

pub returns-clause-gives : goal.returns-clause-gives
returns-clause-gives g c = λ clean inside tuple_in items_in.
    let old = g.W.TreeSource.forest c.args.world.now in
    turns_end _ _ _ c.loop-item.invariant.turns (ap (λ (xs : List HeldItem). items_at old (map item_view xs)) (drop_all c.loop-item.item-index c.args.items.now (omega arith))) clean (inside, tuple_in, items_in)
