use Rattle.std.proofs.Common.{◌≡◌, ◌∙◌, ap, sym, subst, refl, map, length, replicate, false, List, Option, Ok}
use Rattle.std.specs.Prelude.{IfSome}
use Rattle.std.specs.Global.{Vec}
use Rattle.xq_trees.specs.declared.items.Item.{Item as Held}
use Rattle.xq_trees.specs.Items.{ItemView, Value, item_view, item_views}
use Rattle.xq_trees.specs.Tree.{Tree}
use Rattle.xq_trees.specs.Tuples.{Tuple, expanded}
use Rattle.xq_tuples.specs.Views.{values_of}
use Rattle.xq_meaning.specs.Forms as Forms
use Rattle.xq_meaning.specs.PlanMeaning.{at_tuple, keys_equal}
use Rattle.xq_meaning.specs.Readings.{AreIn}
use Rattle.xq_operators.specs.Views.{tuples_at, lists_of, frame_at, FrameIn, TuplesIn, GivesTuples}
use Rattle.xq_operators.proofs.Growth.{goes_on_to}
use Rattle.xq_joins.specs.Joins.{all_pairs, Matches}
use Rattle.xq_eval.proofs.JoinLaws.{same_count, all_same_in}
use Rattle.xq_eval.proofs.Steps.{expanded_in, same_goes}
use Rattle.xq_eval.proofs.pairs.with_equal.Goals as goal

pub returns-in_err-lists-clause-goes : goal.returns-in_err-lists-clause-goes
returns-in_err-lists-clause-goes g c = same_goes c.matching.ensures.keeps c.matching.ensures.was_clean

pub returns-in_err-expand-clause-goes : goal.returns-in_err-expand-clause-goes
returns-in_err-expand-clause-goes g c = same_goes c.matching.ensures.keeps c.matching.ensures.was_clean

pub returns-in-Some-clause-goes : goal.returns-in-Some-clause-goes
returns-in-Some-clause-goes g c = same_goes c.matching.ensures.keeps c.matching.ensures.was_clean

pub returns-in-Some-clause-gives : goal.returns-in-Some-clause-gives
returns-in-Some-clause-gives g c = λ clean inside tuples_in items_in.
    let f = g.W.TreeSource.forest c.args.world.now in
    let held = c.args.frame in
    let frame = frame_at f held in
    let join = c.args.join.now in
    let outside = values_of held.slots.now in
    let tuples = c.args.tuples in
    let views = item_views c.args.items in
    let lists = lists_of c.in-Some.lists in
    let pairs = c.in_ok-expand.field-0 in
    let d : map item_view c.deref.result.now ≡ views = ap (map item_view) c.deref.ensures.value in
    let found = subst (λ xs. IfSome c.in_ok-lists.field-0 (λ ls. Matches f join outside tuples xs (lists_of ls))) d
    (c.in_ok-lists.ensures.lists clean inside.slots_in tuples_in (subst (AreIn f) (sym d) items_in)) in
    let match : Matches f join outside tuples views lists = subst (λ (o : Option (Vec (Vec Held))). IfSome o (λ ls. Matches f join outside tuples views (lists_of ls))) c.in-Some.is found in
    let stream : pairs ≡ expanded Value false false tuples lists = c.in_ok-expand.ensures.stream in
    subst (λ (t : List Tree). GivesTuples (Forms.where_tuples (keys_equal join) (at_tuple frame) (tuples_at f (all_pairs tuples views)) f) t (Ok pairs)) (sym c.matching.ensures.keeps) (
      subst (TuplesIn f) (sym stream) (expanded_in f false false tuples lists tuples_in match.inside),
      match.gives frame refl ∙ ap (λ ts. (Ok (tuples_at f ts), f)) (sym stream),
    )

pub returns-in_err-lists-2-clause-goes : goal.returns-in_err-lists-2-clause-goes
returns-in_err-lists-2-clause-goes g c = same_goes c.matching.ensures.keeps c.matching.ensures.was_clean

pub returns-in_err-pairs-clause-goes : goal.returns-in_err-pairs-clause-goes
returns-in_err-pairs-clause-goes g c = same_goes c.matching.ensures.keeps c.matching.ensures.was_clean

pub returns-clause-goes : goal.returns-clause-goes
returns-clause-goes g c = goes_on_to (same_goes c.matching.ensures.keeps c.matching.ensures.was_clean) c.keep_equal.ensures.goes

pub returns-clause-gives : goal.returns-clause-gives
returns-clause-gives g c = λ clean inside tuples_in items_in.
    let f = g.W.TreeSource.forest c.args.world.now in
    let f' = g.W.TreeSource.forest c.keep_equal.new.world in
    let held = c.args.frame in
    let join = c.args.join.now in
    let tuples = c.args.tuples in
    let views = item_views c.args.items in
    let pairs = c.in_ok-pairs.pairs in
    let d : map item_view c.deref-2.result.now ≡ views = ap (map item_view) c.deref-2.ensures.value in
    let lists : lists_of c.in_ok-lists-2.lists ≡ map (λ (t : Tuple ItemView). views) tuples =
    c.in_ok-lists-2.ensures.lists ∙ ap (replicate c.len.result) d ∙ ap (λ n. replicate n views) c.len.ensures ∙ same_count tuples views in
    let is : pairs ≡ all_pairs tuples views = c.in_ok-pairs.ensures.stream ∙ ap (expanded Value false false tuples) lists in
    let pairs_in = subst (TuplesIn f) (sym is) (expanded_in f false false tuples (map (λ t. views) tuples) tuples_in (all_same_in f views tuples items_in)) in
    subst (λ ps. GivesTuples (Forms.where_tuples (keys_equal join) (at_tuple (frame_at f held)) (tuples_at f ps) f) f' c.keep_equal.result) is
    (subst (λ (t : List Tree). FrameIn t held → TuplesIn t pairs → GivesTuples (Forms.where_tuples (keys_equal join) (at_tuple (frame_at t held)) (tuples_at t pairs) t) f' c.keep_equal.result) c.matching.ensures.keeps
    (λ a b. c.keep_equal.ensures.gives clean a b) inside pairs_in)
