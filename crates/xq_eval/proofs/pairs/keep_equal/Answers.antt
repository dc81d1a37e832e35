use Rattle.std.proofs.Common.{◌≡◌, ◌++◌, ◌+◌, ◌∷◌, [], ◌∙◌, ap, sym, subst, refl, arith, length, map, drop, add-one, suc, List, Bool, Ok, Err}
use Rattle.std.specs.Global.{Vec}
use Rattle.std.proofs.lemmas.List.{drop_all, length-append}
use Rattle.xq_trees.specs.Items.{ItemView}
use Rattle.xq_trees.specs.Tuples.{Tuple, satisfying}
use Rattle.xq_tuples.specs.Views.{values_of}
use Rattle.xq_meaning.specs.Items.{Item}
use Rattle.xq_meaning.specs.Doing.{go_on, give, in_turn, one_more, for_each}
use Rattle.xq_meaning.specs.Forms as Forms
use Rattle.xq_meaning.specs.PlanMeaning.{Frame, at_tuple, keys_equal}
use Rattle.xq_operators.specs.Views.{tuple_at, tuples_at, frame_at, TupleIn, TuplesIn}
use Rattle.xq_operators.proofs.Growth.{stays, goes_on_to, frame_grown, frame_in_grown, tuple_grown, tuple_in_grown, tuples_grown, tuples_in_grown}
use Rattle.xq_operators.proofs.Natural.{kept_natural}
use Rattle.xq_eval.specs.private.Results.{GivesTests}
use Rattle.xq_eval.proofs.JoinLaws.{plainly, plainly_in}
use Rattle.xq_eval.proofs.Loops.{turns_next, turns_stop, turns_end, handed_on}
use Rattle.xq_eval.proofs.Steps.{left_at, element, kept_in, go_on_stop, same_tests, any_tests}
use Rattle.xq_eval.proofs.pairs.keep_equal.Goals as goal

pub loop-index-init : goal.loop-index-init
loop-index-init g c =
    let old = g.W.TreeSource.forest c.args.world.now in
    let tuples = c.args.tuples in
    let act = λ (t : Tuple Item). Forms.tested (keys_equal c.args.join.now) (at_tuple (frame_at old c.args.frame) t) in
    let none : c.in_ok-tests.tests.items ≡ [] = c.in_ok-tests.ensures.items in
    record {
      goes = stays _ _;
      turns = record { rest = λ clean inside. subst (λ bs. Unit {0} × (in_turn (one_more act) bs (tuples_at old tuples) old ≡ for_each act (tuples_at old tuples) old)) (sym none) (tt, refl) };
      long = ap length none;
    }

pub loop-index-preserved : goal.loop-index-preserved
loop-index-preserved g c =
    let i = c.loop-index.invariant in
    let old = g.W.TreeSource.forest c.args.world.now in
    let f = g.W.TreeSource.forest c.loop-index.world in
    let f' = g.W.TreeSource.forest c.are_equal.new.world in
    let held = c.args.frame in
    let n = c.loop-index.index in
    let tuples = c.args.tuples in
    let x = values_of c.tuple.result.now in
    let tests = c.loop-index.tests.items in
    let answer = c.in_ok-are_equal.field-0 in
    let pushed = c.in_ok-push.ensures.items in
    let act = λ (fr : Frame). one_more (λ t. Forms.tested (keys_equal c.args.join.now) (at_tuple fr t)) in
    record {
      goes = goes_on_to i.goes c.are_equal.ensures.goes;
      turns = turns_next same_tests any_tests (act (frame_at old held)) c.push.new.self.items (tuple_at old x) (map (tuple_at old) (drop (n + 1) tuples)) f' i.turns (left_at (tuple_at old) tuples n x [] (omega arith) c.tuple.ensures) c.are_equal.ensures.goes.was_clean
          (λ clean inside is_in.
          let x_in = element (TupleIn old) tuples n x [] inside.1 (omega arith) c.tuple.ensures in
          let s = c.in_ok-are_equal.ensures.gives clean (frame_in_grown i.goes.grows held inside.0) (tuple_in_grown i.goes.grows x x_in) in (
            tt,
            ap (λ fr. act fr tests (tuple_at old x) f) (sym (frame_grown i.goes.grows held inside.0)) ∙ ap (λ y. act (frame_at f held) tests y f) (sym (tuple_grown i.goes.grows x x_in))
                ∙ ap (λ o. go_on o (λ b. give (tests ++ b ∷ []))) s.1 ∙ ap (λ bs. (Ok bs, f')) (sym pushed),
          ));
      long = omega (arith, ap length pushed, length-append tests (answer ∷ []), i.long);
    }

pub returns-in_err-tests-clause-goes : goal.returns-in_err-tests-clause-goes
returns-in_err-tests-clause-goes g c = stays _ _

pub returns-in_err-are_equal-clause-goes : goal.returns-in_err-are_equal-clause-goes
returns-in_err-are_equal-clause-goes g c = goes_on_to c.loop-index.invariant.goes c.in_err-are_equal.ensures.goes

pub returns-in_err-push-clause-goes : goal.returns-in_err-push-clause-goes
returns-in_err-push-clause-goes g c = goes_on_to c.loop-index.invariant.goes c.in_ok-are_equal.ensures.goes

pub returns-in_err-are_equal-clause-gives : goal.returns-in_err-are_equal-clause-gives
returns-in_err-are_equal-clause-gives g c = λ clean inside tuples_in.
    let i = c.loop-index.invariant in
    let old = g.W.TreeSource.forest c.args.world.now in
    let f = g.W.TreeSource.forest c.loop-index.world in
    let f' = g.W.TreeSource.forest c.are_equal.new.world in
    let held = c.args.frame in
    let n = c.loop-index.index in
    let tuples = c.args.tuples in
    let x = values_of c.tuple.result.now in
    let tests = c.loop-index.tests.items in
    let e = c.in_err-are_equal.field-0.0 in
    let view = λ (v : Vec Bool). v.items in
    let at = λ (fr : Frame) (t : Tuple Item). Forms.tested (keys_equal c.args.join.now) (at_tuple fr t) in
    let more = λ (b : Bool). give (tests ++ b ∷ []) in
    handed_on (λ (ts : List (Tuple ItemView)). ts) tuples_at TuplesIn _ f' e c.from_residual-in_err-are_equal.result c.from_residual-in_err-are_equal.ensures.1
    (go_on_stop view same_tests any_tests (λ (ts : List (Tuple ItemView)). ts) tuples_at TuplesIn (for_each (at (frame_at old held)) (tuples_at old tuples) old) (λ bs. give (satisfying (tuples_at old tuples) bs)) f' e
    (turns_stop same_tests any_tests (one_more (at (frame_at old held))) view same_tests any_tests (tuple_at old x) (map (tuple_at old) (drop (n + 1) tuples)) f' e i.turns (left_at (tuple_at old) tuples n x [] (omega arith) c.tuple.ensures) c.are_equal.ensures.goes.was_clean
    (λ clean inside is_in.
    let x_in = element (TupleIn old) tuples n x [] inside.1 (omega arith) c.tuple.ensures in
    subst (λ fr. GivesTests (go_on (at fr (tuple_at old x) f) more) f' (Err e)) (frame_grown i.goes.grows held inside.0)
    (subst (λ y. GivesTests (go_on (at (frame_at f held) y f) more) f' (Err e)) (tuple_grown i.goes.grows x x_in)
    (go_on_stop (λ (b : Bool). b) plainly plainly_in view same_tests any_tests (at (frame_at f held) (tuple_at f x) f) more f' e
    (c.in_err-are_equal.ensures.gives clean (frame_in_grown i.goes.grows held inside.0) (tuple_in_grown i.goes.grows x x_in))))) clean (inside, tuples_in)))

pub returns-clause-goes : goal.returns-clause-goes
returns-clause-goes g c = c.loop-index.invariant.goes

pub returns-clause-gives : goal.returns-clause-gives
returns-clause-gives g c = λ clean inside tuples_in.
    let i = c.loop-index.invariant in
    let f = g.W.TreeSource.forest c.args.world.now in
    let f' = g.W.TreeSource.forest c.loop-index.world in
    let tuples = c.args.tuples in
    let tests = c.loop-index.tests.items in
    let act = λ (t : Tuple Item). Forms.tested (keys_equal c.args.join.now) (at_tuple (frame_at f c.args.frame) t) in
    let values = turns_end same_tests any_tests (one_more act) i.turns (ap (map (tuple_at f)) (drop_all c.loop-index.index tuples (omega arith))) clean (inside, tuples_in) in
    let stream : c.keep.result ≡ satisfying tuples tests = c.keep.ensures ∙ ap (satisfying tuples) c.deref.ensures.value in
    let same : tuples_at f' c.keep.result ≡ satisfying (tuples_at f tuples) tests =
    ap (tuples_at f') stream ∙ kept_natural (tuple_at f') tuples tests ∙ ap (λ ts. satisfying ts tests) (tuples_grown i.goes.grows tuples tuples_in) in (
      subst (TuplesIn f') (sym stream) (kept_in f' tuples tests (tuples_in_grown i.goes.grows tuples tuples_in)),
      ap (λ o. go_on o (λ bs. give (satisfying (tuples_at f tuples) bs))) values.1 ∙ ap (λ ts. (Ok ts, f')) (sym same),
    )
