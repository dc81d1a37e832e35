use Rattle.std.proofs.Common.{◌≡◌, ◌∙◌, ap, sym, subst, map, rules, not, Bool, Ok}
use Rattle.std.specs.Prelude.{IfSome}
use Rattle.xq_trees.specs.Items.{item_view, item_views}
use Rattle.xq_tuples.specs.Views.{values_of}
use Rattle.xq_meaning.specs.PlanMeaning.{Frame}
use Rattle.xq_meaning.specs.Readings.{items_at, AreIn}
use Rattle.xq_operators.specs.Views.{tuple_at}
use Rattle.xq_joins.specs.Keyed.{first_with}
use Rattle.xq_eval.proofs.quantified.undecided.Goals as goal

pub returns-in_default-clause-left : goal.returns-in_default-clause-left
returns-in_default-clause-left g c = λ k inside items_in frame env.
    let f = g.W.TreeSource.forest c.args.world.now in
    let held : item_views c.in_ok-new.field-0.value ≡ item_views c.args.items = ap item_views c.in_ok-new.ensures.ok in
    (subst (AreIn f) (sym held) items_in, ap (λ ys. first_with c.args.wanted c.args.test.now (items_at f ys) frame f) (sym held))

pub returns-then-answer-wanted-clause-left : goal.returns-then-answer-wanted-clause-left
returns-then-answer-wanted-clause-left g c = λ k inside items_in frame env.
    let f = g.W.TreeSource.forest c.args.world.now in
    let xs = map item_view c.as_slice.result.now in
    let views : xs ≡ item_views c.args.items = ap (map item_view) c.as_slice.ensures.value in
    let p = c.args.test.now in
    let wanted = c.args.wanted in
    let answer = c.in-Some.answer in
    let same : answer ≡ wanted = search rules in
    let told = subst (λ r. IfSome r (λ (b : Bool). (fr : Frame) → fr.env ≡ tuple_at f (values_of c.args.slots.now) → first_with wanted p (items_at f xs) fr f ≡ (Ok b, f))) c.in-Some.is (c.in_ok-decided.ensures.answer k inside (subst (AreIn f) (sym views) items_in)) in
    ap (λ ys. first_with wanted p (items_at f ys) frame f) (sym views) ∙ told frame env ∙ ap (λ b. (Ok b, f)) same

pub returns-clause-left : goal.returns-clause-left
returns-clause-left g c = λ k inside items_in frame env.
    let f = g.W.TreeSource.forest c.args.world.now in
    let xs = map item_view c.as_slice.result.now in
    let views : xs ≡ item_views c.args.items = ap (map item_view) c.as_slice.ensures.value in
    let p = c.args.test.now in
    let wanted = c.args.wanted in
    let answer = c.in-Some.answer in
    let other : answer ≡ not wanted = search rules in
    let told = subst (λ r. IfSome r (λ (b : Bool). (fr : Frame) → fr.env ≡ tuple_at f (values_of c.args.slots.now) → first_with wanted p (items_at f xs) fr f ≡ (Ok b, f))) c.in-Some.is (c.in_ok-decided.ensures.answer k inside (subst (AreIn f) (sym views) items_in)) in
    let held = ap item_views c.in_ok-new-2.ensures.ok ∙ ap (map item_view) c.new-2.ensures.items in (
      subst (AreIn f) (sym held) tt,
      ap (λ ys. first_with wanted p (items_at f ys) frame f) (sym views)
          ∙ told frame env
          ∙ ap (λ b. (Ok b, f)) other
          ∙ ap (λ ys. first_with wanted p (items_at f ys) frame f) (sym held),
    )
