use Rattle.std.proofs.Common.{◌≡◌, ◌∙◌, ap, sym, subst, map, List}
use Rattle.std.specs.Prelude.{filter}
use Rattle.xq_trees.specs.declared.Axis.TheVariants.{Child}
use Rattle.xq_trees.specs.Items.{item_view, item_views}
use Rattle.xq_meaning.specs.Forms as Forms
use Rattle.xq_meaning.specs.Items.{Item}
use Rattle.xq_meaning.specs.PlanMeaning.{plan_mean}
use Rattle.xq_meaning.specs.Readings.{items_at, AreIn}
use Rattle.xq_operators.proofs.Growth.{goes_on_to}
use Rattle.xq_joins.specs.Equalities.{leads_to_text, passes_text, IsTreeAt}
use Rattle.xq_joins.proofs.Kept.{items_in_trees}
use Rattle.xq_eval.proofs.ChildSteps.{child_step_is}
use Rattle.xq_eval.proofs.Loops.{cut}
use Rattle.xq_eval.proofs.Steps.{same_goes}
use Rattle.xq_eval.proofs.TextSteps.{child_scan_tested}
use Rattle.xq_eval.proofs.texts.children_by_value.Goals as goal

pub returns-clause-gives : goal.returns-clause-gives
returns-clause-gives g c = λ clean items_in nodes slots p frame is env.
    let f = g.W.TreeSource.forest c.args.world.now in
    let f1 = g.W.TreeSource.forest c.scan.new.world in
    let f2 = g.W.TreeSource.forest c.keep_by_text.new.source in
    let test = c.args.step.predicate in
    let of = c.args.step.test.now in
    let views = map item_view c.args.items.now in
    let found = item_views c.in_ok-found.found in
    let first = c.in_ok-found.ensures.gives (c.keep_by_text.ensures.was_clean clean) items_in in
    let d : map item_view c.deref.result.now ≡ found = ap (map item_view) c.deref.ensures.value in
    let kept : item_views c.in_ok-keep_by_text.field-0 ≡ filter (passes_text f1 test) found =
    c.in_ok-keep_by_text.ensures.kept clean (subst (AreIn f1) (sym d) first.0) ∙ ap (filter (passes_text f1 test)) d in
    let tested = child_scan_tested IsTreeAt (λ t. leads_to_text t test) slots p f f1 f2 (is f) frame env of (items_at f views) (items_in_trees (IsTreeAt f) f views nodes) found (item_views c.in_ok-keep_by_text.field-0) first kept
    c.keep_by_text.ensures.keeps in
    (tested.0, child_step_is f slots (IsTreeAt f) (leads_to_text f test) p (is f) frame env of views nodes ∙ tested.1)

pub returns-in_err-found-clause-gives : goal.returns-in_err-found-clause-gives
returns-in_err-found-clause-gives g c = λ clean items_in nodes slots p frame is env.
    let f = g.W.TreeSource.forest c.args.world.now in
    let f1 = g.W.TreeSource.forest c.scan.new.world in
    let of = c.args.step.test.now in
    let views = map item_view c.args.items.now in
    let next = λ (ys : List Item). Forms.filtered frame ys (plan_mean p) in
    cut item_views items_at AreIn item_views items_at AreIn _ (Forms.scan Child of (items_at f views) f) next f1 c.in_err-found.field-0.0 c.from_residual.result
    (child_step_is f slots (IsTreeAt f) (leads_to_text f c.args.step.predicate) p (is f) frame env of views nodes) c.from_residual.ensures.1 (c.in_err-found.ensures.gives clean items_in)

pub returns-clause-goes : goal.returns-clause-goes
returns-clause-goes g c = goes_on_to c.in_ok-found.ensures.goes (same_goes c.keep_by_text.ensures.keeps c.keep_by_text.ensures.was_clean)
