use Rattle.std.proofs.Common.{◌≡◌, ◌∙◌, refl, ap, sym, subst, map, List}
use Rattle.std.specs.Prelude.{filter}
use Rattle.xq_trees.specs.Items.{item_view, item_views}
use Rattle.xq_meaning.specs.Forms as Forms
use Rattle.xq_meaning.specs.Items.{Item}
use Rattle.xq_meaning.specs.PlanMeaning.{plan_mean}
use Rattle.xq_meaning.specs.Readings.{items_at, AreIn}
use Rattle.xq_operators.specs.Views.{after_double_slash}
use Rattle.xq_operators.proofs.Growth.{goes_on_to}
use Rattle.xq_joins.specs.Equalities.{IsTreeAt}
use Rattle.xq_joins.specs.Keyed.{leads_to_key, passes_key}
use Rattle.xq_joins.proofs.Kept.{items_in_trees}
use Rattle.xq_eval.proofs.Loops.{cut}
use Rattle.xq_eval.proofs.Steps.{same_goes}
use Rattle.xq_eval.proofs.TextSteps.{scan_kept, scan_tested}
use Rattle.xq_eval.proofs.texts.double_slash_by_key.Goals as goal

pub returns-clause-gives : goal.returns-clause-gives
returns-clause-gives g c = λ clean items_in slots p frame is env.
    let f = g.W.TreeSource.forest c.args.world.now in
    let f1 = g.W.TreeSource.forest c.double_slash.new.world in
    let f2 = g.W.TreeSource.forest c.keep_by_key.new.source in
    let test = c.args.predicate.now in
    let found = item_views c.in_ok-found.found in
    let first = c.in_ok-found.ensures.gives (c.keep_by_key.ensures.was_clean clean) items_in in
    let d : map item_view c.deref.result.now ≡ found = ap (map item_view) c.deref.ensures.value in
    let kept : item_views c.in_ok-keep_by_key.field-0 ≡ filter (passes_key f1 test) found =
    c.in_ok-keep_by_key.ensures.kept clean (subst (AreIn f1) (sym d) first.0) ∙ ap (filter (passes_key f1 test)) d in
    scan_kept (λ t. leads_to_key t test) slots p f f1 f2 is frame env c.args.test.now (items_at f (map item_view c.args.items.now)) found (item_views c.in_ok-keep_by_key.field-0) first kept c.keep_by_key.ensures.keeps

pub returns-clause-in_trees : goal.returns-clause-in_trees
returns-clause-in_trees g c = λ clean items_in nodes slots p frame is env.
    let f = g.W.TreeSource.forest c.args.world.now in
    let f1 = g.W.TreeSource.forest c.double_slash.new.world in
    let f2 = g.W.TreeSource.forest c.keep_by_key.new.source in
    let test = c.args.predicate.now in
    let views = map item_view c.args.items.now in
    let found = item_views c.in_ok-found.found in
    let first = c.in_ok-found.ensures.gives (c.keep_by_key.ensures.was_clean clean) items_in in
    let d : map item_view c.deref.result.now ≡ found = ap (map item_view) c.deref.ensures.value in
    let kept : item_views c.in_ok-keep_by_key.field-0 ≡ filter (passes_key f1 test) found =
    c.in_ok-keep_by_key.ensures.kept clean (subst (AreIn f1) (sym d) first.0) ∙ ap (filter (passes_key f1 test)) d in
    scan_tested IsTreeAt (λ t. leads_to_key t test) slots p f f1 f2 (is f) frame env c.args.test.now (items_at f views) (items_in_trees (IsTreeAt f) f views nodes) found (item_views c.in_ok-keep_by_key.field-0) first kept
    c.keep_by_key.ensures.keeps

pub returns-in_err-found-clause-in_trees : goal.returns-in_err-found-clause-in_trees
returns-in_err-found-clause-in_trees g c = λ clean items_in nodes slots p frame is env.
    let f = g.W.TreeSource.forest c.args.world.now in
    let f1 = g.W.TreeSource.forest c.double_slash.new.world in
    let xs = items_at f (map item_view c.args.items.now) in
    let next = λ (ys : List Item). Forms.filtered frame ys (plan_mean p) in
    cut item_views items_at AreIn item_views items_at AreIn _ (after_double_slash c.args.test.now xs f) next f1 c.in_err-found.field-0.0 c.from_residual.result
    refl c.from_residual.ensures.1 (c.in_err-found.ensures.gives clean items_in)

pub returns-in_err-found-clause-gives : goal.returns-in_err-found-clause-gives
returns-in_err-found-clause-gives g c = λ clean items_in slots p frame is env.
    let f = g.W.TreeSource.forest c.args.world.now in
    let f1 = g.W.TreeSource.forest c.double_slash.new.world in
    let xs = items_at f (map item_view c.args.items.now) in
    let next = λ (ys : List Item). Forms.filtered frame ys (plan_mean p) in
    cut item_views items_at AreIn item_views items_at AreIn _ (after_double_slash c.args.test.now xs f) next f1 c.in_err-found.field-0.0 c.from_residual.result
    refl c.from_residual.ensures.1 (c.in_err-found.ensures.gives clean items_in)

pub returns-clause-goes : goal.returns-clause-goes
returns-clause-goes g c = goes_on_to c.in_ok-found.ensures.goes (same_goes c.keep_by_key.ensures.keeps c.keep_by_key.ensures.was_clean)
