use Rattle.std.proofs.Common.{◌≡◌, List, [], suc, ap, sym, subst, ◌∙◌, length, map, arith}
use Rattle.xq_atoms.specs.declared.refusals.Fault.TheVariants.{Code as OfCode}
use Rattle.xq_meaning.specs.Doing.{Outcome, in_turn, more}
use Rattle.xq_meaning.specs.Forms as Forms
use Rattle.xq_meaning.specs.Items.{Item}
use Rattle.xq_meaning.specs.PlanMeaning.{plan_mean}
use Rattle.xq_meaning.specs.Steps.{focuses_from}
use Rattle.xq_eval.proofs.Loops.{handed_on}
use Rattle.std.proofs.lemmas.List.{length-map, drop_all}
use Rattle.xq_trees.specs.Items.{item_view, item_views}
use Rattle.xq_meaning.specs.Readings.{item_at, items_at, AreIn, IsIn}
use Rattle.xq_operators.proofs.Lists.{all_at}
use Rattle.xq_eval.proofs.PositionalPredicates.{kept_next, kept_stops}
use Rattle.xq_eval.proofs.positions.keep_each.Goals as goal

pub loop-index-init : goal.loop-index-init
loop-index-init c = λ trees frame p positional inside.
    let items = c.args.items.now in
    let views = map item_view items in
    let none : item_views c.new-kept.result ≡ [] = ap (map item_view) c.new-kept.ensures.items in
    let act = more (Forms.passed (plan_mean p) frame) in
    let long : length items ≡ length (items_at trees views) = sym (length-map items item_view) ∙ sym (length-map views (item_at trees)) in
    subst (λ ks. AreIn trees ks × (in_turn act (items_at trees ks) (focuses_from 1 (length items) (items_at trees views)) trees ≡ Forms.filtered frame (items_at trees views) (plan_mean p) trees)) (sym none)
    (tt, ap (λ n. in_turn act [] (focuses_from 1 n (items_at trees views)) trees) long)

pub loop-index-preserved : goal.loop-index-preserved
loop-index-preserved c = λ trees frame p positional inside.
    let i = c.loop-index.invariant trees frame p positional inside in
    let items = c.args.items.now in
    let value = c.args.value.now in
    let n = c.loop-index.index in
    let x = c.index-items-index.result in
    let x_in = all_at (IsIn trees) item_view items n x inside (omega arith) c.index-items-index.is in
    let next = kept_next trees frame p items value positional n x (item_views c.loop-index.kept) (item_views c.in_ok-kept.kept) c.in_ok-is_kept.is_kept (omega arith) c.index-items-index.is (c.in_ok-is_kept.ensures trees) c.in_ok-kept.ensures i.0 x_in in
    (next.0, next.1 ∙ i.1)

pub returns-in_err-is_kept : goal.returns-in_err-is_kept
returns-in_err-is_kept c = λ trees frame p positional inside.
    let i = c.loop-index.invariant trees frame p positional inside in
    let items = c.args.items.now in
    let code = c.in_err-is_kept.field-0.0 in
    let refused = sym (ap (λ (o : Outcome (List Item)). o.0) i.1) ∙ kept_stops trees frame p items c.args.value.now positional c.loop-index.index c.index-items-index.result (item_views c.loop-index.kept) code (omega arith) c.index-items-index.is (c.in_err-is_kept.ensures trees) in
    handed_on item_views items_at AreIn (Forms.filtered frame (items_at trees (map item_view items)) (plan_mean p) trees) trees (OfCode code) c.from_residual.result c.from_residual.ensures.1 refused

pub returns : goal.returns
returns c = λ trees frame p positional inside.
    let i = c.loop-index.invariant trees frame p positional inside in
    let items = c.args.items.now in
    let none = ap (λ xs. focuses_from (suc c.loop-index.index) (length items) (items_at trees (map item_view xs))) (drop_all c.loop-index.index items (omega arith)) in
    (i.0, sym i.1 ∙ ap (λ ss. in_turn (more (Forms.passed (plan_mean p) frame)) (items_at trees (item_views c.loop-index.kept)) ss trees) none)
