use Rattle.std.proofs.Common.{◌≡◌, ◌+◌, ◌∙◌, ap, sym, subst, arith, drop, map, List, refl, Err}
use Rattle.std.proofs.lemmas.List.{drop_all}
use Rattle.xq_trees.specs.Items.{item_view, item_views}
use Rattle.xq_trees.specs.Tree.{Tree}
use Rattle.xq_meaning.specs.Forms as Forms
use Rattle.xq_meaning.specs.Readings.{items_at, AreIn}
use Rattle.xq_operators.specs.Views.{GivesSequence}
use Rattle.xq_operators.proofs.Growth.{stays, goes_on_to}
use Rattle.xq_joins.proofs.Lists.{left_first}
use Rattle.xq_eval.specs.private.Joining.{scan_one}
use Rattle.xq_eval.proofs.Loops.{turns_next, turns_stop, turns_end, handed_on}
use Rattle.xq_eval.proofs.pairs.scanned.Goals as goal

pub loop-axis-init : goal.loop-axis-init
loop-axis-init g c = record {
  goes = stays _ _;
  turns = record { rest = λ clean inside. (inside, refl) };
}

pub loop-axis-preserved : goal.loop-axis-preserved
loop-axis-preserved g c =
    let i = c.loop-axis.invariant in
    let f = g.W.TreeSource.forest c.loop-axis.world in
    let f' = g.W.TreeSource.forest c.scan.new.world in
    let scans = c.args.scans.now in
    let n = c.loop-axis.axis-index in
    let s = c.loop-axis-item.result in
    let views = ap (map item_view) c.deref.ensures.value in
    record {
      goes = goes_on_to i.goes c.scan.ensures.goes;
      turns = turns_next items_at AreIn scan_one (item_views c.in_ok-items.items) s (drop (n + 1) scans) f' i.turns (left_first scans n s (omega arith) c.loop-axis-item.is) c.scan.ensures.goes.was_clean
          (λ clean inside is_in.
          let given = c.in_ok-items.ensures.gives clean (subst (AreIn f) (sym views) is_in) in
          (given.0, ap (λ xs. Forms.scan s.0 s.1 (items_at f xs) f) (sym views) ∙ given.1));
    }

pub returns-clause-goes : goal.returns-clause-goes
returns-clause-goes g c = c.loop-axis.invariant.goes

pub returns-clause-gives : goal.returns-clause-gives
returns-clause-gives g c = λ clean inside.
    turns_end items_at AreIn scan_one c.loop-axis.invariant.turns (drop_all c.loop-axis.axis-index c.args.scans.now (omega arith)) clean inside

pub returns-in_err-items-clause-goes : goal.returns-in_err-items-clause-goes
returns-in_err-items-clause-goes g c = goes_on_to c.loop-axis.invariant.goes c.scan.ensures.goes

pub returns-in_err-items-clause-gives : goal.returns-in_err-items-clause-gives
returns-in_err-items-clause-gives g c = λ clean inside.
    let i = c.loop-axis.invariant in
    let f = g.W.TreeSource.forest c.loop-axis.world in
    let f' = g.W.TreeSource.forest c.scan.new.world in
    let scans = c.args.scans.now in
    let n = c.loop-axis.axis-index in
    let s = c.loop-axis-item.result in
    let views = ap (map item_view) c.deref.ensures.value in
    let e = c.in_err-items.field-0.0 in
    handed_on item_views items_at AreIn _ f' e c.from_residual.result c.from_residual.ensures.1
    (turns_stop items_at AreIn scan_one item_views items_at AreIn s (drop (n + 1) scans) f' e i.turns (left_first scans n s (omega arith) c.loop-axis-item.is) c.scan.ensures.goes.was_clean
    (λ clean inside is_in. subst (λ xs. GivesSequence (Forms.scan s.0 s.1 (items_at f xs) f) f' (Err e)) views (c.in_err-items.ensures.gives clean (subst (AreIn f) (sym views) is_in))) clean inside)
