use Rattle.std.proofs.Common.{◌≡◌, ◌+◌, ◌*◌, ◌≤◌, length, map, get_or, refl, sym, ◌∙◌, ap, subst, arith}
use Rattle.xq_axes.specs.DoubleSlash.{AreAfterDoubleSlash}
use Rattle.xq_axes.specs.Many.{spot, AreReached}
use Rattle.xq_axes.specs.Nodes.{HaveAll}
use Rattle.xq_axes.specs.Scans.{region, rows_from}
use Rattle.xq_sources.specs.Meters.{SeesAtMost}
use Rattle.xq_trees.specs.declared.Axis.TheVariants.{Child, Descendant}
use Rattle.xq_trees.specs.Rising.{AreRising}
use Rattle.xq_sources.specs.Sources.{tree_at}
use Rattle.xq_meaning.specs.declared.plans.PlanStep.TheVariants.{Scan}
use Rattle.xq_operators.specs.Reads.{rows_of}
use Rattle.xq_operators.proofs.OneTree.{not_grown}
use Rattle.xq_operators.proofs.Scanning.{no_step, one_step, two_steps, step_reads, two_steps_read, reads_within}
use Rattle.xq_operators.proofs.runs.places_after_scans.Goals as goal

pub loop-step-init : goal.loop-step-init
loop-step-init g c =
    let trees = g.L.TreeSource.forest c.args.source.now in
    record {
      forest = refl;
      clean = λ k. k;
      all = λ _. refl;
      but_one = λ e. absurd (cc);
      slashes = λ e. absurd (cc);
      within = omega arith;
      reached = λ k has. no_step trees c.args.node c.args.steps.now c.in_ok-places.places.items has c.in_ok-places.ensures.items;
      reads = λ k has. not_grown (g.L.TreeSource.meter c.args.source.now) _;
    }

pub returns-in_err-found-clause-reads_most : goal.returns-in_err-found-clause-reads_most
returns-in_err-found-clause-reads_most g c = λ k has.
    let inv = c.loop-step.invariant in
    let trees = g.L.TreeSource.forest c.args.source.now in
    let n = c.args.node in
    let steps = c.args.steps.now in
    let t = c.loop-step.taken in
    let places = c.loop-step.places.items in
    let start = g.L.TreeSource.meter c.args.source.now in
    let now = g.L.TreeSource.meter c.loop-step.source in
    let test = c.in-Some.test.now in
    let after = g.L.TreeSource.meter c.double_slash_in_tree.new.source in
    let was = c.in_err-found.ensures.was_clean k in
    let before = inv.reached was has in
    let slice = c.as_slice.ensures in
    let rising = subst (λ ps. AreRising (map (spot n.tree) ps)) (sym slice) before.rising in
    let rows = subst (λ f. after.rows ≤ now.rows + length (region Descendant (tree_at f n.tree) c.as_slice.result.now)) inv.forest (c.in_err-found.ensures.rows k rising) in
    let same = inv.but_one c.if-is_below.true in
    let grown = two_steps_read trees n steps t places before start now after (inv.reads was has) (subst (λ ps. after.rows ≤ now.rows + length (region Descendant (tree_at trees n.tree) ps)) slice rows) (subst (λ ps. after.singles ≤ now.singles + 2 * length ps) slice c.in_err-found.ensures.singles) (subst (λ ps. SeesAtMost now after (rows_from (tree_at trees n.tree) ps)) slice (subst (λ f. SeesAtMost now after (rows_from (tree_at f n.tree) c.as_slice.result.now)) inv.forest (c.in_err-found.ensures.sees k rising))) in
    reads_within start after (t + 2) (length steps) (rows_of trees n.tree) (omega (arith, same)) grown

pub returns-in_err-found-2-clause-reads_most : goal.returns-in_err-found-2-clause-reads_most
returns-in_err-found-2-clause-reads_most g c = λ k has.
    let inv = c.loop-step.invariant in
    let trees = g.L.TreeSource.forest c.args.source.now in
    let n = c.args.node in
    let steps = c.args.steps.now in
    let t = c.loop-step.taken in
    let places = c.loop-step.places.items in
    let start = g.L.TreeSource.meter c.args.source.now in
    let now = g.L.TreeSource.meter c.loop-step.source in
    let test = c.in-Some.test.now in
    let after = g.L.TreeSource.meter c.step_in_tree.new.source in
    let was = c.in_err-found-2.ensures.was_clean k in
    let before = inv.reached was has in
    let slice = c.as_slice-in-loop-step.ensures in
    let rising = subst (λ ps. AreRising (map (spot n.tree) ps)) (sym slice) before.rising in
    let rows = subst (λ f. after.rows ≤ now.rows + length (region c.in-Some.axis (tree_at f n.tree) c.as_slice-in-loop-step.result.now)) inv.forest (c.in_err-found-2.ensures.rows k rising) in
    let same = inv.all c.if-is_below.false in
    let grown = step_reads trees n steps t places before c.in-Some.axis start now after (inv.reads was has) (subst (λ ps. after.rows ≤ now.rows + length (region c.in-Some.axis (tree_at trees n.tree) ps)) slice rows) (subst (λ ps. after.singles ≤ now.singles + length ps) slice c.in_err-found-2.ensures.singles) (subst (λ ps. SeesAtMost now after (rows_from (tree_at trees n.tree) ps)) slice (subst (λ f. SeesAtMost now after (rows_from (tree_at f n.tree) c.as_slice-in-loop-step.result.now)) inv.forest (c.in_err-found-2.ensures.sees k rising))) in
    reads_within start after (t + 1) (length steps) (rows_of trees n.tree) (omega (arith, same)) grown

pub loop-step-preserved-then-is_below : goal.loop-step-preserved-then-is_below
loop-step-preserved-then-is_below g c =
    let inv = c.loop-step.invariant in
    let trees = g.L.TreeSource.forest c.args.source.now in
    let n = c.args.node in
    let steps = c.args.steps.now in
    let t = c.loop-step.taken in
    let places = c.loop-step.places.items in
    let start = g.L.TreeSource.meter c.args.source.now in
    let now = g.L.TreeSource.meter c.loop-step.source in
    let test = c.in-Some.test.now in
    let after = g.L.TreeSource.meter c.double_slash_in_tree.new.source in
    let found = c.in_ok-found.found.items in
    let slice = c.as_slice.ensures in
    let was = c.in_ok-found.ensures.was_clean in
    let same = inv.but_one c.if-is_below.true in
    let x = c.step-item.result in
    let children : get_or steps (t + 1) x ≡ Scan Child test = ap (λ j. get_or steps j x) same ∙ sym c.step-item.is ∙ c.in-Some.ensures ∙ ap (λ a. Scan a test) c.in-Child.is in
    record {
      forest = c.in_ok-found.ensures.keeps ∙ inv.forest;
      clean = λ k. inv.clean (was k);
      all = λ _. omega (arith, same);
      but_one = λ e. absurd (cc);
      slashes = λ e. absurd (cc);
      within = omega (arith, same);
      reached = λ k has. (
          let before = inv.reached (was k) has in
          let reached = subst (λ f. HaveAll f (map (spot n.tree) c.as_slice.result.now) → AreRising (map (spot n.tree) c.as_slice.result.now) → AreAfterDoubleSlash f test n.tree c.as_slice.result.now found) inv.forest (c.in_ok-found.ensures.reached k) in
          let here = subst (λ ps. HaveAll trees (map (spot n.tree) ps) → AreRising (map (spot n.tree) ps) → AreAfterDoubleSlash trees test n.tree ps found) slice reached before.there before.rising in
          two_steps trees n steps t places before x test found (omega (arith, same)) (inv.slashes c.if-is_below.true x) children here);
      reads = λ k has. (
          let before = inv.reached (was k) has in
          let rising = subst (λ ps. AreRising (map (spot n.tree) ps)) (sym slice) before.rising in
          let rows = subst (λ f. after.rows ≤ now.rows + length (region Descendant (tree_at f n.tree) c.as_slice.result.now)) inv.forest (c.in_ok-found.ensures.rows k rising) in
          two_steps_read trees n steps t places before start now after (inv.reads (was k) has) (subst (λ ps. after.rows ≤ now.rows + length (region Descendant (tree_at trees n.tree) ps)) slice rows) (subst (λ ps. after.singles ≤ now.singles + 2 * length ps) slice c.in_ok-found.ensures.singles) (subst (λ ps. SeesAtMost now after (rows_from (tree_at trees n.tree) ps)) slice (subst (λ f. SeesAtMost now after (rows_from (tree_at f n.tree) c.as_slice.result.now)) inv.forest (c.in_ok-found.ensures.sees k rising))));
    }

pub loop-step-preserved : goal.loop-step-preserved
loop-step-preserved g c =
    let inv = c.loop-step.invariant in
    let trees = g.L.TreeSource.forest c.args.source.now in
    let n = c.args.node in
    let steps = c.args.steps.now in
    let t = c.loop-step.taken in
    let places = c.loop-step.places.items in
    let start = g.L.TreeSource.meter c.args.source.now in
    let now = g.L.TreeSource.meter c.loop-step.source in
    let test = c.in-Some.test.now in
    let after = g.L.TreeSource.meter c.step_in_tree.new.source in
    let axis = c.in-Some.axis in
    let found = c.in_ok-found-2.found.items in
    let slice = c.as_slice-in-loop-step.ensures in
    let was = c.in_ok-found-2.ensures.was_clean in
    let below = c.if-is_below.false in
    let same = inv.all below in
    let x = c.step-item.result in
    let is : x ≡ get_or steps t x = c.step-item.is ∙ ap (λ j. get_or steps j x) (sym same) in
    record {
      forest = c.in_ok-found-2.ensures.keeps ∙ inv.forest;
      clean = λ k. inv.clean (was k);
      all = λ _. omega (arith, same);
      but_one = λ e. absurd (let no = sym below ∙ e in cc);
      slashes = λ e. absurd (let no = sym below ∙ e in cc);
      within = omega (arith, same);
      reached = λ k has. (
          let before = inv.reached (was k) has in
          let reached = subst (λ f. HaveAll f (map (spot n.tree) c.as_slice-in-loop-step.result.now) → AreRising (map (spot n.tree) c.as_slice-in-loop-step.result.now) → AreReached f axis test n.tree c.as_slice-in-loop-step.result.now found) inv.forest (c.in_ok-found-2.ensures.reached k) in
          let here = subst (λ ps. HaveAll trees (map (spot n.tree) ps) → AreRising (map (spot n.tree) ps) → AreReached trees axis test n.tree ps found) slice reached before.there before.rising in
          one_step trees n steps t places before x axis test found (omega (arith, same)) is c.in-Some.ensures here);
      reads = λ k has. (
          let before = inv.reached (was k) has in
          let rising = subst (λ ps. AreRising (map (spot n.tree) ps)) (sym slice) before.rising in
          let rows = subst (λ f. after.rows ≤ now.rows + length (region axis (tree_at f n.tree) c.as_slice-in-loop-step.result.now)) inv.forest (c.in_ok-found-2.ensures.rows k rising) in
          step_reads trees n steps t places before axis start now after (inv.reads (was k) has) (subst (λ ps. after.rows ≤ now.rows + length (region axis (tree_at trees n.tree) ps)) slice rows) (subst (λ ps. after.singles ≤ now.singles + length ps) slice c.in_ok-found-2.ensures.singles) (subst (λ ps. SeesAtMost now after (rows_from (tree_at trees n.tree) ps)) slice (subst (λ f. SeesAtMost now after (rows_from (tree_at f n.tree) c.as_slice-in-loop-step.result.now)) inv.forest (c.in_ok-found-2.ensures.sees k rising))));
    }
