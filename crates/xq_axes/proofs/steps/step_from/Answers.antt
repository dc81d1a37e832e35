use Rattle.std.proofs.Common.{◌≡◌, ◌≤◌, length, ◌+◌, ◌||◌, [], Bool, map, refl, sym, ap, subst, ◌∙◌, arith, get_or}
use Rattle.std.specs.List.{list_any}
use Rattle.xq_trees.specs.declared.items.Node.{Node}
use Rattle.xq_axes.specs.Many.{spot, is_found_from, AreThere, IsNext, IsGathered, IsAt}
use Rattle.xq_axes.proofs.Many.{gathered_none, default_at, step_found, step_there, step_nodes, have_same}
use Rattle.xq_sources.specs.Sources.{tree_at}
use Rattle.xq_sources.specs.Meters.{SeesAtMost}
use Rattle.xq_axes.specs.Scans.{region, rows_from}
use Rattle.xq_axes.proofs.Scans.{kept_rises, kept_region, still_one}
use Rattle.xq_trees.specs.Rising.{AreRising}
use Rattle.xq_axes.proofs.Merging.{merged}
use Rattle.xq_trees.proofs.Rising.{rising_none}
use Rattle.xq_axes.proofs.Seen.{kept_seen}
use Rattle.xq_axes.proofs.steps.step_from.Goals as goal

pub loop-context-init : goal.loop-context-init
loop-context-init g c =
    let trees = g.L.TreeSource.forest c.args.source.now in
    let axis = c.args.axis in
    let test = c.args.test.now in
    let items = c.args.contexts.now in
    record {
      forest = refl;
      clean = λ k. k;
      rows = λ k one all. omega arith;
      sees = λ k one all. omega arith;
      rising = subst (λ ns. AreRising ns) (sym c.new-found.ensures.items) rising_none;
      kept = λ one all. ap (map (spot 0)) c.in_ok-with_capacity.ensures.items;
      singles = (let n = ap length c.in_ok-with_capacity.ensures.items in omega (arith, n));
      gathered = λ k up have. subst (λ ps. IsGathered trees axis test items 0 0 ps c.new-found.result.items) (sym c.in_ok-with_capacity.ensures.items) (subst (λ fs. IsGathered trees axis test items 0 0 [] fs) (sym c.new-found.ensures.items) (gathered_none trees axis test items));
    }

pub loop-context-preserved : goal.loop-context-preserved
loop-context-preserved g c =
    let inv = c.loop-context.invariant in
    let trees = g.L.TreeSource.forest c.args.source.now in
    let axis = c.args.axis in
    let test = c.args.test.now in
    let items = c.args.contexts.now in
    let index = c.loop-context.context-index in
    let old = c.loop-context.gathered in
    let new = c.gather.new.gathered in
    let x : Node = get_or items index (record { tree = 0; pre = 0 }) in
    let at : IsAt items index x = record { within = omega arith; is = default_at items index (record { tree = 0; pre = 0 }) x (omega arith) } in
    record {
      forest = c.in_ok-gather.ensures.keeps ∙ inv.forest;
      clean = λ k. inv.clean (c.in_ok-gather.ensures.was_clean k);
      rows = λ k one all. (
          let before = inv.rows (c.in_ok-gather.ensures.was_clean k) one all in
          let more = c.in_ok-gather.ensures.rows k items index one all at (inv.kept one all) in
          omega (arith, before, more));
      sees = λ k one all. (
          let before = inv.sees (c.in_ok-gather.ensures.was_clean k) one all in
          let more = c.in_ok-gather.ensures.sees k items index one all at (inv.kept one all) in
          omega (arith, before, more));
      rising = c.in_ok-gather.ensures.rising inv.rising;
      kept = λ one all. c.in_ok-gather.ensures.kept items index one all at (inv.kept one all);
      singles = (
          let before = inv.singles in
          let more = c.in_ok-gather.ensures.gathers in
          omega (arith, before, more));
      gathered = λ k up have. (
          let next : IsNext trees items index x = record {
            rising = up;
            there = have;
            within = omega arith;
            is = default_at items index (record { tree = 0; pre = 0 }) x (omega arith);
          } in
          subst (λ f. IsNext f items index x → IsGathered f axis test items index old.tree old.places.items c.loop-context.found.items → IsGathered f axis test items (index + 1) new.tree new.places.items c.gather.new.found.items) inv.forest
          (c.in_ok-gather.ensures.gathered k items index) next (inv.gathered (c.in_ok-gather.ensures.was_clean k) up have));
    }

pub returns-clause-nodes : goal.returns-clause-nodes
returns-clause-nodes g c = λ k up ns same have. (
    let inv = c.loop-context.invariant in
    let trees = g.L.TreeSource.forest c.args.source.now in
    let axis = c.args.axis in
    let test = c.args.test.now in
    let items = c.args.contexts.now in
    let old = c.loop-context.gathered in
    let new = c.add_step.new.found.items in
    let gathered = inv.gathered (c.in_ok-add_step.ensures.was_clean k) up (have_same trees ns items have (λ n. (same n).0)) in
    let last = subst (λ f. AreThere f old.tree old.places.items → (p : Node → Bool) → list_any p new ≡ (list_any p c.loop-context.found.items || list_any (is_found_from f axis test p) (map (spot old.tree) old.places.items))) inv.forest (c.in_ok-add_step.ensures.found k gathered.rising) gathered.there in
    let found = step_found trees axis test ns items c.loop-context.found.items new c.loop-context.context-index old.tree old.places.items (omega arith) gathered last same in
    merged trees new (step_there trees axis test ns new have found) new (c.in_ok-add_step.ensures.rising inv.rising) (λ n. (λ k. k, λ k. k)) ∙ step_nodes trees axis test ns new have found)

pub returns-clause-there : goal.returns-clause-there
returns-clause-there g c = λ k up ns same have. (
    let inv = c.loop-context.invariant in
    let trees = g.L.TreeSource.forest c.args.source.now in
    let axis = c.args.axis in
    let test = c.args.test.now in
    let items = c.args.contexts.now in
    let old = c.loop-context.gathered in
    let new = c.add_step.new.found.items in
    let gathered = inv.gathered (c.in_ok-add_step.ensures.was_clean k) up (have_same trees ns items have (λ n. (same n).0)) in
    let last = subst (λ f. AreThere f old.tree old.places.items → (p : Node → Bool) → list_any p new ≡ (list_any p c.loop-context.found.items || list_any (is_found_from f axis test p) (map (spot old.tree) old.places.items))) inv.forest (c.in_ok-add_step.ensures.found k gathered.rising) gathered.there in
    let found = step_found trees axis test ns items c.loop-context.found.items new c.loop-context.context-index old.tree old.places.items (omega arith) gathered last same in
    step_there trees axis test ns new have found)

pub returns-clause-rows : goal.returns-clause-rows
returns-clause-rows g c = λ k up ns same one all. (
    let inv = c.loop-context.invariant in
    let trees = g.L.TreeSource.forest c.args.source.now in
    let axis = c.args.axis in
    let items = c.args.contexts.now in
    let old = c.loop-context.gathered in
    let index = c.loop-context.context-index in
    let ones = still_one one ns items all (λ n. (same n).0) in
    let are = inv.kept one ones in
    let rising = kept_rises items index old.tree old.places.items are up in
    let before = inv.rows (c.in_ok-add_step.ensures.was_clean k) one ones in
    let read = subst (λ f. (g.L.TreeSource.meter c.add_step.new.source).rows ≤ (g.L.TreeSource.meter c.loop-context.source).rows + length (region axis (tree_at f old.tree) old.places.items)) inv.forest (c.in_ok-add_step.ensures.rows k rising) in
    let most = kept_region items index old.tree old.places.items are axis trees one ns (omega arith) all same in
    omega (arith, before, read, most))

pub returns-clause-singles : goal.returns-clause-singles
returns-clause-singles g c = (
    let before = c.loop-context.invariant.singles in
    let more = c.in_ok-add_step.ensures.singles in
    omega (arith, before, more))

pub returns-in_err-add_step-clause-rows : goal.returns-in_err-add_step-clause-rows
returns-in_err-add_step-clause-rows g c = λ k up ns same one all. (
    let inv = c.loop-context.invariant in
    let trees = g.L.TreeSource.forest c.args.source.now in
    let axis = c.args.axis in
    let items = c.args.contexts.now in
    let old = c.loop-context.gathered in
    let index = c.loop-context.context-index in
    let ones = still_one one ns items all (λ n. (same n).0) in
    let are = inv.kept one ones in
    let rising = kept_rises items index old.tree old.places.items are up in
    let before = inv.rows (c.in_err-add_step.ensures.was_clean k) one ones in
    let read = subst (λ f. (g.L.TreeSource.meter c.add_step.new.source).rows ≤ (g.L.TreeSource.meter c.loop-context.source).rows + length (region axis (tree_at f old.tree) old.places.items)) inv.forest (c.in_err-add_step.ensures.rows k rising) in
    let most = kept_region items index old.tree old.places.items are axis trees one ns (omega arith) all same in
    omega (arith, before, read, most))

pub returns-in_err-add_step-clause-singles : goal.returns-in_err-add_step-clause-singles
returns-in_err-add_step-clause-singles g c = (
    let before = c.loop-context.invariant.singles in
    let more = c.in_err-add_step.ensures.singles in
    omega (arith, before, more))

pub returns-in_err-gather-clause-rows : goal.returns-in_err-gather-clause-rows
returns-in_err-gather-clause-rows g c = λ k up ns same one all. (
    let inv = c.loop-context.invariant in
    let trees = g.L.TreeSource.forest c.args.source.now in
    let axis = c.args.axis in
    let items = c.args.contexts.now in
    let index = c.loop-context.context-index in
    let x : Node = get_or items index (record { tree = 0; pre = 0 }) in
    let at : IsAt items index x = record { within = omega arith; is = default_at items index (record { tree = 0; pre = 0 }) x (omega arith) } in
    let ones = still_one one ns items all (λ n. (same n).0) in
    let before = inv.rows (c.in_err-gather.ensures.was_clean k) one ones in
    let read = c.in_err-gather.ensures.rows k items index one ones at (inv.kept one ones) in
    omega (arith, before, read))

pub returns-in_err-gather-clause-singles : goal.returns-in_err-gather-clause-singles
returns-in_err-gather-clause-singles g c = (
    let before = c.loop-context.invariant.singles in
    let more = c.in_err-gather.ensures.singles in
    omega (arith, before, more))

pub returns-clause-sees : goal.returns-clause-sees
returns-clause-sees g c = λ k up ns same one all. (
    let inv = c.loop-context.invariant in
    let trees = g.L.TreeSource.forest c.args.source.now in
    let items = c.args.contexts.now in
    let old = c.loop-context.gathered in
    let index = c.loop-context.context-index in
    let ones = still_one one ns items all (λ n. (same n).0) in
    let are = inv.kept one ones in
    let rising = kept_rises items index old.tree old.places.items are up in
    let before = inv.sees (c.in_ok-add_step.ensures.was_clean k) one ones in
    let read = subst (λ f. SeesAtMost (g.L.TreeSource.meter c.loop-context.source) (g.L.TreeSource.meter c.add_step.new.source) (rows_from (tree_at f old.tree) old.places.items)) inv.forest (c.in_ok-add_step.ensures.sees k rising) in
    let most = kept_seen items index old.tree old.places.items are trees one ns all same in
    omega (arith, before, read, most))

pub returns-in_err-add_step-clause-sees : goal.returns-in_err-add_step-clause-sees
returns-in_err-add_step-clause-sees g c = λ k up ns same one all. (
    let inv = c.loop-context.invariant in
    let trees = g.L.TreeSource.forest c.args.source.now in
    let items = c.args.contexts.now in
    let old = c.loop-context.gathered in
    let index = c.loop-context.context-index in
    let ones = still_one one ns items all (λ n. (same n).0) in
    let are = inv.kept one ones in
    let rising = kept_rises items index old.tree old.places.items are up in
    let before = inv.sees (c.in_err-add_step.ensures.was_clean k) one ones in
    let read = subst (λ f. SeesAtMost (g.L.TreeSource.meter c.loop-context.source) (g.L.TreeSource.meter c.add_step.new.source) (rows_from (tree_at f old.tree) old.places.items)) inv.forest (c.in_err-add_step.ensures.sees k rising) in
    let most = kept_seen items index old.tree old.places.items are trees one ns all same in
    omega (arith, before, read, most))

pub returns-in_err-gather-clause-sees : goal.returns-in_err-gather-clause-sees
returns-in_err-gather-clause-sees g c = λ k up ns same one all. (
    let inv = c.loop-context.invariant in
    let items = c.args.contexts.now in
    let index = c.loop-context.context-index in
    let x : Node = get_or items index (record { tree = 0; pre = 0 }) in
    let at : IsAt items index x = record { within = omega arith; is = default_at items index (record { tree = 0; pre = 0 }) x (omega arith) } in
    let ones = still_one one ns items all (λ n. (same n).0) in
    let before = inv.sees (c.in_err-gather.ensures.was_clean k) one ones in
    let read = c.in_err-gather.ensures.sees k items index one ones at (inv.kept one ones) in
    omega (arith, before, read))
