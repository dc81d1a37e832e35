use Rattle.std.proofs.Common.{◌≡◌, ◌+◌, ◌*◌, ◌≤◌, true, false, take, get_or}
use Rattle.xq_trees.specs.declared.Axis.TheVariants.{DescendantOrSelf}
use Rattle.xq_sources.specs.Sources.{HasNode}
use Rattle.xq_meaning.specs.declared.node_tests.Test.TheVariants.{Any}
use Rattle.xq_meaning.specs.declared.plans.PlanStep.{PlanStep}
use Rattle.xq_meaning.specs.declared.plans.PlanStep.TheVariants.{Scan}
use Rattle.xq_operators.specs.Reads.{rows_of, HasGrown}
use Rattle.xq_operators.proofs.Scanning.{IsReached}
use Rattle.xq_operators.proofs.runs.places_after_scans.Given as goal

-- the steps so far were taken, but for a `//`, and lead to the places
abbrev pub invariant-loop-step : goal.invariant-loop-step
invariant-loop-step g l =
    let trees = g.L.TreeSource.forest l.initial.source in
    let n = l.node in
    record {
      forest : g.L.TreeSource.forest l.source ≡ trees;
      clean : g.L.TreeSource.is_clean l.source → g.L.TreeSource.is_clean l.initial.source;
      all : l.is_below ≡ false → l.taken ≡ l.step-index;
      but_one : l.is_below ≡ true → l.taken + 1 ≡ l.step-index;
      slashes : l.is_below ≡ true → (d : PlanStep) → get_or l.steps l.taken d ≡ Scan DescendantOrSelf Any;
      within : l.taken ≤ l.step-index;
      reached : g.L.TreeSource.is_clean l.source → HasNode trees n.tree n.pre → IsReached trees n (take l.taken l.steps) l.places.items;
      reads : g.L.TreeSource.is_clean l.source → HasNode trees n.tree n.pre → HasGrown (g.L.TreeSource.meter l.initial.source) (g.L.TreeSource.meter l.source) (l.taken * rows_of trees n.tree);
    }
