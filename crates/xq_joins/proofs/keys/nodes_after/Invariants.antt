use Rattle.std.proofs.Common.{◌≡◌, map, drop}
use Rattle.xq_axes.specs.Nodes.{HaveAll}
use Rattle.xq_meaning.specs.Readings.{node_at}
use Rattle.xq_joins.specs.private.Keys.{scans, nodes_after}
use Rattle.xq_joins.proofs.keys.nodes_after.Given as goal

-- the steps that are left lead to what all steps lead to
abbrev pub invariant-loop-step : goal.invariant-loop-step
invariant-loop-step g l =
    let old = g.L.TreeSource.forest l.fn.source in
    let clean = g.L.TreeSource.is_clean l.source in
    let start = l.fn.start.items in
    record {
      keeps : g.L.TreeSource.forest l.source ≡ old;
      was_clean : clean → g.L.TreeSource.is_clean l.fn.source;
      there : clean → HaveAll old start → HaveAll old l.nodes.items;
      nodes : clean → HaveAll old start → nodes_after old (scans (drop l.step-index l.steps)) (map (node_at old) l.nodes.items) ≡ nodes_after old (scans l.steps) (map (node_at old) start);
    }
