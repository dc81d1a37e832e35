use Rattle.std.proofs.Common.{◌≡◌, take}
use Rattle.xq_axes.specs.Nodes.{HaveAll}
use Rattle.xq_joins.specs.private.Tables.{IsTable}
use Rattle.xq_joins.proofs.keys.table_of.Given as goal

abbrev pub invariant-loop-node : goal.invariant-loop-node
invariant-loop-node g l =
    let old = g.L.TreeSource.forest l.fn.source in
    let clean = g.L.TreeSource.is_clean l.source in
    record {
      keeps : g.L.TreeSource.forest l.source ≡ old;
      was_clean : clean → g.L.TreeSource.is_clean l.fn.source;
      table : clean → HaveAll old l.nodes → IsTable l.equality old l.key (take l.node-index l.nodes) l.table;
    }
