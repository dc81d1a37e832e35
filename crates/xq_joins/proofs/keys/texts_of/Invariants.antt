use Rattle.std.proofs.Common.{◌≡◌, map, take}
use Rattle.std.specs.Prelude.{string_bytes}
use Rattle.xq_meaning.specs.Readings.{node_at}
use Rattle.xq_joins.specs.Keys.{text_at}
use Rattle.xq_joins.proofs.keys.texts_of.Given as goal

abbrev pub invariant-loop-node : goal.invariant-loop-node
invariant-loop-node g l =
    let old = g.L.TreeSource.forest l.fn.source in
    let clean = g.L.TreeSource.is_clean l.source in
    record {
      keeps : g.L.TreeSource.forest l.source ≡ old;
      was_clean : clean → g.L.TreeSource.is_clean l.fn.source;
      texts : clean → map string_bytes l.texts.items ≡ map (text_at old) (map (node_at old) (take l.node-index l.nodes));
    }
