use Rattle.std.proofs.Common.{◌≡◌, ℕ, map, drop}
use Rattle.std.specs.Prelude.{string_bytes}
use Rattle.xq_meaning.specs.Items.{Place}
use Rattle.xq_meaning.specs.Readings.{node_at}
use Rattle.xq_joins.specs.Keys.{text_at, meet}
use Rattle.xq_joins.proofs.keyed.have_one.Given as goal

-- the texts that are left say what all say
abbrev pub invariant-loop-text : goal.invariant-loop-text
invariant-loop-text g l =
    let old = g.L.TreeSource.forest l.fn.source in
    let at : ℕ → Place = λ p. node_at old (record { tree = l.tree; pre = p }) in
    let led = map (text_at old) (map at l.places) in
    let clean = g.L.TreeSource.is_clean l.source in
    record {
      keeps : g.L.TreeSource.forest l.source ≡ old;
      was_clean : clean → g.L.TreeSource.is_clean l.fn.source;
      left : clean → meet (map string_bytes l.texts) led ≡ meet (map string_bytes (drop l.text-index l.texts)) led;
    }
