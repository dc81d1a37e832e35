use Rattle.std.proofs.Common.{◌≡◌, ℕ, map, drop}
use Rattle.xq_meaning.specs.Items.{Place}
use Rattle.xq_meaning.specs.Readings.{node_at}
use Rattle.xq_joins.specs.Equalities.{have_text}
use Rattle.xq_joins.proofs.equalities.have_text.Given as goal

-- the nodes that are left say what all say
abbrev pub invariant-loop-place : goal.invariant-loop-place
invariant-loop-place g l =
    let old = g.L.TreeSource.forest l.fn.source in
    let at : ℕ → Place = λ p. node_at old (record { tree = l.tree; pre = p }) in
    let clean = g.L.TreeSource.is_clean l.source in
    record {
      keeps : g.L.TreeSource.forest l.source ≡ old;
      was_clean : clean → g.L.TreeSource.is_clean l.fn.source;
      left : clean → have_text old l.wanted (map at l.places) ≡ have_text old l.wanted (map at (drop l.place-index l.places));
    }
