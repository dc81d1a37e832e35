use Rattle.std.proofs.Common.{◌≡◌, ℕ, map, drop}
use Rattle.std.specs.HashSet.{contains_text}
use Rattle.std.specs.List.{list_any}
use Rattle.xq_meaning.specs.Items.{Place}
use Rattle.xq_meaning.specs.Readings.{node_at}
use Rattle.xq_joins.specs.Keys.{text_at}
use Rattle.xq_joins.proofs.text_sets.have_text_in.Given as goal

-- the nodes that are left say what all say
abbrev pub invariant-loop-place : goal.invariant-loop-place
invariant-loop-place g l =
    let old = g.L.TreeSource.forest l.fn.source in
    let at : ℕ → Place = λ p. node_at old (record { tree = l.tree; pre = p }) in
    let clean = g.L.TreeSource.is_clean l.source in
    record {
      keeps : g.L.TreeSource.forest l.source ≡ old;
      was_clean : clean → g.L.TreeSource.is_clean l.fn.source;
      left : clean → list_any (contains_text l.set) (map (text_at old) (map at l.places))
          ≡ list_any (contains_text l.set) (map (text_at old) (map at (drop l.place-index l.places)));
    }
