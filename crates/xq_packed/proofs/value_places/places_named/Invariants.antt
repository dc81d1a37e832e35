use Rattle.std.proofs.Common.{◌≡◌}
use Rattle.xq_atoms.specs.Text.{Text}
use Rattle.xq_packed.specs.Packed.{IsNumberOf}
use Rattle.xq_packed.specs.Values.{is_named}
use Rattle.xq_packed.proofs.Places.{places_before}
use Rattle.xq_packed.proofs.value_places.places_named.Given as goal

-- of the rows so far their places are known
abbrev pub invariant-loop-at : goal.invariant-loop-at
invariant-loop-at l = (name : Text) → IsNumberOf l.rows.names l.number name → l.places.items ≡ places_before (is_named name) l.rows.rows l.at
