use Rattle.std.proofs.Common.{◌≡◌, take}
use Rattle.xq_sources.specs.Names.{named}
use Rattle.xq_sources.proofs.names.places_named.Given as goal

-- of the rows so far the places of those with the name are known
abbrev pub invariant-loop-at : goal.invariant-loop-at
invariant-loop-at l = l.places.items ≡ named (take l.at l.rows) l.name
