use Rattle.std.proofs.Common.{◌-◌, map, string_bytes}
use Rattle.xq_sources.proofs.Rising.{IsNarrowed}
use Rattle.xq_sources.proofs.addresses.Addresses.search.Given as goal

abbrev pub invariant-loop-low : goal.invariant-loop-low
invariant-loop-low l = IsNarrowed (map string_bytes l.self-inside.list.items) l.address l.low l.high

abbrev pub decreases-loop-low : goal.decreases-loop-low
decreases-loop-low l = l.high - l.low
