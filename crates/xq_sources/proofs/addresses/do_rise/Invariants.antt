use Rattle.std.proofs.Common.{take, map, string_bytes}
use Rattle.xq_sources.specs.Addresses.{Rise}
use Rattle.xq_sources.proofs.addresses.do_rise.Given as goal

-- the addresses so far rise
abbrev pub invariant-loop-next : goal.invariant-loop-next
invariant-loop-next l = Rise (take l.next (map string_bytes l.list))
