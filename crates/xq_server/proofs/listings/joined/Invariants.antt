use Rattle.std.proofs.Common.{◌≡◌, ◌++◌, map, string_bytes, drop}
use Rattle.xq_server.specs.Answer.{listing, more_literals}
use Rattle.xq_server.proofs.listings.joined.Given as goal

-- what stands there, and the addresses that are left, are the whole
abbrev pub invariant-loop-address : goal.invariant-loop-address
invariant-loop-address l =
    string_bytes l.text ++ more_literals (map string_bytes (drop l.address-index l.others)) ≡ listing (map string_bytes l.addresses)
