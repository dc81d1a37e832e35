-- How a length over the limit ends a service.
use Rattle.std.specs.Prelude.{ℕ, List, [], Option}
use Rattle.std.specs.Io.KnownBytes.{Appends}
use Rattle.xq_frame.specs.Sending.{GivesFront}
use Rattle.xq_server.specs.Run.{long_reply}
use Rattle.xq_server.specs.declared.ends.End.{End}
use Rattle.xq_server.specs.declared.ends.End.TheVariants.{Finished, Cut, TooLong, Bound, ReadFault, WriteFault, NoRoom}

-- its reply was given, or a front of it, or there was
-- no room for it
abbrev pub EndsLong : Option (List ℕ) → Option (List ℕ) → End → Type 0
EndsLong held holding TooLong = Appends held holding long_reply
EndsLong held holding WriteFault = GivesFront held holding long_reply
EndsLong held holding NoRoom = Appends held holding []
EndsLong held holding Finished = ⊥
EndsLong held holding Cut = ⊥
EndsLong held holding Bound = ⊥
EndsLong held holding ReadFault = ⊥
