use Rattle.std.proofs.Common.{List, ℕ, [], length}
use Rattle.xq_tables.specs.Documents.{IsClean, IsOpen, StandsFor}
use Rattle.xq_server.specs.Run.{Reply, RanOver}
use Rattle.xq_server.proofs.servers.Server.run.Given as goal

-- the frames so far were answered
abbrev pub invariant-frames : goal.invariant-frames
invariant-frames g l = (messages : List (List ℕ)) × (replies : List Reply)
    × RanOver (IsClean g.S.Store) (StandsFor g.S.Store) l.fn.self l.self l.bytes l.fn.out.items l.out.items messages replies l.rest []
    × (IsClean g.S.Store l.self → IsOpen g.S.Store l.self → IsOpen g.S.Store l.fn.self)

abbrev pub decreases-frames : goal.decreases-frames
decreases-frames g l = length l.rest
