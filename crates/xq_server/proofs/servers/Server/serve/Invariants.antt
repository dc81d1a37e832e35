use Rattle.std.proofs.Common.{◌≡◌, ◌+◌, ◌*◌, ◌≤◌, List, ℕ, [], length}
use Rattle.xq_tables.specs.Documents.{IsClean, IsOpen, StandsFor}
use Rattle.xq_server.specs.Run.{Reply, written}
use Rattle.xq_server.specs.Service.{Served}
use Rattle.xq_server.proofs.servers.Server.serve.Given as goal

-- as many frames as turns were taken and answered, and their replies were given
abbrev pub invariant-loop-count : goal.invariant-loop-count
invariant-loop-count g l = (messages : List (List ℕ)) × (replies : List Reply)
    × Served (IsClean g.S.Store) (StandsFor g.S.Store) l.fn.self l.self (g.R.Read.remaining l.fn.reader.inner) (g.R.Read.remaining l.reader.inner)
    (g.W.Write.contents l.fn.writer.inner) (g.W.Write.contents l.writer.inner) messages replies [] (written replies)
    × (length messages ≡ l.count)
    × (IsClean g.S.Store l.self → IsOpen g.S.Store l.self → IsOpen g.S.Store l.fn.self)
    × (l.reader.interruptions + l.writer.interruptions ≤ l.fn.reader.interruptions + l.fn.writer.interruptions + 999 * l.count)
