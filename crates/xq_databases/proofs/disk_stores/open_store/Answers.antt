use Rattle.std.proofs.Common.{List, ℕ, Bool, cond, ap₂, subst, true}
use Rattle.sqlite_disk.specs.Events.{Event, replay}
use Rattle.sqlite.specs.Files.{file_state}
use Rattle.sqlite.specs.Recovery.{Image}
use Rattle.xq_databases.specs.Opened.{IsFoundIn}
use Rattle.xq_databases.proofs.Opened.{opened}
use Rattle.xq_databases.proofs.disk_stores.open_store.Goals as goal

abbrev image : List ℕ → List ℕ → Image
image log db = record { log = log; db = db }

-- what a file reads as, by what has happened to it
abbrev seen : List ℕ → List ℕ → Bool → List Event → List ℕ
seen log db is_log history = (replay (cond is_log log db) history).seen

pub returns-in-Ok-database_in-clause-found : goal.returns-in-Ok-database_in-clause-found
returns-in-Ok-database_in-clause-found g c =
    let it = c.adopted.ensures in
    let conn = c.in-Ok-database_in.conn in
    let (log, db) = c.in_ok-files.ensures.fresh in
    let same = ap₂ image (ap₂ (seen g.S.Start.log g.S.Start.db) log.0 log.1) (ap₂ (seen g.S.Start.log g.S.Start.db) db.0 db.1) in
    opened conn _ c.adopted.result it.known it.made it.found it.was_clean (λ now. subst (λ i. IsFoundIn true i (file_state conn).now) same (c.in-Ok-database_in.ensures now))
