use Rattle.std.proofs.Common.{◌≡◌, ◌≤◌, map, take, string_bytes}
use Rattle.sqlite.specs.State.{HasCleanDisk, KeepsCommit}
use Rattle.sqlite.specs.Held.{state}
use Rattle.sqlite_trees.specs.View.{doubt}
use Rattle.xq_tables.specs.private.Carries.{CarriesSome}
use Rattle.xq_tables.proofs.carries.carry_documents.Given as goal

abbrev pub invariant-loop-address : goal.invariant-loop-address
invariant-loop-address g l =
    let old = state g.S.Store l.fn.transaction.conn.now in
    let now = state g.S.Store l.transaction.conn.now in
    record {
      same_reference : l.transaction.conn.ghost_name ≡ l.fn.transaction.conn.ghost_name;
      clean : doubt old.is_clean ≤ doubt now.is_clean;
      kept : HasCleanDisk now → KeepsCommit old now;
      carried : HasCleanDisk now → CarriesSome (map string_bytes l.addresses) (take l.address-index (map string_bytes l.addresses)) old now;
    }
