use Rattle.std.proofs.Common.{refl}
use Rattle.sqlite.specs.Held.{state}
use Rattle.sqlite.specs.Files.{over_files}
use Rattle.xq_tables.specs.Documents.{IsReady}
use Rattle.xq_store.proofs.Keeping.{keeping_empty}
use Rattle.xq_tables.proofs.Calls.{new_clean, new_open, new_empty}
use Rattle.xq_store.proofs.MemoryFiles.{always_clean}
use Rattle.xq_store.proofs.stores.Store+FileStore+MemoryDisk.new_on_memory_disks.Goals as goal

pub returns-clause-clean : goal.returns-clause-clean
returns-clause-clean c =
    let clean = always_clean _ refl c.make_tables.new.conn in
    let ready : IsReady (state over_files c.make_tables.new.conn) = (clean, c.in_ok-make_tables.ensures.ends_open clean) in
    new_clean over_files c.make_tables.new.conn ready (c.in_ok-make_tables.ensures.made ready c.in_ok-conn.ensures.empty.2)

pub returns-clause-open : goal.returns-clause-open
returns-clause-open c =
    let clean = always_clean _ refl c.make_tables.new.conn in
    let ready : IsReady (state over_files c.make_tables.new.conn) = (clean, c.in_ok-make_tables.ensures.ends_open clean) in
    new_open over_files c.make_tables.new.conn ready (c.in_ok-make_tables.ensures.made ready c.in_ok-conn.ensures.empty.2)

pub returns-clause-none : goal.returns-clause-none
returns-clause-none c =
    let clean = always_clean _ refl c.make_tables.new.conn in
    let ready : IsReady (state over_files c.make_tables.new.conn) = (clean, c.in_ok-make_tables.ensures.ends_open clean) in
    new_empty over_files c.make_tables.new.conn ready (c.in_ok-make_tables.ensures.made ready c.in_ok-conn.ensures.empty.2)

pub invariant_of-result : goal.invariant_of-result
invariant_of-result c =
    let clean = always_clean _ refl c.make_tables.new.conn in
    let ready : IsReady (state over_files c.make_tables.new.conn) = (clean, c.in_ok-make_tables.ensures.ends_open clean) in
    keeping_empty over_files c.make_tables.new.conn c.make_tables.ensures.outside.mode (c.in_ok-make_tables.ensures.made ready c.in_ok-conn.ensures.empty.2) c.empty.result c.empty.ensures
