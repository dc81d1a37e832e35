use Rattle.std.proofs.Common.{refl}
use Rattle.sqlite.specs.Held.{state}
use Rattle.sqlite.specs.Steps.{over_memory}
use Rattle.sqlite.proofs.Callers.{memory_is_clean}
use Rattle.xq_tables.specs.Documents.{IsReady}
use Rattle.xq_store.proofs.Keeping.{keeping_empty}
use Rattle.xq_tables.proofs.Calls.{new_clean, new_open, new_empty}
use Rattle.xq_store.proofs.stores.Store+MemStore.new_in_memory.Goals as goal

pub returns-clause-clean : goal.returns-clause-clean
returns-clause-clean c =
    let ready : IsReady (state over_memory c.make_tables.new.conn) = (memory_is_clean c.make_tables.new.conn, refl) in
    new_clean over_memory c.make_tables.new.conn ready (c.in_ok-make_tables.ensures.made ready c.in_ok-conn.ensures.empty.2)

pub returns-clause-open : goal.returns-clause-open
returns-clause-open c =
    let ready : IsReady (state over_memory c.make_tables.new.conn) = (memory_is_clean c.make_tables.new.conn, refl) in
    new_open over_memory c.make_tables.new.conn ready (c.in_ok-make_tables.ensures.made ready c.in_ok-conn.ensures.empty.2)

pub returns-clause-none : goal.returns-clause-none
returns-clause-none c =
    let ready : IsReady (state over_memory c.make_tables.new.conn) = (memory_is_clean c.make_tables.new.conn, refl) in
    new_empty over_memory c.make_tables.new.conn ready (c.in_ok-make_tables.ensures.made ready c.in_ok-conn.ensures.empty.2)

pub invariant_of-result : goal.invariant_of-result
invariant_of-result c =
    let ready : IsReady (state over_memory c.make_tables.new.conn) = (memory_is_clean c.make_tables.new.conn, refl) in
    keeping_empty over_memory c.make_tables.new.conn c.make_tables.ensures.outside.mode (c.in_ok-make_tables.ensures.made ready c.in_ok-conn.ensures.empty.2) c.empty.result c.empty.ensures
