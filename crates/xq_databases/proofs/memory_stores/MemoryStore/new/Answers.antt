use Rattle.std.proofs.Common.{refl}
use Rattle.sqlite.specs.Files.{over_files}
use Rattle.xq_tables.proofs.Calls.{clean_now}
use Rattle.xq_store.proofs.MemoryFiles.{always_clean}
use Rattle.xq_databases.proofs.memory_stores.MemoryStore.new.Goals as goal

pub returns-in-Ok-clause-clean : goal.returns-in-Ok-clause-clean
returns-in-Ok-clause-clean c = clean_now over_files c.in-Ok.store (always_clean _ refl c.in-Ok.store)

pub returns-in-Ok-clause-open : goal.returns-in-Ok-clause-open
returns-in-Ok-clause-open c = (c.in-Ok.ensures.open (returns-in-Ok-clause-clean c)).0

pub returns-in-Ok-clause-none : goal.returns-in-Ok-clause-none
returns-in-Ok-clause-none c = c.in-Ok.ensures.made (returns-in-Ok-clause-clean c) c.in_ok-new_database.ensures.blank
