use Rattle.std.proofs.Common.{refl}
use Rattle.sqlite.specs.Files.{over_files}
use Rattle.xq_tables.proofs.Calls.{clean_now}
use Rattle.xq_store.proofs.MemoryFiles.{always_clean}
use Rattle.xq_store.proofs.laws.memory_disks_are_clean.Goals as goal

pub returns : goal.returns
returns c = clean_now over_files c.args.store.now (always_clean _ refl c.args.store.now)
