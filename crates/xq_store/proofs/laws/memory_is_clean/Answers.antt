use Rattle.sqlite.specs.Steps.{over_memory}
use Rattle.sqlite.proofs.Callers.{memory_is_clean}
use Rattle.xq_tables.proofs.Calls.{clean_now}
use Rattle.xq_store.proofs.laws.memory_is_clean.Goals as goal

pub returns : goal.returns
returns c = clean_now over_memory c.args.store.now (memory_is_clean c.args.store.now)
