use Rattle.std.proofs.Common.{◌∙◌, sym}
use Rattle.xq_store.specs.Adoption.{IsBlank}
use Rattle.xq_databases.proofs.memory_stores.new_database.Goals as goal

pub returns-then-is_blank-clause-blank : goal.returns-then-is_blank-clause-blank
unfolding IsBlank
returns-then-is_blank-clause-blank c = sym c.schema.ensures.value ∙ c.is_blank.ensures.0 c.if-is_blank.true
