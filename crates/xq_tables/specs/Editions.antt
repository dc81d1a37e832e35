-- Which tables a database has that may be adopted.
use Rattle.std.specs.Prelude.{◌≡◌}
use Rattle.sqlite.specs.Schema.{Schema}
use Rattle.xq_tables.specs.Labels.{IsStoreSchema}
use Rattle.xq_tables.specs.declared.schemas.Tables.{Tables}
use Rattle.xq_tables.specs.declared.schemas.Tables.TheVariants.{Blank, Current, Old}
use Rattle.xq_tables.specs.Tables.{no_schema, IsOldSchema}

-- a schema has these tables
abbrev pub AreTables : Tables → Schema → Type 0
AreTables Blank schema = schema ≡ no_schema
AreTables Old schema = IsOldSchema schema
AreTables Current schema = IsStoreSchema schema
