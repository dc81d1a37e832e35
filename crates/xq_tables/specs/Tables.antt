-- The tables of edition 1, as the schema of a database, and the rows of each.
use Rattle.std.specs.Prelude.{◌≡◌, ◌⊎◌, true, false, [], ◌∷◌, Option, None, Some, codes, find, ℕ, List}
use Rattle.sqlite.specs.Collation.TheVariants.{Binary}
use Rattle.sqlite.specs.declared.types.Value.TheVariants.{Null}
use Rattle.sqlite.specs.Table.{Table}
use Rattle.sqlite.specs.Schema.{Schema}
use Rattle.sqlite.specs.Effect.{Database}
use Rattle.sqlite.specs.Kind.{Kind}
use Rattle.sqlite.specs.Kind.TheVariants.{Integer, Text}
use Rattle.sqlite_schema.specs.declared.schema.Column.{Column}
use Rattle.sqlite_schema.specs.declared.schema.Index.{Index}
use Rattle.sqlite_schema.specs.Names.{same_name}
use Rattle.sqlite_value.specs.Order.{Row}
use Rattle.sqlite_value.specs.Keys.{plain}

-- a database in which no table was made
abbrev pub no_schema : Schema
no_schema = record { tables = []; indexes = []; views = [] }

-- a column of a STRICT table that is NOT NULL
abbrev pub required_column : List ℕ → Kind → Column
required_column name kind = record {
  name = name;
  kind = kind;
  is_strict = true;
  not_null = true;
  default =
      Null;
  collation = Binary;
}

-- CREATE TABLE layout (edition INTEGER NOT NULL) STRICT
abbrev pub layout_table : Table
layout_table = record {
  name = codes "layout";
  tree = 0;
  columns = required_column (codes "edition") Integer ∷ [];
  key = None;
  primary = [];
  uniques = [];
  orders = [];
  checks = [];
  references = [];
  computed = [];
  stamps = record { places = []; terms = []; formats = [] };
  is_counted = false;
}

-- CREATE TABLE node (address TEXT NOT NULL, pre INTEGER NOT NULL, .., PRIMARY KEY (address, pre))
-- STRICT
abbrev pub node_table : Table
node_table = record {
  name = codes "node";
  tree = 1;
  columns = required_column (codes "address") Text ∷ required_column (codes "pre") Integer
      ∷ required_column (codes "size") Integer ∷ required_column (codes "level") Integer
      ∷ required_column (codes "kind") Integer ∷ required_column (codes "name") Text
      ∷ required_column (codes "value") Text ∷ [];
  key = None;
  primary = 1 ∷ 2 ∷ [];
  uniques = (1 ∷ 2 ∷ []) ∷ [];
  orders = plain ∷ [];
  checks = [];
  references = [];
  computed = [];
  stamps = record { places = []; terms = []; formats = [] };
  is_counted = false;
}

-- the index that keeps the primary key
abbrev pub node_index : Index
node_index = record {
  name = codes "sqlite_autoindex_node_1";
  tree = 2;
  table = 1;
  columns = 1 ∷ 2
      ∷ [];
  order = plain;
  is_unique = true;
}

-- the two tables, `node` made first
abbrev pub turned_old_schema : Schema
turned_old_schema = record {
  tables = record node_table { tree = 0 } ∷ record layout_table { tree = 2 }
      ∷ [];
  indexes = record node_index { tree = 1; table = 0 } ∷ [];
  views = [];
}

-- the two tables, `layout` made first
abbrev pub old_schema : Schema
old_schema = record {
  tables = layout_table ∷ node_table ∷ [];
  indexes = node_index
      ∷ [];
  views = [];
}

-- the tables of edition 1 and no others, whichever was made first
abbrev pub IsOldSchema : Schema → Type 0
IsOldSchema schema = (schema ≡ old_schema) ⊎ (schema ≡ turned_old_schema)

-- the rows of a table, where there is one
abbrev pub rows_in : Database → Option Table → List Row
rows_in db None = []
rows_in db (Some table) = db.trees table.tree

-- the rows of the table with this name
abbrev pub rows_named : List ℕ → Database → List Row
rows_named name db = rows_in db (find (λ table. same_name table.name name) db.schema.tables)

-- the rows of the table `layout`
unfoldable pub layout_rows : Database → List Row
layout_rows = rows_named (codes "layout")

-- the rows of the table `node`
unfoldable pub node_rows : Database → List Row
node_rows = rows_named (codes "node")
