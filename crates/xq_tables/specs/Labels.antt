-- The tables of edition 2, as the schema of a database, and the rows of each: a name of nodes stands
-- once, in a table of labels.
use Rattle.std.specs.Prelude.{◌≡◌, ◌≤◌, ◌⊎◌, ◌++◌, Bool, true, false, [], ◌∷◌, Option, None, Some, codes, find, ℕ, pos, List, map, filter, flat_map}
use Rattle.sqlite.specs.Collation.TheVariants.{Binary}
use Rattle.sqlite.specs.declared.types.Value.TheVariants.{Null}
use Rattle.sqlite.specs.Table.{Table}
use Rattle.sqlite.specs.Schema.{Schema}
use Rattle.sqlite.specs.Effect.{Database}
use Rattle.sqlite.specs.Kind.TheVariants.{Integer, Text}
use Rattle.sqlite_schema.specs.declared.schema.Column.{Column}
use Rattle.sqlite_schema.specs.declared.schema.Index.{Index}
use Rattle.sqlite_schema.specs.Names.{same_name}
use Rattle.sqlite_sql.specs.Ops.{binary, is_true}
use Rattle.sqlite_sql.specs.declared.ops.BinaryOp.TheVariants.{Compare}
use Rattle.sqlite_sql.specs.declared.ops.CompareOp.TheVariants.{Eq}
use Rattle.sqlite_value.specs.Keys.{plain}
use Rattle.sqlite_value.specs.Order.{Row, column}
use Rattle.sqlite_value.specs.declared.value.Value.TheVariants.{Int, Text as Words}
use Rattle.xq_tables.specs.Tables.{layout_table, node_rows, required_column, rows_named, old_schema, turned_old_schema}

-- the number of a label, which is its rowid
abbrev pub id_column : Column
id_column = record {
  name = codes "id";
  kind = Integer;
  is_strict = true;
  not_null = false;
  default = Null;
  collation = Binary;
}

-- CREATE TABLE label (id INTEGER PRIMARY KEY, name TEXT NOT NULL UNIQUE) STRICT
abbrev pub label_table : Table
label_table = record {
  name = codes "label";
  tree = 1;
  columns = id_column ∷ required_column (codes "name") Text ∷ [];
  key = Some 0;
  primary = 0 ∷ [];
  uniques = (2 ∷ []) ∷ [];
  orders = plain ∷ [];
  checks = [];
  references = [];
  computed = [];
  stamps = record { places = []; terms = []; formats = [] };
  is_counted = false;
}

-- the index that keeps the names apart
abbrev pub label_index : Index
label_index = record {
  name = codes "sqlite_autoindex_label_1";
  tree = 2;
  table = 1;
  columns = 2 ∷ [];
  order = plain;
  is_unique = true;
}

-- CREATE TABLE node2 (address TEXT NOT NULL, pre INTEGER NOT NULL, .., PRIMARY KEY (address, pre))
-- STRICT
abbrev pub node2_table : Table
node2_table = record {
  name = codes "node2";
  tree = 3;
  columns = required_column (codes "address") Text ∷ required_column (codes "pre") Integer
      ∷ required_column (codes "size") Integer ∷ required_column (codes "level") Integer
      ∷ required_column (codes "kind") Integer ∷ required_column (codes "label") Integer
      ∷ required_column (codes "value") Text ∷ [];
  key = None;
  primary = 1 ∷ 2 ∷ [];
  uniques = (1 ∷ 2 ∷ []) ∷ [];
  orders = plain ∷ [];
  checks = [];
  references = [];
  computed = [];
  stamps = record { places = []; terms = []; formats = [] };
  is_counted = false;
}

-- the index that keeps the primary key
abbrev pub node2_index : Index
node2_index = record {
  name = codes "sqlite_autoindex_node2_1";
  tree = 4;
  table = 3;
  columns = 1 ∷ 2 ∷ [];
  order = plain;
  is_unique = true;
}

-- the tables of a new store
abbrev pub labelled_schema : Schema
labelled_schema = record {
  tables = layout_table ∷ label_table ∷ node2_table ∷ [];
  indexes = label_index ∷ node2_index ∷ [];
  views = [];
}

-- those of a store that was carried over: the tables of edition 1, and the others after them
abbrev pub carried_schema : Schema → Schema
carried_schema old = record {
  tables = old.tables ++ record label_table { tree = 3 } ∷ record node2_table { tree = 5 } ∷ [];
  indexes = old.indexes ++ record label_index { tree = 4; table = 3 }
      ∷ record node2_index { tree = 6; table = 5 } ∷ [];
  views = [];
}

-- the tables as a store makes them: alone, or beside those of edition 1, whichever was made first
abbrev pub IsStoreSchema : Schema → Type 0
IsStoreSchema schema = (schema ≡ labelled_schema)
    ⊎ ((schema ≡ carried_schema old_schema) ⊎ (schema ≡ carried_schema turned_old_schema))

-- # Their rows

-- A row of the table label is its rowid, which is its number, NULL and its name; one of the table
-- node2 is its rowid, and then its columns: 1 address, 2 pre, 3 size, 4 level, 5 kind, 6 label, 7
-- value.

-- the rows of the table `label`
unfoldable pub label_rows : Database → List Row
label_rows = rows_named (codes "label")

-- the rows of the table `node2`
unfoldable pub node2_rows : Database → List Row
node2_rows = rows_named (codes "node2")

-- a label is that of a row
abbrev pub is_label : Row → Row → Bool
is_label r l = is_true (binary (Compare Eq Binary) (column r 6) (column l 0))

-- a row of the table node2 with the name of a label in the place of its number
abbrev pub named : Row → Row → Row
named r l = column r 0 ∷ column r 1 ∷ column r 2 ∷ column r 3 ∷ column r 4 ∷ column r 5
    ∷ column l 2 ∷ column r 7 ∷ []

-- the rows with the names of their labels
abbrev pub named_rows : List Row → List Row → List Row
named_rows labels nodes = flat_map (λ r. map (named r) (filter (is_label r) labels)) nodes

-- the greatest number that a label may have
abbrev pub most_label : ℕ
most_label = 2147483647

-- its number is one that a label may have
abbrev pub IsNumbered : Row → Type 0
IsNumbered l = (n : ℕ) × (column l 0 ≡ Int (pos n)) × (n ≤ most_label)

-- the rows of nodes that the tables stand for: those of `node2` with the names of their labels, or,
-- where no such table is there, those of `node`
abbrev pub shown_in : Database → Option Table → List Row
shown_in db None = node_rows db
shown_in db (Some table) = named_rows (label_rows db) (db.trees table.tree)

unfoldable pub shown_rows : Database → List Row
shown_rows db = shown_in db
    (find (λ table. same_name table.name (codes "node2")) db.schema.tables)

-- the row has one label
abbrev pub HasLabel : List Row → Row → Type 0
HasLabel labels r = (l : Row) × (filter (is_label r) labels ≡ l ∷ [])

-- a label has a number
abbrev pub has_number : ℕ → Row → Bool
has_number n l = is_true (binary (Compare Eq Binary) (Int (pos n)) (column l 0))

-- the number is that of one label, and this is its name
abbrev pub IsNumberOf : List Row → ℕ → List ℕ → Type 0
IsNumberOf labels n name = (l : Row) × (filter (has_number n) labels ≡ l ∷ [])
    × (column l 2 ≡ Words name)
