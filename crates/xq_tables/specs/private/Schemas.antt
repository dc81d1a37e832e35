-- What a table of a store has beside its name and its columns, and the schemas on the way to
-- that of a store.
use Rattle.std.specs.Prelude.{◌≡◌, ◌+◌, ◌++◌, ℕ, false, [], ◌∷◌}
use Rattle.sqlite.specs.Schema.{Schema}
use Rattle.sqlite.specs.Table.{Table}
use Rattle.xq_tables.specs.Labels.{carried_schema, label_index, label_table, labelled_schema}
use Rattle.xq_tables.specs.Tables.{layout_table, old_schema, turned_old_schema}

-- nothing but keys
pub record IsBare (table : Table) : Type 0 where
  pub checks : table.checks ≡ []
  pub references : table.references ≡ []
  pub computed : table.computed ≡ []
  pub stamps : table.stamps ≡ record { places = []; terms = []; formats = [] }
  pub uncounted : table.is_counted ≡ false

-- the table `layout` alone
abbrev pub layout_schema : Schema
layout_schema = record { tables = layout_table ∷ []; indexes = []; views = [] }

-- what was there before the other tables of edition 2: `layout` alone, or the two tables of edition 1,
-- by which of them was made first
pub data Made : Type 0 where
  alone : Made
  layout_first : Made
  node_first : Made

abbrev pub base_of : Made → Schema
base_of alone = layout_schema
base_of layout_first = old_schema
base_of node_first = turned_old_schema

-- where the labels are put
abbrev pub label_tree : Made → ℕ
label_tree alone = 1
label_tree layout_first = 3
label_tree node_first = 3

-- the table `label` comes after them
abbrev pub labels_of : Made → Schema
labels_of made = record {
  tables = (base_of made).tables ++ record label_table { tree = label_tree made } ∷ [];
  indexes = (base_of made).indexes
      ++ record label_index { tree = label_tree made + 1; table = label_tree made } ∷ [];
  views = [];
}

-- and then `node2`
abbrev pub schema_of : Made → Schema
schema_of alone = labelled_schema
schema_of layout_first = carried_schema old_schema
schema_of node_first = carried_schema turned_old_schema
