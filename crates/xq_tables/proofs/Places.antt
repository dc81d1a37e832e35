-- Where the two tables of edition 1 lie, by which of them was made first; and what statements find.
use Rattle.std.proofs.Common.{◌≡◌, ◌-◌, ◌^◌, nat_le, Bool, true, false, cond, unwrap_or, slice_get, ℕ, [], Option, Some, None, inl, inr, refl, sym, ap, subst, ◌∙◌}
use Rattle.sqlite_value.specs.Order.{Row}
use Rattle.sqlite_trees.specs.Tree.{Trees}
use Rattle.sqlite_sql.specs.Program.{overlay}
use Rattle.sqlite_tied.specs.Compute.{everything}
use Rattle.sqlite.specs.Does.{Tally, AtPlace, OnTable}
use Rattle.sqlite.specs.Effect.{Database}
use Rattle.sqlite.specs.Rows.{Outcome, Part, Task}
use Rattle.sqlite.specs.declared.run.Mode.{Mode}
use Rattle.sqlite.specs.Schema.{Schema}
use Rattle.sqlite.specs.Table.{Table}
use Rattle.xq_tables.specs.Labels.{shown_rows}
use Rattle.xq_tables.specs.Tables.{node_table, old_schema, turned_old_schema, IsOldSchema, layout_rows, node_rows}

-- which of the two was made first
pub data First : Type 0 where
  layout_first : First
  node_first : First

abbrev pub schema_of : First → Schema
schema_of layout_first = old_schema
schema_of node_first = turned_old_schema

abbrev pub layout_tree : First → ℕ
layout_tree layout_first = 0
layout_tree node_first = 2

abbrev pub node_tree : First → ℕ
node_tree layout_first = 1
node_tree node_first = 0

-- which of the tables it is
abbrev pub node_place : First → ℕ
node_place layout_first = 1
node_place node_first = 0

abbrev pub node_table_of : First → Table
node_table_of first = record node_table { tree = node_tree first }

pub is_schema : (first : First) → IsOldSchema (schema_of first)
is_schema layout_first = inl refl
is_schema node_first = inr refl

pub which : (schema : Schema) → IsOldSchema schema → (first : First) × (schema ≡ schema_of first)
which schema (inl is) = (layout_first, is)
which schema (inr is) = (node_first, is)

-- # The rows

pub nodes_lie : (first : First) (db : Database) → db.schema ≡ schema_of first → node_rows db ≡ db.trees (node_tree first)
unfolding node_rows everything
nodes_lie layout_first db is = ap (λ s. node_rows (record db { schema = s })) is
nodes_lie node_first db is = ap (λ s. node_rows (record db { schema = s })) is

pub layout_lies : (first : First) (db : Database) → db.schema ≡ schema_of first → layout_rows db ≡ db.trees (layout_tree first)
unfolding layout_rows everything
layout_lies layout_first db is = ap (λ s. layout_rows (record db { schema = s })) is
layout_lies node_first db is = ap (λ s. layout_rows (record db { schema = s })) is

shown_lie : (first : First) (db : Database) → db.schema ≡ schema_of first → shown_rows db ≡ db.trees (node_tree first)
unfolding shown_rows node_rows everything
shown_lie layout_first db is = ap (λ s. shown_rows (record db { schema = s })) is
shown_lie node_first db is = ap (λ s. shown_rows (record db { schema = s })) is

-- what the tables show are the rows of `node`
pub shown_are : (db : Database) → IsOldSchema db.schema → shown_rows db ≡ node_rows db
shown_are db has = (let place = which db.schema has in shown_lie place.0 db place.1 ∙ sym (nodes_lie place.0 db place.1))

-- # What statements find

-- no table is given by WITH
pub not_given : (tree : ℕ) (db : Trees) → overlay db [] tree ≡ db tree
not_given tree db = go (nat_le (2 ^ 31) tree)
  where
    go : (b : Bool) → unwrap_or (cond b (slice_get [] (tree - 2 ^ 31)) None) (db tree) ≡ db tree
    go true = refl
    go false = refl

-- a statement on the rows of a table is one on these
module _ (schema : Schema) (place : ℕ) (table : Table) (there : slice_get schema.tables place ≡ Some table) where
  pub on_table : (limit : Option ℕ) (mode : Mode) (params : Row) (db : Trees) (P : Task → Part (Tally × Database)) (out : Outcome (Tally × Database)) → OnTable limit mode params (record { schema = schema; trees = db }) place P out
      → P (record { limit = limit; keys = mode.keys; schema = schema; table = table; params = params }) out
  on_table limit mode params db P out on = subst (λ o. AtPlace (λ t. P (record { limit = limit; keys = mode.keys; schema = schema; table = t; params = params })) o out) there on
