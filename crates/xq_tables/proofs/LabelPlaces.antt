-- Where the tables of edition 2 lie, by what was there before them.
use Rattle.std.proofs.Common.{◌≡◌, ◌≢◌, ℕ, slice_get, List, [], Some, inl, inr, refl, sym, ap, ap₂, ◌∙◌, arith}
use Rattle.std.specs.List.{AllByRecursion}
use Rattle.sqlite_value.specs.Order.{Row}
use Rattle.sqlite_trees.specs.Tree.{Trees}
use Rattle.sqlite_schema.specs.declared.schema.Keys.{Keys}
use Rattle.sqlite_tied.specs.Compute.{everything}
use Rattle.sqlite_rules.specs.Action.{works}
use Rattle.sqlite.specs.Effect.{Database}
use Rattle.sqlite.specs.Schema.{Schema}
use Rattle.sqlite.specs.Table.{Table}
use Rattle.xq_tables.specs.Labels.{label_rows, label_table, named_rows, node2_rows, node2_table, shown_rows, IsStoreSchema}
pub use Rattle.xq_tables.specs.private.Schemas.{Made, alone, layout_first, node_first, base_of, labels_of, schema_of, label_tree}
use Rattle.xq_tables.specs.Tables.{layout_rows, layout_table, node_rows}

abbrev pub layout_tree : Made → ℕ
layout_tree alone = 0
layout_tree layout_first = 0
layout_tree node_first = 2

abbrev pub node2_tree : Made → ℕ
node2_tree alone = 3
node2_tree layout_first = 5
node2_tree node_first = 5

-- which of the tables each is
abbrev pub layout_place : Made → ℕ
layout_place alone = 0
layout_place layout_first = 0
layout_place node_first = 1

abbrev pub label_place : Made → ℕ
label_place alone = 1
label_place layout_first = 2
label_place node_first = 2

abbrev pub node2_place : Made → ℕ
node2_place alone = 2
node2_place layout_first = 3
node2_place node_first = 3

abbrev pub layout_table_of : Made → Table
layout_table_of made = record layout_table { tree = layout_tree made }

abbrev pub label_table_of : Made → Table
label_table_of made = record label_table { tree = label_tree made }

abbrev pub node2_table_of : Made → Table
node2_table_of made = record node2_table { tree = node2_tree made }

pub is_schema : (made : Made) → IsStoreSchema (schema_of made)
is_schema alone = inl refl
is_schema layout_first = inr (inl refl)
is_schema node_first = inr (inr refl)

pub which : (schema : Schema) → IsStoreSchema schema → (made : Made) × (schema ≡ schema_of made)
which schema (inl is) = (alone, is)
which schema (inr (inl is)) = (layout_first, is)
which schema (inr (inr is)) = (node_first, is)

-- # The rows

pub nodes_lie : (made : Made) (db : Database) → db.schema ≡ schema_of made → node2_rows db ≡ db.trees (node2_tree made)
unfolding node2_rows everything
nodes_lie alone db is = ap (λ s. node2_rows (record db { schema = s })) is
nodes_lie layout_first db is = ap (λ s. node2_rows (record db { schema = s })) is
nodes_lie node_first db is = ap (λ s. node2_rows (record db { schema = s })) is

pub labels_lie : (made : Made) (db : Database) → db.schema ≡ schema_of made → label_rows db ≡ db.trees (label_tree made)
unfolding label_rows everything
labels_lie alone db is = ap (λ s. label_rows (record db { schema = s })) is
labels_lie layout_first db is = ap (λ s. label_rows (record db { schema = s })) is
labels_lie node_first db is = ap (λ s. label_rows (record db { schema = s })) is

pub layout_lies : (made : Made) (db : Database) → db.schema ≡ schema_of made → layout_rows db ≡ db.trees (layout_tree made)
unfolding layout_rows everything
layout_lies alone db is = ap (λ s. layout_rows (record db { schema = s })) is
layout_lies layout_first db is = ap (λ s. layout_rows (record db { schema = s })) is
layout_lies node_first db is = ap (λ s. layout_rows (record db { schema = s })) is

-- the rows of the table `node` of edition 1, where it is there
abbrev pub old_rows : Made → Trees → List Row
old_rows alone db = []
old_rows layout_first db = db 1
old_rows node_first db = db 0

pub old_lie : (made : Made) (db : Database) → db.schema ≡ schema_of made → node_rows db ≡ old_rows made db.trees
unfolding node_rows everything
old_lie alone db is = ap (λ s. node_rows (record db { schema = s })) is
old_lie layout_first db is = ap (λ s. node_rows (record db { schema = s })) is
old_lie node_first db is = ap (λ s. node_rows (record db { schema = s })) is

pub shown_lie : (made : Made) (db : Database) → db.schema ≡ schema_of made → shown_rows db ≡ named_rows (db.trees (label_tree made)) (db.trees (node2_tree made))
unfolding shown_rows label_rows everything
shown_lie alone db is = ap (λ s. shown_rows (record db { schema = s })) is
shown_lie layout_first db is = ap (λ s. shown_rows (record db { schema = s })) is
shown_lie node_first db is = ap (λ s. shown_rows (record db { schema = s })) is

-- what the tables show are the rows of `node2` with the names of their labels
pub shown_are : (db : Database) → IsStoreSchema db.schema → shown_rows db ≡ named_rows (label_rows db) (node2_rows db)
shown_are db has =
    let place = which db.schema has in
    shown_lie place.0 db place.1 ∙ sym (ap₂ named_rows (labels_lie place.0 db place.1) (nodes_lie place.0 db place.1))

-- # What statements find

pub node2_there : (made : Made) → slice_get (schema_of made).tables (node2_place made) ≡ Some (node2_table_of made)
node2_there alone = refl
node2_there layout_first = refl
node2_there node_first = refl

pub label_there : (made : Made) → slice_get (schema_of made).tables (label_place made) ≡ Some (label_table_of made)
label_there alone = refl
label_there layout_first = refl
label_there node_first = refl

pub layout_there : (made : Made) → slice_get (schema_of made).tables (layout_place made) ≡ Some (layout_table_of made)
layout_there alone = refl
layout_there layout_first = refl
layout_there node_first = refl

-- no foreign key acts
pub no_works : (made : Made) (tree : ℕ) (keys : Keys) (olds news : List Row) → works (schema_of made) keys 0 tree olds news ≡ []
no_works alone tree keys olds news = refl
no_works layout_first tree keys olds news = refl
no_works node_first tree keys olds news = refl

-- # The other tables stay

abbrev pub OthersStay : Made → ℕ → Trees → Trees → Type 0
OthersStay made tree db next = AllByRecursion (λ (t : Table). t.tree ≢ tree → next t.tree ≡ db t.tree) (schema_of made).tables

module _ (tree : ℕ) (db next : Trees) where
  pub layout_stays : (made : Made) → OthersStay made tree db next → layout_tree made ≢ tree → next (layout_tree made) ≡ db (layout_tree made)
  layout_stays alone all = all.0
  layout_stays layout_first all = all.0
  layout_stays node_first all = all.1.0

  pub labels_stay : (made : Made) → OthersStay made tree db next → label_tree made ≢ tree → next (label_tree made) ≡ db (label_tree made)
  labels_stay alone all = all.1.0
  labels_stay layout_first all = all.1.1.0
  labels_stay node_first all = all.1.1.0

  pub nodes_stay : (made : Made) → OthersStay made tree db next → node2_tree made ≢ tree → next (node2_tree made) ≡ db (node2_tree made)
  nodes_stay alone all = all.1.1.0
  nodes_stay layout_first all = all.1.1.1.0
  nodes_stay node_first all = all.1.1.1.0

-- no two lie in one tree
pub layout_not_label : (made : Made) → layout_tree made ≢ label_tree made
layout_not_label alone e = omega (arith, e)
layout_not_label layout_first e = omega (arith, e)
layout_not_label node_first e = omega (arith, e)

pub layout_not_node2 : (made : Made) → layout_tree made ≢ node2_tree made
layout_not_node2 alone e = omega (arith, e)
layout_not_node2 layout_first e = omega (arith, e)
layout_not_node2 node_first e = omega (arith, e)

pub label_not_node2 : (made : Made) → label_tree made ≢ node2_tree made
label_not_node2 alone e = omega (arith, e)
label_not_node2 layout_first e = omega (arith, e)
label_not_node2 node_first e = omega (arith, e)

-- nor does one of them lie in that of `node`
module _ (db next : Trees) where
  pub old_beside_labels : (made : Made) → OthersStay made (label_tree made) db next → old_rows made next ≡ old_rows made db
  old_beside_labels alone all = refl
  old_beside_labels layout_first all = all.1.0 (λ e. omega (arith, e))
  old_beside_labels node_first all = all.0 (λ e. omega (arith, e))

  pub old_beside_nodes : (made : Made) → OthersStay made (node2_tree made) db next → old_rows made next ≡ old_rows made db
  old_beside_nodes alone all = refl
  old_beside_nodes layout_first all = all.1.0 (λ e. omega (arith, e))
  old_beside_nodes node_first all = all.0 (λ e. omega (arith, e))

  pub old_beside_layout : (made : Made) → OthersStay made (layout_tree made) db next → old_rows made next ≡ old_rows made db
  old_beside_layout alone all = refl
  old_beside_layout layout_first all = all.1.0 (λ e. omega (arith, e))
  old_beside_layout node_first all = all.0 (λ e. omega (arith, e))
