-- What the fixed texts of edition 2 mean.
use Rattle.std.proofs.Common.{◌≡◌, List, ℕ, [], ◌∷◌, codes, None, false, pos, negsuc, Ok, refl}
use Rattle.sqlite.specs.Command.{Command}
use Rattle.sqlite.specs.Change.{created, next_tree}
use Rattle.sqlite.specs.Command.TheVariants.{CreateTable, Delete, Insert, Select, Update}
use Rattle.sqlite.specs.Compile.{table_defined_by}
use Rattle.sqlite.specs.Does.{lacks_sequence}
use Rattle.sqlite.specs.Source.TheVariants.{Values}
use Rattle.sqlite.specs.Term.{Term, lit, col, op2}
use Rattle.sqlite.specs.Query.{Query, inner, end}
use Rattle.sqlite.specs.Collation.TheVariants.{Binary}
use Rattle.sqlite.specs.declared.types.Value.TheVariants.{Null, Int, Text}
use Rattle.sqlite_value.specs.declared.keys.Key.{Key}
use Rattle.sqlite_schema.specs.declared.program.Program.{Program}
use Rattle.sqlite_sql.specs.declared.ops.BinaryOp.TheVariants.{Compare}
use Rattle.sqlite_sql.specs.declared.ops.CompareOp.TheVariants.{Eq}
use Rattle.sqlite_tied.specs.Compute.{everything}
use Rattle.sqlite.specs.Listing.{understood, reads_listing}
use Rattle.sqlite.proofs.Callers.{IsPlain, command_of, statement_of}
use Rattle.xq_tables.specs.Labels.{label_table, node2_table}
use Rattle.xq_tables.proofs.LabelPlaces.{Made, alone, layout_first, node_first, base_of, labels_of, schema_of, label_tree, label_place, layout_place, node2_tree, node2_place}
use Rattle.xq_tables.proofs.Texts.{key, body, term1, delete_program, part_tests, addresses_command, range_tests, above_tests, kept_names, insert_terms}

-- # What a SELECT by a join means

abbrev pub join_body : ℕ → ℕ → List Term → List Term → List (Term × Key) → Query
join_body nodes labels tests project order = record {
  from = inner nodes (inner labels end);
  filter = tests;
  group = None;
  project = project;
  distinct = false;
  collations = [];
  order = order;
  limit = lit (Int (negsuc 0));
  offset = lit (Int (pos 0));
}

-- the row has the label
abbrev pub on_term : Term
on_term = op2 (Compare Eq Binary) (col 1 6) (col 2 0)

-- a node with the name of its label
abbrev pub join_terms : List Term
join_terms = col 1 2 ∷ col 1 3 ∷ col 1 4 ∷ col 1 5 ∷ col 2 2 ∷ col 1 7 ∷ []

abbrev pub join_query : ℕ → ℕ → List Term → Query
join_query nodes labels tests = join_body nodes labels (on_term ∷ tests) join_terms ((col 1 2, key) ∷ [])

abbrev pub join_command : Made → List Term → Command
join_command made tests = Select (record { lets = []; body = join_query (node2_tree made) (label_tree made) tests }) kept_names

abbrev pub range2_text : List ℕ
range2_text = codes "SELECT pre, size, level, kind, name, value FROM node2 INNER JOIN label ON label = id WHERE address = ?1 AND pre >= ?2 AND pre <= ?3 ORDER BY pre"

pub range2_is : (made : Made) → (command_of (understood (schema_of made) range2_text) ≡ join_command made range_tests) × (reads_listing (schema_of made) range2_text ≡ false)
unfolding understood everything
range2_is alone = (refl, refl)
range2_is layout_first = (refl, refl)
range2_is node_first = (refl, refl)

pub range2_plain : (made : Made) → IsPlain (understood (schema_of made) range2_text)
unfolding understood everything
range2_plain alone = (refl, refl)
range2_plain layout_first = (refl, refl)
range2_plain node_first = (refl, refl)

abbrev pub part_rows_text : List ℕ
part_rows_text = codes "SELECT pre, size, level, kind, name, value FROM node2 INNER JOIN label ON label = id WHERE address = ?1 AND pre >= ?2 AND pre < ?3 ORDER BY pre"

pub part_rows_are : (made : Made) → (command_of (understood (schema_of made) part_rows_text) ≡ join_command made part_tests) × (reads_listing (schema_of made) part_rows_text ≡ false)
unfolding understood everything
part_rows_are alone = (refl, refl)
part_rows_are layout_first = (refl, refl)
part_rows_are node_first = (refl, refl)

pub part_rows_plain : (made : Made) → IsPlain (understood (schema_of made) part_rows_text)
unfolding understood everything
part_rows_plain alone = (refl, refl)
part_rows_plain layout_first = (refl, refl)
part_rows_plain node_first = (refl, refl)

abbrev pub above2_text : List ℕ
above2_text = codes "SELECT pre, size, level, kind, name, value FROM node2 INNER JOIN label ON label = id WHERE address = ?1 AND pre < ?2 AND pre + size >= ?2 ORDER BY pre"

pub above2_is : (made : Made) → (command_of (understood (schema_of made) above2_text) ≡ join_command made above_tests) × (reads_listing (schema_of made) above2_text ≡ false)
unfolding understood everything
above2_is alone = (refl, refl)
above2_is layout_first = (refl, refl)
above2_is node_first = (refl, refl)

pub above2_plain : (made : Made) → IsPlain (understood (schema_of made) above2_text)
unfolding understood everything
above2_plain alone = (refl, refl)
above2_plain layout_first = (refl, refl)
above2_plain node_first = (refl, refl)

-- # What the other statements on nodes mean

abbrev pub addresses2_text : List ℕ
addresses2_text = codes "SELECT address FROM node2 WHERE pre = 0 ORDER BY address"

pub addresses2_is : (made : Made) → (command_of (understood (schema_of made) addresses2_text) ≡ addresses_command (node2_tree made)) × (reads_listing (schema_of made) addresses2_text ≡ false)
unfolding understood everything
addresses2_is alone = (refl, refl)
addresses2_is layout_first = (refl, refl)
addresses2_is node_first = (refl, refl)

pub addresses2_plain : (made : Made) → IsPlain (understood (schema_of made) addresses2_text)
unfolding understood everything
addresses2_plain alone = (refl, refl)
addresses2_plain layout_first = (refl, refl)
addresses2_plain node_first = (refl, refl)

abbrev pub delete2_text : List ℕ
delete2_text = codes "DELETE FROM node2 WHERE address = ?1"

pub delete2_is : (made : Made) → command_of (understood (schema_of made) delete2_text) ≡ Delete (node2_place made) (delete_program (node2_tree made) (term1 ∷ []))
unfolding understood everything
delete2_is alone = refl
delete2_is layout_first = refl
delete2_is node_first = refl

pub delete2_plain : (made : Made) → IsPlain (understood (schema_of made) delete2_text)
unfolding understood everything
delete2_plain alone = (refl, refl)
delete2_plain layout_first = (refl, refl)
delete2_plain node_first = (refl, refl)

abbrev pub part2_text : List ℕ
part2_text = codes "DELETE FROM node2 WHERE address = ?1 AND pre >= ?2 AND pre < ?3"

pub part2_is : (made : Made) → command_of (understood (schema_of made) part2_text) ≡ Delete (node2_place made) (delete_program (node2_tree made) part_tests)
unfolding understood everything
part2_is alone = refl
part2_is layout_first = refl
part2_is node_first = refl

pub part2_plain : (made : Made) → IsPlain (understood (schema_of made) part2_text)
unfolding understood everything
part2_plain alone = (refl, refl)
part2_plain layout_first = (refl, refl)
part2_plain node_first = (refl, refl)

abbrev pub insert2_text : List ℕ
insert2_text = codes "INSERT INTO node2 (address, pre, size, level, kind, label, value) VALUES (?1, ?2, ?3, ?4, ?5, ?6, ?7)"

pub insert2_is : (made : Made) → command_of (understood (schema_of made) insert2_text) ≡ Insert (node2_place made) (Values insert_terms 8)
unfolding understood everything
insert2_is alone = refl
insert2_is layout_first = refl
insert2_is node_first = refl

pub insert2_plain : (made : Made) → IsPlain (understood (schema_of made) insert2_text)
unfolding understood everything
insert2_plain alone = (refl, refl)
insert2_plain layout_first = (refl, refl)
insert2_plain node_first = (refl, refl)

abbrev pub update2_text : List ℕ
update2_text = codes "UPDATE node2 SET size = ?3, level = ?4, kind = ?5, label = ?6, value = ?7 WHERE address = ?1 AND pre = ?2"

-- the rowid, and then the whole row
abbrev pub update_terms : List Term
update_terms = col 1 0 ∷ col 1 0 ∷ col 1 1 ∷ col 1 2 ∷ col 0 2 ∷ col 0 3 ∷ col 0 4 ∷ col 0 5 ∷ col 0 6 ∷ []

abbrev pub key_tests : List Term
key_tests = term1 ∷ op2 (Compare Eq Binary) (col 1 2) (col 0 1) ∷ []

abbrev pub update_program : ℕ → Program
update_program tree = record { lets = []; body = body tree key_tests update_terms [] }

pub update2_is : (made : Made) → command_of (understood (schema_of made) update2_text) ≡ Update (node2_place made) (update_program (node2_tree made))
unfolding understood everything
update2_is alone = refl
update2_is layout_first = refl
update2_is node_first = refl

pub update2_plain : (made : Made) → IsPlain (understood (schema_of made) update2_text)
unfolding understood everything
update2_plain alone = (refl, refl)
update2_plain layout_first = (refl, refl)
update2_plain node_first = (refl, refl)

-- # What the statements on labels mean

abbrev pub number_text : List ℕ
number_text = codes "SELECT id FROM label WHERE name = ?1"

abbrev pub number_tests : List Term
number_tests = op2 (Compare Eq Binary) (col 1 2) (col 0 0) ∷ []

abbrev pub number_query : ℕ → Query
number_query tree = body tree number_tests (col 1 0 ∷ []) []

abbrev pub number_command : Made → Command
number_command made = Select (record { lets = []; body = number_query (label_tree made) }) (codes "id" ∷ [])

pub number_is : (made : Made) → (command_of (understood (schema_of made) number_text) ≡ number_command made) × (reads_listing (schema_of made) number_text ≡ false)
unfolding understood everything
number_is alone = (refl, refl)
number_is layout_first = (refl, refl)
number_is node_first = (refl, refl)

pub number_plain : (made : Made) → IsPlain (understood (schema_of made) number_text)
unfolding understood everything
number_plain alone = (refl, refl)
number_plain layout_first = (refl, refl)
number_plain node_first = (refl, refl)

abbrev pub add_label_text : List ℕ
add_label_text = codes "INSERT INTO label (name) VALUES (?1)"

abbrev pub add_label_terms : List Term
add_label_terms = lit Null ∷ lit Null ∷ col 0 0 ∷ []

pub add_label_is : (made : Made) → command_of (understood (schema_of made) add_label_text) ≡ Insert (label_place made) (Values add_label_terms 3)
unfolding understood everything
add_label_is alone = refl
add_label_is layout_first = refl
add_label_is node_first = refl

pub add_label_plain : (made : Made) → IsPlain (understood (schema_of made) add_label_text)
unfolding understood everything
add_label_plain alone = (refl, refl)
add_label_plain layout_first = (refl, refl)
add_label_plain node_first = (refl, refl)

-- # What the statements that make the tables mean

abbrev pub label_text : List ℕ
label_text = codes "CREATE TABLE label (id INTEGER PRIMARY KEY, name TEXT NOT NULL UNIQUE) STRICT"

pub label_is : (made : Made) → (command_of (understood (base_of made) label_text) ≡ CreateTable) × (statement_of label_text (understood (base_of made) label_text) ≡ label_text) × (table_defined_by label_text ≡ Ok (record label_table { tree = 0 }))
unfolding understood everything
label_is alone = (refl, refl, refl)
label_is layout_first = (refl, refl, refl)
label_is node_first = (refl, refl, refl)

pub label_plain : (made : Made) → IsPlain (understood (base_of made) label_text)
unfolding understood everything
label_plain alone = (refl, refl)
label_plain layout_first = (refl, refl)
label_plain node_first = (refl, refl)

pub makes_labels : (made : Made) → (created (base_of made) (record label_table { tree = 0 }) ≡ labels_of made) × (lacks_sequence (labels_of made) ≡ false) × (next_tree (base_of made) ≡ label_tree made)
unfolding everything
makes_labels alone = (refl, refl, refl)
makes_labels layout_first = (refl, refl, refl)
makes_labels node_first = (refl, refl, refl)

abbrev pub node2_text : List ℕ
node2_text = codes "CREATE TABLE node2 (address TEXT NOT NULL, pre INTEGER NOT NULL, size INTEGER NOT NULL, level INTEGER NOT NULL, kind INTEGER NOT NULL, label INTEGER NOT NULL, value TEXT NOT NULL, PRIMARY KEY (address, pre)) STRICT"

pub node2_is : (made : Made) → (command_of (understood (labels_of made) node2_text) ≡ CreateTable) × (statement_of node2_text (understood (labels_of made) node2_text) ≡ node2_text) × (table_defined_by node2_text ≡ Ok (record node2_table { tree = 0 }))
unfolding understood everything
node2_is alone = (refl, refl, refl)
node2_is layout_first = (refl, refl, refl)
node2_is node_first = (refl, refl, refl)

pub node2_plain : (made : Made) → IsPlain (understood (labels_of made) node2_text)
unfolding understood everything
node2_plain alone = (refl, refl)
node2_plain layout_first = (refl, refl)
node2_plain node_first = (refl, refl)

pub makes_nodes : (made : Made) → (created (labels_of made) (record node2_table { tree = 0 }) ≡ schema_of made) × (lacks_sequence (schema_of made) ≡ false) × (next_tree (labels_of made) ≡ node2_tree made)
unfolding everything
makes_nodes alone = (refl, refl, refl)
makes_nodes layout_first = (refl, refl, refl)
makes_nodes node_first = (refl, refl, refl)

abbrev pub zero_text : List ℕ
zero_text = codes "INSERT INTO label (id, name) VALUES (0, '')"

abbrev pub zero_terms : List Term
zero_terms = lit (Int (pos 0)) ∷ lit Null ∷ lit (Text []) ∷ []

pub zero_is : (made : Made) → command_of (understood (schema_of made) zero_text) ≡ Insert (label_place made) (Values zero_terms 3)
unfolding understood everything
zero_is alone = refl
zero_is layout_first = refl
zero_is node_first = refl

pub zero_plain : (made : Made) → IsPlain (understood (schema_of made) zero_text)
unfolding understood everything
zero_plain alone = (refl, refl)
zero_plain layout_first = (refl, refl)
zero_plain node_first = (refl, refl)

abbrev pub edition_text : List ℕ
edition_text = codes "INSERT INTO layout (edition) VALUES (2)"

abbrev pub edition_terms : List Term
edition_terms = lit Null ∷ lit (Int (pos 2)) ∷ []

pub edition_is : (made : Made) → command_of (understood (schema_of made) edition_text) ≡ Insert (layout_place made) (Values edition_terms 2)
unfolding understood everything
edition_is alone = refl
edition_is layout_first = refl
edition_is node_first = refl

pub edition_plain : (made : Made) → IsPlain (understood (schema_of made) edition_text)
unfolding understood everything
edition_plain alone = (refl, refl)
edition_plain layout_first = (refl, refl)
edition_plain node_first = (refl, refl)
