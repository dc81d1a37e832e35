-- What the statements that carry documents over mean, and what they do.
use Rattle.std.proofs.Common.{◌≡◌, ◌≢◌, inl, inr, ℕ, pos, List, [], ◌∷◌, map, filter, slice_get, Some, Ok, true, false, codes, refl, sym, ap, subst, ◌∙◌, arith}
use Rattle.std.specs.List.Sorted.{IsPermutation}
use Rattle.std.proofs.lemmas.List.Sorted.{IsPermutation-map}
use Rattle.sqlite_value.specs.Order.{Row, column}
use Rattle.sqlite_value.specs.declared.value.Value.TheVariants.{Text}
use Rattle.sqlite_trees.specs.Tree.{Trees, rowid}
use Rattle.sqlite_trees.proofs.ListLemmas.{map-map}
use Rattle.sqlite_keyed.specs.Lists.{delete_where}
use Rattle.sqlite_sql.specs.Term.{col}
use Rattle.sqlite_catalog.specs.Change.{KeepsRows}
use Rattle.sqlite_resolve.specs.Compile.{first, returning}
use Rattle.sqlite_tied.specs.Compute.{everything}
use Rattle.sqlite.specs.Command.{Command}
use Rattle.sqlite.specs.Command.TheVariants.{Delete, Select}
use Rattle.sqlite.specs.Effect.{Database}
use Rattle.sqlite.specs.Listing.{understood, reads_listing}
use Rattle.sqlite.specs.Schema.{Schema}
use Rattle.sqlite.specs.State.{State, Executes, Shown}
use Rattle.sqlite.proofs.Callers.{IsPlain, command_of, reads_as}
use Rattle.xq_tables.specs.Documents.{is_at, is_first, node_columns, rows_at, AreApart, HaveInts}
use Rattle.xq_tables.specs.Labels.{shown_rows}
use Rattle.xq_tables.specs.Tables.{layout_rows, node_rows, IsOldSchema}
use Rattle.xq_tables.specs.private.Carries.{Empties, ForgetsEdition, IsCarriedSchema, ReadsOld}
use Rattle.xq_tables.specs.private.Columns.{node_of}
use Rattle.xq_tables.specs.Reads.{IsPicked}
use Rattle.xq_tables.proofs.AdoptReads.{ids_command, ids_given}
use Rattle.xq_tables.proofs.Deletes.{deletes_in}
use Rattle.xq_tables.proofs.LabelPlaces.{Made, layout_first, node_first, base_of, schema_of, layout_place, layout_table_of, layout_there, layout_tree, label_tree, node2_tree, labels_lie, layout_lies, nodes_lie, old_lie, old_rows, no_works, OthersStay, labels_stay, layout_stays, nodes_stay, layout_not_label, layout_not_node2}
use Rattle.xq_tables.proofs.Lists.{same_test}
use Rattle.xq_tables.proofs.Numbers.{shown_same}
use Rattle.xq_tables.proofs.Places as old
use Rattle.xq_tables.proofs.Selects.{and_true, equals_int, equals_text, picked, same_passes, selected, selected_rows}
use Rattle.xq_tables.proofs.Silent.{silent, ShowsNoWrite}
use Rattle.xq_tables.proofs.Texts.{addresses_command, addresses_tests, body, delete_program, kept_names, kept_terms, key, term1}

-- # Where the tables lie

-- the tables of edition 2 after those of edition 1
abbrev pub after : old.First → Made
after old.layout_first = layout_first
after old.node_first = node_first

pub which_after : (schema : Schema) → IsCarriedSchema schema → (kind : old.First) × (schema ≡ schema_of (after kind))
which_after schema (inl is) = (old.layout_first, is)
which_after schema (inr is) = (old.node_first, is)

pub is_after : (kind : old.First) → IsCarriedSchema (schema_of (after kind))
is_after old.layout_first = inl refl
is_after old.node_first = inr refl

pub base_after : (kind : old.First) → old.schema_of kind ≡ base_of (after kind)
base_after old.layout_first = refl
base_after old.node_first = refl

old_there : (kind : old.First) → slice_get (schema_of (after kind)).tables (old.node_place kind) ≡ Some (old.node_table_of kind)
old_there old.layout_first = refl
old_there old.node_first = refl

old_after : (kind : old.First) (db : Trees) → old_rows (after kind) db ≡ db (old.node_tree kind)
old_after old.layout_first db = refl
old_after old.node_first db = refl

pub node_after : (kind : old.First) (db : Database) → db.schema ≡ schema_of (after kind) → node_rows db ≡ db.trees (old.node_tree kind)
node_after kind db is = old_lie (after kind) db is ∙ old_after kind db.trees

layout_same : (kind : old.First) → layout_tree (after kind) ≡ old.layout_tree kind
layout_same old.layout_first = refl
layout_same old.node_first = refl

-- where those of edition 1 were kept
pub node_kept : (kind : old.First) (was now : Database) → was.schema ≡ old.schema_of kind → now.schema ≡ schema_of (after kind) → KeepsRows (base_of (after kind)).tables was.trees now.trees → node_rows now ≡ node_rows was
node_kept kind was now has is keeps = node_after kind now is ∙ kept kind keeps ∙ sym (old.nodes_lie kind was has)
  where
    kept : (kind : old.First) → KeepsRows (base_of (after kind)).tables was.trees now.trees → now.trees (old.node_tree kind) ≡ was.trees (old.node_tree kind)
    kept old.layout_first keeps = keeps.1.0
    kept old.node_first keeps = keeps.0

pub layout_kept : (kind : old.First) (was now : Database) → was.schema ≡ old.schema_of kind → now.schema ≡ schema_of (after kind) → KeepsRows (base_of (after kind)).tables was.trees now.trees → layout_rows now ≡ layout_rows was
layout_kept kind was now has is keeps = layout_lies (after kind) now is ∙ ap now.trees (layout_same kind) ∙ kept kind keeps ∙ sym (old.layout_lies kind was has)
  where
    kept : (kind : old.First) → KeepsRows (base_of (after kind)).tables was.trees now.trees → now.trees (old.layout_tree kind) ≡ was.trees (old.layout_tree kind)
    kept old.layout_first keeps = keeps.0
    kept old.node_first keeps = keeps.1.0

old_stays : (tree : ℕ) (db next : Trees) (kind : old.First) → OthersStay (after kind) tree db next → old.node_tree kind ≢ tree → next (old.node_tree kind) ≡ db (old.node_tree kind)
old_stays tree db next old.layout_first all = all.1.0
old_stays tree db next old.node_first all = all.0

layout_not_old : (kind : old.First) → layout_tree (after kind) ≢ old.node_tree kind
layout_not_old old.layout_first e = omega (arith, e)
layout_not_old old.node_first e = omega (arith, e)

label_not_old : (kind : old.First) → label_tree (after kind) ≢ old.node_tree kind
label_not_old old.layout_first e = omega (arith, e)
label_not_old old.node_first e = omega (arith, e)

node2_not_old : (kind : old.First) → node2_tree (after kind) ≢ old.node_tree kind
node2_not_old old.layout_first e = omega (arith, e)
node2_not_old old.node_first e = omega (arith, e)

-- # What the texts mean

abbrev pub old_addresses_text : List ℕ
old_addresses_text = codes "SELECT address FROM node WHERE pre = 0 ORDER BY address"

pub old_addresses_are : (kind : old.First) → (command_of (understood (old.schema_of kind) old_addresses_text) ≡ addresses_command (old.node_tree kind)) × (reads_listing (old.schema_of kind) old_addresses_text ≡ false) × IsPlain (understood (old.schema_of kind) old_addresses_text)
unfolding understood everything
old_addresses_are old.layout_first = (refl, refl, (refl, refl))
old_addresses_are old.node_first = (refl, refl, (refl, refl))

abbrev pub layout_ids_text : List ℕ
layout_ids_text = codes "SELECT rowid FROM layout ORDER BY rowid"

pub layout_ids_are : (kind : old.First) → (command_of (understood (old.schema_of kind) layout_ids_text) ≡ ids_command (old.layout_tree kind) (codes "rowid" ∷ [])) × (reads_listing (old.schema_of kind) layout_ids_text ≡ false) × IsPlain (understood (old.schema_of kind) layout_ids_text)
unfolding understood everything
layout_ids_are old.layout_first = (refl, refl, (refl, refl))
layout_ids_are old.node_first = (refl, refl, (refl, refl))

abbrev pub old_rows_text : List ℕ
old_rows_text = codes "SELECT pre, size, level, kind, name, value FROM node WHERE address = ?1 ORDER BY pre"

abbrev pub old_rows_command : ℕ → Command
old_rows_command tree = Select (record { lets = []; body = body tree (term1 ∷ []) kept_terms ((col 1 2, key) ∷ []) }) kept_names

pub old_rows_are : (kind : old.First) → (command_of (understood (schema_of (after kind)) old_rows_text) ≡ old_rows_command (old.node_tree kind)) × (reads_listing (schema_of (after kind)) old_rows_text ≡ false) × IsPlain (understood (schema_of (after kind)) old_rows_text)
unfolding understood everything
old_rows_are old.layout_first = (refl, refl, (refl, refl))
old_rows_are old.node_first = (refl, refl, (refl, refl))

pub old_rows_reads : ShowsNoWrite old_rows_text
unfolding first returning everything
old_rows_reads schema base = refl

abbrev pub empty_text : List ℕ
empty_text = codes "DELETE FROM node"

pub empty_is : (kind : old.First) → (command_of (understood (schema_of (after kind)) empty_text) ≡ Delete (old.node_place kind) (delete_program (old.node_tree kind) [])) × IsPlain (understood (schema_of (after kind)) empty_text)
unfolding understood everything
empty_is old.layout_first = (refl, (refl, refl))
empty_is old.node_first = (refl, (refl, refl))

abbrev pub forget_text : List ℕ
forget_text = codes "DELETE FROM layout"

pub forget_is : (kind : old.First) → (command_of (understood (schema_of (after kind)) forget_text) ≡ Delete (layout_place (after kind)) (delete_program (layout_tree (after kind)) [])) × IsPlain (understood (schema_of (after kind)) forget_text)
unfolding understood everything
forget_is old.layout_first = (refl, (refl, refl))
forget_is old.node_first = (refl, (refl, refl))

-- # What they give

-- the addresses, where the tables of edition 1 hold documents
pub lists_old : (was new : State) (rows : List Row) → IsOldSchema was.now.schema → Shown old_addresses_text [] was new rows → IsPicked is_first (λ r. column r 1 ∷ []) (shown_rows was.now) rows
lists_old was new rows has h =
    let place = old.which was.now.schema has in
    let kind = place.0 in
    let tree = old.node_tree kind in
    let is = old_addresses_are kind in
    let it = reads_as old_addresses_text [] was new (old.schema_of kind) place.1 (addresses_command tree) is.0 is.2 is.1 rows h in
    let all = picked tree addresses_tests 1 [] was.now.trees [] rows it.answer in
    let own = same_passes _ _ (λ r. column r 1 ∷ []) (was.now.trees tree) rows (λ r. and_true _ ∙ equals_int (column r 2) (pos 0)) all in
    subst (λ t. IsPicked is_first (λ r. column r 1 ∷ []) t rows) (sym (old.shown_are was.now has ∙ old.nodes_lie kind was.now place.1)) own

pub reads_layout_ids : (was new : State) (rows : List Row) → IsOldSchema was.now.schema → Shown layout_ids_text [] was new rows → IsPermutation (map (λ r. rowid r ∷ []) (layout_rows was.now)) rows
reads_layout_ids was new rows has h =
    let place = old.which was.now.schema has in
    let kind = place.0 in
    let is = layout_ids_are kind in
    let it = reads_as layout_ids_text [] was new (old.schema_of kind) place.1 (ids_command (old.layout_tree kind) (codes "rowid" ∷ [])) is.0 is.2 is.1 rows h in
    subst (λ t. IsPermutation (map (λ r. rowid r ∷ []) t) rows) (sym (old.layout_lies kind was.now place.1)) (ids_given (old.layout_tree kind) was.now.trees rows it.answer)

-- the rows of an address, inside the transaction
module _ (was new : State) (address : List ℕ) (rows : List Row) (h : Shown old_rows_text (Text address ∷ []) was new rows) where
  old_rows_given : IsCarriedSchema was.now.schema → IsPermutation (rows_at address (node_rows was.now)) (map node_of rows)
  old_rows_given carried =
      let params = Text address ∷ [] in
      let place = which_after was.now.schema carried in
      let kind = place.0 in
      let tree = old.node_tree kind in
      let order = (col 1 2, key) ∷ [] in
      let is = old_rows_are kind in
      let it = reads_as old_rows_text params was new (schema_of (after kind)) place.1 (old_rows_command tree) is.0 is.2 is.1 rows h in
      let s = selected_rows tree (term1 ∷ []) kept_terms order was.now.trees params rows (selected tree (term1 ∷ []) kept_terms order was.now.trees params rows it.answer) in
      let own = subst (λ l. IsPermutation (map node_columns l) rows) (same_test _ (is_at address) (λ r. and_true _ ∙ equals_text (column r 1) address) (was.now.trees tree)) s in
      let nodes = subst (λ l. IsPermutation l (map node_of rows)) (map-map node_of node_columns (filter (is_at address) (was.now.trees tree))) (IsPermutation-map node_of _ _ own) in
      subst (λ t. IsPermutation (rows_at address t) (map node_of rows)) (sym (node_after kind was.now place.1)) nodes

  pub reads_old : ReadsOld address rows was new
  reads_old = (
      let same = shown_same was new old_rows_text (Text address ∷ []) (silent was.now.schema old_rows_text old_rows_reads) rows h in
      record { mode = same.0.mode; same = same.0.now_is; are = old_rows_given })

-- # What they do

all_gone : (xs : List Row) → delete_where (λ r. true) xs ≡ []
all_gone [] = refl
all_gone (x ∷ xs) = all_gone xs

pub empties : (was new : State) (count : ℕ) → Executes empty_text [] was new (Ok count) → Empties was.now new.now
empties was new count h carried up ints =
    let place = which_after was.now.schema carried in
    let kind = place.0 in
    let made = after kind in
    let tree = old.node_tree kind in
    let lie = node_after kind was.now place.1 in
    let is = empty_is kind in
    let it = deletes_in (schema_of made) (old.node_place kind) (old.node_table_of kind) (old_there kind) (no_works made tree) empty_text [] [] (λ r. true) (λ r. refl) is.0 is.1 was new count place.1 (subst AreApart lie up) (subst HaveInts lie ints) h in
    let still = it.schema ∙ place.1 in
    let was_trees = was.now.trees in
    let new_trees = new.now.trees in record {
      schema = it.schema;
      layout = layout_lies made new.now still ∙ layout_stays tree was_trees new_trees made it.others (layout_not_old kind) ∙ sym (layout_lies made was.now place.1);
      labels = labels_lie made new.now still ∙ labels_stay tree was_trees new_trees made it.others (label_not_old kind) ∙ sym (labels_lie made was.now place.1);
      nodes = nodes_lie made new.now still ∙ nodes_stay tree was_trees new_trees made it.others (node2_not_old kind) ∙ sym (nodes_lie made was.now place.1);
      emptied = node_after kind new.now still ∙ it.rows ∙ all_gone (was_trees tree);
    }

pub forgets : (was new : State) (count : ℕ) → Executes forget_text [] was new (Ok count) → ForgetsEdition was.now new.now
forgets was new count h carried up ints =
    let place = which_after was.now.schema carried in
    let kind = place.0 in
    let made = after kind in
    let tree = layout_tree made in
    let lie = layout_lies made was.now place.1 in
    let is = forget_is kind in
    let it = deletes_in (schema_of made) (layout_place made) (layout_table_of made) (layout_there made) (no_works made tree) forget_text [] [] (λ r. true) (λ r. refl) is.0 is.1 was new count place.1 (subst AreApart lie up) (subst HaveInts lie ints) h in
    let still = it.schema ∙ place.1 in
    let was_trees = was.now.trees in
    let new_trees = new.now.trees in record {
      schema = it.schema;
      layout = layout_lies made new.now still ∙ it.rows ∙ all_gone (was_trees tree);
      labels = labels_lie made new.now still ∙ labels_stay tree was_trees new_trees made it.others (λ e. layout_not_label made (sym e)) ∙ sym (labels_lie made was.now place.1);
      nodes = nodes_lie made new.now still ∙ nodes_stay tree was_trees new_trees made it.others (λ e. layout_not_node2 made (sym e)) ∙ sym (nodes_lie made was.now place.1);
      beside = node_after kind new.now still ∙ old_stays tree was_trees new_trees kind it.others (λ e. layout_not_old kind (sym e)) ∙ sym (node_after kind was.now place.1);
    }
