-- What the queries of a store give.
use Rattle.std.proofs.Common.{◌≡◌, ◌&&◌, ℕ, pos, List, [], ◌∷◌, map, filter, refl, sym, ap, subst, ◌∙◌}
use Rattle.std.specs.List.Sorted.{IsPermutation}
use Rattle.sqlite_value.specs.Order.{Row, column}
use Rattle.sqlite_value.specs.declared.value.Value.TheVariants.{Int, Text}
use Rattle.sqlite_trees.proofs.ListLemmas.{filter-map, map-map}
use Rattle.sqlite.specs.State.{State, Shown}
use Rattle.sqlite.proofs.Callers.{reads_as}
use Rattle.xq_tables.specs.Documents.{is_at, is_first, node_columns}
use Rattle.xq_tables.specs.Labels.{label_rows, named_rows, node2_rows, shown_rows, IsStoreSchema}
use Rattle.xq_tables.specs.private.Statements.{is_part}
use Rattle.xq_tables.specs.Reads.{is_within, AreAddresses, IsPicked, IsRange}
use Rattle.xq_tables.proofs.Joins.{joined_nodes}
use Rattle.xq_tables.proofs.LabelPlaces.{schema_of, label_tree, node2_tree, which, nodes_lie, shown_are, shown_lie}
use Rattle.xq_tables.proofs.LabelTexts.{addresses2_is, addresses2_plain, addresses2_text, join_command, part_rows_are, part_rows_plain, part_rows_text, range2_is, range2_plain, range2_text}
use Rattle.xq_tables.proofs.Named.{named_each, with_name}
use Rattle.xq_tables.proofs.Selects.{and_true, equals_int, part_test, picked, range_test, same_passes}
use Rattle.xq_tables.proofs.Texts.{addresses_command, addresses_tests, part_tests, range_tests}

pub ranges : (old new : State) (address : List ℕ) (low high : ℕ) (rows : List Row) → Shown range2_text (Text address ∷ Int (pos low) ∷ Int (pos high) ∷ []) old new rows → IsRange address low high old.now rows
ranges old new address low high rows h has =
    let params = Text address ∷ Int (pos low) ∷ Int (pos high) ∷ [] in
    let found = which old.now.schema has in
    let made = found.0 in
    let table = named_rows (old.now.trees (label_tree made)) (old.now.trees (node2_tree made)) in
    let it = reads_as range2_text params old new (schema_of made) found.1 (join_command made range_tests) (range2_is made).0 (range2_plain made) (range2_is made).1 rows h in
    let all = joined_nodes (node2_tree made) (label_tree made) range_tests old.now.trees params (λ r l. refl) rows it.answer in
    subst (λ t. IsPicked (λ r. is_at address r && is_within low high r) node_columns t rows) (sym (shown_lie made old.now found.1)) (same_passes _ _ node_columns table rows (range_test address low high) all)

pub parts : (old new : State) (address : List ℕ) (low high : ℕ) (rows : List Row) → Shown part_rows_text (Text address ∷ Int (pos low) ∷ Int (pos high) ∷ []) old new rows → IsStoreSchema old.now.schema
    → IsPicked (is_part address low high) node_columns (shown_rows old.now) rows
parts old new address low high rows h has =
    let params = Text address ∷ Int (pos low) ∷ Int (pos high) ∷ [] in
    let found = which old.now.schema has in
    let made = found.0 in
    let table = named_rows (old.now.trees (label_tree made)) (old.now.trees (node2_tree made)) in
    let it = reads_as part_rows_text params old new (schema_of made) found.1 (join_command made part_tests) (part_rows_are made).0 (part_rows_plain made) (part_rows_are made).1 rows h in
    let all = joined_nodes (node2_tree made) (label_tree made) part_tests old.now.trees params (λ r l. refl) rows it.answer in
    subst (λ t. IsPicked (is_part address low high) node_columns t rows) (sym (shown_lie made old.now found.1)) (same_passes _ _ node_columns table rows (part_test address low high) all)

pub lists : (old new : State) (rows : List Row) → Shown addresses2_text [] old new rows → AreAddresses old.now rows
lists old new rows h store =
    let found = which old.now.schema store.sound.schema in
    let made = found.0 in
    let tree = node2_tree made in
    let it = reads_as addresses2_text [] old new (schema_of made) found.1 (addresses_command tree) (addresses2_is made).0 (addresses2_plain made) (addresses2_is made).1 rows h in
    let all = picked tree addresses_tests 1 [] old.now.trees [] rows it.answer in
    let own = same_passes _ _ (λ r. column r 1 ∷ []) (old.now.trees tree) rows (λ r. and_true _ ∙ equals_int (column r 2) (pos 0)) all in
    let labels = label_rows old.now in
    let nodes = node2_rows old.now in
    let shown : shown_rows old.now ≡ map (with_name labels) nodes = shown_are old.now store.sound.schema ∙ named_each labels nodes store.sound.held in
    let same : map (λ r. column r 1 ∷ []) (filter is_first (shown_rows old.now)) ≡ map (λ r. column r 1 ∷ []) (filter is_first (old.now.trees tree)) =
    ap (λ l. map (λ r. column r 1 ∷ []) (filter is_first l)) shown ∙ ap (map (λ r. column r 1 ∷ [])) (filter-map is_first (with_name labels) nodes) ∙ map-map _ _ _ ∙ ap (λ l. map (λ r. column r 1 ∷ []) (filter is_first l)) (nodes_lie made old.now found.1) in
    record { same = subst (λ l. IsPermutation l rows) (sym same) own.same; sorted = own.sorted }
