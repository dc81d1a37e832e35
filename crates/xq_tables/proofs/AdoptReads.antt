-- What the queries of an adoption give.
use Rattle.std.proofs.Common.{◌≡◌, ◌&&◌, inl, inr, ◌+◌, ◌<◌, ℕ, pos, Bool, true, false, All, List, [], ◌∷◌, map, filter, flat_map, length, get_or, codes, Option, None, Some, Result, Ok, Err, IfOk, IfErr, IfSome, OnOk, is_lt, refl, sym, ap, subst, subst₂, ◌∙◌, arith, Ordering}
use Rattle.std.specs.List.{list_all}
use Rattle.std.specs.List.Sorted.{IsPermutation, IsSorted}
use Rattle.std.specs.Ordering.{on, ordering_then}
use Rattle.std.proofs.lemmas.List.{length-map}
use Rattle.std.proofs.lemmas.List.Elements.{All-from_recursion}
use Rattle.std.proofs.lemmas.List.Sorted.{IsPermutation-map, All-permutation}
use Rattle.sqlite_value.specs.Order.{Row, column, value_cmp}
use Rattle.sqlite_value.specs.declared.value.Value.TheVariants.{Null, Int, Text}
use Rattle.sqlite_value.specs.declared.keys.Key.{Key}
use Rattle.sqlite_value.proofs.OrderLemmas.{then-Equal}
use Rattle.sqlite_trees.specs.Tree.{Trees, rowid}
use Rattle.sqlite_trees.proofs.ListLemmas.{map-map, all-map, all_of}
use Rattle.sqlite_schema.specs.declared.program.Program.{Program}
use Rattle.sqlite_schema.specs.declared.schema.Schema.{Schema}
use Rattle.sqlite_sql.specs.Query.{Query, IsAnswer, Output, output, key_cmp}
use Rattle.sqlite_sql.specs.Term.{Term, holds, col, lit, op2}
use Rattle.sqlite_sql.specs.Program.{overlay, IsProgramAnswer}
use Rattle.sqlite_sql.specs.declared.ops.BinaryOp.TheVariants.{Compare}
use Rattle.sqlite_sql.specs.declared.ops.CompareOp.TheVariants.{Eq, Gt, Lt}
use Rattle.sqlite.specs.Collation.TheVariants.{Binary}
use Rattle.sqlite_tied.specs.Compute.{everything}
use Rattle.sqlite.specs.Command.{Command}
use Rattle.sqlite.specs.Command.TheVariants.{Select}
use Rattle.sqlite.specs.Listing.{understood, reads_listing}
use Rattle.sqlite.specs.Held.{Held, state}
use Rattle.sqlite.specs.State.{State, Shown}
use Rattle.sqlite_trees.specs.declared.store.Store.{Ghosts}
use Rattle.xq_tables.specs.Documents.{IsReady}
use Rattle.xq_tables.specs.Outside.{StaysOutside}
use Rattle.sqlite.proofs.Callers.{IsPlain, command_of, reads_as}
use Rattle.xq_tables.specs.Labels.{label_rows, most_label, named_rows, node2_rows, shown_rows, IsStoreSchema}
use Rattle.xq_tables.specs.Tables.{layout_rows, node_rows, IsOldSchema}
use Rattle.xq_tables.specs.private.Adopt.{addressed_node, by_place, has_zero, AreNodes, HasLayout, IsSelect}
use Rattle.xq_tables.proofs.Joins.{joined}
use Rattle.xq_tables.proofs.LabelPlaces.{Made, alone, layout_first, node_first, schema_of, layout_tree, label_tree, node2_tree, labels_lie, layout_lies, nodes_lie, shown_lie, which}
use Rattle.xq_tables.proofs.LabelTexts.{join_body, on_term}
use Rattle.xq_tables.proofs.Lists.{flat_map_picks, same_test}
use Rattle.xq_tables.proofs.Places as old
use Rattle.xq_tables.proofs.Places.{not_given}
use Rattle.xq_tables.proofs.Selects.{selected, selected_rows, get_or-map, test, out, and_true}
use Rattle.xq_tables.proofs.Texts.{body, key}

-- # What the texts mean

abbrev pub edition_query : List ℕ
edition_query = codes "SELECT edition FROM layout"

-- of a table that lies there
abbrev pub edition_body : ℕ → Query
edition_body tree = body tree [] (col 1 1 ∷ []) []

abbrev pub edition_command : ℕ → Command
edition_command tree = Select (record { lets = []; body = edition_body tree }) (codes "edition" ∷ [])

pub edition_is : (made : Made) → (command_of (understood (schema_of made) edition_query) ≡ edition_command (layout_tree made)) × (reads_listing (schema_of made) edition_query ≡ false) × IsPlain (understood (schema_of made) edition_query)
unfolding understood everything
edition_is alone = (refl, refl, (refl, refl))
edition_is layout_first = (refl, refl, (refl, refl))
edition_is node_first = (refl, refl, (refl, refl))

pub old_edition_is : (first : old.First) → (command_of (understood (old.schema_of first) edition_query) ≡ edition_command (old.layout_tree first)) × (reads_listing (old.schema_of first) edition_query ≡ false) × IsPlain (understood (old.schema_of first) edition_query)
unfolding understood everything
old_edition_is old.layout_first = (refl, refl, (refl, refl))
old_edition_is old.node_first = (refl, refl, (refl, refl))

-- the ids of a table
abbrev pub ids_command : ℕ → List (List ℕ) → Command
ids_command tree names = Select (record { lets = []; body = body tree [] (col 1 0 ∷ []) ((col 1 0, key) ∷ []) }) names

abbrev pub old_rowids_query : List ℕ
old_rowids_query = codes "SELECT rowid FROM node ORDER BY rowid"

pub old_rowids_are : (first : old.First) → (command_of (understood (old.schema_of first) old_rowids_query) ≡ ids_command (old.node_tree first) (codes "rowid" ∷ [])) × (reads_listing (old.schema_of first) old_rowids_query ≡ false) × IsPlain (understood (old.schema_of first) old_rowids_query)
unfolding understood everything
old_rowids_are old.layout_first = (refl, refl, (refl, refl))
old_rowids_are old.node_first = (refl, refl, (refl, refl))

abbrev pub rowids_query : List ℕ
rowids_query = codes "SELECT rowid FROM node2 ORDER BY rowid"

pub rowids_are : (made : Made) → (command_of (understood (schema_of made) rowids_query) ≡ ids_command (node2_tree made) (codes "rowid" ∷ [])) × (reads_listing (schema_of made) rowids_query ≡ false) × IsPlain (understood (schema_of made) rowids_query)
unfolding understood everything
rowids_are alone = (refl, refl, (refl, refl))
rowids_are layout_first = (refl, refl, (refl, refl))
rowids_are node_first = (refl, refl, (refl, refl))

abbrev pub labels_query : List ℕ
labels_query = codes "SELECT id FROM label ORDER BY id"

pub labels_are : (made : Made) → (command_of (understood (schema_of made) labels_query) ≡ ids_command (label_tree made) (codes "id" ∷ [])) × (reads_listing (schema_of made) labels_query ≡ false) × IsPlain (understood (schema_of made) labels_query)
unfolding understood everything
labels_are alone = (refl, refl, (refl, refl))
labels_are layout_first = (refl, refl, (refl, refl))
labels_are node_first = (refl, refl, (refl, refl))

-- the ids of labels that pass tests
abbrev pub some_command : ℕ → List Term → Command
some_command tree tests = Select (record { lets = []; body = body tree tests (col 1 0 ∷ []) [] }) (codes "id" ∷ [])

abbrev pub zero_query : List ℕ
zero_query = codes "SELECT id FROM label WHERE id = 0 AND name = ''"

abbrev pub zero_tests : List Term
zero_tests = op2 (Compare Eq Binary) (col 1 0) (lit (Int (pos 0))) ∷ op2 (Compare Eq Binary) (col 1 2) (lit (Text [])) ∷ []

pub zero_is : (made : Made) → (command_of (understood (schema_of made) zero_query) ≡ some_command (label_tree made) zero_tests) × (reads_listing (schema_of made) zero_query ≡ false) × IsPlain (understood (schema_of made) zero_query)
unfolding understood everything
zero_is alone = (refl, refl, (refl, refl))
zero_is layout_first = (refl, refl, (refl, refl))
zero_is node_first = (refl, refl, (refl, refl))

abbrev pub low_query : List ℕ
low_query = codes "SELECT id FROM label WHERE id < 0"

abbrev pub low_tests : List Term
low_tests = op2 (Compare Lt Binary) (col 1 0) (lit (Int (pos 0))) ∷ []

pub low_is : (made : Made) → (command_of (understood (schema_of made) low_query) ≡ some_command (label_tree made) low_tests) × (reads_listing (schema_of made) low_query ≡ false) × IsPlain (understood (schema_of made) low_query)
unfolding understood everything
low_is alone = (refl, refl, (refl, refl))
low_is layout_first = (refl, refl, (refl, refl))
low_is node_first = (refl, refl, (refl, refl))

abbrev pub high_query : List ℕ
high_query = codes "SELECT id FROM label WHERE id > 2147483647"

abbrev pub high_tests : List Term
high_tests = op2 (Compare Gt Binary) (col 1 0) (lit (Int (pos most_label))) ∷ []

pub high_is : (made : Made) → (command_of (understood (schema_of made) high_query) ≡ some_command (label_tree made) high_tests) × (reads_listing (schema_of made) high_query ≡ false) × IsPlain (understood (schema_of made) high_query)
unfolding understood everything
high_is alone = (refl, refl, (refl, refl))
high_is layout_first = (refl, refl, (refl, refl))
high_is node_first = (refl, refl, (refl, refl))

abbrev pub old_nodes_query : List ℕ
old_nodes_query = codes "SELECT pre, size, level, kind, name, value, address FROM node ORDER BY address, pre"

abbrev pub by_places : List (Term × Key)
by_places = (col 1 1, key) ∷ (col 1 2, key) ∷ []

abbrev pub old_nodes_program : ℕ → Program
old_nodes_program tree = record { lets = []; body = body tree [] (col 1 2 ∷ col 1 3 ∷ col 1 4 ∷ col 1 5 ∷ col 1 6 ∷ col 1 7 ∷ col 1 1 ∷ []) by_places }

abbrev pub nodes_names : List (List ℕ)
nodes_names = codes "pre" ∷ codes "size" ∷ codes "level" ∷ codes "kind" ∷ codes "name" ∷ codes "value" ∷ codes "address" ∷ []

pub old_nodes_are : (first : old.First) → (command_of (understood (old.schema_of first) old_nodes_query) ≡ Select (old_nodes_program (old.node_tree first)) nodes_names) × (reads_listing (old.schema_of first) old_nodes_query ≡ false) × IsPlain (understood (old.schema_of first) old_nodes_query) × IsSelect (understood (old.schema_of first) old_nodes_query)
unfolding understood everything
old_nodes_are old.layout_first = (refl, refl, (refl, refl), refl)
old_nodes_are old.node_first = (refl, refl, (refl, refl), refl)

abbrev pub nodes_query : List ℕ
nodes_query = codes "SELECT pre, size, level, kind, name, value, address FROM node2 INNER JOIN label ON label = id ORDER BY address, pre"

abbrev pub nodes_terms : List Term
nodes_terms = col 1 2 ∷ col 1 3 ∷ col 1 4 ∷ col 1 5 ∷ col 2 2 ∷ col 1 7 ∷ col 1 1 ∷ []

abbrev pub nodes_program : ℕ → ℕ → Program
nodes_program nodes labels = record { lets = []; body = join_body nodes labels (on_term ∷ []) nodes_terms by_places }

pub nodes_are : (made : Made) → (command_of (understood (schema_of made) nodes_query) ≡ Select (nodes_program (node2_tree made) (label_tree made)) nodes_names) × (reads_listing (schema_of made) nodes_query ≡ false) × IsPlain (understood (schema_of made) nodes_query) × IsSelect (understood (schema_of made) nodes_query)
unfolding understood everything
nodes_are alone = (refl, refl, (refl, refl), refl)
nodes_are layout_first = (refl, refl, (refl, refl), refl)
nodes_are node_first = (refl, refl, (refl, refl), refl)

-- # What they give

every : {A : Type 0} (xs : List A) → filter (λ x. true) xs ≡ xs
every [] = refl
every (x ∷ xs) = ap (λ l. x ∷ l) (every xs)

edition_rows : (tree : ℕ) (db : Trees) (rows : List Row) → IsProgramAnswer [] (edition_body tree) db [] rows → IsPermutation (map (λ r. column r 1 ∷ []) (db tree)) rows
edition_rows tree db rows got =
    let query = edition_body tree in
    let a : IsAnswer query (overlay db []) [] rows = got Null in
    let staged : a.staged ≡ map (λ r. [] ∷ r ∷ []) (filter (λ r. true) (db tree)) = a.grouped ∙ ap (flat_map (λ r. ([] ∷ r ∷ []) ∷ [])) (not_given tree db) ∙ flat_map_picks (λ r. true) (λ r. [] ∷ r ∷ []) (db tree) in
    let kept : a.kept ≡ map (λ r. output query ([] ∷ r ∷ [])) (filter (λ r. true) (db tree)) = a.distinct ∙ ap (map (output query)) staged ∙ map-map _ _ _ in
    let moved = IsPermutation-map (λ (o : Output). o.1) _ _ (subst (λ k. IsPermutation k a.ordered) kept a.same) in
    let first : map (λ (o : Output). o.1) (map (λ r. output query ([] ∷ r ∷ [])) (filter (λ r. true) (db tree))) ≡ map (λ r. column r 1 ∷ []) (db tree) =
    map-map _ _ _ ∙ ap (map (λ r. column r 1 ∷ [])) (every (db tree)) in
    subst₂ IsPermutation first (sym a.shown) moved

pub ids_given : (tree : ℕ) (db : Trees) (rows : List Row) → IsProgramAnswer [] (body tree [] (col 1 0 ∷ []) ((col 1 0, key) ∷ [])) db [] rows → IsPermutation (map (λ r. rowid r ∷ []) (db tree)) rows
ids_given tree db rows got =
    let s = selected tree [] (col 1 0 ∷ []) ((col 1 0, key) ∷ []) db [] rows got in
    subst (λ l. IsPermutation (map (λ r. rowid r ∷ []) l) rows) (every (db tree)) (selected_rows tree [] (col 1 0 ∷ []) ((col 1 0, key) ∷ []) db [] rows s)

some_given : (tree : ℕ) (tests : List Term) (p : Row → Bool) → ((r : Row) → list_all (holds ([] ∷ r ∷ [])) tests ≡ p r) → (db : Trees) (rows : List Row) → IsProgramAnswer [] (body tree tests (col 1 0 ∷ []) []) db [] rows
    → IsPermutation (map (λ r. rowid r ∷ []) (filter p (db tree))) rows
some_given tree tests p is db rows got =
    let s = selected_rows tree tests (col 1 0 ∷ []) [] db [] rows (selected tree tests (col 1 0 ∷ []) [] db [] rows got) in
    subst (λ l. IsPermutation (map (λ r. rowid r ∷ []) l) rows) (same_test _ _ is (db tree)) s

-- what is sorted by its keys is sorted by what the keys are of it
sorted_as : (by : Row → Row → Ordering) (keys : List Key) (key_of : Row → Row) → ((a b : Row) → is_lt (key_cmp 0 keys (key_of a) (key_of b)) ≡ is_lt (by a b)) → (ordered : List Output)
    → All (λ (o : Output). o.0 ≡ key_of o.1) ordered → IsSorted (on (λ (o : Output). o.0) (key_cmp 0 keys)) ordered → IsSorted by (map (λ (o : Output). o.1) ordered)
sorted_as by keys key_of agrees ordered keyed sorted k d low high =
    let D : Output = (key_of d, d) in
    let within : k + 1 < length ordered = subst (λ n. k + 1 < n) (length-map ordered (λ (o : Output). o.1)) high in
    let here = keyed k D (omega arith) in
    let next = keyed (k + 1) D within in
    let was = sorted k D low within in
    let lower = get_or-map (λ (o : Output). o.1) ordered k D in
    let upper = get_or-map (λ (o : Output). o.1) ordered (k + 1) D in
    let both = subst₂ (λ x y. is_lt (key_cmp 0 keys x y) ≡ false) next here was in
    subst₂ (λ x y. is_lt (by x y) ≡ false) (sym upper) (sym lower) (sym (agrees (get_or ordered (k + 1) D).1 (get_or ordered k D).1) ∙ both)

abbrev place_of : Row → Row
place_of r = column r 6 ∷ column r 0 ∷ []

same_place : (a b : Row) → is_lt (key_cmp 0 (key ∷ key ∷ []) (place_of a) (place_of b)) ≡ is_lt (by_place a b)
same_place a b = ap (λ o. is_lt (ordering_then (value_cmp (column a 6) (column b 6)) o)) (then-Equal (value_cmp (column a 0) (column b 0)))

old_nodes_given : (tree : ℕ) (db : Trees) (rows : List Row) → IsProgramAnswer [] (old_nodes_program tree).body db [] rows → AreNodes (db tree) rows
old_nodes_given tree db rows got =
    let project = (old_nodes_program tree).body.project in
    let table = db tree in
    let s = selected tree [] project by_places db [] rows got in
    let shown = filter (test tree [] project by_places db []) table in
    let keyed : Output → Type 0 = λ o. o.0 ≡ place_of o.1 in
    let all : All keyed (map (out tree [] project by_places db []) shown) = All-from_recursion keyed _ (all-map keyed (out tree [] project by_places db []) shown (all_of (λ r. keyed (out tree [] project by_places db [] r)) (λ r. refl) shown)) in
    record {
      same = subst (λ l. IsPermutation (map addressed_node l) rows) (every table) (selected_rows tree [] project by_places db [] rows s);
      sorted = subst (IsSorted by_place) (sym s.shown) (sorted_as by_place (key ∷ key ∷ []) place_of same_place s.ordered (All-permutation keyed _ _ s.same all) s.sorted);
    }

nodes_given : (nodes labels : ℕ) (db : Trees) (rows : List Row) → IsProgramAnswer [] (nodes_program nodes labels).body db [] rows → AreNodes (named_rows (db labels) (db nodes)) rows
nodes_given nodes labels db rows got =
    let outs : Row → Output = λ r. (column r 1 ∷ column r 2 ∷ [], addressed_node r) in
    let table = named_rows (db labels) (db nodes) in
    let it = joined nodes labels (on_term ∷ []) nodes_terms by_places db [] (λ r. true) outs (λ r l. refl) (λ r l. refl) rows got in
    let keyed : Output → Type 0 = λ o. o.0 ≡ place_of o.1 in
    let shown = filter (λ (r : Row). true) table in
    let all : All keyed (map outs shown) = All-from_recursion keyed _ (all-map keyed outs shown (all_of (λ r. keyed (outs r)) (λ r. refl) shown)) in
    let moved = IsPermutation-map (λ (o : Output). o.1) _ _ it.same in
    record {
      same = subst₂ IsPermutation (map-map _ _ _ ∙ ap (map addressed_node) (every table)) (sym it.shown) moved;
      sorted = subst (IsSorted by_place) (sym it.shown) (sorted_as by_place (key ∷ key ∷ []) place_of same_place it.ordered (All-permutation keyed _ _ it.same all) it.sorted);
    }

-- # Of each edition

pub edition_plain : (schema : Schema) → HasLayout schema → IsPlain (understood schema edition_query)
edition_plain schema (inl has) = (let place = which schema has in subst (λ s. IsPlain (understood s edition_query)) (sym place.1) (edition_is place.0).2)
edition_plain schema (inr has) = (let place = old.which schema has in subst (λ s. IsPlain (understood s edition_query)) (sym place.1) (old_edition_is place.0).2)

pub reads_edition : (first second : State) (rows : List Row) → HasLayout first.now.schema → Shown edition_query [] first second rows → IsPermutation (map (λ r. column r 1 ∷ []) (layout_rows first.now)) rows
reads_edition first second rows (inl has) h =
    let place = which first.now.schema has in
    let made = place.0 in
    let is = edition_is made in
    let it = reads_as edition_query [] first second (schema_of made) place.1 (edition_command (layout_tree made)) is.0 is.2 is.1 rows h in
    subst (λ t. IsPermutation (map (λ r. column r 1 ∷ []) t) rows) (sym (layout_lies made first.now place.1)) (edition_rows (layout_tree made) first.now.trees rows it.answer)
reads_edition first second rows (inr has) h =
    let place = old.which first.now.schema has in
    let made = place.0 in
    let is = old_edition_is made in
    let it = reads_as edition_query [] first second (old.schema_of made) place.1 (edition_command (old.layout_tree made)) is.0 is.2 is.1 rows h in
    subst (λ t. IsPermutation (map (λ r. column r 1 ∷ []) t) rows) (sym (old.layout_lies made first.now place.1)) (edition_rows (old.layout_tree made) first.now.trees rows it.answer)

module _ (first second : State) (rows : List Row) (has : IsOldSchema first.now.schema) where
  pub reads_old_rowids : Shown old_rowids_query [] first second rows → IsPermutation (map (λ r. rowid r ∷ []) (node_rows first.now)) rows
  reads_old_rowids h =
      let place = old.which first.now.schema has in
      let made = place.0 in
      let is = old_rowids_are made in
      let it = reads_as old_rowids_query [] first second (old.schema_of made) place.1 (ids_command (old.node_tree made) (codes "rowid" ∷ [])) is.0 is.2 is.1 rows h in
      subst (λ t. IsPermutation (map (λ r. rowid r ∷ []) t) rows) (sym (old.nodes_lie made first.now place.1)) (ids_given (old.node_tree made) first.now.trees rows it.answer)

  pub reads_old_nodes : Shown old_nodes_query [] first second rows → AreNodes (shown_rows first.now) rows
  reads_old_nodes h =
      let place = old.which first.now.schema has in
      let made = place.0 in
      let is = old_nodes_are made in
      let it = reads_as old_nodes_query [] first second (old.schema_of made) place.1 (Select (old_nodes_program (old.node_tree made)) nodes_names) is.0 is.2 is.1 rows h in
      subst (λ t. AreNodes t rows) (sym (old.shown_are first.now has ∙ old.nodes_lie made first.now place.1)) (old_nodes_given (old.node_tree made) first.now.trees rows it.answer)

module _ (first second : State) (rows : List Row) (has : IsStoreSchema first.now.schema) where
  pub reads_rowids : Shown rowids_query [] first second rows → IsPermutation (map (λ r. rowid r ∷ []) (node2_rows first.now)) rows
  reads_rowids h =
      let place = which first.now.schema has in
      let made = place.0 in
      let is = rowids_are made in
      let it = reads_as rowids_query [] first second (schema_of made) place.1 (ids_command (node2_tree made) (codes "rowid" ∷ [])) is.0 is.2 is.1 rows h in
      subst (λ t. IsPermutation (map (λ r. rowid r ∷ []) t) rows) (sym (nodes_lie made first.now place.1)) (ids_given (node2_tree made) first.now.trees rows it.answer)

  pub reads_labels : Shown labels_query [] first second rows → IsPermutation (map (λ r. rowid r ∷ []) (label_rows first.now)) rows
  reads_labels h =
      let place = which first.now.schema has in
      let made = place.0 in
      let is = labels_are made in
      let it = reads_as labels_query [] first second (schema_of made) place.1 (ids_command (label_tree made) (codes "id" ∷ [])) is.0 is.2 is.1 rows h in
      subst (λ t. IsPermutation (map (λ r. rowid r ∷ []) t) rows) (sym (labels_lie made first.now place.1)) (ids_given (label_tree made) first.now.trees rows it.answer)

  -- the labels that pass tests
  module _ (text : List ℕ) (tests : List Term) (p : Row → Bool) (passes : (r : Row) → list_all (holds ([] ∷ r ∷ [])) tests ≡ p r)
      (is : (made : Made) → (command_of (understood (schema_of made) text) ≡ some_command (label_tree made) tests) × (reads_listing (schema_of made) text ≡ false) × IsPlain (understood (schema_of made) text)) where
    pub reads_some : Shown text [] first second rows → IsPermutation (map (λ r. rowid r ∷ []) (filter p (label_rows first.now))) rows
    reads_some h =
        let place = which first.now.schema has in
        let made = place.0 in
        let it = reads_as text [] first second (schema_of made) place.1 (some_command (label_tree made) tests) (is made).0 (is made).2 (is made).1 rows h in
        subst (λ t. IsPermutation (map (λ r. rowid r ∷ []) (filter p t)) rows) (sym (labels_lie made first.now place.1)) (some_given (label_tree made) tests p passes first.now.trees rows it.answer)

  pub reads_nodes : Shown nodes_query [] first second rows → AreNodes (shown_rows first.now) rows
  reads_nodes h =
      let place = which first.now.schema has in
      let made = place.0 in
      let is = nodes_are made in
      let it = reads_as nodes_query [] first second (schema_of made) place.1 (Select (nodes_program (node2_tree made) (label_tree made)) nodes_names) is.0 is.2 is.1 rows h in
      subst (λ t. AreNodes t rows) (sym (shown_lie made first.now place.1)) (nodes_given (node2_tree made) (label_tree made) first.now.trees rows it.answer)

pub zero_passes : (r : Row) → list_all (holds ([] ∷ r ∷ [])) zero_tests ≡ has_zero r
zero_passes r = ap (λ b. is_zero && b) (and_true _)
  where
    is_zero : Bool
    is_zero = holds ([] ∷ r ∷ []) (op2 (Compare Eq Binary) (col 1 0) (lit (Int (pos 0))))

-- # Texts that are plain with the tables of each store

pub select_for : (schema : Schema) → IsStoreSchema schema → IsSelect (understood schema nodes_query)
select_for schema has = (let place = which schema has in subst (λ s. IsSelect (understood s nodes_query)) (sym place.1) (nodes_are place.0).3)

pub old_plain_for : (text : List ℕ) → ((first : old.First) → IsPlain (understood (old.schema_of first) text)) → (schema : Schema) → IsOldSchema schema → IsPlain (understood schema text)
old_plain_for text is schema has = (let place = old.which schema has in subst (λ s. IsPlain (understood s text)) (sym place.1) (is place.0))

pub old_select_for : (schema : Schema) → IsOldSchema schema → IsSelect (understood schema old_nodes_query)
old_select_for schema has = (let place = old.which schema has in subst (λ s. IsSelect (understood s old_nodes_query)) (sym place.1) (old_nodes_are place.0).3)

-- what is ready was so before
pub was_ready : {S : Type 0} (g : Ghosts S) (old new : Held S) → StaysOutside g old new → IsReady (state g new) → IsReady (state g old)
was_ready g old new it up = (omega (arith, it.clean, up.0), it.was_open up)

-- # Results

pub each_ok : {A E : Type 0} (P Q : A → Type 0) (r : Result A E) → ((x : A) → P x → Q x) → IfOk r P → IfOk r Q
each_ok P Q (Ok x) f h = f x h
each_ok P Q (Err e) f h = tt

pub each_some : {A : Type 0} (P Q : A → Type 0) (o : Option A) → ((x : A) → P x → Q x) → IfSome o P → IfSome o Q
each_some P Q (Some x) f h = f x h
each_some P Q None f h = tt

pub each_err : {A E : Type 0} (P Q : E → Type 0) (r : Result A E) → ((e : E) → P e → Q e) → IfErr r P → IfErr r Q
each_err P Q (Ok x) f h = tt
each_err P Q (Err e) f h = f e h

pub on_ok : {A E : Type 0} (P Q : Type 0) (r : Result A E) → (P → Q) → OnOk r P → OnOk r Q
on_ok P Q (Ok x) f h = f h
on_ok P Q (Err e) f h = tt

pub any_ok : {A E : Type 0} (P : Type 0) (r : Result A E) → P → OnOk r P
any_ok P (Ok x) h = h
any_ok P (Err e) h = tt
