-- What DELETE does to the table `node`.
use Rattle.std.proofs.Common.{◌≡◌, ◌≢◌, slice_get, pos, ◌⊎◌, inl, inr, ℕ, None, Some, Ok, Err, Result, List, [], ◌∷◌, map, filter, length, Bool, true, false, not, refl, sym, ap, ap₂, subst, subst₂, ◌∙◌}
use Rattle.std.specs.List.Sorted.{IsPermutation}
use Rattle.sqlite_value.specs.Order.{Row, column}
use Rattle.sqlite_value.specs.declared.value.Value.TheVariants.{Text, Int}
use Rattle.sqlite_trees.specs.Tree.{Trees, rowid}
use Rattle.std.proofs.lemmas.List.Sorted.{length_permutation}
use Rattle.sqlite_sql.specs.Program.{IsProgramAnswer}
use Rattle.std.specs.List.{AllByRecursion, list_all}
use Rattle.sqlite_schema.specs.declared.schema.Keys.{Keys}
use Rattle.sqlite_rules.specs.Action.{works}
use Rattle.sqlite.specs.Schema.{Schema}
use Rattle.sqlite.specs.Table.{Table}
use Rattle.sqlite_sql.specs.Term.{Term, col, holds}
use Rattle.sqlite_keyed.specs.Lists.{delete_where}
use Rattle.sqlite_trees.proofs.ListLemmas.{ascending-filter, all-filter}
use Rattle.xq_tables.specs.Documents.{is_at, AreApart, AreLabels, HaveInts, IsSound}
use Rattle.xq_tables.proofs.Selects.{selected, selected_rows, equals_text, and_true, part_test}
use Rattle.xq_tables.proofs.Lists.{same_test, takes_out}
use Rattle.sqlite.specs.Command.TheVariants.{Delete}
use Rattle.sqlite.specs.Edit.{edit_of, taken_by, row_at, id_in}
use Rattle.std.proofs.Common.{unwrap_or}
use Rattle.std.proofs.lemmas.List.{length-map}
use Rattle.sqlite_rules.specs.Calls.{ids_of}
use Rattle.sqlite.specs.Rowids.TheVariants.{Given}
use Rattle.sqlite.specs.Does.{Tally, Does, OnRows}
use Rattle.sqlite.specs.Rows.{Written}
use Rattle.sqlite.specs.Listing.{understood}
use Rattle.sqlite.specs.Effect.{Database}
use Rattle.sqlite.specs.State.{State, mode_of, Executes, ExecutesInside}
use Rattle.sqlite.specs.declared.error.Error.{Error}
use Rattle.std.proofs.Common.{IfOk, IsTrue}
use Rattle.sqlite.proofs.Callers.{IsPlain, command_of, statement_of, runs_as, one_step}
use Rattle.xq_tables.specs.Labels.{label_rows, named, named_rows, node2_rows, shown_rows, HasLabel, IsStoreSchema}
use Rattle.xq_tables.proofs.Places.{on_table}
use Rattle.xq_tables.specs.Writes.{Deletes, HasDropped}
use Rattle.xq_tables.specs.private.Statements.{Drops, is_part}
use Rattle.xq_tables.proofs.LabelPlaces.{Made, schema_of, label_not_node2, labels_lie, labels_stay, layout_lies, layout_not_node2, layout_stays, no_works, node2_place, node2_table_of, node2_there, node2_tree, nodes_lie, shown_are, which}
use Rattle.xq_tables.proofs.LabelTexts.{delete2_is, delete2_plain, delete2_text, part2_is, part2_plain, part2_text}
use Rattle.xq_tables.proofs.Named.{named_count, named_deleted}
use Rattle.xq_tables.proofs.Texts.{body, term1, delete_program, part_tests}

-- a part that gave a value did not stop on the way
pub went : {B E R : Type 0} {b : B} {Stops : E → Type 0} → ((stop : E) × Stops stop × (Ok b ≡ Err stop)) ⊎ R → R
went (inl stopped) = absurd (let e = stopped.2 in cc)
went (inr on) = on

pub same_value : {B E : Type 0} {a b : B} → ◌≡◌ {A = Result B E} (Ok a) (Ok b) → a ≡ b
same_value e = cc

-- what a DELETE makes of the trees
pub record DeletesIn (under : Schema) (table : Table) (gone : Row → Bool) (old new : Database) (count : ℕ) : Type 0 where
  pub schema : new.schema ≡ old.schema
  pub others : AllByRecursion (λ (t : Table). t.tree ≢ table.tree → new.trees t.tree ≡ old.trees t.tree) under.tables
  pub rows : new.trees table.tree ≡ delete_where gone (old.trees table.tree)
  pub counted : count ≡ length (filter gone (old.trees table.tree))

-- what a DELETE by these tests does to a table, where the rows that pass them are those that are to go
module _ (under : Schema) (place : ℕ) (table : Table) (there : slice_get under.tables place ≡ Some table) (alone : (keys : Keys) (olds news : List Row) → works under keys 0 table.tree olds news ≡ [])
    (text : List ℕ) (tests : List Term) (params : Row) (gone : Row → Bool) (passes : (r : Row) → list_all (holds (params ∷ r ∷ [])) tests ≡ gone r)
    (is : command_of (understood under text) ≡ Delete place (delete_program table.tree tests)) (plain : IsPlain (understood under text)) where
  -- its query gives the rowids of these rows
  found_ids : (db : Trees) (rows : List Row) → IsProgramAnswer [] (body table.tree tests (col 1 0 ∷ []) []) db params rows → IsPermutation (map (λ r. rowid r ∷ []) (filter gone (db table.tree))) rows
  found_ids db rows got =
      let s = selected_rows table.tree tests (col 1 0 ∷ []) [] db params rows (selected table.tree tests (col 1 0 ∷ []) [] db params rows got) in
      subst (λ l. IsPermutation (map (λ r. rowid r ∷ []) l) rows) (same_test _ _ passes (db table.tree)) s

  pub deletes_in : (old new : State) (count : ℕ) → old.now.schema ≡ under → AreApart (old.now.trees table.tree) → HaveInts (old.now.trees table.tree) → Executes text params old new (Ok count) → DeletesIn under table gone old.now new.now count
  deletes_in old new count has up ints h =
      let db = old.now.trees in
      let tree = table.tree in
      let command = Delete place (delete_program tree tests) in
      let w = runs_as text params old new under has command is plain count h in
      let statement = statement_of text (understood under text) in
      let changed = subst (λ s. Does old.step_limit (mode_of old) params (record old.now { schema = s }) statement None command (Ok (w.tally, new.now))) has w.changed in
      let done = went (on_table under place table there old.step_limit (mode_of old) params db (λ task. OnRows task (mode_of old) None command db) (Ok (w.tally, new.now)) changed) in
      let read = went done.1 in
      let edited = went read.2 in
      let it : Written = done.0 in
      let found : List Row = read.0 in
      let next : Trees = edited.0 in
      let same = found_ids db found read.1.answer in
      let keys = (mode_of old).keys in
      let e = edit_of db table (ids_of found) Given 0 [] in
      let step = one_step under keys db next e (alone keys (taken_by db e) e.news) edited.1 in
      let end = same_value (went (went done.2).2).2 in
      let now : new.now ≡ record { schema = under; trees = it.trees } = ap (λ (p : Tally × Database). p.1) end in
      let trees : new.now.trees ≡ next = ap (λ (d : Database). d.trees) now ∙ ap (λ (x : Written). x.trees) (same_value edited.2) in
      let left : next tree ≡ delete_where gone (db tree) = step.rows ∙ takes_out gone (db tree) found up ints same in
      let rows : it.rows ≡ map (row_at (db tree)) (ids_of found) = ap (λ (x : Written). x.rows) (same_value edited.2) in
      let tally : w.tally.rows ≡ Some (length it.rows) = ap (λ (p : Tally × Database). p.0.rows) end in
      let size : length it.rows ≡ length (filter gone (db tree)) =
      ap length rows ∙ length-map (ids_of found) (row_at (db tree)) ∙ length-map found (λ r. id_in (rowid r)) ∙ length_permutation _ _ same ∙ length-map (filter gone (db tree)) (λ r. rowid r ∷ []) in record {
        schema = ap (λ (d : Database). d.schema) now ∙ sym has;
        others = subst (λ (after : Trees). AllByRecursion (λ (t : Table). t.tree ≢ tree → after t.tree ≡ db t.tree) under.tables) (sym trees) step.tables;
        rows = ap (λ (t : Trees). t tree) trees ∙ left;
        counted = w.counted ∙ ap (λ o. unwrap_or o 0) tally ∙ size;
      }

-- what it does inside a transaction
pub inside : (text : List ℕ) (params : Row) (gone : Row → Bool) (old new : State) (e : Error) (r : Result ℕ Error) → ((count : ℕ) → Executes text params old new (Ok count) → Deletes gone old.now new.now count)
    → (old.in_transaction ≡ false → r ≡ Err e) → (IsTrue old.in_transaction → ExecutesInside 0 text params old new r) → IfOk r (Drops gone old new)
inside text params gone old new e (Err f) does ended runs = tt
inside text params gone old new e (Ok count) does ended runs = go old.in_transaction refl
  where
    go : (b : Bool) → old.in_transaction ≡ b → Drops gone old new count
    go true within =
        let ran = runs within in
        record { inside = ran.1; did = does count ran.0 }
    go false outside = absurd (let e = ended outside in cc)

-- nodes went that pass a test that reads neither label nor name
pub dropped_in : (made : Made) (gone : Row → Bool) → ((r l : Row) → gone (named r l) ≡ gone r) → (old new : Database) (count : ℕ) → old.schema ≡ schema_of made → IsSound old → DeletesIn (schema_of made) (node2_table_of made) gone old new count
    → HasDropped gone old new × (count ≡ length (filter gone (shown_rows old)))
dropped_in made gone reads old new count is sound it =
    let tree = node2_tree made in
    let nodes = nodes_lie made old is in
    let still = it.schema ∙ is in
    let has = subst IsStoreSchema (sym it.schema) sound.schema in
    let left : node2_rows new ≡ delete_where gone (node2_rows old) = nodes_lie made new still ∙ it.rows ∙ sym (ap (delete_where gone) nodes) in
    let labels : label_rows new ≡ label_rows old = labels_lie made new still ∙ labels_stay tree old.trees new.trees made it.others (label_not_node2 made) ∙ sym (labels_lie made old is) in
    let shown = shown_are old sound.schema in (
      record {
        sound = record {
          schema = has;
          labels = subst AreLabels (sym labels) sound.labels;
          held = subst₂ (λ ls ns. AllByRecursion (HasLabel ls) ns) (sym labels) (sym left) (all-filter (HasLabel (label_rows old)) (λ r. not (gone r)) (node2_rows old) sound.held);
          apart = subst AreApart (sym left) (ascending-filter _ (λ r. not (gone r)) (node2_rows old) sound.apart);
          ints = subst HaveInts (sym left) (all-filter _ (λ r. not (gone r)) (node2_rows old) sound.ints);
        };
        layout = layout_lies made new still ∙ layout_stays tree old.trees new.trees made it.others (layout_not_node2 made) ∙ sym (layout_lies made old is);
        labels = labels;
        rows = shown_are new has ∙ ap₂ named_rows labels left ∙ sym (named_deleted gone reads (label_rows old) (node2_rows old)) ∙ ap (delete_where gone) (sym shown);
      },
      it.counted ∙ sym (ap (λ l. length (filter gone l)) nodes) ∙ sym (named_count gone reads (label_rows old) (node2_rows old) sound.held) ∙ sym (ap (λ l. length (filter gone l)) shown),
    )

-- of the nodes go those that pass a test that reads neither label nor name
module _ (text : List ℕ) (tests : List Term) (params : Row) (gone : Row → Bool) (passes : (r : Row) → list_all (holds (params ∷ r ∷ [])) tests ≡ gone r) (reads : (r l : Row) → gone (named r l) ≡ gone r)
    (is : (made : Made) → command_of (understood (schema_of made) text) ≡ Delete (node2_place made) (delete_program (node2_tree made) tests)) (plain : (made : Made) → IsPlain (understood (schema_of made) text)) where
  deletes : (old new : State) (count : ℕ) → Executes text params old new (Ok count) → Deletes gone old.now new.now count
  deletes old new count h sound =
      let place = which old.now.schema sound.schema in
      let made = place.0 in
      let tree = node2_tree made in
      let nodes = nodes_lie made old.now place.1 in
      let it = deletes_in (schema_of made) (node2_place made) (node2_table_of made) (node2_there made) (no_works made tree) text tests params gone passes (is made) (plain made) old new count place.1 (subst AreApart nodes sound.apart) (subst HaveInts nodes sound.ints) h in
      dropped_in made gone reads old.now new.now count place.1 sound it

-- the rows of an address go
pub dropped_inside : (old new : State) (address : List ℕ) (e : Error) (r : Result ℕ Error) → (old.in_transaction ≡ false → r ≡ Err e)
    → (IsTrue old.in_transaction → ExecutesInside 0 delete2_text (Text address ∷ []) old new r) → IfOk r (Drops (is_at address) old new)
dropped_inside old new address e r = inside delete2_text (Text address ∷ []) (is_at address) old new e r (deletes delete2_text (term1 ∷ []) (Text address ∷ []) (is_at address) passes (λ r l. refl) delete2_is delete2_plain old new)
  where
    passes : (r : Row) → list_all (holds ((Text address ∷ []) ∷ r ∷ [])) (term1 ∷ []) ≡ is_at address r
    passes r = and_true _ ∙ equals_text (column r 1) address

-- those of its rows go whose numbers lie between two
pub part_inside : (old new : State) (address : List ℕ) (low high : ℕ) (e : Error) (r : Result ℕ Error) → (old.in_transaction ≡ false → r ≡ Err e)
    → (IsTrue old.in_transaction → ExecutesInside 0 part2_text (Text address ∷ Int (pos low) ∷ Int (pos high) ∷ []) old new r) → IfOk r (Drops (is_part address low high) old new)
part_inside old new address low high e r =
    let params = Text address ∷ Int (pos low) ∷ Int (pos high) ∷ [] in
    inside part2_text params (is_part address low high) old new e r (deletes part2_text part_tests params (is_part address low high) (part_test address low high) (λ r l. refl) part2_is part2_plain old new)
