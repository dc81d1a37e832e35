-- What INSERT does to the table of labels, and the row of a node beside others.
use Rattle.std.proofs.Common.{◌≡◌, ℕ, ℤ, Some, None, Ok, List, [], ◌∷◌, false, refl, sym, ap, subst, ◌∙◌, unwrap_or}
use Rattle.sqlite_value.specs.Order.{Row}
use Rattle.sqlite_value.specs.declared.value.Value.TheVariants.{Null, Int, Text}
use Rattle.sqlite_trees.specs.Tree.{Trees, put_row}
use Rattle.sqlite_rules.specs.Edit.{edit_of, taken_by, next_rowid, is_taken, are_fresh, put_all}
use Rattle.sqlite.specs.Source.TheVariants.{Values}
use Rattle.sqlite.specs.Command.TheVariants.{Insert}
use Rattle.sqlite.specs.Rowids.TheVariants.{Chosen}
use Rattle.sqlite.specs.Does.{Tally, Does, OnRows}
use Rattle.sqlite.specs.Rows.{Written, last_id}
use Rattle.sqlite.specs.Listing.{understood}
use Rattle.sqlite.specs.Effect.{Database}
use Rattle.sqlite.specs.State.{State, mode_of, Executes}
use Rattle.sqlite.proofs.Callers.{statement_of, runs_as, one_step}
use Rattle.xq_trees.specs.Rows.{Row as Node}
use Rattle.xq_tables.specs.Labels.{label_rows, node2_rows, IsStoreSchema}
use Rattle.xq_tables.specs.private.Numbered.{numbered_cells}
use Rattle.xq_tables.specs.Tables.{layout_rows, node_rows}
use Rattle.xq_tables.proofs.Deletes.{went, same_value}
use Rattle.xq_tables.proofs.Inserts.{cast_null, one_fresh}
use Rattle.xq_tables.proofs.LabelPlaces.{Made, schema_of, label_tree, label_place, label_table_of, label_there, which, nodes_lie, labels_lie, layout_lies, old_lie, old_beside_labels, no_works, OthersStay, layout_stays, nodes_stay, layout_not_label, label_not_node2}
use Rattle.xq_tables.proofs.LabelTexts.{add_label_text, add_label_terms, add_label_is, add_label_plain}
use Rattle.xq_tables.proofs.Places.{on_table}

-- # A label

-- its number is one above that of the last
abbrev pub new_label : List ℕ → List Row → Row
new_label name labels = Int (next_rowid labels) ∷ Null ∷ Text name ∷ []

pub record IsLabelled (name : List ℕ) (old new : State) : Type 0 where
  pub schema : new.now.schema ≡ old.now.schema
  pub layout : layout_rows new.now ≡ layout_rows old.now
  pub nodes : node2_rows new.now ≡ node2_rows old.now
  pub beside : node_rows new.now ≡ node_rows old.now
  pub labels : label_rows new.now ≡ put_row (new_label name (label_rows old.now)) (label_rows old.now)
  pub fresh : is_taken (label_rows old.now) (new_label name (label_rows old.now)) ≡ false
  pub number : new.last_rowid ≡ next_rowid (label_rows old.now)

label_is : (made : Made) (name : List ℕ) (db : Trees) → (edit_of db (label_table_of made) [] Chosen 0 ((Null ∷ Null ∷ Text name ∷ []) ∷ [])).news ≡ new_label name (db (label_tree made)) ∷ []
label_is made name db = rw cast_null refl

-- what it makes of the trees
record LabelsIn (made : Made) (name : List ℕ) (old new : State) : Type 0 where
  schema : new.now.schema ≡ old.now.schema
  others : OthersStay made (label_tree made) old.now.trees new.now.trees
  labels : new.now.trees (label_tree made) ≡ put_row (new_label name (old.now.trees (label_tree made))) (old.now.trees (label_tree made))
  fresh : is_taken (old.now.trees (label_tree made)) (new_label name (old.now.trees (label_tree made))) ≡ false
  number : new.last_rowid ≡ next_rowid (old.now.trees (label_tree made))

labels_in : (made : Made) (old new : State) (name : List ℕ) (count : ℕ) → old.now.schema ≡ schema_of made → Executes add_label_text (Text name ∷ []) old new (Ok count) → LabelsIn made name old new
labels_in made old new name count has h =
    let params = Text name ∷ [] in
    let db = old.now.trees in
    let tree = label_tree made in
    let schema = schema_of made in
    let command = Insert (label_place made) (Values add_label_terms 3) in
    let w = runs_as add_label_text params old new schema has command (add_label_is made) (add_label_plain made) count h in
    let text = statement_of add_label_text (understood schema add_label_text) in
    let changed = subst (λ s. Does old.step_limit (mode_of old) params (record old.now { schema = s }) text None command (Ok (w.tally, new.now))) has w.changed in
    let done = went (on_table schema (label_place made) (label_table_of made) (label_there made) old.step_limit (mode_of old) params db (λ task. OnRows task (mode_of old) None command db) (Ok (w.tally, new.now)) changed) in
    let end = same_value (went (went done.2).2).2 in
    let now = ap (λ (p : Tally × Database). p.1) end in
    let given = went done.1 in
    let written = went (went given.2).2 in
    let counted = went written.2 in
    let trees : new.now.trees ≡ written.0 = ap (λ (d : Database). d.trees) now ∙ ap (λ (it : Written). it.trees) (same_value counted.2) ∙ same_value counted.1 in
    let e = edit_of db (label_table_of made) [] Chosen 0 given.0 in
    let keys = (mode_of old).keys in
    let step = one_step schema keys db written.0 e (no_works made tree keys (taken_by db e) e.news) written.1 in
    let sources : given.0 ≡ (Null ∷ Null ∷ params) ∷ [] = given.1.1 in
    let row = new_label name (db tree) in
    let news : e.news ≡ row ∷ [] = ap (λ all. (edit_of db (label_table_of made) [] Chosen 0 all).news) sources ∙ label_is made name db in
    let last : w.tally.last ≡ Some (next_rowid (db tree)) = ap (λ (p : Tally × Database). p.0.last) end ∙ ap (λ (it : Written). it.last) (same_value counted.2) ∙ ap last_id news in record {
      schema = ap (λ (d : Database). d.schema) now ∙ sym has;
      others = subst (OthersStay made tree db) (sym trees) step.tables;
      labels = ap (λ (t : Trees). t tree) trees ∙ step.rows ∙ ap (λ rows. put_all (db tree) rows) news;
      fresh = one_fresh (db tree) row (ap (λ rows. are_fresh (db tree) rows) (sym news) ∙ step.fresh);
      number = w.last_rowid ∙ ap (λ o. unwrap_or o old.last_rowid) last;
    }

pub labelled : (old new : State) (name : List ℕ) (count : ℕ) → IsStoreSchema old.now.schema → Executes add_label_text (Text name ∷ []) old new (Ok count) → IsLabelled name old new
labelled old new name count has h =
    let place = which old.now.schema has in
    let made = place.0 in
    let tree = label_tree made in
    let was = sym (labels_lie made old.now place.1) in
    let it = labels_in made old new name count place.1 h in
    let still = it.schema ∙ place.1 in record {
      schema = it.schema;
      layout = layout_lies made new.now still ∙ layout_stays tree old.now.trees new.now.trees made it.others (layout_not_label made) ∙ sym (layout_lies made old.now place.1);
      nodes = nodes_lie made new.now still ∙ nodes_stay tree old.now.trees new.now.trees made it.others (λ e. label_not_node2 made (sym e)) ∙ sym (nodes_lie made old.now place.1);
      beside = old_lie made new.now still ∙ old_beside_labels old.now.trees new.now.trees made it.others ∙ sym (old_lie made old.now place.1);
      labels = labels_lie made new.now still ∙ it.labels ∙ ap (λ rows. put_row (new_label name rows) rows) was;
      fresh = sym (ap (λ rows. is_taken rows (new_label name rows)) was) ∙ it.fresh;
      number = it.number ∙ ap next_rowid was;
    }

-- # A node

-- the row of a node under an address, by its rowid
abbrev pub noted_row : List ℕ → ℕ × Node → ℕ → ℤ → Row
noted_row address n label id = Int id ∷ Text address ∷ numbered_cells n label

-- the new row comes after the others
abbrev pub new_node : List ℕ → ℕ × Node → ℕ → List Row → Row
new_node address n label rows = noted_row address n label (next_rowid rows)

pub record IsNoted (address : List ℕ) (n : ℕ × Node) (label : ℕ) (id : ℤ) (old new : Database) : Type 0 where
  pub schema : new.schema ≡ old.schema
  pub layout : layout_rows new ≡ layout_rows old
  pub labels : label_rows new ≡ label_rows old
  pub beside : node_rows new ≡ node_rows old
  pub nodes : node2_rows new ≡ put_row (noted_row address n label id) (node2_rows old)
  pub fresh : is_taken (node2_rows old) (noted_row address n label id) ≡ false
