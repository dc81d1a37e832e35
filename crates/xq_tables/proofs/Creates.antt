-- What the making of the tables does.
use Rattle.std.proofs.Common.{◌≡◌, ◌⊎◌, inl, inr, ℕ, pos, map, cond, None, Ok, Err, Result, List, [], ◌∷◌, Bool, true, false, IsTrue, OnOk, refl, sym, ap, subst, ◌∙◌, arith}
use Rattle.std.specs.List.{AllByRecursion}
use Rattle.std.specs.Ordering.{is_eq}
use Rattle.std.proofs.lemmas.Cmp.{tied_itself}
use Rattle.sqlite_value.specs.declared.value.Value.TheVariants.{Int}
use Rattle.sqlite_value.specs.Order.{Row, column}
use Rattle.sqlite_value.proofs.OrderLemmas.{value_cmp_total}
use Rattle.sqlite_trees.specs.Tree.{Trees}
use Rattle.sqlite_catalog.specs.Change.{KeepsRows}
use Rattle.sqlite.specs.Schema.{Schema}
use Rattle.sqlite.specs.Table.{Table}
use Rattle.sqlite.specs.Command.TheVariants.{CreateTable, Insert}
use Rattle.sqlite.specs.Compile.{table_defined_by}
use Rattle.sqlite.specs.Source.TheVariants.{Values}
use Rattle.sqlite.specs.Change.{created, next_tree}
use Rattle.sqlite.specs.Does.{Tally, Does, OnRows, lacks_sequence}
use Rattle.sqlite.specs.Rows.{Written}
use Rattle.sqlite.specs.Edit.{edit_of, edited, taken_by}
use Rattle.sqlite.specs.Rowids.TheVariants.{Chosen}
use Rattle.sqlite.specs.Listing.{understood}
use Rattle.sqlite.specs.Effect.{Database}
use Rattle.sqlite.specs.State.{State, Writes, Executes, ExecutesInside, Shows, IsUnchanged, IsRolledBack, KeepsCommit, mode_of}
use Rattle.sqlite.specs.declared.error.Error.{Error}
use Rattle.sqlite.proofs.Callers.{IsPlain, command_of, statement_of, runs_as, one_step}
use Rattle.xq_tables.specs.Documents.{AreApart, AreLabels, HasAddress, HaveInts, IsSound, rows_at}
use Rattle.xq_tables.specs.Labels.{label_rows, label_table, named_rows, node2_rows, node2_table, shown_rows, HasLabel, IsStoreSchema}
use Rattle.xq_tables.specs.private.Statements.{zero_label, MakesLabel, MakesLabels, MakesLayout, MakesNodes, WritesEdition, WritesZero}
use Rattle.xq_tables.specs.Writes.{IsEmptyStore}
use Rattle.xq_tables.specs.private.Schemas.{layout_schema}
use Rattle.xq_tables.specs.Tables.{layout_table, no_schema}
use Rattle.xq_tables.proofs.LabelPlaces.{Made, alone, layout_first, node_first, base_of, labels_of, schema_of, label_tree, label_place, label_table_of, label_there, layout_place, layout_table_of, layout_there, layout_tree, is_schema, which, nodes_lie, labels_lie, layout_lies, no_works, OthersStay, labels_stay, nodes_stay, old_beside_layout, old_lie, layout_not_label, layout_not_node2, label_not_node2, shown_are}
use Rattle.xq_tables.proofs.LabelTexts.{edition_is, edition_plain, edition_terms, edition_text, label_is, label_plain, label_text, makes_labels, makes_nodes, node2_is, node2_plain, node2_text, zero_is, zero_plain, zero_terms, zero_text}
use Rattle.xq_tables.proofs.Places.{on_table}
use Rattle.xq_tables.proofs.Selects.{equals_int}
use Rattle.xq_tables.proofs.Texts.{layout_text, layout_is, layout_plain, makes_layout}
use Rattle.xq_tables.proofs.Deletes.{went, same_value}
use Rattle.xq_tables.proofs.Inserts.{cast_null, cast_int}

-- # CREATE TABLE of a name that no table has

module _ (text : List ℕ) (under next : Schema) (table : Table) (command : command_of (understood under text) ≡ CreateTable) (whole : statement_of text (understood under text) ≡ text) (defined : table_defined_by text ≡ Ok table)
    (plain : IsPlain (understood under text)) (is : created under table ≡ next) (uncounted : lacks_sequence next ≡ false) where
  record Makes (old new : Database) : Type 0 where
    schema : new.schema ≡ next
    others : KeepsRows under.tables old.trees new.trees
    empty : new.trees (next_tree under) ≡ []

  makes : (old new : State) (count : ℕ) → old.now.schema ≡ under → Executes text [] old new (Ok count) → Makes old.now new.now
  makes old new count has h =
      let w = subst (λ t. Writes old new None CreateTable t [] count) whole (runs_as text [] old new under has CreateTable command plain count h) in
      let all = went w.changed in
      let first = went all.1 in
      let made = first.1 in
      let both : Ok made.table ≡ Ok table = sym made.defined ∙ defined in
      let same : made.table ≡ table = cc in
      let schema : first.0.schema ≡ next = made.is ∙ ap (λ s. created s made.table) has ∙ ap (created under) same ∙ is in
      let none : lacks_sequence first.0.schema ≡ false = ap lacks_sequence schema ∙ uncounted in
      let now : new.now ≡ first.0 = ap (λ (p : Tally × Database). p.1) (same_value all.2) ∙ same_value (rw none at first.2) in
      record {
        schema = ap (λ (d : Database). d.schema) now ∙ schema;
        others = subst (λ (d : Database). KeepsRows under.tables old.now.trees d.trees) (sym now) (subst (λ s. KeepsRows s.tables old.now.trees first.0.trees) has made.others);
        empty = ap (λ (d : Database). d.trees (next_tree under)) now ∙ subst (λ s. first.0.trees (next_tree s) ≡ []) has made.empty;
      }

pub makes_first : (old new : State) (count : ℕ) → Executes layout_text [] old new (Ok count) → MakesLayout old.now new.now
makes_first old new count h has = (
    let it = makes layout_text no_schema layout_schema layout_table layout_is.0 layout_is.1 layout_is.2 layout_plain makes_layout refl old new count has h in
    (it.schema, it.empty))

pub makes_label : (old new : State) (count : ℕ) → Executes label_text [] old new (Ok count) → MakesLabel old.now new.now
makes_label old new count h made has =
    let is = label_is made in
    let to = makes_labels made in
    let it = makes label_text (base_of made) (labels_of made) (record label_table { tree = 0 }) is.0 is.1 is.2 (label_plain made) to.0 to.1 old new count has h in
    (it.schema, it.others, subst (λ t. new.now.trees t ≡ []) to.2 it.empty)

pub makes_node2 : (old new : State) (count : ℕ) → Executes node2_text [] old new (Ok count) → MakesNodes old.now new.now
makes_node2 old new count h made has =
    let is = node2_is made in
    let to = makes_nodes made in
    let it = makes node2_text (labels_of made) (schema_of made) (record node2_table { tree = 0 }) is.0 is.1 is.2 (node2_plain made) to.0 to.1 old new count has h in
    (it.schema, it.others, nodes_lie made new.now it.schema ∙ subst (λ t. new.now.trees t ≡ []) to.2 it.empty)

-- # The first rows

-- of the tables that were there before each stays
base_stays : (made : Made) (db next : Trees) → OthersStay made (label_tree made) db next → KeepsRows (base_of made).tables db next
base_stays alone db next all = (all.0 (λ e. omega (arith, e)), tt)
base_stays layout_first db next all = (all.0 (λ e. omega (arith, e)), (all.1.0 (λ e. omega (arith, e)), tt))
base_stays node_first db next all = (all.0 (λ e. omega (arith, e)), (all.1.0 (λ e. omega (arith, e)), tt))

pub writes_zero : (old new : State) (count : ℕ) → Executes zero_text [] old new (Ok count) → WritesZero old.now new.now
writes_zero old new count h made has none =
    let db = old.now.trees in
    let tree = label_tree made in
    let schema = schema_of made in
    let table = label_table_of made in
    let command = Insert (label_place made) (Values zero_terms 3) in
    let w = runs_as zero_text [] old new schema has command (zero_is made) (zero_plain made) count h in
    let text = statement_of zero_text (understood schema zero_text) in
    let changed = subst (λ s. Does old.step_limit (mode_of old) [] (record old.now { schema = s }) text None command (Ok (w.tally, new.now))) has w.changed in
    let done = went (on_table schema (label_place made) table (label_there made) old.step_limit (mode_of old) [] db (λ task. OnRows task (mode_of old) None command db) (Ok (w.tally, new.now)) changed) in
    let now = ap (λ (p : Tally × Database). p.1) (same_value (went (went done.2).2).2) in
    let given = went done.1 in
    let written = went (went given.2).2 in
    let counted = went written.2 in
    let trees : new.now.trees ≡ written.0 = ap (λ (d : Database). d.trees) now ∙ ap (λ (it : Written). it.trees) (same_value counted.2) ∙ same_value counted.1 in
    let e = edit_of db table [] Chosen 0 given.0 in
    let keys = (mode_of old).keys in
    let step = one_step schema keys db written.0 e (no_works made tree keys (taken_by db e) e.news) written.1 in
    let edit : edited db e ≡ zero_label ∷ [] = ap (λ all. edited db (edit_of db table [] Chosen 0 all)) given.1.1 ∙ rw (none, cast_null, cast_int (pos 0)) refl in
    let is : new.now.schema ≡ schema = ap (λ (d : Database). d.schema) now in
    let others : OthersStay made tree db new.now.trees = subst (OthersStay made tree db) (sym trees) step.tables in (
      is,
      base_stays made db new.now.trees others,
      labels_lie made new.now is ∙ ap (λ (t : Trees). t tree) trees ∙ step.rows ∙ edit,
      nodes_lie made new.now is ∙ nodes_stay tree db new.now.trees made others (λ e. label_not_node2 made (sym e)) ∙ sym (nodes_lie made old.now has),
    )

pub writes_edition : (old new : State) (count : ℕ) → Executes edition_text [] old new (Ok count) → WritesEdition old.now new.now
writes_edition old new count h store empty =
    let place = which old.now.schema store in
    let made = place.0 in
    let has = place.1 in
    let tree = layout_tree made in
    let none : old.now.trees tree ≡ [] = sym (layout_lies made old.now has) ∙ empty in
    let db = old.now.trees in
    let schema = schema_of made in
    let table = layout_table_of made in
    let command = Insert (layout_place made) (Values edition_terms 2) in
    let w = runs_as edition_text [] old new schema has command (edition_is made) (edition_plain made) count h in
    let text = statement_of edition_text (understood schema edition_text) in
    let changed = subst (λ s. Does old.step_limit (mode_of old) [] (record old.now { schema = s }) text None command (Ok (w.tally, new.now))) has w.changed in
    let done = went (on_table schema (layout_place made) table (layout_there made) old.step_limit (mode_of old) [] db (λ task. OnRows task (mode_of old) None command db) (Ok (w.tally, new.now)) changed) in
    let now = ap (λ (p : Tally × Database). p.1) (same_value (went (went done.2).2).2) in
    let given = went done.1 in
    let written = went (went given.2).2 in
    let counted = went written.2 in
    let trees : new.now.trees ≡ written.0 = ap (λ (d : Database). d.trees) now ∙ ap (λ (it : Written). it.trees) (same_value counted.2) ∙ same_value counted.1 in
    let e = edit_of db table [] Chosen 0 given.0 in
    let keys = (mode_of old).keys in
    let step = one_step schema keys db written.0 e (no_works made tree keys (taken_by db e) e.news) written.1 in
    let edit : edited db e ≡ (Int (pos 1) ∷ Int (pos 2) ∷ []) ∷ [] = ap (λ all. edited db (edit_of db table [] Chosen 0 all)) given.1.1 ∙ rw (none, cast_null, cast_int (pos 2)) refl in
    let is : new.now.schema ≡ schema = ap (λ (d : Database). d.schema) now in
    let others : OthersStay made tree db new.now.trees = subst (OthersStay made tree db) (sym trees) step.tables in record {
      schema = is ∙ sym has;
      layout = layout_lies made new.now is ∙ ap (λ (t : Trees). t tree) trees ∙ step.rows ∙ edit;
      labels = labels_lie made new.now is ∙ labels_stay tree db new.now.trees made others (λ e. layout_not_label made (sym e)) ∙ sym (labels_lie made old.now has);
      nodes = nodes_lie made new.now is ∙ nodes_stay tree db new.now.trees made others (λ e. layout_not_node2 made (sym e)) ∙ sym (nodes_lie made old.now has);
      beside = old_lie made new.now is ∙ old_beside_layout db new.now.trees made others ∙ sym (old_lie made old.now has);
    }

-- # One after the other

both_keep : (tables : List Table) (a b c : Trees) → KeepsRows tables a b → KeepsRows tables b c → KeepsRows tables a c
both_keep [] a b c p q = tt
both_keep (t ∷ tables) a b c p q = (q.0 ∙ p.0, both_keep tables a b c p.1 q.1)

-- what is kept with the labels is kept without them
kept_base : (made : Made) (db next : Trees) → KeepsRows (labels_of made).tables db next → KeepsRows (base_of made).tables db next
kept_base alone db next all = (all.0, tt)
kept_base layout_first db next all = (all.0, (all.1.0, tt))
kept_base node_first db next all = (all.0, (all.1.0, tt))

kept_labels : (made : Made) (db next : Trees) → KeepsRows (labels_of made).tables db next → next (label_tree made) ≡ db (label_tree made)
kept_labels alone db next all = all.1.0
kept_labels layout_first db next all = all.1.1.0
kept_labels node_first db next all = all.1.1.0

pub all_made : (a b c d : Database) → MakesLabel a b → MakesNodes b c → WritesZero c d → MakesLabels a d
all_made a b c d label nodes zero made has =
    let one = label made has in
    let two = nodes made one.0 in
    let three = zero made two.0 (kept_labels made b.trees c.trees two.1 ∙ one.2) in
    let tables = (base_of made).tables in
    record {
      schema = three.0;
      base = both_keep tables a.trees c.trees d.trees (both_keep tables a.trees b.trees c.trees one.1 (kept_base made b.trees c.trees two.1)) three.1;
      labels = three.2;
      nodes = three.3 ∙ two.2;
    }

-- the label of the empty name alone
pub zero_alone : AreLabels (zero_label ∷ [])
zero_alone = record {
  apart = (tt, tt);
  numbered = ((0, refl, omega arith), tt);
  zero = (zero_label, ap (λ b. cond b (zero_label ∷ []) []) (equals_int (Int (pos 0)) (pos 0) ∙ ap is_eq (tied_itself value_cmp_total (Int (pos 0)))), refl);
}

-- where no node was written the tables are sound
pub sound_made : (db : Database) → IsStoreSchema db.schema → label_rows db ≡ zero_label ∷ [] → node2_rows db ≡ [] → IsSound db × (shown_rows db ≡ [])
sound_made db has labels nodes = (
  record {
    schema = has;
    labels = subst AreLabels (sym labels) zero_alone;
    held = subst (AllByRecursion (HasLabel (label_rows db))) (sym nodes) tt;
    apart = subst AreApart (sym nodes) tt;
    ints = subst HaveInts (sym nodes) tt;
  },
  shown_are db has ∙ ap (named_rows (label_rows db)) nodes,
)

pub store_made : (a b c d : Database) → MakesLayout a b → MakesLabels b c → WritesEdition c d → a.schema ≡ no_schema → IsEmptyStore d
store_made a b c d layout labels edition has =
    let one = layout has in
    let two = labels alone one.0 in
    let store : IsStoreSchema c.schema = subst IsStoreSchema (sym two.schema) (is_schema alone) in
    let three = edition store (layout_lies alone c two.schema ∙ two.base.0 ∙ one.1) in
    let made = sound_made d (subst IsStoreSchema (sym three.schema) store) (three.labels ∙ two.labels) (three.nodes ∙ two.nodes) in (
      record {
        sound = made.0;
        layout = ap (map (λ r. column r 1)) three.layout;
        named = subst (AllByRecursion HasAddress) (sym made.1) tt;
        whole = λ address. inl (ap (rows_at address) made.1);
      },
      made.1,
    )

-- # Inside a transaction

-- each of these
pub ran_inside : (text : List ℕ) (P : Type 0) (old new : State) (e : Error) (r : Result ℕ Error) → (old.in_transaction ≡ false → r ≡ Err e)
    → (IsTrue old.in_transaction → ExecutesInside 0 text [] old new r) → ((count : ℕ) → Executes text [] old new (Ok count) → P) → OnOk r P
ran_inside text P old new e (Err f) ended runs step = tt
ran_inside text P old new e (Ok count) ended runs step = go old.in_transaction refl
  where
    go : (b : Bool) → old.in_transaction ≡ b → P
    go true inside = step count (runs inside).0
    go false outside = absurd (let e = ended outside in cc)

shown_kept : (old new : State) (now : Database) (b : Bool) → Shows old new now old.committed b → KeepsCommit old new
shown_kept old new now b h = record { was_open = λ up. h.was_open; committed = λ up. h.committed_is }

pub undone_kept : (old new : State) → IsUnchanged old new ⊎ IsRolledBack old new → KeepsCommit old new
undone_kept old new (inl h) = shown_kept old new old.now old.in_transaction h.0
undone_kept old new (inr h) = record { was_open = h.was_open; committed = λ up. (h.undone up).1 }

pub kept_same : (s : State) → KeepsCommit s s
kept_same s = record { was_open = λ up. up; committed = λ up. refl }

-- what was committed stays, whatever the statement answers
pub kept_inside : (text : List ℕ) (params : Row) (old new : State) (r : Result ℕ Error) → (old.in_transaction ≡ false → KeepsCommit old new) → (IsTrue old.in_transaction → ExecutesInside 0 text params old new r) → KeepsCommit old new
kept_inside text params old new r ended runs = go old.in_transaction refl r runs
  where
    go : (b : Bool) → old.in_transaction ≡ b → (r : Result ℕ Error) → (IsTrue old.in_transaction → ExecutesInside 0 text params old new r) → KeepsCommit old new
    go false outside r runs = ended outside
    go true inside (Ok count) runs = shown_kept old new new.now true (runs inside).1
    go true inside (Err e) runs = elim (runs inside) [ inl h ↦ undone_kept old new h.1 | inr h ↦ undone_kept old new (inl h.2) ]
