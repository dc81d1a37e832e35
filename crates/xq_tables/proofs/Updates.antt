-- What UPDATE does to the row of a node: as if the row had been taken out, and another been put in.
use Rattle.std.proofs.Common.{◌≡◌, ◌&&◌, ◌+◌, inl, inr, ℕ, ℤ, pos, Bool, true, false, not, List, [], ◌∷◌, ◌++◌, map, filter, length, Some, None, Ok, Err, Result, OnOk, IsTrue, refl, sym, ap, ap₂, subst, ◌∙◌, arith, String, Global}
use Rattle.std.specs.Ordering.{is_eq, is_ge, is_lt}
use Rattle.std.specs.List.{AllByRecursion, list_all}
use Rattle.std.specs.List.Sorted.{IsPermutation}
use Rattle.std.proofs.lemmas.Bool.{lt-ltb}
use Rattle.std.proofs.lemmas.Cmp.{tied_itself}
use Rattle.std.proofs.lemmas.List.Sorted.{IsPermutation-refl}
use Rattle.sqlite_value.specs.Order.{Row, column, value_cmp}
use Rattle.sqlite_value.specs.declared.value.Value.{Value}
use Rattle.sqlite_value.specs.declared.value.Value.TheVariants.{Int, Text}
use Rattle.sqlite_value.proofs.OrderLemmas.{value_cmp_total}
use Rattle.sqlite_trees.specs.Tree.{Trees, put_row, rowid}
use Rattle.sqlite_trees.proofs.ListLemmas.{filter-map, filter_same, map-map}
use Rattle.sqlite_sql.specs.Term.{holds}
use Rattle.sqlite_keyed.specs.Lists.{delete_where}
use Rattle.sqlite_rules.specs.Calls.{ids_of}
use Rattle.sqlite_rules.specs.Edit.{are_fresh, edit_of, id_in, is_taken, put_all, taken_by, without_all}
use Rattle.sqlite_rules.specs.Lists.{Has}
use Rattle.sqlite_rules.proofs.ListLemmas.{all_from, all_has, has_filtered, has_kept}
use Rattle.sqlite_rules.proofs.TableLemmas.{int_is}
use Rattle.sqlite.specs.Command.TheVariants.{Update}
use Rattle.sqlite.specs.Rowids.TheVariants.{Given}
use Rattle.sqlite.specs.Does.{Tally, Does, OnRows}
use Rattle.sqlite.specs.Rows.{Written}
use Rattle.sqlite.specs.Listing.{understood}
use Rattle.sqlite.specs.Effect.{Database}
use Rattle.sqlite.specs.State.{State, mode_of, Executes, ExecutesInside}
use Rattle.sqlite.specs.declared.error.Error.{Error}
use Rattle.sqlite.proofs.Callers.{statement_of, runs_as, one_step, one_permutation}
use Rattle.xq_trees.specs.Codes.{kind_number}
use Rattle.xq_trees.specs.Rows.{Row as Node}
use Rattle.xq_tables.specs.Documents.{is_at, node_columns, rows_at, AreApart, HasAddress, HaveInts, IsSound}
use Rattle.xq_tables.specs.Labels.{label_rows, named, node2_rows, shown_rows, IsNumberOf}
use Rattle.xq_tables.specs.Nodes.{cells}
use Rattle.xq_tables.specs.private.Numbered.{numbered_cells}
use Rattle.xq_tables.specs.private.Statements.{is_between, is_part, HasAdded, HasRenewed, LiesAs, NumbersInHand, Updates, UpdatesNamed}
use Rattle.xq_tables.specs.Writes.{HasDropped}
use Rattle.xq_tables.proofs.Adds.{adds_one, kept_numbers}
use Rattle.xq_tables.proofs.Deletes.{dropped_in, same_value, went, DeletesIn}
use Rattle.xq_tables.proofs.Inserts.{cast_int, one_fresh}
use Rattle.xq_tables.proofs.LabelInserts.{noted_row, IsNoted}
use Rattle.xq_tables.proofs.LabelPlaces.{Made, schema_of, node2_place, node2_table_of, node2_there, node2_tree, which, nodes_lie, no_works, OthersStay, shown_are}
use Rattle.xq_tables.proofs.LabelTexts.{key_tests, update2_is, update2_plain, update2_text, update_program, update_terms}
use Rattle.xq_tables.proofs.Lists.{same_test, takes_out, tied}
use Rattle.xq_tables.proofs.Maps.{text_is}
use Rattle.xq_tables.proofs.Named.{named_each, with_name}
use Rattle.xq_tables.proofs.Places.{on_table}
use Rattle.xq_tables.proofs.Ranges.{less, picks}
use Rattle.xq_tables.proofs.Renewals.{exchanged}
use Rattle.xq_tables.proofs.Selects.{and_true, equals_int, equals_text, selected, selected_rows}
use Rattle.xq_tables.proofs.Together.{others_stay, rows_are, stand_beside, with_nodes, StandBeside}

-- # Which rows it finds

abbrev is_keyed : List ℕ → ℕ → Row → Bool
is_keyed address p r = is_at address r && is_eq (value_cmp (column r 2) (Int (pos p)))

key_test : (address : List ℕ) (n : ℕ × Node) (label : ℕ) (r : Row) → list_all (holds ((Text address ∷ numbered_cells n label) ∷ r ∷ [])) key_tests ≡ is_keyed address n.0 r
key_test address n label r = ap₂ ◌&&◌ (equals_text (column r 1) address) (and_true _ ∙ equals_int (column r 2) (pos n.0))

-- what has the number is between it and the next
between_own : (v : Value) (p : ℕ) → is_eq (value_cmp v (Int (pos p))) ≡ true → (is_ge (value_cmp v (Int (pos p))) && is_lt (value_cmp v (Int (pos (p + 1))))) ≡ true
between_own v p e =
    let equal = tied _ e in
    ap₂ (λ a b. is_ge a && is_lt b) equal (value_cmp_total.congr v (Int (pos p)) (Int (pos (p + 1))) equal) ∙ less p (p + 1) ∙ lt-ltb p (p + 1) (omega arith)

both_true : (a b c : Bool) → (b ≡ true → c ≡ true) → (a && b) ≡ true → (a && c) ≡ true
both_true true b c h e = h e
both_true false b c h e = absurd cc

keyed_part : (address : List ℕ) (p : ℕ) (r : Row) → is_keyed address p r ≡ true → is_part address p (p + 1) r ≡ true
keyed_part address p r = both_true (is_at address r) _ _ (between_own (column r 2) p)

and_first : (a b : Bool) → (a && b) ≡ true → a ≡ true
and_first true b e = refl
and_first false b e = absurd cc

module _ (address : List ℕ) (p : ℕ) (table : List Row) (r : Row) (only : filter (is_part address p (p + 1)) table ≡ r ∷ []) (number : column r 2 ≡ Int (pos p)) where
  there : Has table r × (is_part address p (p + 1) r ≡ true)
  there = has_filtered (is_part address p (p + 1)) table r (subst (λ l. Has l r) (sym only) (inl refl))

  own : is_keyed address p r ≡ true
  own = ap₂ ◌&&◌ (and_first _ _ there.1) (ap (λ v. is_eq (value_cmp v (Int (pos p)))) number ∙ ap is_eq (tied_itself value_cmp_total (Int (pos p))))

  is_it : (x : Row) → Has table x → is_part address p (p + 1) x ≡ true → is_keyed address p x ≡ true
  is_it x here passes = go (subst (λ l. Has l x) only (has_kept (is_part address p (p + 1)) table x here passes))
    where
      go : Has (r ∷ []) x → is_keyed address p x ≡ true
      go (inl same) = ap (is_keyed address p) same ∙ own
      go (inr none) = absurd none

  agree : (x : Row) → Has table x → (a b : Bool) → is_keyed address p x ≡ a → is_part address p (p + 1) x ≡ b → a ≡ b
  agree x here true true e f = refl
  agree x here true false e f = absurd (let h = sym (keyed_part address p x e) ∙ f in cc)
  agree x here false true e f = absurd (let h = sym (is_it x here f) ∙ e in cc)
  agree x here false false e f = refl

  keyed_only : filter (is_keyed address p) table ≡ r ∷ []
  keyed_only = filter_same _ _ table (all_from _ table (λ x here. agree x here _ _ refl refl)) ∙ only

-- # What it makes of the trees

-- the row as the query gives it
abbrev given_row : Value → Value → Value → ℕ × Node → ℕ → Row
given_row id address pre n label = let m = n.1 in id ∷ id ∷ address ∷ pre ∷ Int (pos m.size) ∷ Int (pos m.level) ∷ Int (pos (kind_number m.label.kind)) ∷ Int (pos label) ∷ Text m.label.value ∷ []

news_are : (made : Made) (address : List ℕ) (n : ℕ × Node) (label : ℕ) (id : ℤ) (db : Trees) (found : Row) → found ≡ given_row (Int id) (Text address) (Int (pos n.0)) n label
    → (edit_of db (node2_table_of made) (ids_of (found ∷ [])) Given 1 (found ∷ [])).news ≡ noted_row address n label id ∷ []
news_are made address n label id db found is =
    ap (λ row. (edit_of db (node2_table_of made) (ids_of (row ∷ [])) Given 1 (row ∷ [])).news) is
    ∙ rw (cast_int id, cast_int (pos n.0), cast_int (pos n.1.size), cast_int (pos n.1.level), cast_int (pos (kind_number n.1.label.kind)), cast_int (pos label)) refl

record UpdatesIn (made : Made) (address : List ℕ) (n : ℕ × Node) (label : ℕ) (id : ℤ) (old new : Database) : Type 0 where
  schema : new.schema ≡ old.schema
  others : OthersStay made (node2_tree made) old.trees new.trees
  nodes : new.trees (node2_tree made) ≡ put_row (noted_row address n label id) (delete_where (is_part address n.0 (n.0 + 1)) (old.trees (node2_tree made)))
  fresh : is_taken (delete_where (is_part address n.0 (n.0 + 1)) (old.trees (node2_tree made))) (noted_row address n label id) ≡ false

module _ (made : Made) (address : List ℕ) (n : ℕ × Node) (label : ℕ) (old : State) (r : Row) (only : filter (is_part address n.0 (n.0 + 1)) (old.now.trees (node2_tree made)) ≡ r ∷ []) (number : column r 2 ≡ Int (pos n.0))
    (up : AreApart (old.now.trees (node2_tree made))) (ints : HaveInts (old.now.trees (node2_tree made))) where
  abbrev params : Row
  params = Text address ∷ numbered_cells n label

  abbrev db : Trees
  db = old.now.trees

  abbrev tree : ℕ
  tree = node2_tree made

  abbrev id : ℤ
  id = id_in (rowid r)

  abbrev gone : Row → Bool
  gone = is_part address n.0 (n.0 + 1)

  here : Has (db tree) r × (gone r ≡ true)
  here = there address n.0 (db tree) r only number

  row_is : given_row (rowid r) (column r 1) (column r 2) n label ≡ given_row (Int id) (Text address) (Int (pos n.0)) n label
  row_is =
      let one : rowid r ≡ Int id = int_is (rowid r) (all_has _ (db tree) r ints here.0) in
      let two : column r 1 ≡ Text address = text_is (column r 1) address (and_first _ _ here.1) in
      ap (λ v. given_row v (column r 1) (column r 2) n label) one ∙ ap₂ (λ v w. given_row (Int id) v w n label) two number

  taken_out : without_all (db tree) (id ∷ []) ≡ delete_where gone (db tree)
  taken_out = takes_out gone (db tree) ((rowid r ∷ []) ∷ []) up ints (subst (λ l. IsPermutation (map (λ (x : Row). rowid x ∷ []) l) ((rowid r ∷ []) ∷ [])) (sym only) (IsPermutation-refl _))

  updates_in : (new : State) (count : ℕ) → old.now.schema ≡ schema_of made → Executes update2_text params old new (Ok count) → UpdatesIn made address n label id old.now new.now
  updates_in new count has h =
      let schema = schema_of made in
      let table = node2_table_of made in
      let command = Update (node2_place made) (update_program tree) in
      let w = runs_as update2_text params old new schema has command (update2_is made) (update2_plain made) count h in
      let text = statement_of update2_text (understood schema update2_text) in
      let changed = subst (λ s. Does old.step_limit (mode_of old) params (record old.now { schema = s }) text None command (Ok (w.tally, new.now))) has w.changed in
      let done = went (on_table schema (node2_place made) table (node2_there made) old.step_limit (mode_of old) params db (λ task. OnRows task (mode_of old) None command db) (Ok (w.tally, new.now)) changed) in
      let read = went done.1 in
      let edited = went read.2 in
      let found : List Row = read.0 in
      let next : Trees = edited.0 in
      let row = given_row (rowid r) (column r 1) (column r 2) n label in
      let all = selected_rows tree key_tests update_terms [] db params found (selected tree key_tests update_terms [] db params found read.1.answer) in
      let tested = same_test _ (is_keyed address n.0) (key_test address n label) (db tree) ∙ keyed_only address n.0 (db tree) r only number in
      let same : found ≡ row ∷ [] = one_permutation row found (subst (λ l. IsPermutation (map (λ (x : Row). given_row (rowid x) (column x 1) (column x 2) n label) l) found) tested all) in
      let e = edit_of db table (ids_of found) Given 1 found in
      let keys = (mode_of old).keys in
      let step = one_step schema keys db next e (no_works made tree keys (taken_by db e) e.news) edited.1 in
      let now : new.now ≡ record { schema = schema; trees = done.0.trees } = ap (λ (p : Tally × Database). p.1) (same_value (went (went done.2).2).2) in
      let trees : new.now.trees ≡ next = ap (λ (d : Database). d.trees) now ∙ ap (λ (x : Written). x.trees) (same_value edited.2) in
      let news : e.news ≡ noted_row address n label id ∷ [] = ap (λ all. (edit_of db table (ids_of all) Given 1 all).news) same ∙ news_are made address n label id db row row_is in
      let left : without_all (db tree) (ids_of found) ≡ delete_where gone (db tree) = ap (λ all. without_all (db tree) (ids_of all)) same ∙ taken_out in record {
        schema = ap (λ (d : Database). d.schema) now ∙ sym has;
        others = subst (OthersStay made tree db) (sym trees) step.tables;
        nodes = ap (λ (t : Trees). t tree) trees ∙ step.rows ∙ ap₂ (λ rows more. put_all rows more) left news;
        fresh = one_fresh (delete_where gone (db tree)) (noted_row address n label id) (ap₂ (λ rows more. are_fresh rows more) (sym left) (sym news) ∙ step.fresh);
      }

-- # As if the row had been taken out first

module _ (made : Made) (db : Database) (gone : Row → Bool) where
  abbrev left : List Row
  left = delete_where gone (db.trees (node2_tree made))

  abbrev mid : Database
  mid = with_nodes made db left

  taken : DeletesIn (schema_of made) (node2_table_of made) gone db mid (length (filter gone (db.trees (node2_tree made))))
  taken = record { schema = refl; others = others_stay made db left; rows = rows_are made db left; counted = refl }

only_one : (f : Row → Row) (xs : List Row) (v : Row) → map f xs ≡ v ∷ [] → (r : Row) × (xs ≡ r ∷ []) × (f r ≡ v)
only_one f [] v e = absurd cc
only_one f (x ∷ []) v e = (x, refl, cc)
only_one f (x ∷ y ∷ xs) v e = absurd (let h = ap length e in omega (arith, h))

module _ (address : List ℕ) (n : ℕ × Node) (label : ℕ) (old new : State) (count : ℕ) (h : Executes update2_text (Text address ∷ numbered_cells n label) old new (Ok count)) (sound : IsSound old.now) (known : IsNumberOf (label_rows old.now) label n.1.label.name)
    (row : Row) (lies : LiesAs address n.0 (Some row) old.now) where
  abbrev labels : List Row
  labels = label_rows old.now

  abbrev nodes : List Row
  nodes = node2_rows old.now

  abbrev part : Row → Bool
  part = is_part address n.0 (n.0 + 1)

  -- the one row that is there
  the_row : (r : Row) × (filter part nodes ≡ r ∷ []) × (node_columns (with_name labels r) ≡ row)
  the_row =
      let shown : shown_rows old.now ≡ map (with_name labels) nodes = shown_are old.now sound.schema ∙ named_each labels nodes sound.held in
      let all : map node_columns (filter part (shown_rows old.now)) ≡ row ∷ [] = picks (is_at address) (is_between n.0 (n.0 + 1)) (shown_rows old.now) ∙ lies.3 in
      let own : map (λ r. node_columns (with_name labels r)) (filter part nodes) ≡ map node_columns (filter part (shown_rows old.now)) =
      sym (ap (λ l. map node_columns (filter part l)) shown ∙ ap (map node_columns) (filter-map part (with_name labels) nodes) ∙ map-map node_columns (with_name labels) (filter part nodes)) in
      only_one (λ r. node_columns (with_name labels r)) (filter part nodes) row (own ∙ all)

  its_number : column the_row.0 2 ≡ Int (pos n.0)
  its_number = ap (λ (r : Row). column r 0) (the_row.2 ∙ lies.2) ∙ ap (λ m. Int (pos m)) lies.1

  renews : HasRenewed address n.0 (n.0 + 1) (cells n ∷ []) old.now new.now
  renews =
      let place = which old.now.schema sound.schema in
      let made = place.0 in
      let tree = node2_tree made in
      let r = the_row.0 in
      let id = id_in (rowid r) in
      let lie = nodes_lie made old.now place.1 in
      let it = updates_in made address n label old r (subst (λ t. filter part t ≡ r ∷ []) lie the_row.1) its_number (subst AreApart lie sound.apart) (subst HaveInts lie sound.ints) new count place.1 h in
      let still = it.schema ∙ place.1 in
      let between = mid made old.now part in
      let took = taken made old.now part in
      let dropped : HasDropped part old.now between = (dropped_in made part (λ r l. refl) old.now between _ place.1 sound took).0 in
      let gone : StandBeside old.now between = stand_beside made old.now between place.1 refl (others_stay made old.now (left made old.now part)) in
      let beside : StandBeside old.now new.now = stand_beside made old.now new.now place.1 it.schema it.others in
      let rows : node2_rows between ≡ delete_where part (old.now.trees tree) = nodes_lie made between place.1 ∙ rows_are made old.now (left made old.now part) in
      let noted : IsNoted address n label id between new.now = record {
        schema = it.schema;
        layout = beside.layout ∙ sym gone.layout;
        labels = beside.labels ∙ sym gone.labels;
        beside = beside.beside ∙ sym gone.beside;
        nodes = nodes_lie made new.now still ∙ it.nodes ∙ ap (put_row (noted_row address n label id)) (sym rows);
        fresh = ap (λ l. is_taken l (noted_row address n label id)) rows ∙ it.fresh;
      } in
      let added : HasAdded address (cells n ∷ []) between new.now = adds_one address n label id between new.now dropped.sound (subst (λ ls. IsNumberOf ls label n.1.label.name) (sym dropped.labels) known) noted in
      exchanged address n.0 (n.0 + 1) (cells n ∷ []) old.now between new.now dropped added

-- # Inside a transaction

pub update_inside : (old new : State) (address : List ℕ) (n : ℕ × Node) (label : ℕ) (e : Error) (r : Result ℕ Error) → (old.in_transaction ≡ false → r ≡ Err e)
    → (IsTrue old.in_transaction → ExecutesInside 0 update2_text (Text address ∷ numbered_cells n label) old new r) → OnOk r (Updates address n label old.now new.now)
update_inside old new address n label e (Err f) ended runs = tt
update_inside old new address n label e (Ok count) ended runs = go old.in_transaction refl
  where
    go : (b : Bool) → old.in_transaction ≡ b → Updates address n label old.now new.now
    go true inside = λ sound known row lies. renews address n label old new count (runs inside).0 sound known row lies
    go false outside = absurd (let e = ended outside in cc)

-- a name was numbered, and the row of a node with it was set
pub updates_numbered : (address : List ℕ) (n : ℕ × Node) (label : ℕ) (before after : List (String Global × ℕ)) (old named new : State) → NumbersInHand n.1.label.name label before after old named → Updates address n label named.now new.now
    → UpdatesNamed address n before after old.now new.now
updates_numbered address n label before after old named new numbers updates row sound all lies =
    let it = numbers.did sound all in
    let moved = ap (λ rows. filter (is_between n.0 (n.0 + 1)) (rows_at address rows)) it.0.rows ∙ lies.3 in
    let done = updates it.0.sound it.0.number row (lies.0, lies.1, lies.2, moved) in (
      record {
        sound = done.sound;
        layout = done.layout ∙ it.0.layout;
        keeps = λ m name is. done.keeps m name (it.0.keeps m name is);
        named = λ good old_named. done.named good (subst (AllByRecursion HasAddress) (sym it.0.rows) old_named);
        own = subst (λ rows. IsPermutation (filter (λ x. not (is_between n.0 (n.0 + 1) x)) (rows_at address rows) ++ cells n ∷ []) (rows_at address (shown_rows new.now))) it.0.rows done.own;
        others = λ b apart. done.others b apart ∙ ap (rows_at b) it.0.rows;
      },
      kept_numbers named.now new.now after done.keeps it.1,
    )
