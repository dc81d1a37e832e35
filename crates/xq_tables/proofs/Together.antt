-- What an INSERT of rows does to the table of nodes, and to what the tables show.
use Rattle.std.proofs.Common.{◌≡◌, ◌≢◌, ◌&&◌, ◌++◌, ◌/◌, ℕ, Bool, true, false, not, cond, List, [], ◌∷◌, map, length, drop, get_or, None, Ok, Err, Result, OnOk, IsTrue, refl, sym, ap, ap₂, subst, subst₂, ◌∙◌, arith, append-nil, eq-eqb, ne_eqb, pos}
use Rattle.std.specs.List.{AllByRecursion}
use Rattle.std.specs.List.Sorted.{IsPermutation}
use Rattle.std.proofs.lemmas.List.Sorted.{IsPermutation-refl}
use Rattle.sqlite_value.specs.Order.{Row}
use Rattle.sqlite_value.specs.declared.value.Value.TheVariants.{Null, Text}
use Rattle.sqlite_trees.specs.Tree.{Trees, put_row, with_tree}
use Rattle.sqlite_trees.proofs.ListLemmas.{all_of}
use Rattle.sqlite_rules.specs.Cast.{cast_row}
use Rattle.sqlite_rules.specs.Edit.{are_fresh, edit_of, is_taken, next_rowid, numbered, put_all, taken_by, with_rowid}
use Rattle.sqlite.specs.Command.TheVariants.{Insert}
use Rattle.sqlite.specs.Source.TheVariants.{Values}
use Rattle.sqlite.specs.Rowids.TheVariants.{Chosen}
use Rattle.sqlite.specs.Term.{Term}
use Rattle.sqlite.specs.Does.{Tally, Does, OnRows}
use Rattle.sqlite.specs.Rows.{Written}
use Rattle.sqlite.specs.Listing.{understood}
use Rattle.sqlite.specs.Effect.{Database, value_rows}
use Rattle.sqlite.specs.State.{State, mode_of, Executes, ExecutesInside}
use Rattle.sqlite.specs.Table.{Table}
use Rattle.sqlite.specs.declared.error.Error.{Error}
use Rattle.sqlite.proofs.Callers.{IsPlain, command_of, statement_of, runs_as, one_step}
use Rattle.xq_trees.specs.Codes.{kind_number}
use Rattle.xq_trees.specs.Rows.{Row as Node, no_row}
use Rattle.xq_tables.specs.Documents.{rows_at, AreApart, AreLabels, HasAddress, HaveInts, IsSound}
use Rattle.xq_tables.specs.Labels.{label_rows, named_rows, node2_rows, shown_rows, HasLabel, IsNumberOf, IsStoreSchema}
use Rattle.xq_tables.specs.Nodes.{cells}
use Rattle.xq_tables.specs.Tables.{layout_rows, node_rows}
use Rattle.xq_tables.specs.private.Numbered.{columns_of, numbered_cells, AddsEight, AddsRows, AreNumbered}
use Rattle.xq_tables.specs.private.Statements.{Adds, HasAdded}
use Rattle.xq_tables.proofs.Adds.{adds_more, adds_one}
use Rattle.xq_tables.proofs.Deletes.{same_value, went}
use Rattle.xq_tables.proofs.EightTexts.{eight_is, eight_plain, eight_terms, eight_text}
use Rattle.xq_tables.proofs.Inserts.{cast_int, cast_null}
use Rattle.xq_tables.proofs.LabelInserts.{new_node, IsNoted}
use Rattle.xq_tables.proofs.LabelPlaces.{Made, schema_of, node2_place, node2_table_of, node2_there, node2_tree, which, nodes_lie, labels_lie, layout_lies, old_lie, old_beside_nodes, no_works, OthersStay, layout_stays, labels_stay, layout_not_node2, label_not_node2, shown_are}
use Rattle.xq_tables.proofs.LabelTexts.{insert2_is, insert2_plain, insert2_text}
use Rattle.xq_tables.proofs.Places.{on_table}
use Rattle.xq_tables.proofs.Texts.{insert_terms}

-- # A change of the table of nodes alone

pub record StandBeside (old new : Database) : Type 0 where
  pub layout : layout_rows new ≡ layout_rows old
  pub labels : label_rows new ≡ label_rows old
  pub beside : node_rows new ≡ node_rows old

pub stand_beside : (made : Made) (old new : Database) → old.schema ≡ schema_of made → new.schema ≡ old.schema → OthersStay made (node2_tree made) old.trees new.trees → StandBeside old new
stand_beside made old new has same stay =
    let tree = node2_tree made in
    let still = same ∙ has in record {
      layout = layout_lies made new still ∙ layout_stays tree old.trees new.trees made stay (layout_not_node2 made) ∙ sym (layout_lies made old has);
      labels = labels_lie made new still ∙ labels_stay tree old.trees new.trees made stay (label_not_node2 made) ∙ sym (labels_lie made old has);
      beside = old_lie made new still ∙ old_beside_nodes old.trees new.trees made stay ∙ sym (old_lie made old has);
    }

-- a database in which that table has other rows
abbrev pub with_nodes : Made → Database → List Row → Database
with_nodes made db rows = record db { trees = with_tree db.trees (node2_tree made) rows }

module _ (made : Made) (db : Database) (rows : List Row) where
  pub others_stay : OthersStay made (node2_tree made) db.trees (with_nodes made db rows).trees
  others_stay = all_of (λ (t : Table). t.tree ≢ node2_tree made → (with_nodes made db rows).trees t.tree ≡ db.trees t.tree) (λ (t : Table) other. ap (λ b. cond b rows (db.trees t.tree)) (ne_eqb t.tree (node2_tree made) other)) (schema_of made).tables

  pub rows_are : (with_nodes made db rows).trees (node2_tree made) ≡ rows
  rows_are = ap (λ b. cond b rows (db.trees (node2_tree made))) (eq-eqb (node2_tree made) (node2_tree made) refl)

-- one in which it has the same rows shows the same
pub same_adds : (address : List ℕ) (old new : Database) → IsSound old → new.schema ≡ old.schema → StandBeside old new → node2_rows new ≡ node2_rows old → HasAdded address [] old new
same_adds address old new sound same beside nodes = record {
  sound = after;
  schema = same;
  layout = beside.layout;
  beside = beside.beside;
  keeps = λ m other is. subst (λ ls. IsNumberOf ls m other) (sym beside.labels) is;
  named = λ good all. subst (AllByRecursion HasAddress) (sym shown) all;
  own = subst₂ IsPermutation (sym (append-nil (rows_at address (shown_rows old)))) (ap (rows_at address) (sym shown)) (IsPermutation-refl _);
  others = λ b apart. ap (rows_at b) shown;
}
  where
    after : IsSound new
    after = record {
      schema = subst IsStoreSchema (sym same) sound.schema;
      labels = subst AreLabels (sym beside.labels) sound.labels;
      held = subst₂ (λ ls ns. AllByRecursion (HasLabel ls) ns) (sym beside.labels) (sym nodes) sound.held;
      apart = subst AreApart (sym nodes) sound.apart;
      ints = subst HaveInts (sym nodes) sound.ints;
    }

    shown : shown_rows new ≡ shown_rows old
    shown = shown_are new after.schema ∙ ap₂ named_rows beside.labels nodes ∙ sym (shown_are old sound.schema)

-- # What an INSERT makes of the trees

-- the rows that it is given, where the engine is to choose their rowids
abbrev pub sources_of : List ℕ → List (ℕ × Node) → List ℕ → List Row
sources_of address [] numbers = []
sources_of address (n ∷ nodes) [] = []
sources_of address (n ∷ nodes) (m ∷ numbers) = (Null ∷ Text address ∷ numbered_cells n m) ∷ sources_of address nodes numbers

-- what comes of them beside rows that are there
abbrev news_of : Made → List Row → List Row → List Row
news_of made sources rows = numbered Chosen rows (map (λ s. cast_row (node2_table_of made) (drop 0 s)) sources)

-- each comes after those before it
abbrev pub new_nodes : List ℕ → List (ℕ × Node) → List ℕ → List Row → List Row
new_nodes address [] numbers rows = []
new_nodes address (n ∷ nodes) [] rows = []
new_nodes address (n ∷ nodes) (m ∷ numbers) rows = let row = new_node address n m rows in row ∷ new_nodes address nodes numbers (put_row row rows)

cast_is : (made : Made) (address : List ℕ) (n : ℕ × Node) (m : ℕ) → cast_row (node2_table_of made) (Null ∷ Text address ∷ numbered_cells n m) ≡ Null ∷ Text address ∷ numbered_cells n m
cast_is made address n m = rw (cast_null, cast_int (pos n.0), cast_int (pos n.1.size), cast_int (pos n.1.level), cast_int (pos (kind_number n.1.label.kind)), cast_int (pos m)) refl

news_are : (made : Made) (address : List ℕ) (nodes : List (ℕ × Node)) (numbers : List ℕ) (rows : List Row) → news_of made (sources_of address nodes numbers) rows ≡ new_nodes address nodes numbers rows
news_are made address [] numbers rows = refl
news_are made address (n ∷ nodes) [] rows = refl
news_are made address (n ∷ nodes) (m ∷ numbers) rows =
    let row = new_node address n m rows in
    ap (λ s. with_rowid Chosen rows s ∷ news_of made (sources_of address nodes numbers) (put_row (with_rowid Chosen rows s) rows)) (cast_is made address n m) ∙ ap (λ l. row ∷ l) (news_are made address nodes numbers (put_row row rows))

record PutsIn (made : Made) (sources : List Row) (old new : Database) : Type 0 where
  schema : new.schema ≡ old.schema
  others : OthersStay made (node2_tree made) old.trees new.trees
  nodes : new.trees (node2_tree made) ≡ put_all (old.trees (node2_tree made)) (news_of made sources (old.trees (node2_tree made)))
  fresh : are_fresh (old.trees (node2_tree made)) (news_of made sources (old.trees (node2_tree made))) ≡ true

module _ (made : Made) (text : List ℕ) (params : Row) (terms : List Term) (sources : List Row) (is : command_of (understood (schema_of made) text) ≡ Insert (node2_place made) (Values terms 8)) (plain : IsPlain (understood (schema_of made) text))
    (given_are : value_rows (params ++ []) 8 (length terms / 8) terms ≡ sources) where
  puts_in : (old new : State) (count : ℕ) → old.now.schema ≡ schema_of made → Executes text params old new (Ok count) → PutsIn made sources old.now new.now
  puts_in old new count has h =
      let db = old.now.trees in
      let tree = node2_tree made in
      let schema = schema_of made in
      let command = Insert (node2_place made) (Values terms 8) in
      let w = runs_as text params old new schema has command is plain count h in
      let statement = statement_of text (understood schema text) in
      let changed = subst (λ s. Does old.step_limit (mode_of old) params (record old.now { schema = s }) statement None command (Ok (w.tally, new.now))) has w.changed in
      let done = went (on_table schema (node2_place made) (node2_table_of made) (node2_there made) old.step_limit (mode_of old) params db (λ task. OnRows task (mode_of old) None command db) (Ok (w.tally, new.now)) changed) in
      let now = ap (λ (p : Tally × Database). p.1) (same_value (went (went done.2).2).2) in
      let given = went done.1 in
      let written = went (went given.2).2 in
      let counted = went written.2 in
      let trees : new.now.trees ≡ written.0 = ap (λ (d : Database). d.trees) now ∙ ap (λ (it : Written). it.trees) (same_value counted.2) ∙ same_value counted.1 in
      let e = edit_of db (node2_table_of made) [] Chosen 0 given.0 in
      let keys = (mode_of old).keys in
      let step = one_step schema keys db written.0 e (no_works made tree keys (taken_by db e) e.news) written.1 in
      let sources_are : given.0 ≡ sources = given.1.1 ∙ given_are in
      let news : e.news ≡ news_of made sources (db tree) = ap (λ all. (edit_of db (node2_table_of made) [] Chosen 0 all).news) sources_are in record {
        schema = ap (λ (d : Database). d.schema) now ∙ sym has;
        others = subst (OthersStay made tree db) (sym trees) step.tables;
        nodes = ap (λ (t : Trees). t tree) trees ∙ step.rows ∙ ap (λ rows. put_all (db tree) rows) news;
        fresh = ap (λ rows. are_fresh (db tree) rows) (sym news) ∙ step.fresh;
      }

-- # What the tables show then

record ArePut (address : List ℕ) (nodes : List (ℕ × Node)) (numbers : List ℕ) (old new : Database) : Type 0 where
  schema : new.schema ≡ old.schema
  others : StandBeside old new
  rows : node2_rows new ≡ put_all (node2_rows old) (new_nodes address nodes numbers (node2_rows old))
  fresh : are_fresh (node2_rows old) (new_nodes address nodes numbers (node2_rows old)) ≡ true

are_put : (made : Made) (address : List ℕ) (nodes : List (ℕ × Node)) (numbers : List ℕ) (old new : Database) → old.schema ≡ schema_of made → PutsIn made (sources_of address nodes numbers) old new → ArePut address nodes numbers old new
are_put made address nodes numbers old new has it =
    let tree = node2_tree made in
    let lie : old.trees tree ≡ node2_rows old = sym (nodes_lie made old has) in
    let news : news_of made (sources_of address nodes numbers) (old.trees tree) ≡ new_nodes address nodes numbers (node2_rows old) = news_are made address nodes numbers (old.trees tree) ∙ ap (new_nodes address nodes numbers) lie in record {
      schema = it.schema;
      others = stand_beside made old new has it.schema it.others;
      rows = nodes_lie made new (it.schema ∙ has) ∙ it.nodes ∙ ap₂ (λ rows more. put_all rows more) lie news;
      fresh = sym (ap₂ (λ rows more. are_fresh rows more) lie news) ∙ it.fresh;
    }

first_fresh : (taken rest : Bool) → (not taken && rest) ≡ true → (taken ≡ false) × (rest ≡ true)
first_fresh true rest e = absurd cc
first_fresh false rest e = (refl, e)

-- one after the other
adds_put : (made : Made) (address : List ℕ) (nodes : List (ℕ × Node)) (numbers : List ℕ) (old new : Database) → old.schema ≡ schema_of made → IsSound old → AreNumbered (label_rows old) nodes numbers → ArePut address nodes numbers old new
    → HasAdded address (map cells nodes) old new
adds_put made address [] [] old new has sound known it = same_adds address old new sound it.schema it.others it.rows
adds_put made address [] (m ∷ numbers) old new has sound known it = absurd known
adds_put made address (n ∷ nodes) [] old new has sound known it = absurd known
adds_put made address (n ∷ nodes) (m ∷ numbers) old new has sound known it =
    let rows = node2_rows old in
    let row = new_node address n m rows in
    let wider = put_row row rows in
    let mid = with_nodes made old wider in
    let here : node2_rows mid ≡ wider = nodes_lie made mid has ∙ rows_are made old wider in
    let beside : StandBeside old mid = stand_beside made old mid has refl (others_stay made old wider) in
    let fresh = first_fresh (is_taken rows row) _ it.fresh in
    let noted : IsNoted address n m (next_rowid rows) old mid = record { schema = refl; layout = beside.layout; labels = beside.labels; beside = beside.beside; nodes = here; fresh = fresh.0 } in
    let one = adds_one address n m (next_rowid rows) old mid sound known.0 noted in
    let others : StandBeside mid new = record { layout = it.others.layout ∙ sym beside.layout; labels = it.others.labels ∙ sym beside.labels; beside = it.others.beside ∙ sym beside.beside } in
    let rest : ArePut address nodes numbers mid new = record {
      schema = it.schema;
      others = others;
      rows = it.rows ∙ ap (λ l. put_all l (new_nodes address nodes numbers l)) (sym here);
      fresh = ap (λ l. are_fresh l (new_nodes address nodes numbers l)) here ∙ fresh.1;
    } in
    let still : AreNumbered (label_rows mid) nodes numbers = subst (λ ls. AreNumbered ls nodes numbers) (sym beside.labels) known.1 in
    adds_more address (cells n ∷ []) (map cells nodes) old mid new one (adds_put made address nodes numbers mid new has one.sound still rest)

-- # Inside a transaction

module _ (text : List ℕ) (terms : List Term) (is : (made : Made) → command_of (understood (schema_of made) text) ≡ Insert (node2_place made) (Values terms 8)) (plain : (made : Made) → IsPlain (understood (schema_of made) text)) (address : List ℕ)
    (nodes : List (ℕ × Node)) (numbers : List ℕ) (params : Row) (given_are : value_rows (params ++ []) 8 (length terms / 8) terms ≡ sources_of address nodes numbers) where
  adds_rows : (old new : State) (count : ℕ) → IsTrue old.in_transaction → ExecutesInside 0 text params old new (Ok count) → AddsRows address nodes numbers old new
  adds_rows old new count inside ran = record {
    mode = λ _. ran.1.mode;
    did = λ sound known. (
        let place = which old.now.schema sound.schema in
        let it = puts_in place.0 text params terms (sources_of address nodes numbers) (is place.0) (plain place.0) given_are old new count place.1 ran.0 in
        adds_put place.0 address nodes numbers old.now new.now place.1 sound known (are_put place.0 address nodes numbers old.now new.now place.1 it));
  }

pub node_inside : (old new : State) (address : List ℕ) (n : ℕ × Node) (number : ℕ) (e : Error) (r : Result ℕ Error) → (old.in_transaction ≡ false → r ≡ Err e)
    → (IsTrue old.in_transaction → ExecutesInside 0 insert2_text (Text address ∷ numbered_cells n number) old new r) → OnOk r (Adds address n number old new)
node_inside old new address n number e (Err f) ended runs = tt
node_inside old new address n number e (Ok count) ended runs = go old.in_transaction refl
  where
    go : (b : Bool) → old.in_transaction ≡ b → Adds address n number old new
    go true inside =
        let all = adds_rows insert2_text insert_terms insert2_is insert2_plain address (n ∷ []) (number ∷ []) (Text address ∷ numbered_cells n number) refl old new count inside (runs inside) in
        record { mode = all.mode; did = λ sound known. all.did sound (known, tt) }
    go false outside = absurd (let e = ended outside in cc)

-- a list of eight
eight_items : {X : Type 0} (none : X) (xs : List X) → length xs ≡ 8
    → xs ≡ get_or xs 0 none ∷ get_or xs 1 none ∷ get_or xs 2 none ∷ get_or xs 3 none ∷ get_or xs 4 none ∷ get_or xs 5 none ∷ get_or xs 6 none ∷ get_or xs 7 none ∷ []
eight_items none [] size = absurd (omega (arith, size))
eight_items none (a ∷ []) size = absurd (omega (arith, size))
eight_items none (a ∷ b ∷ []) size = absurd (omega (arith, size))
eight_items none (a ∷ b ∷ c ∷ []) size = absurd (omega (arith, size))
eight_items none (a ∷ b ∷ c ∷ d ∷ []) size = absurd (omega (arith, size))
eight_items none (a ∷ b ∷ c ∷ d ∷ e ∷ []) size = absurd (omega (arith, size))
eight_items none (a ∷ b ∷ c ∷ d ∷ e ∷ f ∷ []) size = absurd (omega (arith, size))
eight_items none (a ∷ b ∷ c ∷ d ∷ e ∷ f ∷ g ∷ []) size = absurd (omega (arith, size))
eight_items none (a ∷ b ∷ c ∷ d ∷ e ∷ f ∷ g ∷ h ∷ []) size = refl
eight_items none (a ∷ b ∷ c ∷ d ∷ e ∷ f ∷ g ∷ h ∷ i ∷ more) size = absurd (omega (arith, size))

eight_given : (address : List ℕ) (nodes : List (ℕ × Node)) (numbers : List ℕ) → length nodes ≡ 8 → length numbers ≡ 8
    → value_rows ((Text address ∷ columns_of nodes numbers) ++ []) 8 (length eight_terms / 8) eight_terms ≡ sources_of address nodes numbers
eight_given address nodes numbers eight eights =
    let ns = eight_items (0, no_row) nodes eight in
    let ms = eight_items 0 numbers eights in
    subst₂ (λ xs ys. value_rows ((Text address ∷ columns_of xs ys) ++ []) 8 (length eight_terms / 8) eight_terms ≡ sources_of address xs ys) (sym ns) (sym ms) refl

pub eight_inside : (old new : State) (values : Row) (e : Error) (r : Result ℕ Error) → (old.in_transaction ≡ false → r ≡ Err e) → (IsTrue old.in_transaction → ExecutesInside 0 eight_text values old new r) → OnOk r (AddsEight values old new)
eight_inside old new values e (Err f) ended runs = tt
eight_inside old new values e (Ok count) ended runs = go old.in_transaction refl
  where
    go : (b : Bool) → old.in_transaction ≡ b → AddsEight values old new
    go true inside = λ address nodes numbers eight eights are.
        adds_rows eight_text eight_terms eight_is eight_plain address nodes numbers (Text address ∷ columns_of nodes numbers) (eight_given address nodes numbers eight eights) old new count inside
        (subst (λ row. ExecutesInside 0 eight_text row old new (Ok count)) are (runs inside))
    go false outside = absurd (let e = ended outside in cc)
