-- What INSERTs do to the rows that tables show.
use Rattle.std.proofs.Common.{◌≡◌, ◌≤◌, ◌++◌, inl, inr, ℕ, ℤ, pos, Bool, true, false, List, [], ◌∷◌, map, filter, get_or, IsTrue, String, Global, Result, Ok, Err, refl, sym, ap, ap₂, subst, subst₂, ◌∙◌, append-nil, append_assoc}
use Rattle.std.specs.List.{AllByRecursion}
use Rattle.std.specs.List.Sorted.{IsPermutation}
use Rattle.std.proofs.lemmas.List.{map-append}
use Rattle.std.proofs.lemmas.List.Elements.{filter-append}
use Rattle.std.proofs.lemmas.List.Sorted.{IsPermutation-append_left, IsPermutation-map, IsPermutation-refl, IsPermutation-trans}
use Rattle.sqlite_value.specs.Order.{Row, column}
use Rattle.sqlite_value.specs.declared.value.Value.TheVariants.{Int, Text}
use Rattle.sqlite_trees.specs.Tree.{put_row, rowid}
use Rattle.sqlite_trees.specs.View.{is_int}
use Rattle.sqlite_trees.proofs.ListLemmas.{filter-map, map-map, IsPermutation-filter}
use Rattle.sqlite_trees.proofs.TreeLemmas.{all-put_row}
use Rattle.sqlite_keyed.proofs.ListLemmas.{all_map, all_unmap, all_weaker}
use Rattle.sqlite.specs.Effect.{Database}
use Rattle.sqlite.specs.State.{State, ExecutesInside}
use Rattle.sqlite.specs.declared.error.Error.{Error}
use Rattle.xq_trees.specs.Rows.{Row as Node}
use Rattle.xq_tables.specs.Nodes.{cells}
use Rattle.xq_tables.specs.Documents.{is_at, node_columns, rows_at, AreApart, AreLabels, HasAddress, HaveInts, IsSound}
use Rattle.xq_tables.specs.Labels.{label_rows, most_label, named, named_rows, node2_rows, shown_rows, HasLabel, IsNumbered, IsNumberOf, IsStoreSchema}
use Rattle.xq_tables.specs.private.Statements.{AreNumbers, HasAdded, HasNumbered, KeepsLabels, Numbers}
use Rattle.xq_tables.proofs.Inserts.{apart-put_row, other_address, own_address, put_passed, put_permutes}
use Rattle.xq_tables.proofs.LabelInserts.{labelled, new_label, noted_row, IsLabelled, IsNoted}
use Rattle.xq_tables.proofs.LabelPlaces.{shown_are}
use Rattle.xq_tables.proofs.LabelTexts.{add_label_text}
use Rattle.xq_tables.proofs.Named.{held_stays, named_each, named_stays, number_new, number_stays, with_name}

-- # A label

module _ (name : List ℕ) (n : ℕ) (small : n ≤ most_label) (old new : State) (sound : IsSound old.now) (it : IsLabelled name old new) (is : pos n ≡ new.last_rowid) where
  abbrev were : List Row
  were = label_rows old.now

  abbrev label_row : Row
  label_row = new_label name were

  own_number : column label_row 0 ≡ Int (pos n)
  own_number = ap Int (sym (is ∙ it.number))

  bounded : IsNumbered label_row
  bounded = (n, own_number, small)

  stays : (m : ℕ) (other : List ℕ) → IsNumberOf were m other → IsNumberOf (put_row label_row were) m other
  stays = number_stays were label_row it.fresh bounded sound.labels.numbered

  sound_after : IsSound new.now
  sound_after = record {
    schema = subst IsStoreSchema (sym it.schema) sound.schema;
    labels = subst AreLabels (sym it.labels) (record {
      apart = apart-put_row label_row were it.fresh sound.labels.apart;
      numbered = all-put_row IsNumbered label_row were bounded sound.labels.numbered;
      zero = stays 0 [] sound.labels.zero;
    });
    held = subst₂ (λ ls ns. AllByRecursion (HasLabel ls) ns) (sym it.labels) (sym it.nodes) (held_stays were label_row it.fresh bounded sound.labels.numbered (node2_rows old.now) sound.held);
    apart = subst AreApart (sym it.nodes) sound.apart;
    ints = subst HaveInts (sym it.nodes) sound.ints;
  }

  pub numbers : HasNumbered name n old.now new.now
  numbers = record {
    sound = sound_after;
    schema = it.schema;
    layout = it.layout;
    beside = it.beside;
    rows = shown_are new.now sound_after.schema ∙ ap₂ named_rows it.labels it.nodes ∙ named_stays were label_row it.fresh bounded sound.labels.numbered (node2_rows old.now) sound.held ∙ sym (shown_are old.now sound.schema);
    keeps = λ m other known. subst (λ ls. IsNumberOf ls m other) (sym it.labels) (stays m other known);
    number = subst (λ ls. IsNumberOf ls n name) (sym it.labels) (label_row, number_new were label_row it.fresh bounded sound.labels.numbered n own_number, refl);
    after = inr (is ∙ it.number);
  }

-- a name that was found
pub found_numbers : (name : List ℕ) (n : ℕ) (old new : Database) → new ≡ old → IsSound old → IsNumberOf (label_rows old) n name → HasNumbered name n old new
found_numbers name n old new same sound known = subst (λ db. HasNumbered name n old db) (sym same) (record {
  sound = sound;
  schema = refl;
  layout = refl;
  beside = refl;
  rows = refl;
  keeps = λ m other it. it;
  number = known;
  after = inl refl;
})

pub kept_numbers : (old new : Database) (names : List (String Global × ℕ)) → KeepsLabels old new → AreNumbers (label_rows old) names → AreNumbers (label_rows new) names
kept_numbers old new names keeps all = all_weaker _ _ (λ e known. keeps e.1 _ known) names all

-- # A node

module _ (address : List ℕ) (n : ℕ × Node) (label : ℕ) (id : ℤ) (old new : Database) (sound : IsSound old) (known : IsNumberOf (label_rows old) label n.1.label.name) (it : IsNoted address n label id old new) where
  abbrev labels : List Row
  labels = label_rows old

  abbrev rows : List Row
  rows = node2_rows old

  abbrev row : Row
  row = noted_row address n label id

  -- a node of the tables as its columns
  abbrev shows : Row → Row
  shows r = node_columns (with_name labels r)

  own_cells : shows row ≡ cells n
  own_cells = ap (λ found. node_columns (named row (get_or found 0 []))) known.1 ∙ ap (λ v. node_columns (named row (v ∷ v ∷ v ∷ []))) known.2

  held : AllByRecursion (HasLabel labels) (put_row row rows)
  held = all-put_row (HasLabel labels) row rows (known.0, known.1) sound.held

  after : IsSound new
  after = record {
    schema = subst IsStoreSchema (sym it.schema) sound.schema;
    labels = subst AreLabels (sym it.labels) sound.labels;
    held = subst₂ (λ ls ns. AllByRecursion (HasLabel ls) ns) (sym it.labels) (sym it.nodes) held;
    apart = subst AreApart (sym it.nodes) (apart-put_row row rows it.fresh sound.apart);
    ints = subst HaveInts (sym it.nodes) (all-put_row (λ r. IsTrue (is_int (rowid r))) row rows refl sound.ints);
  }

  shown_old : shown_rows old ≡ map (with_name labels) rows
  shown_old = shown_are old sound.schema ∙ named_each labels rows sound.held

  shown_new : shown_rows new ≡ map (with_name labels) (put_row row rows)
  shown_new = shown_are new after.schema ∙ ap₂ named_rows it.labels it.nodes ∙ named_each labels (put_row row rows) held

  -- the rows of an address
  at : (a : List ℕ) (xs : List Row) → rows_at a (map (with_name labels) xs) ≡ map shows (filter (is_at a) xs)
  at a xs = ap (map node_columns) (filter-map (is_at a) (with_name labels) xs) ∙ map-map node_columns (with_name labels) (filter (is_at a) xs)

  own : IsPermutation (rows_at address (shown_rows old) ++ cells n ∷ []) (rows_at address (shown_rows new))
  own =
      let mine : is_at address row ≡ true = own_address address in
      let last : filter (is_at address) (row ∷ []) ≡ row ∷ [] = rw mine refl in
      let whole = IsPermutation-map shows _ _ (IsPermutation-filter (is_at address) _ _ (put_permutes row rows it.fresh)) in
      let front : map shows (filter (is_at address) (rows ++ row ∷ [])) ≡ rows_at address (shown_rows old) ++ cells n ∷ [] =
      ap (map shows) (filter-append (is_at address) rows (row ∷ []) ∙ ap (λ l. filter (is_at address) rows ++ l) last) ∙ map-append shows (filter (is_at address) rows) (row ∷ [])
      ∙ ap₂ (λ l c. l ++ c ∷ []) (sym (ap (rows_at address) shown_old ∙ at address rows)) own_cells in
      subst₂ IsPermutation front (sym (ap (rows_at address) shown_new ∙ at address (put_row row rows))) whole

  pub adds_one : HasAdded address (cells n ∷ []) old new
  adds_one = record {
    sound = after;
    schema = it.schema;
    layout = it.layout;
    beside = it.beside;
    keeps = λ m other is. subst (λ ls. IsNumberOf ls m other) (sym it.labels) is;
    named = λ good all. subst (AllByRecursion HasAddress) (sym shown_new) (all_map HasAddress (with_name labels) (put_row row rows)
        (all-put_row HasAddress row rows (address, good, refl) (all_unmap HasAddress (with_name labels) rows (subst (AllByRecursion HasAddress) shown_old all))));
    own = own;
    others = λ b apart. ap (rows_at b) shown_new ∙ at b (put_row row rows) ∙ ap (map shows) (put_passed (is_at b) row rows (other_address address b apart) it.fresh) ∙ sym (ap (rows_at b) shown_old ∙ at b rows);
  }

-- # One after the other

pub adds_none : (address : List ℕ) (db : Database) → IsSound db → HasAdded address [] db db
adds_none address db sound = record {
  sound = sound;
  schema = refl;
  layout = refl;
  beside = refl;
  keeps = λ m other is. is;
  named = λ good all. all;
  own = subst (λ l. IsPermutation l (rows_at address (shown_rows db))) (sym (append-nil (rows_at address (shown_rows db)))) (IsPermutation-refl _);
  others = λ b apart. refl;
}

-- a name that has a number adds no row
pub numbered_adds : (address name : List ℕ) (n : ℕ) (old new : Database) → HasNumbered name n old new → HasAdded address [] old new
numbered_adds address name n old new it = record {
  sound = it.sound;
  schema = it.schema;
  layout = it.layout;
  beside = it.beside;
  keeps = it.keeps;
  named = λ good all. subst (AllByRecursion HasAddress) (sym it.rows) all;
  own = subst₂ IsPermutation (sym (append-nil (rows_at address (shown_rows old)))) (ap (rows_at address) (sym it.rows)) (IsPermutation-refl _);
  others = λ b apart. ap (rows_at b) it.rows;
}

pub adds_more : (address : List ℕ) (xs ys : List Row) (first mid last : Database) → HasAdded address xs first mid → HasAdded address ys mid last → HasAdded address (xs ++ ys) first last
adds_more address xs ys first mid last p q = record {
  sound = q.sound;
  schema = q.schema ∙ p.schema;
  layout = q.layout ∙ p.layout;
  beside = q.beside ∙ p.beside;
  keeps = λ m other is. q.keeps m other (p.keeps m other is);
  named = λ good all. q.named good (p.named good all);
  own = subst (λ l. IsPermutation l (rows_at address (shown_rows last))) (append_assoc (rows_at address (shown_rows first)) xs ys) (IsPermutation-trans _ _ _ (IsPermutation-append_left ys _ _ p.own) q.own);
  others = λ b apart. q.others b apart ∙ p.others b apart;
}

-- # Inside a transaction

pub label_inside : (old new : State) (name : List ℕ) (n : ℕ) (e : Error) (count : ℕ) → n ≤ most_label → pos n ≡ new.last_rowid → (old.in_transaction ≡ false → ◌≡◌ {A = Result ℕ Error} (Ok count) (Err e))
    → (IsTrue old.in_transaction → ExecutesInside 0 add_label_text (Text name ∷ []) old new (Ok count)) → Numbers name n old new
label_inside old new name n e count small is ended runs = go old.in_transaction refl
  where
    go : (b : Bool) → old.in_transaction ≡ b → Numbers name n old new
    go true inside =
        let ran = runs inside in
        record { mode = λ _. ran.1.mode; did = λ sound. numbers name n small old new sound (labelled old new name count sound.schema ran.0) is }
    go false outside = absurd (let e = ended outside in cc)
