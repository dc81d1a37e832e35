-- The number of a name: looked for in the table of labels, and among the names in hand.
use Rattle.std.proofs.Common.{◌≡◌, ◌≤◌, ◌⊎◌, inl, inr, ℕ, ℤ, pos, negsuc, nat_abs, Bool, true, false, cond, List, [], ◌∷◌, map, filter, Option, Some, None, Result, Ok, Err, IfSome, IsSome, IsTrue, String, Global, string_bytes, refl, sym, ap, subst, ◌∙◌, arith}
use Rattle.std.specs.Int.Signed.{lt_z}
use Rattle.std.proofs.lemmas.Int.{ints}
use Rattle.std.specs.List.{list_all}
use Rattle.std.specs.Map.{lookup}
use Rattle.std.specs.Str.{bytes_eq}
use Rattle.std.proofs.lemmas.List.Sorted.{IsPermutation-sym}
use Rattle.std.proofs.lemmas.Map.Lookups.{exact_bytes}
use Rattle.std.proofs.lemmas.Map.Text.{is_eq-slice_cmp}
use Rattle.indexmap.specs.IndexMap.{insert_entry}
use Rattle.sqlite_value.specs.Order.{Row, column}
use Rattle.sqlite_value.specs.declared.value.Value.TheVariants.{Int, Text}
use Rattle.sqlite_trees.specs.Tree.{rowid}
use Rattle.sqlite_rules.specs.Lists.{Has}
use Rattle.sqlite_rules.proofs.ListLemmas.{has_filtered}
use Rattle.sqlite_schema.specs.declared.command.Returning.{Returning}
use Rattle.sqlite_sql.specs.Term.{holds, col}
use Rattle.sqlite.specs.Clock.{timed}
use Rattle.sqlite.specs.Given.{Returns}
use Rattle.sqlite.specs.Listing.{understood}
use Rattle.sqlite.specs.State.{State, FailsToQuery, FailsToShow, IsNotRun, IsTooLate, IsUnchanged, KeepsCommit, Shown, ShowsRows}
use Rattle.sqlite.specs.declared.error.Error.{Error}
use Rattle.sqlite.proofs.Callers.{reads_as}
use Rattle.xq_tables.specs.Documents.{IsSound}
use Rattle.xq_tables.specs.Labels.{label_rows, most_label, IsNumberOf}
use Rattle.xq_tables.specs.private.Statements.{AreNumbers, HasNumbered, IsFirstNumber, Numbers, NumbersInHand, ReadsPart, Seeks}
use Rattle.xq_tables.proofs.Adds.{found_numbers, kept_numbers}
use Rattle.xq_tables.proofs.Creates.{undone_kept}
use Rattle.xq_tables.proofs.LabelPlaces.{label_tree, labels_lie, schema_of, which}
use Rattle.xq_tables.proofs.LabelTexts.{number_command, number_is, number_plain, number_tests, number_text, part_rows_text}
use Rattle.xq_tables.proofs.Lists.{has_map, has_permuted, tied}
use Rattle.xq_tables.proofs.Maps.{text_is}
use Rattle.xq_tables.proofs.Named.{number_found}
use Rattle.xq_tables.proofs.Queries.{parts}
use Rattle.xq_tables.proofs.Selects.{and_true, equals_text, selected, selected_rows}
use Rattle.xq_tables.proofs.Silent.{number_reads, part_rows_reads, silent}

-- # A query inside a transaction

module _ (old new : State) (sql : List ℕ) (params : Row) (writes_not : ¬ Returns (understood old.now.schema sql)) where
  pub shown_same : (rows : List Row) → Shown sql params old new rows → IsUnchanged old new
  unfolding Shown
  shown_same rows (c, it, h) = go c.returning refl h
    where
      go : (what : Option Returning) → c.returning ≡ what → ShowsRows old new sql c (timed params c.formats it.now) rows what → IsUnchanged old new
      go None same h = h.3
      go (Some what) same h = absurd (writes_not (subst Returns (sym it.is) (subst IsSome (sym same) refl)))

  pub refused_kept : (e : Error) → FailsToQuery sql params old new e ⊎ IsTooLate sql params old new e → KeepsCommit old new
  unfolding FailsToQuery IsNotRun
  refused_kept e (inl (inl (inl h))) = undone_kept old new (inl h.1)
  refused_kept e (inl (inl (inr h))) = undone_kept old new (inr h.3)
  refused_kept e (inl (inr (c, it, h))) = go c.returning refl h
    where
      go : (what : Option Returning) → c.returning ≡ what → FailsToShow old new sql c (timed params c.formats it.now) e what → KeepsCommit old new
      go None same h = undone_kept old new (inl h.3)
      go (Some what) same h = absurd (writes_not (subst Returns (sym it.is) (subst IsSome (sym same) refl)))
  refused_kept e (inr late) = undone_kept old new (inl late.5)

  pub query_kept : {X : Type 0} (show : X → List Row) (r : Result X Error) → Rattle.std.proofs.Common.IfOk r (λ x. Shown sql params old new (show x)) → Rattle.std.proofs.Common.IfErr r (λ e. FailsToQuery sql params old new e ⊎ IsTooLate sql params old new e) → KeepsCommit old new
  query_kept show (Ok x) ok err = undone_kept old new (inl (shown_same (show x) ok))
  query_kept show (Err e) ok err = refused_kept e err

-- # The label of a name

-- the row that was given is the label's
module _ (old new : State) (name : List ℕ) (rows : List Row) (h : Shown number_text (Text name ∷ []) old new rows) (n : ℕ) (row : Row) (rest : List Row) (given : rows ≡ row ∷ rest) (number : column row 0 ≡ Int (pos n)) (sound : IsSound old.now) where
  its_number : IsNumberOf (label_rows old.now) n name
  its_number =
      let params = Text name ∷ [] in
      let place = which old.now.schema sound.schema in
      let made = place.0 in
      let tree = label_tree made in
      let labels = old.now.trees tree in
      let it = reads_as number_text params old new (schema_of made) place.1 (number_command made) (number_is made).0 (number_plain made) (number_is made).1 rows h in
      let tests : Row → Bool = λ r. list_all (holds (params ∷ r ∷ [])) number_tests in
      let picked = selected_rows tree number_tests (col 1 0 ∷ []) [] old.now.trees params rows (selected tree number_tests (col 1 0 ∷ []) [] old.now.trees params rows it.answer) in
      let there = has_map (λ (r : Row). rowid r ∷ []) (filter tests labels) row (has_permuted rows _ row (IsPermutation-sym _ _ picked) (subst (λ l. Has l row) (sym given) (inl refl))) in
      let l = there.0 in
      let passed = has_filtered tests labels l there.1 in
      let lie = labels_lie made old.now place.1 in
      let id : column l 0 ≡ Int (pos n) = ap (λ (r : Row). column r 0) (sym there.2) ∙ number in
      let text : column l 2 ≡ Text name = text_is (column l 2) name (sym (and_true _ ∙ equals_text (column l 2) name) ∙ passed.1) in
      (l, number_found (label_rows old.now) l n sound.labels.apart sound.labels.numbered (subst (λ ls. Has ls l) (sym lie) passed.0) id, text)

pub seeks : (old new : State) (name : List ℕ) (rows : List Row) (found : Option ℕ) → Shown number_text (Text name ∷ []) old new rows → IsFirstNumber found rows → Seeks name found old new
seeks old new name rows found h first = (
    let same = shown_same old new number_text (Text name ∷ []) (silent old.now.schema number_text number_reads) rows h in
    record { mode = same.0.mode; same = same.0.now_is; found = go found first })
  where
    on : (n : ℕ) (given : List Row) → rows ≡ given → IsFirstNumber (Some n) given → IsSound old.now → IsNumberOf (label_rows old.now) n name
    on n [] is first = absurd first
    on n (row ∷ rest) is first = its_number old new name rows h n row rest is first

    go : (found : Option ℕ) → IsFirstNumber found rows → IfSome found (λ n. IsSound old.now → IsNumberOf (label_rows old.now) n name)
    go None first = tt
    go (Some n) first = on n rows refl first

-- the rows of an address with numbers between two
pub reads_part : (old new : State) (address : List ℕ) (low high : ℕ) (rows : List Row) → Shown part_rows_text (Text address ∷ Int (pos low) ∷ Int (pos high) ∷ []) old new rows → ReadsPart address low high old new rows
reads_part old new address low high rows h = (
    let same = shown_same old new part_rows_text (Text address ∷ Int (pos low) ∷ Int (pos high) ∷ []) (silent old.now.schema part_rows_text part_rows_reads) rows h in
    record { same = same.0.now_is; are = parts old new address low high rows h })

-- it was found
pub sought : (name : List ℕ) (n : ℕ) (old new : State) → Seeks name (Some n) old new → Numbers name n old new
sought name n old new it = record { mode = λ inside. it.mode ∙ inside; did = λ sound. found_numbers name n old.now new.now it.same sound (it.found sound) }

-- or it was not, and was made
pub then_made : (name : List ℕ) (n : ℕ) (old mid new : State) → Seeks name None old mid → Numbers name n mid new → Numbers name n old new
then_made name n old mid new it made = record {
  mode = λ inside. made.mode (it.mode ∙ inside);
  did = subst (λ db. IsSound db → HasNumbered name n db new.now) it.same made.did;
}

-- an integer that a label may have for its number
pub number_within : (z : ℤ) → lt_z z (pos 0) ≡ false → lt_z (pos most_label) z ≡ false → (pos (nat_abs z) ≡ z) × (nat_abs z ≤ most_label)
number_within (pos n) low high = (refl, grind (arith, ints))
number_within (negsuc n) low high = absurd (grind (arith, ints))

-- # The names in hand

-- the texts are the same
pub same_texts : (a b : List ℕ) → bytes_eq a b ≡ true → a ≡ b
same_texts a b e = exact_bytes a b (tied _ (is_eq-slice_cmp a b ∙ e))

known : (labels : List Row) (names : List (String Global × ℕ)) (name : List ℕ) (n : ℕ) → AreNumbers labels names → lookup (λ (k : String Global). bytes_eq name (string_bytes k)) names ≡ Some n → IsNumberOf labels n name
known labels [] name n all is = absurd cc
known labels (e ∷ names) name n all is = go (bytes_eq name (string_bytes e.0)) refl is (known labels names name n all.1)
  where
    go : (b : Bool) → bytes_eq name (string_bytes e.0) ≡ b → cond b (Some e.1) (lookup (λ (k : String Global). bytes_eq name (string_bytes k)) names) ≡ Some n
        → (lookup (λ (k : String Global). bytes_eq name (string_bytes k)) names ≡ Some n → IsNumberOf labels n name) → IsNumberOf labels n name
    go true h is more =
        let m : e.1 ≡ n = cc in
        subst (λ k. IsNumberOf labels k name) m (subst (IsNumberOf labels e.1) (sym (same_texts name (string_bytes e.0) h)) all.0)
    go false h is more = more is

pub in_hand : (names : List (String Global × ℕ)) (name : List ℕ) (n : ℕ) (s : State) → lookup (λ (k : String Global). bytes_eq name (string_bytes k)) names ≡ Some n → NumbersInHand name n names names s s
in_hand names name n s is = record { mode = λ inside. inside; did = λ sound all. (found_numbers name n s.now s.now refl sound (known (label_rows s.now) names name n all is), all) }

all_inserted : (labels : List Row) (eq : String Global → String Global → Bool) → ((a b : String Global) → eq a b ≡ true → string_bytes a ≡ string_bytes b) → (names : List (String Global × ℕ)) (key : String Global) (n : ℕ) → AreNumbers labels names → IsNumberOf labels n (string_bytes key)
    → AreNumbers labels (insert_entry eq names key n)
all_inserted labels eq sure [] key n all is = (is, tt)
all_inserted labels eq sure (e ∷ names) key n all is = go (eq key e.0) refl (all_inserted labels eq sure names key n all.1 is)
  where
    go : (b : Bool) → eq key e.0 ≡ b → AreNumbers labels (insert_entry eq names key n) → AreNumbers labels (cond b ((e.0, n) ∷ names) (e ∷ insert_entry eq names key n))
    go true h more = (subst (IsNumberOf labels n) (sure key e.0 h) is, all.1)
    go false h more = (all.0, more)

-- a name is put among them
pub put_in_hand : (eq : String Global → String Global → Bool) → ((a b : String Global) → eq a b ≡ true → string_bytes a ≡ string_bytes b) → (names : List (String Global × ℕ)) (key : String Global) (name : List ℕ) (n : ℕ) → string_bytes key ≡ name
    → (old new : State) → Numbers name n old new → NumbersInHand name n names (insert_entry eq names key n) old new
put_in_hand eq sure names key name n is old new it = record {
  mode = it.mode;
  did = λ sound all. (
      let did = it.did sound in
      (did, all_inserted (label_rows new.now) eq sure names key n (kept_numbers old.now new.now names did.keeps all) (subst (IsNumberOf (label_rows new.now) n) (sym is) did.number)));
}
