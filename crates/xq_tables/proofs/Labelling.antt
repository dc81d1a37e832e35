-- What an adoption finds of labels.
use Rattle.std.proofs.Common.{◌≡◌, ◌≢◌, ◌↔◌, ◌&&◌, ◌+◌, ◌≤◌, inl, ℕ, ℤ, suc, pos, negsuc, Bool, true, false, List, [], ◌∷◌, map, filter, length, IsTrue, refl, sym, ap, ap₂, subst, ◌∙◌, arith, Equal, is_lt, is_gt}
use Rattle.std.specs.Ordering.{is_eq, int_cmp}
use Rattle.std.specs.List.{AllByRecursion}
use Rattle.std.proofs.lemmas.Int.{ints}
use Rattle.std.specs.List.Sorted.{IsPermutation, IsSorted}
use Rattle.std.proofs.lemmas.List.{length-append, length-map}
use Rattle.std.proofs.lemmas.List.Sorted.{length_permutation}
use Rattle.sqlite.specs.Effect.{Database}
use Rattle.sqlite_value.specs.Order.{Row, column, value_cmp}
use Rattle.sqlite_value.specs.declared.value.Value.{Value}
use Rattle.sqlite_value.specs.declared.value.Value.TheVariants.{Int, Text}
use Rattle.sqlite_value.proofs.OrderLemmas.{value_cmp_total, value_cmp-Int}
use Rattle.sqlite_trees.specs.Tree.{rowid}
use Rattle.sqlite_trees.specs.View.{is_int}
use Rattle.sqlite_keyed.proofs.ListLemmas.{all_weaker, filter_none}
use Rattle.sqlite_rules.specs.Edit.{id_in}
use Rattle.sqlite_rules.specs.Lists.{Has}
use Rattle.sqlite_rules.proofs.ListLemmas.{all_has, has_filtered, has_kept}
use Rattle.sqlite_rules.proofs.TableLemmas.{int_is}
use Rattle.sqlite_sql.specs.Ops.{binary, is_true}
use Rattle.sqlite_sql.specs.declared.ops.BinaryOp.TheVariants.{Compare}
use Rattle.sqlite_sql.specs.declared.ops.CompareOp.TheVariants.{Eq, Gt, Lt}
use Rattle.sqlite_value.specs.declared.keys.Collation.TheVariants.{Binary}
use Rattle.xq_tables.specs.Documents.{AreApart, AreLabels, HaveInts, IsOldStore, IsStore}
use Rattle.xq_tables.specs.Labels.{has_number, is_label, label_rows, most_label, named, named_rows, node2_rows, shown_rows, HasLabel, IsNumbered, IsStoreSchema}
use Rattle.xq_tables.specs.Tables.{node_rows, IsOldSchema}
use Rattle.xq_tables.specs.private.Adopt.{addressed_node, by_place, has_zero, is_high, is_low, AreBounded, AreDocumentRuns, AreNodes, HoldLabelled, IsEdition}
use Rattle.xq_tables.proofs.Adopts.{apart_seen, has_id, ints_seen, no_length, none_passed, once, table_named, table_whole, told_of, turned_eq}
use Rattle.xq_tables.proofs.Inserts.{own_address}
use Rattle.xq_tables.proofs.Lists.{tied}
use Rattle.xq_tables.proofs.Maps.{text_is}
use Rattle.xq_tables.proofs.LabelPlaces.{shown_are}
use Rattle.xq_tables.proofs.Named.{by_number, labels_it, named_each, number_found, with_name}
use Rattle.xq_tables.proofs.Ranges.{same_tests}
use Rattle.xq_tables.proofs.Selects.{equals_int, equals_text, greater_int, less_int}

-- # As many rows with names as rows

module _ (labels : List Row) (apart : AreApart labels) (numbered : AllByRecursion IsNumbered labels) where
  at_most_one : (v : Value) → length (filter (labels_it v) labels) ≤ 1
  at_most_one v = subst (λ l. length l ≤ 1) (sym (same_tests (labels_it v) (has_id v) labels (all_weaker IsNumbered _ (λ l is. by_number v l is ∙ ap is_eq (value_cmp_total.antisymm v (rowid l)) ∙ turned_eq (value_cmp (rowid l) v)) labels numbered))) (once labels apart v)

  one_more : (r : Row) (rs : List Row) → length (named_rows labels (r ∷ rs)) ≡ length (filter (is_label r) labels) + length (named_rows labels rs)
  one_more r rs = length-append (map (named r) (filter (is_label r) labels)) (named_rows labels rs) ∙ ap (λ n. n + length (named_rows labels rs)) (length-map (filter (is_label r) labels) (named r))

  at_most : (nodes : List Row) → length (named_rows labels nodes) ≤ length nodes
  at_most [] = omega arith
  at_most (r ∷ rs) = (let one = at_most_one (column r 6) in let more = at_most rs in let n = one_more r rs in omega (arith, one, more, n))

  alone : (found : List Row) → length found ≡ 1 → (l : Row) × (found ≡ l ∷ [])
  alone [] n = absurd (omega (arith, n))
  alone (l ∷ []) n = (l, refl)
  alone (l ∷ m ∷ more) n = absurd (omega (arith, n))

  -- then each has one label
  pub all_held : (nodes : List Row) → length (named_rows labels nodes) ≡ length nodes → AllByRecursion (HasLabel labels) nodes
  all_held [] same = tt
  all_held (r ∷ rs) same =
      let one = at_most_one (column r 6) in
      let more = at_most rs in
      let n = one_more r rs in
      let m : length (named_rows labels (r ∷ rs)) ≡ suc (length rs) = same in
      (alone (filter (is_label r) labels) (omega (arith, one, more, n, m)), all_held rs (omega (arith, one, more, n, m)))

-- # Their numbers

bounded : (z : ℤ) → is_lt (int_cmp z (pos 0)) ≡ false → is_gt (int_cmp z (pos most_label)) ≡ false → (n : ℕ) × (z ≡ pos n) × (n ≤ most_label)
bounded (pos n) low high = (n, refl, grind (arith, ints))
bounded (negsuc n) low high = absurd (grind (arith, ints))

number_of : (l : Row) → IsTrue (is_int (rowid l)) → is_low l ≡ false → is_high l ≡ false → IsNumbered l
number_of l int low high =
    let z = id_in (rowid l) in
    let is : column l 0 ≡ Int z = int_is (rowid l) int in
    let below : is_lt (int_cmp z (pos 0)) ≡ false = ap is_lt (sym (value_cmp-Int z (pos 0))) ∙ sym (less_int z (pos 0)) ∙ ap (λ v. is_true (binary (Compare Lt Binary) v (Int (pos 0)))) (sym is) ∙ low in
    let above : is_gt (int_cmp z (pos most_label)) ≡ false = ap is_gt (sym (value_cmp-Int z (pos most_label))) ∙ sym (greater_int z (pos most_label)) ∙ ap (λ v. is_true (binary (Compare Gt Binary) v (Int (pos most_label)))) (sym is) ∙ high in
    let it = bounded z below above in
    (it.0, is ∙ ap Int it.1, it.2)

numbers_of : (labels : List Row) → HaveInts labels → AllByRecursion (λ l. is_low l ≡ false) labels → AllByRecursion (λ l. is_high l ≡ false) labels → AllByRecursion IsNumbered labels
numbers_of [] int low high = tt
numbers_of (l ∷ ls) int low high = (number_of l int.0 low.0 high.0, numbers_of ls int.1 low.1 high.1)

both : (a b : Bool) → (a && b) ≡ true → (a ≡ true) × (b ≡ true)
both true b e = (refl, e)
both false b e = absurd cc

tied_numbers : (n m : ℕ) → is_eq (value_cmp (Int (pos n)) (Int (pos m))) ≡ true → n ≡ m
tied_numbers n m e = (let f : int_cmp (pos n) (pos m) ≡ Equal = sym (value_cmp-Int (pos n) (pos m)) ∙ tied _ e in grind (arith, ints))

zero_found : (labels : List Row) → AreApart labels → AllByRecursion IsNumbered labels → filter has_zero labels ≢ [] → (l : Row) × (filter (has_number 0) labels ≡ l ∷ []) × (column l 2 ≡ Text [])
zero_found labels apart numbered some = go (filter has_zero labels) refl
  where
    go : (found : List Row) → filter has_zero labels ≡ found → (l : Row) × (filter (has_number 0) labels ≡ l ∷ []) × (column l 2 ≡ Text [])
    go [] e = absurd (some e)
    go (l ∷ more) e =
        let there = has_filtered has_zero labels l (subst (λ found. Has found l) (sym e) (inl refl)) in
        let parts = both _ _ there.1 in
        let it = all_has IsNumbered labels l numbered there.0 in
        let n : it.0 ≡ 0 = tied_numbers it.0 0 (ap (λ v. is_eq (value_cmp v (Int (pos 0)))) (sym it.1) ∙ sym (equals_int (column l 0) (pos 0)) ∙ parts.0) in
        (l, number_found labels l 0 apart numbered there.0 (it.1 ∙ ap (λ k. Int (pos k)) n), text_is (column l 2) [] (sym (equals_text (column l 2) []) ∙ parts.1))

module _ (labels : List Row) where
  pub labels_seen : AreApart labels → HaveInts labels → filter has_zero labels ≢ [] → filter is_low labels ≡ [] → filter is_high labels ≡ [] → AreLabels labels
  labels_seen apart int some low high =
      let numbered = numbers_of labels int (none_passed is_low labels (ap length low)) (none_passed is_high labels (ap length high)) in
      record { apart = apart; numbered = numbered; zero = zero_found labels apart numbered some }

  -- and back
  module _ (are : AreLabels labels) where
    pub zero_there : filter has_zero labels ≢ []
    zero_there none =
        let l = are.zero.0 in
        let there = has_filtered (has_number 0) labels l (subst (λ found. Has found l) (sym are.zero.1) (inl refl)) in
        let it = all_has IsNumbered labels l are.numbered there.0 in
        let number : is_true (binary (Compare Eq Binary) (column l 0) (Int (pos 0))) ≡ true =
        equals_int (column l 0) (pos 0) ∙ ap is_eq (value_cmp_total.antisymm (column l 0) (Int (pos 0))) ∙ turned_eq (value_cmp (Int (pos 0)) (column l 0)) ∙ sym (by_number (Int (pos 0)) l it) ∙ there.1 in
        let name : is_true (binary (Compare Eq Binary) (column l 2) (Text [])) ≡ true = ap (λ v. is_true (binary (Compare Eq Binary) v (Text []))) are.zero.2 ∙ equals_text (Text []) [] ∙ own_address [] in
        subst (λ found. Has found l) none (has_kept has_zero labels l there.0 (ap₂ ◌&&◌ number name))

    pub none_low : filter is_low labels ≡ []
    none_low = filter_none is_low labels (all_weaker IsNumbered _ (λ l is. ap (λ v. is_true (binary (Compare Lt Binary) v (Int (pos 0)))) is.1 ∙ less_int (pos is.0) (pos 0) ∙ ap is_lt (value_cmp-Int (pos is.0) (pos 0)) ∙ not_below is.0) labels are.numbered)
      where
        not_below : (n : ℕ) → is_lt (int_cmp (pos n) (pos 0)) ≡ false
        not_below n = grind (arith, ints)

    pub none_high : filter is_high labels ≡ []
    none_high = filter_none is_high labels (all_weaker IsNumbered _ (λ l is. ap (λ v. is_true (binary (Compare Gt Binary) v (Int (pos most_label)))) is.1 ∙ greater_int (pos is.0) (pos most_label) ∙ ap is_gt (value_cmp-Int (pos is.0) (pos most_label)) ∙ not_above is.0 is.2) labels are.numbered)
      where
        not_above : (n : ℕ) → n ≤ most_label → is_gt (int_cmp (pos n) (pos most_label)) ≡ false
        not_above n h = grind (arith, ints)

-- # What is judged

none : (b : Bool) (xs : List Row) → (IsTrue b ↔ (xs ≢ [])) → b ≡ false → xs ≡ []
none b [] is e = refl
none b (x ∷ xs) is e = absurd (let f = sym (is.1 (λ n. absurd cc)) ∙ e in cc)

gone : (b : Bool) (xs : List Row) → (IsTrue b ↔ (xs ≢ [])) → xs ≡ [] → b ≡ false
gone true xs is e = absurd (is.0 refl e)
gone false xs is e = refl

-- a query gave a row where a label passes its test
pub some_seen : (p : Row → Bool) (labels rows : List Row) (some : Bool) → IsPermutation (map (λ r. rowid r ∷ []) (filter p labels)) rows → (IsTrue some ↔ (rows ≢ [])) → IsTrue some ↔ (filter p labels ≢ [])
some_seen p labels rows some same is =
    let n : length rows ≡ length (filter p labels) = length_permutation _ _ same ∙ length-map (filter p labels) (λ r. rowid r ∷ []) in
    (λ e no. is.0 e (no_length rows (n ∙ ap length no)), λ there. is.1 (λ no. there (no_length (filter p labels) (sym n ∙ ap length no))))

pub bounded_by : (labels : List Row) (first low high are : Bool) → (IsTrue are ↔ (IsTrue first × (low ≡ false) × (high ≡ false))) → (IsTrue first ↔ (filter has_zero labels ≢ [])) → (IsTrue low ↔ (filter is_low labels ≢ [])) → (IsTrue high ↔ (filter is_high labels ≢ [])) → AreBounded are labels
bounded_by labels first low high are is z l h = (
  λ e. let it = is.0 e in (z.0 it.0, none low _ l it.1, none high _ h it.2),
  λ all. is.1 (z.1 all.0, gone low _ l all.1, gone high _ h all.2),
)

module _ (db : Database) (ids rows : List Row) (all named : ℕ) (has : IsStoreSchema db.schema) (same : IsPermutation (map (λ r. rowid r ∷ []) (node2_rows db)) ids) (all_is : all ≡ length ids) (are : AreNodes (shown_rows db) rows) (named_is : named ≡ length rows) where
  rows_are : length rows ≡ length (named_rows (label_rows db) (node2_rows db))
  rows_are = length_permutation _ _ are.same ∙ length-map (shown_rows db) addressed_node ∙ ap length (shown_are db has)

  ids_are : length ids ≡ length (node2_rows db)
  ids_are = length_permutation _ _ same ∙ length-map (node2_rows db) (λ r. rowid r ∷ [])

  -- as many rows with names as rows
  pub held_labelled : AreApart ids → HaveInts ids → (IsSorted by_place rows → AreDocumentRuns rows) → named ≡ all → AreLabels (label_rows db) → HoldLabelled db
  held_labelled apart int told equal labels =
      let runs = told are.sorted in
      record {
        held = all_held (label_rows db) labels.apart labels.numbered (node2_rows db) (sym rows_are ∙ sym named_is ∙ equal ∙ all_is ∙ ids_are);
        apart = apart_seen (node2_rows db) ids same apart;
        ints = ints_seen (node2_rows db) ids same int;
        runs = record { named = table_named (shown_rows db) rows are runs; whole = table_whole (shown_rows db) rows are runs };
      }

  pub as_many : IsStore db → named ≡ all
  as_many store =
      let each : length (named_rows (label_rows db) (node2_rows db)) ≡ length (node2_rows db) = ap length (named_each (label_rows db) (node2_rows db) store.sound.held) ∙ length-map (node2_rows db) (with_name (label_rows db)) in
      named_is ∙ rows_are ∙ each ∙ sym ids_are ∙ sym all_is

pub store_seen : (db : Database) → IsStoreSchema db.schema → IsEdition db (pos 2) → AreLabels (label_rows db) → HoldLabelled db → IsStore db
store_seen db has edition labels holds = record {
  sound = record { schema = has; labels = labels; held = holds.held; apart = holds.apart; ints = holds.ints };
  layout = edition;
  named = holds.runs.named;
  whole = holds.runs.whole;
}

-- rows that are not those of documents
pub no_runs : (db : Database) (rows : List Row) → AreNodes (shown_rows db) rows → (IsSorted by_place rows → ¬ AreDocumentRuns rows) → ¬ IsStore db
no_runs db rows are bad store = bad are.sorted (told_of (shown_rows db) rows are store.named store.whole)

pub no_old_runs : (db : Database) (rows : List Row) → AreNodes (shown_rows db) rows → (IsSorted by_place rows → ¬ AreDocumentRuns rows) → ¬ IsOldStore db
no_old_runs db rows are bad store = bad are.sorted (told_of (shown_rows db) rows are store.named store.whole)

pub old_seen : (db : Database) (ids rows : List Row) → IsOldSchema db.schema → IsEdition db (pos 1) → IsPermutation (map (λ r. rowid r ∷ []) (node_rows db)) ids → AreApart ids → HaveInts ids → AreNodes (shown_rows db) rows → (IsSorted by_place rows → AreDocumentRuns rows) → IsOldStore db
old_seen db ids rows has edition same apart int are told =
    let runs = told are.sorted in record {
      schema = has;
      layout = edition;
      apart = apart_seen (node_rows db) ids same apart;
      ints = ints_seen (node_rows db) ids same int;
      named = table_named (shown_rows db) rows are runs;
      whole = table_whole (shown_rows db) rows are runs;
    }
