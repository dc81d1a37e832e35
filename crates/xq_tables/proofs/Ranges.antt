-- The rows of a document that a SELECT picks are a part of its tree's, in document order.
use Rattle.std.proofs.Common.{◌≡◌, ◌⊎◌, ◌&&◌, ◌+◌, ◌≤◌, ◌<◌, ◌^◌, inl, inr, ℕ, suc, pos, Bool, true, false, cond, List, [], ◌∷◌, map, filter, length, refl, sym, ap, ap₂, subst, ◌∙◌, arith, Some, None, nat_lt, nat_le, Result, Ok, Err, IfOk}
use Rattle.std.specs.Ordering.{is_ge, is_le, is_lt, int_cmp}
use Rattle.std.specs.FinMap.{get}
use Rattle.std.specs.List.{AllByRecursion, list_all, enumerate_from}
use Rattle.std.specs.List.Sorted.{IsPermutation}
use Rattle.std.proofs.lemmas.Bool.{leb-true, leb-false, ltb-true, ltb-false, le-leb, lt-ltb}
use Rattle.std.proofs.lemmas.List.Sorted.{IsPermutation-sym, IsPermutation-trans, All-permutation}
use Rattle.std.proofs.lemmas.List.Elements.{All-from_recursion, recursion_from_All}
use Rattle.std.proofs.lemmas.Int.{ints}
use Rattle.sqlite_value.specs.Order.{Row, column, value_cmp}
use Rattle.sqlite_value.specs.declared.value.Value.TheVariants.{Int, Text}
use Rattle.sqlite_value.proofs.OrderLemmas.{value_cmp-Int}
use Rattle.sqlite_trees.proofs.ListLemmas.{IsPermutation-filter, ascending-filter}
use Rattle.sqlite_keyed.proofs.SortLemmas.{sorted_unique}
use Rattle.sqlite_sql.specs.Term.{holds}
use Rattle.sqlite_sql.specs.Ops.{binary, is_true}
use Rattle.sqlite_sql.specs.declared.ops.BinaryOp.TheVariants.{Arith, Compare}
use Rattle.sqlite_sql.specs.declared.ops.ArithOp.TheVariants.{Add}
use Rattle.sqlite_sql.specs.declared.ops.CompareOp.TheVariants.{Lt, Ge}
use Rattle.sqlite_value.specs.declared.keys.Collation.TheVariants.{Binary}
use Rattle.sqlite.specs.Effect.{Database}
use Rattle.sqlite.specs.State.{State, Shown}
use Rattle.sqlite.specs.declared.error.Error.{Error}
use Rattle.sqlite.proofs.Callers.{reads_as}
use Rattle.xq_tables.proofs.Joins.{joined_nodes}
use Rattle.xq_tables.proofs.LabelPlaces.{label_tree, node2_tree, schema_of, shown_lie, which}
use Rattle.xq_tables.proofs.LabelTexts.{above2_is, above2_plain, above2_text, join_command}
use Rattle.xq_tables.specs.Labels.{shown_rows}
use Rattle.xq_tables.proofs.Texts.{above_tests}
use Rattle.xq_tables.proofs.Selects.{equals_text, at_least_int, below_int, and_true}
use Rattle.xq_trees.specs.Forest.{Forest, end, node, count, labels}
use Rattle.xq_trees.specs.Tree.{Label, Tree, IsDocument, IsTree, nodes}
use Rattle.xq_trees.specs.Rows.{Row as Node, rows as rows_of, measured, placed_rows}
use Rattle.xq_trees.specs.Nesting.{count-measured}
use Rattle.xq_sources.specs.Sources.{is_between, encloses, rows_between, rows_enclosing}
use Rattle.xq_tables.specs.Nodes.{cells, node_in, number_in}
use Rattle.xq_tables.specs.Documents.{is_at, node_columns, rows_at, by_first, documents_in, IsIntact, IsStore}
use Rattle.xq_tables.specs.Reads.{is_above, AreAbove, IsPicked, IsRange}
use Rattle.xq_trees.proofs.Lists.{all_append}
use Rattle.xq_tables.proofs.Loads.{length-labels}
use Rattle.xq_tables.proofs.Maps.{get-whole, get-none, node_back}
use Rattle.xq_tables.proofs.Orders.{first_total, numbers_rise}

-- # The rows that pass a test

-- a test of what is kept of a row
pub picks : (p Q : Row → Bool) (table : List Row) → map node_columns (filter (λ r. p r && Q (node_columns r)) table) ≡ filter Q (map node_columns (filter p table))
picks p Q [] = refl
picks p Q (r ∷ rs) = go (p r) (Q (node_columns r)) refl (picks p Q rs)
  where
    go : (b c : Bool) → Q (node_columns r) ≡ c → map node_columns (filter (λ r. p r && Q (node_columns r)) rs) ≡ filter Q (map node_columns (filter p rs))
        → map node_columns (cond (b && c) (r ∷ filter (λ r. p r && Q (node_columns r)) rs) (filter (λ r. p r && Q (node_columns r)) rs)) ≡ filter Q (map node_columns (cond b (r ∷ filter p rs) (filter p rs)))
    go true true e h = rw e (ap (λ l. node_columns r ∷ l) h)
    go true false e h = rw e h
    go false c e h = h

-- the same test of nodes
picks_nodes : (Q : Row → Bool) (P : ℕ × Node → Bool) → ((p : ℕ × Node) → Q (cells p) ≡ P p) → (list : List (ℕ × Node)) → filter Q (map cells list) ≡ map cells (filter P list)
picks_nodes Q P same [] = refl
picks_nodes Q P same (p ∷ list) = go (P p) (same p) (picks_nodes Q P same list)
  where
    go : (b : Bool) → Q (cells p) ≡ b → filter Q (map cells list) ≡ map cells (filter P list) → cond (Q (cells p)) (cells p ∷ filter Q (map cells list)) (filter Q (map cells list)) ≡ map cells (cond b (p ∷ filter P list) (filter P list))
    go true e h = rw e (ap (λ l. cells p ∷ l) h)
    go false e h = rw e h

abbrev place_in : Row → ℕ × Node
place_in r = (number_in (column r 0), node_in r)

places_back : (list : List (ℕ × Node)) → map place_in (map cells list) ≡ list
places_back [] = refl
places_back (p ∷ list) = ap₂ ◌∷◌ (ap (λ (n : Node). (p.0, n)) (node_back p)) (places_back list)

-- the nodes of one document that pass a test, in document order
picked_are : (table : List Row) (a : List ℕ) (t : Tree) (Q : Row → Bool) (P : ℕ × Node → Bool) (list : List (ℕ × Node)) → IsPermutation (rows_at a table) (map cells (placed_rows t))
    → ((p : ℕ × Node) → Q (cells p) ≡ P p) → IsPicked (λ r. is_at a r && Q (node_columns r)) node_columns table (map cells list) → list ≡ filter P (placed_rows t)
picked_are table a t Q P list whole test picked =
    let some : IsPermutation (filter Q (rows_at a table)) (map cells list) = subst (λ l. IsPermutation l (map cells list)) (picks (is_at a) Q table) picked.same in
    let own : IsPermutation (filter Q (rows_at a table)) (filter Q (map cells (placed_rows t))) = IsPermutation-filter Q _ _ whole in
    let same : IsPermutation (filter Q (map cells (placed_rows t))) (map cells list) = IsPermutation-trans _ _ _ (IsPermutation-sym _ _ own) some in
    let up = ascending-filter _ Q (map cells (placed_rows t)) (numbers_rise 0 (rows_of t)) in
    let is : map cells list ≡ filter Q (map cells (placed_rows t)) = sorted_unique by_first first_total (filter Q (map cells (placed_rows t))) (map cells list) up same picked.sorted in
    sym (places_back list) ∙ ap (map place_in) (is ∙ picks_nodes Q P test (placed_rows t)) ∙ places_back (filter P (placed_rows t))

-- the document that a map has under an address
own_whole : (db : Database) (a : List ℕ) (t : Tree) → IsStore db → get (documents_in (shown_rows db)) a ≡ Some t → IsPermutation (rows_at a (shown_rows db)) (map cells (placed_rows t)) × IsDocument t
own_whole db a t store has = go (store.whole a)
  where
    go : (rows_at a (shown_rows db) ≡ []) ⊎ IsIntact (rows_at a (shown_rows db)) → IsPermutation (rows_at a (shown_rows db)) (map cells (placed_rows t)) × IsDocument t
    go (inl none) = absurd (let e : None ≡ Some t = sym (get-none (shown_rows db) a store.named none) ∙ has in cc)
    go (inr it) =
        let e : Some it.tree ≡ Some t = sym (get-whole (shown_rows db) a it.tree store.named it.same) ∙ has in
        let is : it.tree ≡ t = cc in
        (subst (λ u. IsPermutation (rows_at a (shown_rows db)) (map cells (placed_rows u))) is it.same, subst IsDocument is it.is_document)

pub own_document : (db : Database) (a : List ℕ) (t : Tree) → IsStore db → get (documents_in (shown_rows db)) a ≡ Some t → IsTree t
own_document db a t store has = (own_whole db a t store has).1.is_tree

-- # By their numbers

least : (n low : ℕ) → is_ge (value_cmp (Int (pos n)) (Int (pos low))) ≡ nat_le low n
least n low = ap is_ge (value_cmp-Int (pos n) (pos low)) ∙ go (nat_le low n) refl
  where
    go : (b : Bool) → nat_le low n ≡ b → is_ge (int_cmp (pos n) (pos low)) ≡ b
    go true e = let h = leb-true low n e in grind (arith, ints)
    go false e = let h = leb-false low n e in grind (arith, ints)

greatest : (n high : ℕ) → is_le (value_cmp (Int (pos n)) (Int (pos high))) ≡ nat_le n high
greatest n high = ap is_le (value_cmp-Int (pos n) (pos high)) ∙ go (nat_le n high) refl
  where
    go : (b : Bool) → nat_le n high ≡ b → is_le (int_cmp (pos n) (pos high)) ≡ b
    go true e = let h = leb-true n high e in grind (arith, ints)
    go false e = let h = leb-false n high e in grind (arith, ints)

pub less : (n most : ℕ) → is_lt (value_cmp (Int (pos n)) (Int (pos most))) ≡ nat_lt n most
less n most = ap is_lt (value_cmp-Int (pos n) (pos most)) ∙ go (nat_lt n most) refl
  where
    go : (b : Bool) → nat_lt n most ≡ b → is_lt (int_cmp (pos n) (pos most)) ≡ b
    go true e = let h = ltb-true n most e in grind (arith, ints)
    go false e = let h = ltb-false n most e in grind (arith, ints)

abbrev ranks : ℕ → ℕ → Row → Bool
ranks low high k = is_ge (value_cmp (column k 0) (Int (pos low))) && is_le (value_cmp (column k 0) (Int (pos high)))

pub range_is : (db : Database) (a : List ℕ) (low high : ℕ) (t : Tree) (list : List (ℕ × Node)) → IsStore db → get (documents_in (shown_rows db)) a ≡ Some t → IsRange a low high db (map cells list)
    → list ≡ rows_between t low high
range_is db a low high t list store has range =
    picked_are (shown_rows db) a t (ranks low high) (is_between low high) list (own_whole db a t store has).0 (λ p. ap₂ ◌&&◌ (least p.0 low) (greatest p.0 high)) (range store.sound.schema)

abbrev spans : ℕ → Row → Bool
spans v k = nat_lt (number_in (column k 0)) v && nat_le v (number_in (column k 0) + number_in (column k 1))

pub above_is : (db : Database) (a : List ℕ) (v : ℕ) (t : Tree) (list : List (ℕ × Node)) → IsStore db → get (documents_in (shown_rows db)) a ≡ Some t → AreAbove a v db (map cells list)
    → list ≡ rows_enclosing t v
above_is db a v t list store has above = picked_are (shown_rows db) a t (spans v) (encloses v) list (own_whole db a t store has).0 (λ p. refl) (above store)

-- # A sum of columns is exact, since documents are small

abbrev IsSmall : Row → Type 0
IsSmall k = (m n : ℕ) × (column k 0 ≡ Int (pos m)) × (column k 1 ≡ Int (pos n)) × (m + n < 2 ^ 63)

sizes : (level : ℕ) (f : Forest Label) → count f ≤ 1000000 → AllByRecursion (λ (r : Node). r.size ≤ 1000000) (labels (measured level f))
sizes level end room = tt
sizes level (node a below beside) room = (omega (arith, room), all_append (λ (r : Node). r.size ≤ 1000000) _ _ (sizes (suc level) below (omega (arith, room))) (sizes level beside (omega (arith, room))))

all_small : (k : ℕ) (list : List Node) → AllByRecursion (λ (r : Node). r.size ≤ 1000000) list → k + length list ≤ 1000000 → AllByRecursion IsSmall (map cells (enumerate_from k list))
all_small k [] fit h = tt
all_small k (n ∷ ns) fit h = ((k, n.size, refl, refl, omega (arith, fit.0, h)), all_small (k + 1) ns fit.1 (omega (arith, h)))

small_rows : (given : List Row) → (given ≡ []) ⊎ IsIntact given → AllByRecursion IsSmall given
small_rows given (inl none) = subst (AllByRecursion IsSmall) (sym none) tt
small_rows given (inr it) =
    let size : length (rows_of it.tree) ≡ count (nodes it.tree) = length-labels (measured 0 (nodes it.tree)) ∙ count-measured 0 (nodes it.tree) in
    let room = it.is_document.is_tree.room in
    let all = all_small 0 (rows_of it.tree) (sizes 0 (nodes it.tree) room) (omega (arith, size, room)) in
    let back : IsPermutation (map cells (placed_rows it.tree)) given = IsPermutation-sym given (map cells (placed_rows it.tree)) it.same in
    recursion_from_All IsSmall given (All-permutation IsSmall (map cells (placed_rows it.tree)) given back (All-from_recursion IsSmall (map cells (placed_rows it.tree)) all))

exact_sum : (m n : ℕ) → m + n < 2 ^ 63 → binary (Arith Add) (Int (pos m)) (Int (pos n)) ≡ Int (pos (m + n))
unfolding binary
exact_sum m n h = rw (lt-ltb (m + n) (2 ^ 63) h) refl

-- # The rows of the nodes above a node

abbrev given : List ℕ → ℕ → Row
given a v = Text a ∷ Int (pos v) ∷ []

abbrev tested : List ℕ → ℕ → Row → Bool
tested a v r = list_all (holds (given a v ∷ r ∷ [])) above_tests

abbrev late : ℕ → Row → Bool
late v r = is_true (binary (Compare Lt Binary) (column r 2) (Int (pos v))) && (is_true (binary (Compare Ge Binary) (binary (Arith Add) (column r 2) (column r 3)) (Int (pos v))) && true)

late_is : (v : ℕ) (r : Row) → IsSmall (node_columns r) → late v r ≡ is_above v r
late_is v r (m, n, first, second, small) =
    let number : is_true (binary (Compare Lt Binary) (column r 2) (Int (pos v))) ≡ nat_lt (number_in (column r 2)) v =
    ap (λ x. is_true (binary (Compare Lt Binary) x (Int (pos v)))) first ∙ below_int (Int (pos m)) (pos 0) (pos v) (least m 0 ∙ le-leb 0 m (omega arith)) ∙ less m v
    ∙ sym (ap (λ x. nat_lt (number_in x) v) first) in
    let sum : is_true (binary (Compare Ge Binary) (binary (Arith Add) (column r 2) (column r 3)) (Int (pos v))) ≡ nat_le v (number_in (column r 2) + number_in (column r 3)) =
    ap₂ (λ x y. is_true (binary (Compare Ge Binary) (binary (Arith Add) x y) (Int (pos v)))) first second ∙ ap (λ z. is_true (binary (Compare Ge Binary) z (Int (pos v)))) (exact_sum m n small)
    ∙ at_least_int (Int (pos (m + n))) (pos v) ∙ least (m + n) v ∙ sym (ap₂ (λ x y. nat_le v (number_in x + number_in y)) first second) in
    ap₂ ◌&&◌ number (and_true _ ∙ sum)

elsewhere : (a : List ℕ) (v : ℕ) (r : Row) → is_at a r ≡ false → tested a v r ≡ is_at a r && is_above v r
elsewhere a v r other = ap (λ b. b && late v r) (equals_text (column r 1) a ∙ other) ∙ sym (ap (λ b. b && is_above v r) other)

all_tested : (a : List ℕ) (v : ℕ) (table : List Row) → AllByRecursion IsSmall (map node_columns (filter (is_at a) table)) → AllByRecursion (λ r. tested a v r ≡ is_at a r && is_above v r) table
all_tested a v [] all = tt
all_tested a v (r ∷ rs) all = go (is_at a r) refl all (all_tested a v rs)
  where
    go : (b : Bool) → is_at a r ≡ b → AllByRecursion IsSmall (map node_columns (cond b (r ∷ filter (is_at a) rs) (filter (is_at a) rs)))
        → (AllByRecursion IsSmall (map node_columns (filter (is_at a) rs)) → AllByRecursion (λ r. tested a v r ≡ is_at a r && is_above v r) rs) → AllByRecursion (λ r. tested a v r ≡ is_at a r && is_above v r) (r ∷ rs)
    go true here all more = (ap₂ ◌&&◌ (equals_text (column r 1) a) (late_is v r all.0), more all.1)
    go false other all more = (elsewhere a v r other, more all)

pub same_tests : (p q : Row → Bool) (xs : List Row) → AllByRecursion (λ x. p x ≡ q x) xs → filter p xs ≡ filter q xs
same_tests p q [] all = refl
same_tests p q (x ∷ xs) all = rw all.0 (ap (λ l. cond (q x) (x ∷ l) l) (same_tests p q xs all.1))

pub aboves : (old new : State) (a : List ℕ) (v : ℕ) (rows : List Row) → Shown above2_text (given a v) old new rows → AreAbove a v old.now rows
aboves old new a v rows h store =
    let place = which old.now.schema store.sound.schema in
    let made = place.0 in
    let it = reads_as above2_text (given a v) old new (schema_of made) place.1 (join_command made above_tests) (above2_is made).0 (above2_plain made) (above2_is made).1 rows h in
    let all = joined_nodes (node2_tree made) (label_tree made) above_tests old.now.trees (given a v) (λ r l. refl) rows it.answer in
    let table = shown_rows old.now in
    let got = subst (λ t. IsPicked (tested a v) node_columns t rows) (sym (shown_lie made old.now place.1)) all in
    let tests = all_tested a v table (small_rows (rows_at a table) (store.whole a)) in
    record { same = subst (λ l. IsPermutation (map node_columns l) rows) (same_tests (tested a v) (λ r. is_at a r && is_above v r) table tests) got.same; sorted = got.sorted }

pub all_aboves : {X : Type 0} (show : X → List Row) (old new : State) (a : List ℕ) (v : ℕ) (r : Result X Error) → IfOk r (λ x. Shown above2_text (Text a ∷ Int (pos v) ∷ []) old new (show x))
    → IfOk r (λ x. AreAbove a v old.now (show x))
all_aboves show old new a v (Ok x) h = aboves old new a v (show x) h
all_aboves show old new a v (Err e) h = tt
