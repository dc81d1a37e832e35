-- The addresses that a SELECT gives are the keys of the map.
use Rattle.std.proofs.Common.{◌≡◌, ◌⊎◌, ◌+◌, ◌<◌, ◌≤◌, ◌||◌, inl, inr, ℕ, zero, suc, pos, Bool, true, false, cond, List, [], ◌∷◌, map, filter, length, refl, sym, ap, subst, ◌∙◌, arith, Less, Some, None, T, ap₂}
use Rattle.std.specs.Ordering.{is_eq, eq_by_cmp}
use Rattle.std.specs.Prelude.{slice_get}
use Rattle.std.specs.FinMap.{entries, find, get, get-entries, keys, values, from_entries, from_sorted, is_sorted, same_map, get-from_entries, get-from_sorted, entries-from_sorted}
use Rattle.std.specs.FinMap.Entries.{below_all}
use Rattle.std.specs.List.{AllByRecursion, list_any, enumerate_from}
use Rattle.std.specs.List.Sorted.{IsPermutation}
use Rattle.std.proofs.lemmas.List.Sorted.{length_permutation, list_any-IsPermutation, All-permutation}
use Rattle.std.proofs.lemmas.Cmp.{tied_itself}
use Rattle.std.proofs.lemmas.Int.{ints}
use Rattle.sqlite_value.specs.Order.{Row, column, value_cmp}
use Rattle.sqlite_value.specs.declared.value.Value.TheVariants.{Int, Text}
use Rattle.sqlite_value.proofs.OrderLemmas.{value_cmp_total, value_cmp-Text, value_cmp-Int}
use Rattle.sqlite_trees.specs.Tree.{IsAscending}
use Rattle.sqlite_trees.proofs.ListLemmas.{map-map, IsPermutation-filter, all-map, all_of}
use Rattle.sqlite_keyed.specs.Lists.{sort_by}
use Rattle.sqlite_keyed.proofs.SortLemmas.{sorted_is-sort_by, sort_by-map, IsPermutation-sort_by}
use Rattle.xq_trees.specs.Rows.{Row as Node, rows}
use Rattle.xq_trees.specs.Tree.{Tree}
use Rattle.xq_tables.specs.Nodes.{cells, bytes_in}
use Rattle.xq_tables.specs.Documents.{is_at, is_first, node_columns, rows_at, by_first, tree_at, addresses_in, documents_in, HasAddress, IsIntact}
use Rattle.xq_tables.specs.Reads.{IsPicked, AreAddresses}
use Rattle.sqlite.specs.Effect.{Database}
use Rattle.std.proofs.lemmas.List.Elements.{All-from_recursion, recursion_from_All}
use Rattle.xq_tables.proofs.Maps.{order, order_total, order_exact, has_root, listed, find_by}
use Rattle.xq_tables.proofs.Orders.{first_total, sort_rises}
use Rattle.xq_tables.specs.Labels.{shown_rows}

-- # One first row for each address

abbrev is_root : Row → Bool
is_root r = is_eq (value_cmp (column r 0) (Int (pos 0)))

later : (k : ℕ) → 0 < k → is_eq (value_cmp (Int (pos k)) (Int (pos 0))) ≡ false
later k h = ap is_eq (value_cmp-Int (pos k) (pos 0)) ∙ grind (arith, ints)

pub no_roots : (k : ℕ) (nodes : List Node) → 0 < k → filter is_root (map cells (enumerate_from k nodes)) ≡ []
no_roots k [] h = refl
no_roots k (n ∷ ns) h = ap (λ b. cond b (cells (k, n) ∷ filter is_root (map cells (enumerate_from (k + 1) ns))) (filter is_root (map cells (enumerate_from (k + 1) ns)))) (later k h) ∙ no_roots (k + 1) ns (omega arith)

one_root : (nodes : List Node) → length (filter is_root (map cells (enumerate_from 0 nodes))) ≤ 1
one_root [] = omega arith
one_root (n ∷ ns) =
    let none : filter is_root (map cells (enumerate_from 1 ns)) ≡ [] = no_roots 1 ns (omega arith) in
    let first : is_eq (value_cmp (Int (pos 0)) (Int (pos 0))) ≡ true = ap is_eq (tied_itself value_cmp_total (Int (pos 0))) in
    let all : filter is_root (map cells (enumerate_from 0 (n ∷ ns))) ≡ cells (0, n) ∷ [] =
    ap (λ b. cond b (cells (0, n) ∷ filter is_root (map cells (enumerate_from 1 ns))) (filter is_root (map cells (enumerate_from 1 ns)))) first ∙ ap (λ l. cells (0, n) ∷ l) none in
    let size : length (filter is_root (map cells (enumerate_from 0 (n ∷ ns)))) ≡ 1 = ap length all in
    omega (arith, size)

whole_root : (rows : List Row) → (rows ≡ []) ⊎ IsIntact rows → length (filter is_root rows) ≤ 1
whole_root given (inl none) = let size : length (filter is_root given) ≡ 0 = ap (λ l. length (filter is_root l)) none in omega (arith, size)
whole_root given (inr it) =
    let size = length_permutation _ _ (IsPermutation-filter is_root _ _ it.same) in
    let one = one_root (rows it.tree) in
    omega (arith, size, one)

no_root : (list : List Row) → length (filter is_root list) ≡ 0 → has_root list ≡ false
no_root [] e = refl
no_root (r ∷ rs) e = go (is_root r) refl (no_root rs) e
  where
    go : (b : Bool) → is_root r ≡ b → (length (filter is_root rs) ≡ 0 → has_root rs ≡ false) → length (cond b (r ∷ filter is_root rs) (filter is_root rs)) ≡ 0 → (is_root r || has_root rs) ≡ false
    go true h more e = absurd (omega (arith, e))
    go false h more e = ap (λ b. b || has_root rs) h ∙ more e

none_passes : {X : Type 0} (p : X → Bool) (xs : List X) → list_any p xs ≡ false → AllByRecursion (λ x. p x ≡ false) xs
none_passes p [] h = tt
none_passes p (x ∷ xs) h = go (p x) refl (none_passes p xs) h
  where
    go : (b : Bool) → p x ≡ b → (list_any p xs ≡ false → AllByRecursion (λ x. p x ≡ false) xs) → (b || list_any p xs) ≡ false → AllByRecursion (λ x. p x ≡ false) (x ∷ xs)
    go true e more h = absurd cc
    go false e more h = (e, more h)

abbrev IsOnce : List Row → Type 0
IsOnce table = (a : List ℕ) → length (filter is_root (rows_at a table)) ≤ 1

fewer : (r : Row) (table : List Row) → IsOnce (r ∷ table) → IsOnce table
fewer r table once a = go (is_at a r) (once a)
  where
    go : (b : Bool) → length (filter is_root (map node_columns (cond b (r ∷ filter (is_at a) table) (filter (is_at a) table)))) ≤ 1 → length (filter is_root (rows_at a table)) ≤ 1
    go true h = less (is_root (node_columns r)) h
      where
        less : (c : Bool) → length (cond c (node_columns r ∷ filter is_root (rows_at a table)) (filter is_root (rows_at a table))) ≤ 1 → length (filter is_root (rows_at a table)) ≤ 1
        less true h = omega (arith, h)
        less false h = h
    go false h = h

-- no address is listed twice
listed_once : (table : List Row) → AllByRecursion HasAddress table → IsOnce table → IsAscending (λ a b. is_eq (order a b) ≡ false) (addresses_in table)
listed_once [] named once = tt
listed_once (r ∷ rs) named once = go (is_first r) refl (listed_once rs named.1 (fewer r rs once))
  where
    own : is_at (bytes_in (column r 1)) r ≡ true
    own = ap (λ v. is_eq (value_cmp v (Text (bytes_in v)))) named.0.2 ∙ ap is_eq (tied_itself value_cmp_total (Text named.0.0))

    go : (b : Bool) → is_first r ≡ b → IsAscending (λ a b. is_eq (order a b) ≡ false) (addresses_in rs)
        → IsAscending (λ a b. is_eq (order a b) ≡ false) (map (λ x. bytes_in (column x 1)) (cond b (r ∷ filter is_first rs) (filter is_first rs)))
    go false e more = more
    go true e more =
        let a = bytes_in (column r 1) in
        let all : rows_at a (r ∷ rs) ≡ node_columns r ∷ rows_at a rs = ap (λ b. map node_columns (cond b (r ∷ filter (is_at a) rs) (filter (is_at a) rs))) own in
        let first : length (filter is_root (rows_at a (r ∷ rs))) ≡ length (filter is_root (node_columns r ∷ rows_at a rs)) = ap (λ l. length (filter is_root l)) all in
        let one_more : length (filter is_root (node_columns r ∷ rows_at a rs)) ≡ suc (length (filter is_root (rows_at a rs))) = ap (λ b. length (cond b (node_columns r ∷ filter is_root (rows_at a rs)) (filter is_root (rows_at a rs)))) e in
        let at_most = once a in
        let none : length (filter is_root (rows_at a rs)) ≡ 0 = omega (arith, first, one_more, at_most) in
        (none_passes (eq_by_cmp order a) (addresses_in rs) (listed a rs named.1 ∙ no_root (rows_at a rs) none), more)

-- # The keys of a map from a list

below_rest : {X : Type 0} (f : List ℕ → X) (a : List ℕ) (list : List (List ℕ)) → AllByRecursion (λ b. order a b ≡ Less) list → below_all order a (map (λ b. (b, f b)) list) ≡ true
below_rest f a [] h = refl
below_rest f a (b ∷ more) h = rw (h.0, below_rest f a more h.1) refl

in_order : {X : Type 0} (f : List ℕ → X) (list : List (List ℕ)) → IsAscending (λ a b. order a b ≡ Less) list → is_sorted order (map (λ a. (a, f a)) list) ≡ true
in_order f [] up = refl
in_order f (a ∷ more) up = rw (below_rest f a more up.0, in_order f more up.1) refl

-- the map of entries whose keys are some addresses, each once, has these in their order
entries_sorted : {X : Type 0} (f : List ℕ → X) (list : List (List ℕ)) → IsAscending (λ a b. is_eq (order a b) ≡ false) list
    → entries (from_entries {R = order} (map (λ a. (a, f a)) list)) ≡ map (λ a. (a, f a)) (sort_by order list)
entries_sorted {X} f list apart =
    let up = sort_rises order order_total list apart in
    let es : List (List ℕ × X) = map (λ a. (a, f a)) (sort_by order list) in
    let good : T (is_sorted order es) = subst T (sym (in_order f (sort_by order list) up)) tt in
    let same : from_entries {R = order} (map (λ a. (a, f a)) list) ≡ from_sorted es = same_map order_total order_exact _ _ (λ q.
    get-from_entries order_total _ q ∙ find_by f q list ∙ ap (λ b. cond b (Some (f q)) None) (sym (list_any-IsPermutation (eq_by_cmp order q) _ _ (IsPermutation-sort_by order order_total list)))
    ∙ sym (get-from_sorted order es q good ∙ find_by f q (sort_by order list))) in
    ap entries same ∙ entries-from_sorted order es good

unchanged : (l : List (List ℕ)) → map (λ a. a) l ≡ l
unchanged [] = refl
unchanged (a ∷ more) = ap (λ l. a ∷ l) (unchanged more)

keys_sorted : {X : Type 0} (f : List ℕ → X) (list : List (List ℕ)) → IsAscending (λ a b. is_eq (order a b) ≡ false) list
    → keys (from_entries {R = order} (map (λ a. (a, f a)) list)) ≡ sort_by order list
keys_sorted {X} f list apart = ap (map (λ (e : List ℕ × X). e.0)) (entries_sorted f list apart) ∙ map-map _ _ _ ∙ unchanged (sort_by order list)

-- the map has under each of its keys the tree at this address
pub entries_are : (table : List Row) → AllByRecursion HasAddress table → ((a : List ℕ) → (rows_at a table ≡ []) ⊎ IsIntact (rows_at a table))
    → entries (documents_in table) ≡ map (λ a. (a, tree_at table a)) (keys (documents_in table))
unfolding documents_in
entries_are table named whole =
    let apart = listed_once table named (λ a. whole_root (rows_at a table) (whole a)) in
    let own : List ℕ → List ℕ × Tree = λ a. (a, tree_at table a) in
    entries_sorted (tree_at table) (addresses_in table) apart ∙ ap (map own) (sym (keys_sorted (tree_at table) (addresses_in table) apart))

pub values_are : (table : List Row) → AllByRecursion HasAddress table → ((a : List ℕ) → (rows_at a table ≡ []) ⊎ IsIntact (rows_at a table))
    → values (documents_in table) ≡ map (tree_at table) (keys (documents_in table))
values_are table named whole = ap (map (λ (e : List ℕ × Tree). e.1)) (entries_are table named whole) ∙ map-map _ _ _

listed_at : (list : List (List ℕ)) (i : ℕ) (a : List ℕ) → slice_get list i ≡ Some a → list_any (eq_by_cmp order a) list ≡ true
listed_at [] i a e = absurd cc
listed_at (k ∷ list) zero a e = let same : k ≡ a = cc in ap (λ x. eq_by_cmp order a x || list_any (eq_by_cmp order a) list) same ∙ ap (λ o. is_eq o || list_any (eq_by_cmp order a) list) (tied_itself order_total a)
listed_at (k ∷ list) (suc i) a e = ap (λ b. eq_by_cmp order a k || b) (listed_at list i a e) ∙ always (eq_by_cmp order a k)
  where
    always : (b : Bool) → (b || true) ≡ true
    always true = refl
    always false = refl

pub get_at : (table : List Row) → AllByRecursion HasAddress table → ((a : List ℕ) → (rows_at a table ≡ []) ⊎ IsIntact (rows_at a table)) → (i : ℕ) (a : List ℕ)
    → slice_get (keys (documents_in table)) i ≡ Some a → get (documents_in table) a ≡ Some (tree_at table a)
get_at table named whole i a e =
    get-entries (documents_in table) a ∙ ap (find order a) (entries_are table named whole) ∙ find_by (tree_at table) a (keys (documents_in table))
    ∙ ap (λ b. cond b (Some (tree_at table a)) None) (listed_at (keys (documents_in table)) i a e)

-- # What the SELECT gives

abbrev pub alone : List ℕ → Row
alone a = Text a ∷ []

shown_addresses : (table : List Row) → AllByRecursion HasAddress table → map (λ r. column r 1 ∷ []) (filter is_first table) ≡ map alone (addresses_in table)
shown_addresses [] named = refl
shown_addresses (r ∷ rs) named = go (is_first r) (shown_addresses rs named.1)
  where
    text : column r 1 ≡ Text (bytes_in (column r 1))
    text = named.0.2 ∙ ap (λ v. Text (bytes_in v)) (sym named.0.2)

    go : (b : Bool) → map (λ r. column r 1 ∷ []) (filter is_first rs) ≡ map alone (addresses_in rs)
        → map (λ r. column r 1 ∷ []) (cond b (r ∷ filter is_first rs) (filter is_first rs)) ≡ map alone (map (λ x. bytes_in (column x 1)) (cond b (r ∷ filter is_first rs) (filter is_first rs)))
    go true more = rw more (ap (λ v. (v ∷ []) ∷ map alone (addresses_in rs)) text)
    go false more = more

no_ties_shown : (list : List (List ℕ)) → IsAscending (λ a b. is_eq (order a b) ≡ false) list → IsAscending (λ a b. is_eq (by_first a b) ≡ false) (map alone list)
no_ties_shown [] up = tt
no_ties_shown (a ∷ more) up = (first more up.0, no_ties_shown more up.1)
  where
    first : (l : List (List ℕ)) → AllByRecursion (λ b. is_eq (order a b) ≡ false) l → AllByRecursion (λ r. is_eq (by_first (alone a) r) ≡ false) (map alone l)
    first [] h = tt
    first (b ∷ bs) h = (ap is_eq (value_cmp-Text a b) ∙ h.0, first bs h.1)

bytes_back : (list : List (List ℕ)) → map (λ r. bytes_in (column r 0)) (map alone list) ≡ list
bytes_back [] = refl
bytes_back (a ∷ more) = ap (λ l. a ∷ l) (bytes_back more)

-- the addresses in their order are the keys of the map
pub keys_are : (table : List Row) (list : List (List ℕ)) → AllByRecursion HasAddress table → ((a : List ℕ) → (rows_at a table ≡ []) ⊎ IsIntact (rows_at a table))
    → IsPicked is_first (λ r. column r 1 ∷ []) table (map alone list) → list ≡ keys (documents_in table)
unfolding documents_in
keys_are table list named whole picked =
    let addresses = addresses_in table in
    let apart = listed_once table named (λ a. whole_root (rows_at a table) (whole a)) in
    let same = subst (λ l. IsPermutation l (map alone list)) (shown_addresses table named) picked.same in
    let sorted : map alone list ≡ sort_by by_first (map alone addresses) = sorted_is-sort_by by_first first_total (map alone addresses) (map alone list) (no_ties_shown addresses apart) same picked.sorted in
    let inside : sort_by by_first (map alone addresses) ≡ map alone (sort_by order addresses) = sort_by-map by_first alone addresses ∙ (λ i. map alone (sort_by (λ a b. value_cmp-Text a b i) addresses)) in
    sym (bytes_back list) ∙ ap (map (λ r. bytes_in (column r 0))) (sorted ∙ inside) ∙ bytes_back (sort_by order addresses) ∙ sym (keys_sorted (tree_at table) addresses apart)

singles : (rows given : List Row) (shows : Row → Row) → ((r : Row) → shows r ≡ column (shows r) 0 ∷ []) → IsPermutation (map shows rows) given → map (λ r. column r 0 ∷ []) given ≡ given
singles table given shows one same =
    let P : Row → Type 0 = λ r. r ≡ column r 0 ∷ [] in
    back given (recursion_from_All P given (All-permutation P (map shows table) given same (All-from_recursion P (map shows table) (all-map P shows table (all_of (λ r. P (shows r)) one table)))))
  where
    back : (l : List Row) → AllByRecursion (λ r. r ≡ column r 0 ∷ []) l → map (λ r. column r 0 ∷ []) l ≡ l
    back [] all = refl
    back (r ∷ rs) all = ap₂ ◌∷◌ (sym all.0) (back rs all.1)

-- the texts that were read of rows of one column are what the SELECT gives
pub texts_picked : (table given : List Row) (list : List (List ℕ)) → IsPicked is_first (λ r. column r 1 ∷ []) table given → map Text list ≡ map (λ r. column r 0) given → IsPicked is_first (λ r. column r 1 ∷ []) table (map alone list)
texts_picked table given list it read =
    let same : map alone list ≡ given =
    sym (map-map (λ v. v ∷ []) Text list) ∙ ap (map (λ v. v ∷ [])) read ∙ map-map (λ v. v ∷ []) (λ r. column r 0) given
    ∙ singles (filter is_first table) given (λ r. column r 1 ∷ []) (λ r. refl) it.same in
    subst (IsPicked is_first (λ r. column r 1 ∷ []) table) (sym same) it

pub read_addresses_is : (db : Database) (given : List Row) (list : List (List ℕ)) → AreAddresses db given → map Text list ≡ map (λ r. column r 0) given → AreAddresses db (map alone list)
read_addresses_is db given list shown read store = texts_picked (shown_rows db) given list (shown store) read
