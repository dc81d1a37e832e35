-- The rows that a SELECT gives of an address are those of its tree.
use Rattle.std.proofs.Common.{◌≡◌, ◌⊎◌, ◌&&◌, ◌+◌, ◌≤◌, inl, inr, ℕ, suc, pos, Bool, true, false, cond, List, [], ◌∷◌, map, filter, length, refl, sym, ap, ap₂, subst, ◌∙◌, arith, Option, Some, None}
use Rattle.std.specs.Ordering.{is_ge, is_le}
use Rattle.std.specs.FinMap.{get}
use Rattle.std.specs.List.{AllByRecursion, enumerate_from}
use Rattle.std.specs.List.Sorted.{IsPermutation}
use Rattle.std.proofs.lemmas.List.Sorted.{IsPermutation-sym, IsPermutation-trans, length_permutation, All-permutation}
use Rattle.std.proofs.lemmas.List.Elements.{All-from_recursion, recursion_from_All}
use Rattle.std.proofs.lemmas.List.{length-append}
use Rattle.std.proofs.lemmas.Int.{ints}
use Rattle.sqlite_value.specs.Order.{Row, column, value_cmp}
use Rattle.sqlite_value.specs.declared.value.Value.TheVariants.{Int}
use Rattle.sqlite_value.proofs.OrderLemmas.{value_cmp-Int}
use Rattle.sqlite_trees.proofs.ListLemmas.{all-map, all_of}
use Rattle.sqlite_keyed.proofs.SortLemmas.{sorted_unique}
use Rattle.sqlite.specs.Effect.{Database}
use Rattle.xq_trees.specs.Forest.{Forest, end, node, count, labels}
use Rattle.xq_trees.specs.Tree.{Tree, nodes}
use Rattle.xq_trees.specs.Rows.{Row as Node, rows, measured, row_of, placed, placed_rows}
use Rattle.xq_trees.specs.Nesting.{count-measured}
use Rattle.xq_trees.proofs.Injective.{rows-injective}
use Rattle.xq_trees.specs.declared.NodeRow.{NodeRow}
use Rattle.xq_tables.specs.Nodes.{cells, node_in}
use Rattle.xq_tables.specs.private.Columns.{node_of}
use Rattle.xq_tables.specs.Documents.{is_at, node_columns, rows_at, by_first, documents_in, IsIntact, IsStore}
use Rattle.xq_tables.specs.Reads.{is_above, is_within, AreAbove, Finds, IsPicked, IsRange}
use Rattle.xq_tables.proofs.Maps.{get-whole, get-none, node_back, nodes_back}
use Rattle.xq_tables.proofs.Orders.{first_total, numbers_rise}
use Rattle.xq_tables.specs.Labels.{shown_rows}

-- # Each number of a row lies within the bounds

abbrev pub most : ℕ
most = 4294967295

abbrev is_number : Row → Bool
is_number r = is_ge (value_cmp (column r 0) (Int (pos 0))) && is_le (value_cmp (column r 0) (Int (pos most)))

at_least : (k : ℕ) → is_ge (value_cmp (Int (pos k)) (Int (pos 0))) ≡ true
at_least k = ap is_ge (value_cmp-Int (pos k) (pos 0)) ∙ grind (arith, ints)

at_most : (k : ℕ) → k ≤ most → is_le (value_cmp (Int (pos k)) (Int (pos most))) ≡ true
at_most k h = ap is_le (value_cmp-Int (pos k) (pos most)) ∙ grind (arith, ints)

all_numbers : (k : ℕ) (list : List Node) → k + length list ≤ most → AllByRecursion (λ r. is_number r ≡ true) (map cells (enumerate_from k list))
all_numbers k [] h = tt
all_numbers k (n ∷ ns) h = (ap₂ ◌&&◌ (at_least k) (at_most k (omega (arith, h))), all_numbers (k + 1) ns (omega (arith, h)))

pub length-labels : {A : Type 0} (f : Forest A) → length (labels f) ≡ count f
length-labels end = refl
length-labels (node a below beside) = ap suc (length-append (labels below) (labels beside) ∙ (let e = length-labels below in let g = length-labels beside in omega arith))

whole_numbers : (given : List Row) → (given ≡ []) ⊎ IsIntact given → AllByRecursion (λ r. is_number r ≡ true) given
whole_numbers given (inl none) = subst (AllByRecursion (λ r. is_number r ≡ true)) (sym none) tt
whole_numbers given (inr it) =
    let size : length (rows it.tree) ≡ count (nodes it.tree) = length-labels (measured 0 (nodes it.tree)) ∙ count-measured 0 (nodes it.tree) in
    let room = it.is_document.is_tree.room in
    let all = all_numbers 0 (rows it.tree) (omega (arith, size, room)) in
    let P : Row → Type 0 = λ r. is_number r ≡ true in
    let back : IsPermutation (map cells (placed_rows it.tree)) given = IsPermutation-sym given (map cells (placed_rows it.tree)) it.same in
    recursion_from_All P given (All-permutation P (map cells (placed_rows it.tree)) given back (All-from_recursion P (map cells (placed_rows it.tree)) all))

own_numbers : (list : List Row) → AllByRecursion (λ r. is_number r ≡ true) (map node_columns list) → AllByRecursion (λ r. is_within 0 most r ≡ true) list
own_numbers [] all = tt
own_numbers (r ∷ rs) all = (all.0, own_numbers rs all.1)

both_tests : (p q : Row → Bool) (table : List Row) → AllByRecursion (λ r. q r ≡ true) (filter p table) → filter (λ r. p r && q r) table ≡ filter p table
both_tests p q [] all = refl
both_tests p q (r ∷ rs) all = go (p r) all (both_tests p q rs)
  where
    go : (b : Bool) → AllByRecursion (λ r. q r ≡ true) (cond b (r ∷ filter p rs) (filter p rs)) → (AllByRecursion (λ r. q r ≡ true) (filter p rs) → filter (λ r. p r && q r) rs ≡ filter p rs)
        → cond (b && q r) (r ∷ filter (λ r. p r && q r) rs) (filter (λ r. p r && q r) rs) ≡ cond b (r ∷ filter p rs) (filter p rs)
    go true all more = rw all.0 (ap (λ l. r ∷ l) (more all.1))
    go false all more = more all

-- # What the SELECT gives

-- the rows of a document are all within the bounds
all_picked : (table : List Row) (a : List ℕ) → (rows_at a table ≡ []) ⊎ IsIntact (rows_at a table) → map node_columns (filter (λ r. is_at a r && is_within 0 most r) table) ≡ rows_at a table
all_picked table a whole = ap (map node_columns) (both_tests (is_at a) (is_within 0 most) table (own_numbers (filter (is_at a) table) (whole_numbers (rows_at a table) whole)))

no_cells : (list : List NodeRow) → length (map cells (map placed list)) ≡ 0 → list ≡ []
no_cells [] h = refl
no_cells (n ∷ ns) h = absurd (omega (arith, h))

read_back : (list : List NodeRow) → map node_in (map cells (map placed list)) ≡ map row_of list
read_back [] = refl
read_back (n ∷ ns) = ap₂ ◌∷◌ (node_back (placed n)) (read_back ns)

pub found_is : (db : Database) (a : List ℕ) (list : List NodeRow) (found : Option Tree) → IsStore db → IsRange a 0 most db (map cells (map placed list)) → Finds list found
    → found ≡ get (documents_in (shown_rows db)) a
found_is db a list found store range finds = go (store.whole a) found finds
  where
    picked : IsPicked (λ r. is_at a r && is_within 0 most r) node_columns (shown_rows db) (map cells (map placed list))
    picked = range store.sound.schema

    same : IsPermutation (rows_at a (shown_rows db)) (map cells (map placed list))
    same = subst (λ l. IsPermutation l (map cells (map placed list))) (all_picked (shown_rows db) a (store.whole a)) picked.same

    here : (it : IsIntact (rows_at a (shown_rows db))) → map row_of list ≡ rows it.tree
    here it =
        let ordered = sorted_unique by_first first_total (map cells (placed_rows it.tree)) (map cells (map placed list)) (numbers_rise 0 (rows it.tree)) (IsPermutation-trans _ _ _ (IsPermutation-sym _ _ it.same) same) picked.sorted in
        sym (read_back list) ∙ ap (map node_in) ordered ∙ nodes_back 0 (rows it.tree)

    go : (rows_at a (shown_rows db) ≡ []) ⊎ IsIntact (rows_at a (shown_rows db)) → (found : Option Tree) → Finds list found → found ≡ get (documents_in (shown_rows db)) a
    go (inl none) None finds = sym (get-none (shown_rows db) a store.named none)
    go (inl none) (Some t) finds =
        let size : length (map cells (map placed list)) ≡ 0 = length_permutation _ _ same ∙ ap length none in
        absurd (let e : [] ≡ rows t = ap (map row_of) (sym (no_cells list size)) ∙ finds.rows in cc)
    go (inr it) None finds = absurd (let e : rows it.tree ≡ [] = sym (here it) ∙ ap (map row_of) finds in cc)
    go (inr it) (Some t) finds = ap Some (rows-injective t it.tree (sym finds.rows ∙ here it)) ∙ sym (get-whole (shown_rows db) a it.tree store.named it.same)

-- # The columns of each row

all_six : (rows given : List Row) → IsPermutation (map node_columns rows) given → map node_of given ≡ given
all_six table given same =
    let P : Row → Type 0 = λ r. node_of r ≡ r in
    go given (recursion_from_All P given (All-permutation P (map node_columns table) given same (All-from_recursion P (map node_columns table) (all-map P node_columns table (all_of (λ r. node_of (node_columns r) ≡ node_columns r) (λ r. refl) table)))))
  where
    go : (list : List Row) → AllByRecursion (λ r. node_of r ≡ r) list → map node_of list ≡ list
    go [] all = refl
    go (r ∷ rs) all = ap₂ ◌∷◌ all.0 (go rs all.1)

-- the nodes that were read of rows are what a SELECT of these rows gives
pub read_range_is : (db : Database) (a : List ℕ) (low high : ℕ) (given : List Row) (list : List NodeRow) → IsRange a low high db given
    → map cells (map placed list) ≡ map node_of given → IsRange a low high db (map cells (map placed list))
read_range_is db a low high given list range read schema =
    let it = range schema in
    let same = read ∙ all_six (filter (λ r. is_at a r && is_within low high r) (shown_rows db)) given it.same in
    subst (IsPicked (λ r. is_at a r && is_within low high r) node_columns (shown_rows db)) (sym same) it

pub above_read_is : (db : Database) (a : List ℕ) (v : ℕ) (given : List Row) (list : List NodeRow) → AreAbove a v db given
    → map cells (map placed list) ≡ map node_of given → AreAbove a v db (map cells (map placed list))
above_read_is db a v given list shown read store =
    let it = shown store in
    let same = read ∙ all_six (filter (λ r. is_at a r && is_above v r) (shown_rows db)) given it.same in
    subst (IsPicked (λ r. is_at a r && is_above v r) node_columns (shown_rows db)) (sym same) it
