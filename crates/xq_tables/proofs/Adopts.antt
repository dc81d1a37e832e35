-- The rows that an adoption reads, and the table that they are of.
use Rattle.std.proofs.Common.{◌≡◌, ◌≢◌, ◌⊎◌, inl, inr, ◌+◌, ◌≤◌, ℕ, ℤ, suc, Bool, true, false, cond, if◌then◌else◌, List, [], ◌∷◌, ◌++◌, map, filter, length, take, drop, slice_get, get_or, pos, Option, None, Some, IsTrue, refl, sym, ap, ap₂, subst, subst₂, ◌∙◌, arith, Ordering, Less, Equal, Greater, is_lt, is_gt, append-nil, append_assoc, add-one}
use Rattle.std.specs.Ordering.{is_eq, ordering_reverse, ordering_then}
use Rattle.std.specs.Cmp.{IsTotalOrder, then_total, int_cmp_is}
use Rattle.std.specs.FinMap.{keys}
use Rattle.std.specs.List.{AllByRecursion, enumerate_from}
use Rattle.std.specs.List.Sorted.{IsPermutation, IsSorted}
use Rattle.std.proofs.lemmas.Cmp.{tied_itself, alike_right, upto, on_total}
use Rattle.std.proofs.lemmas.List.{length-map, map-append, take-append-drop}
use Rattle.std.proofs.lemmas.List.Elements.{filter-append, All-from_recursion, recursion_from_All}
use Rattle.std.proofs.lemmas.List.Sorted.{IsPermutation-map, IsPermutation-sym, IsPermutation-trans, length_permutation, All-permutation}
use Rattle.sqlite_value.specs.Order.{Row, column, value_cmp}
use Rattle.sqlite_value.specs.declared.value.Value.{Value}
use Rattle.sqlite_value.specs.declared.value.Value.TheVariants.{Int, Text}
use Rattle.sqlite_value.proofs.OrderLemmas.{value_cmp_total, value_cmp-Int, value_cmp-Text}
use lib.Dec.{T}
use Rattle.std.specs.Int.Signed.{lt_z, lt_z_yes}
use Rattle.std.specs.Str.{bytes_eq}
use Rattle.std.proofs.lemmas.Map.Text.{is_eq-slice_cmp}
use Rattle.sqlite_trees.specs.Tree.{IsAscending, rowid}
use Rattle.sqlite_trees.specs.View.{is_int}
use Rattle.sqlite_trees.proofs.ListLemmas.{map-map, filter-map, IsPermutation-filter}
use Rattle.sqlite_keyed.proofs.ListLemmas.{all_weaker, all_map, all_unmap, filter_all, filter_none, ascending-filter, ascending_weaker}
use Rattle.sqlite_keyed.proofs.SortLemmas.{sorted_unique}
use Rattle.sqlite.specs.Effect.{Database}
use Rattle.sqlite.proofs.Callers.{one_permutation}
use Rattle.xq_atoms.specs.Address.{IsAddress}
use Rattle.xq_trees.specs.Rows.{Row as Node, rows as rows_of, placed_rows}
use Rattle.xq_trees.specs.Tree.{Tree}
use Rattle.xq_tables.specs.Nodes.{cells, bytes_in}
use Rattle.xq_tables.specs.private.Columns.{node_of}
use Rattle.xq_tables.specs.Documents.{AreApart, HaveInts, HasAddress, documents_in, is_at, is_first, rows_at, by_first, tree_at, IsIntact}
use Rattle.xq_tables.specs.private.Adopt.{addressed_node, is_root, is_under, HasOwner, by_place, IsCut, AreFoundIn, AreJudged, IsFoundOf, IsRun, nodes_under, AreDocumentRuns, IsEdition, IsPast, AreNodes}
use Rattle.xq_tables.specs.declared.findings.FoundDocument.{FoundDocument}
use Rattle.xq_tables.specs.Found.{IsFoundAt, found_address}
use Rattle.xq_tables.specs.Tables.{layout_rows}
use Rattle.xq_tables.specs.Reads.{IsPicked}
use Rattle.xq_tables.proofs.Keys.{alone, keys_are, no_roots}
use Rattle.xq_tables.proofs.Lists.{tied}
use Rattle.xq_tables.proofs.Maps.{text_is, same_address, tree_back}
use Rattle.xq_tables.proofs.Orders.{first_total, numbers_rise, sorted_from}
use Rattle.xq_trees.proofs.Lists.{all_append}

-- # Lists

all_moved : {X : Type 0} (P : X → Type 0) (xs ys : List X) → IsPermutation xs ys → AllByRecursion P xs → AllByRecursion P ys
all_moved P xs ys same all = recursion_from_All P ys (All-permutation P xs ys same (All-from_recursion P xs all))

pub all_later : {X : Type 0} (P : X → Type 0) (xs ys : List X) → AllByRecursion P (xs ++ ys) → AllByRecursion P ys
all_later P [] ys all = all
all_later P (x ∷ xs) ys all = all_later P xs ys all.1

rises_later : {X : Type 0} (R : X → X → Type 0) (xs ys : List X) → IsAscending R (xs ++ ys) → IsAscending R ys
rises_later R [] ys up = up
rises_later R (x ∷ xs) ys up = rises_later R xs ys up.1

all_passed : {X : Type 0} (p : X → Bool) (xs : List X) → AllByRecursion (λ x. p x ≡ true) (filter p xs)
all_passed p [] = tt
all_passed p (x ∷ xs) = go (p x) refl (all_passed p xs)
  where
    go : (b : Bool) → p x ≡ b → AllByRecursion (λ x. p x ≡ true) (filter p xs) → AllByRecursion (λ x. p x ≡ true) (cond b (x ∷ filter p xs) (filter p xs))
    go true e more = (e, more)
    go false e more = more

pub none_passed : {X : Type 0} (p : X → Bool) (xs : List X) → length (filter p xs) ≡ 0 → AllByRecursion (λ x. p x ≡ false) xs
none_passed p [] h = tt
none_passed p (x ∷ xs) h = go (p x) refl h (none_passed p xs)
  where
    go : (b : Bool) → p x ≡ b → length (cond b (x ∷ filter p xs) (filter p xs)) ≡ 0 → (length (filter p xs) ≡ 0 → AllByRecursion (λ x. p x ≡ false) xs) → AllByRecursion (λ x. p x ≡ false) (x ∷ xs)
    go true e h more = absurd (omega (arith, h))
    go false e h more = (e, more h)

pub no_length : {X : Type 0} (xs : List X) → length xs ≡ 0 → xs ≡ []
no_length [] h = refl
no_length (x ∷ xs) h = absurd (omega (arith, h))

-- # The edition

editions_moved : (table rows : List Row) → IsPermutation (map (λ r. column r 1 ∷ []) table) rows → IsPermutation (map (λ r. column r 1) table) (map (λ r. column r 0) rows)
editions_moved table rows same =
    subst (λ l. IsPermutation l (map (λ r. column r 0) rows)) (map-map (λ r. column r 0) (λ r. column r 1 ∷ []) table) (IsPermutation-map (λ r. column r 0) _ _ same)

module _ (db : Database) (rows : List Row) (edition : ℤ) (same : IsPermutation (map (λ r. column r 1 ∷ []) (layout_rows db)) rows) where
  pub edition_seen : map (λ r. column r 0) rows ≡ Int edition ∷ [] → IsEdition db edition
  edition_seen one = one_permutation (Int edition) _ (IsPermutation-sym _ _ (subst (IsPermutation (map (λ r. column r 1) (layout_rows db))) one (editions_moved (layout_rows db) rows same)))

  pub edition_shown : IsEdition db edition → map (λ r. column r 0) rows ≡ Int edition ∷ []
  edition_shown one = one_permutation (Int edition) _ (subst (λ l. IsPermutation l (map (λ r. column r 0) rows)) one (editions_moved (layout_rows db) rows same))

-- # Rowids

abbrev pub has_id : Value → Row → Bool
has_id v r = is_eq (value_cmp (rowid r) v)

pub turned_eq : (o : Ordering) → is_eq (ordering_reverse o) ≡ is_eq o
turned_eq Less = refl
turned_eq Equal = refl
turned_eq Greater = refl

other_id : (x y v : Value) → is_eq (value_cmp x v) ≡ true → is_eq (value_cmp x y) ≡ false → is_eq (value_cmp y v) ≡ false
other_id x y v same apart = go (is_eq (value_cmp y v)) refl
  where
    go : (b : Bool) → is_eq (value_cmp y v) ≡ b → is_eq (value_cmp y v) ≡ false
    go false e = e
    go true e = absurd (
        let here : value_cmp x y ≡ value_cmp x v = alike_right value_cmp_total y v x (tied _ e) in
        let f = sym apart ∙ ap is_eq here ∙ same in cc)

pub once : (rows : List Row) → AreApart rows → (v : Value) → length (filter (has_id v) rows) ≤ 1
once [] up v = omega arith
once (r ∷ rs) up v = go (has_id v r) refl (once rs up.1 v)
  where
    go : (b : Bool) → has_id v r ≡ b → length (filter (has_id v) rs) ≤ 1 → length (cond b (r ∷ filter (has_id v) rs) (filter (has_id v) rs)) ≤ 1
    go false e h = h
    go true e h =
        let none : length (filter (has_id v) rs) ≡ 0 =
        ap length (filter_none (has_id v) rs (all_weaker _ (λ y. has_id v y ≡ false) (λ y apart. other_id (rowid r) (rowid y) v e apart) rs up.0)) in
        omega (arith, none)

apart_if_once : (rows : List Row) → ((v : Value) → length (filter (has_id v) rows) ≤ 1) → AreApart rows
apart_if_once [] h = tt
apart_if_once (r ∷ rs) h = (first, apart_if_once rs (λ v. fewer v (has_id v r) (h v)))
  where
    fewer : (v : Value) (b : Bool) → length (cond b (r ∷ filter (has_id v) rs) (filter (has_id v) rs)) ≤ 1 → length (filter (has_id v) rs) ≤ 1
    fewer v true h = omega (arith, h)
    fewer v false h = h

    only : (b : Bool) → has_id (rowid r) r ≡ b → length (cond b (r ∷ filter (has_id (rowid r)) rs) (filter (has_id (rowid r)) rs)) ≤ 1 → length (filter (has_id (rowid r)) rs) ≡ 0
    only true e h = omega (arith, h)
    only false e h = absurd (let f = sym (ap is_eq (tied_itself value_cmp_total (rowid r))) ∙ e in cc)

    first : AllByRecursion (λ y. is_eq (value_cmp (rowid r) (rowid y)) ≡ false) rs
    first =
        all_weaker _ (λ y. is_eq (value_cmp (rowid r) (rowid y)) ≡ false)
        (λ y e. ap is_eq (value_cmp_total.antisymm (rowid r) (rowid y)) ∙ turned_eq (value_cmp (rowid y) (rowid r)) ∙ e) rs
        (none_passed (has_id (rowid r)) rs (only (has_id (rowid r) r) refl (h (rowid r))))

apart_moved : (xs ys : List Row) → IsPermutation xs ys → AreApart xs → AreApart ys
apart_moved xs ys same up = apart_if_once ys (λ v. subst (λ n. n ≤ 1) (sym (length_permutation _ _ (IsPermutation-filter (has_id v) _ _ same))) (once xs up v))

apart_shown : (rows : List Row) → AreApart (map (λ r. rowid r ∷ []) rows) → AreApart rows
apart_shown [] up = tt
apart_shown (r ∷ rs) up = (all_unmap (λ y. is_eq (value_cmp (rowid r) (rowid y)) ≡ false) (λ r. rowid r ∷ []) rs up.0, apart_shown rs up.1)

module _ (table rows : List Row) (same : IsPermutation (map (λ r. rowid r ∷ []) table) rows) where
  pub apart_seen : AreApart rows → AreApart table
  apart_seen up = apart_shown table (apart_moved rows _ (IsPermutation-sym _ _ same) up)

  pub ints_seen : HaveInts rows → HaveInts table
  ints_seen ints = all_unmap (λ r. IsTrue (is_int (rowid r))) (λ r. rowid r ∷ []) table (all_moved (λ r. IsTrue (is_int (rowid r))) rows _ (IsPermutation-sym _ _ same) ints)

-- each rowid is at most the last one
abbrev pub AreUpTo : Option ℤ → List Row → Type 0
AreUpTo None rows = rows ≡ []
AreUpTo (Some n) rows = AllByRecursion (λ r. is_gt (value_cmp (rowid r) (Int n)) ≡ false) rows

-- integers that rise, up to the last one
pub record HaveRisen (last : Option ℤ) (rows : List Row) : Type 0 where
  pub apart : AreApart rows
  pub ints : HaveInts rows
  pub up_to : AreUpTo last rows

strictly : (x m n : Value) → is_gt (value_cmp x m) ≡ false → value_cmp m n ≡ Less → value_cmp x n ≡ Less
strictly x m n low less = go (value_cmp x m) refl low
  where
    go : (o : Ordering) → value_cmp x m ≡ o → is_gt o ≡ false → value_cmp x n ≡ Less
    go Less e h = value_cmp_total.trans x m n e less
    go Equal e h = value_cmp_total.congr x m n e ∙ less
    go Greater e h = absurd cc

apart_more : (rows : List Row) (row : Row) → AreApart rows → AllByRecursion (λ r. is_eq (value_cmp (rowid r) (rowid row)) ≡ false) rows → AreApart (rows ++ row ∷ [])
apart_more [] row up all = (tt, tt)
apart_more (r ∷ rs) row up all = (all_append (λ y. is_eq (value_cmp (rowid r) (rowid y)) ≡ false) rs (row ∷ []) up.0 (all.0, tt), apart_more rs row up.1 all.1)

all_below : (last : Option ℤ) (n : ℤ) (rows : List Row) → AreUpTo last rows → IsPast last n → AllByRecursion (λ r. value_cmp (rowid r) (Int n) ≡ Less) rows
all_below None n rows none past = subst (AllByRecursion (λ r. value_cmp (rowid r) (Int n) ≡ Less)) (sym none) tt
all_below (Some m) n rows low past = all_weaker _ (λ r. value_cmp (rowid r) (Int n) ≡ Less) (λ r h. strictly (rowid r) (Int m) (Int n) h past) rows low

pub past_of : (last : Option ℤ) (m n : ℤ) → last ≡ Some m → IsTrue (lt_z m n) → IsPast last n
past_of last m n is less = subst (λ o. IsPast o n) (sym is) (value_cmp-Int m n ∙ sym (int_cmp_is m n Less (lt_z_yes (subst T (sym less) tt))))

pub risen_none : HaveRisen None []
risen_none = record { apart = tt; ints = tt; up_to = refl }

pub risen_more : (last : Option ℤ) (rows : List Row) (row : Row) (n : ℤ) → HaveRisen last rows → Int n ≡ column row 0 → IsPast last n → HaveRisen (Some n) (rows ++ row ∷ [])
risen_more last rows row n it is past =
    let below = all_below last n rows it.up_to past in
    let own : is_gt (value_cmp (rowid row) (Int n)) ≡ false = ap (λ v. is_gt (value_cmp v (Int n))) (sym is) ∙ ap is_gt (tied_itself value_cmp_total (Int n)) in
    record {
      apart = apart_more rows row it.apart (all_weaker _ (λ r. is_eq (value_cmp (rowid r) (rowid row)) ≡ false) (λ r h. ap (λ v. is_eq (value_cmp (rowid r) v)) (sym is) ∙ ap is_eq h) rows below);
      ints = all_append (λ r. IsTrue (is_int (rowid r))) rows (row ∷ []) it.ints (ap is_int (sym is), tt);
      up_to = all_append (λ r. is_gt (value_cmp (rowid r) (Int n)) ≡ false) rows (row ∷ []) (all_weaker _ (λ r. is_gt (value_cmp (rowid r) (Int n)) ≡ false) (λ r h. ap is_gt h) rows below) (own, tt);
    }

-- # Rows in their order

place_total : IsTotalOrder by_place
place_total = then_total (on_total (λ r. column r 6) value_cmp_total) (on_total (λ r. column r 0) value_cmp_total)

module _ {X : Type 0} (cmp : X → X → Ordering) (total : IsTotalOrder cmp) where
  turned : (o : Ordering) → is_lt o ≡ false → is_gt (ordering_reverse o) ≡ false
  turned Less h = h
  turned Equal h = refl
  turned Greater h = refl

  below_all : (x : X) (ys : List X) → IsSorted cmp (x ∷ ys) → IsAscending (λ a b. is_gt (cmp a b) ≡ false) ys → AllByRecursion (λ y. is_gt (cmp x y) ≡ false) ys
  below_all x [] sorted up = tt
  below_all x (y ∷ ys) sorted up =
      let first : is_gt (cmp x y) ≡ false = ap is_gt (total.antisymm x y) ∙ turned _ (sorted 0 x (omega arith) (omega arith)) in
      (first, all_weaker _ (λ z. is_gt (cmp x z) ≡ false) (λ z. upto total x y z first) ys up.0)

  rises_from : (xs : List X) → IsSorted cmp xs → IsAscending (λ a b. is_gt (cmp a b) ≡ false) xs
  rises_from [] sorted = tt
  rises_from (x ∷ xs) sorted =
      let tail : IsSorted cmp xs = λ k d p q. rw Rattle.std.proofs.Common.add-one (rw Rattle.std.proofs.Common.add-one at (sorted (suc k) d (omega arith) (omega arith))) in
      let up = rises_from xs tail in
      (below_all x xs sorted up, up)

-- no address is lower than that of a row before
abbrev AtMost : Row → Row → Type 0
AtMost a b = is_gt (value_cmp (column a 6) (column b 6)) ≡ false

first_most : (o p : Ordering) → is_gt (ordering_then o p) ≡ false → is_gt o ≡ false
first_most Less p h = refl
first_most Equal p h = refl
first_most Greater p h = absurd cc

addresses_rise : (rows : List Row) → IsSorted by_place rows → IsAscending AtMost rows
addresses_rise rows sorted = ascending_weaker _ AtMost (λ a b h. first_most (value_cmp (column a 6) (column b 6)) _ h) rows (rises_from by_place place_total rows sorted)

-- # The run of the first address

-- how many rows at the front are of the address
abbrev pub run_length : List ℕ → List Row → ℕ
run_length address [] = 0
run_length address (r ∷ rows) = if is_under address r then suc (run_length address rows) else 0

pub own_under : (a own : List ℕ) (r : Row) (b : Bool) → b ≡ bytes_eq own a → column r 6 ≡ Text own → b ≡ is_under a r
own_under a own r b is text = is ∙ sym (is_eq-slice_cmp own a) ∙ ap is_eq (sym (value_cmp-Text own a)) ∙ ap (λ v. is_eq (value_cmp v (Text a))) (sym text)

pub none_under : (a : List ℕ) (r : Row) → ((b : List ℕ) → column r 6 ≢ Text b) → false ≡ is_under a r
none_under a r other = go (is_under a r) refl
  where
    go : (b : Bool) → is_under a r ≡ b → false ≡ is_under a r
    go false e = sym e
    go true e = absurd (other a (text_is (column r 6) a e))

all_in_run : (a : List ℕ) (rows : List Row) → AllByRecursion (λ r. is_under a r ≡ true) (take (run_length a rows) rows)
all_in_run a [] = tt
all_in_run a (r ∷ rs) = go (is_under a r) refl (all_in_run a rs)
  where
    go : (b : Bool) → is_under a r ≡ b → AllByRecursion (λ r. is_under a r ≡ true) (take (run_length a rs) rs)
        → AllByRecursion (λ r. is_under a r ≡ true) (take (cond b (suc (run_length a rs)) 0) (r ∷ rs))
    go true e more = (e, more)
    go false e more = tt

above : (o : Ordering) → is_lt o ≡ false → is_eq o ≡ false → o ≡ Greater
above Less h e = absurd cc
above Equal h e = absurd cc
above Greater h e = refl

still_above : (a : List ℕ) (r x : Row) → value_cmp (column r 6) (Text a) ≡ Greater → AtMost r x → is_under a x ≡ false
still_above a r x high up = go (is_under a x) refl
  where
    go : (b : Bool) → is_under a x ≡ b → is_under a x ≡ false
    go false e = e
    go true e = absurd (
        let same : value_cmp (column r 6) (column x 6) ≡ value_cmp (column r 6) (Text a) = alike_right value_cmp_total (column x 6) (Text a) (column r 6) (tied _ e) in
        let f = sym up ∙ ap is_gt (same ∙ high) in cc)

none_after : (a : List ℕ) (rows : List Row) → AllByRecursion (λ r. is_lt (value_cmp (column r 6) (Text a)) ≡ false) rows → IsAscending AtMost rows → filter (is_under a) (drop (run_length a rows) rows) ≡ []
none_after a [] low up = refl
none_after a (r ∷ rs) low up = go (is_under a r) refl (none_after a rs low.1 up.1)
  where
    go : (b : Bool) → is_under a r ≡ b → filter (is_under a) (drop (run_length a rs) rs) ≡ [] → filter (is_under a) (drop (cond b (suc (run_length a rs)) 0) (r ∷ rs)) ≡ []
    go true e more = more
    go false e more =
        let high = above _ low.0 e in
        filter_none (is_under a) (r ∷ rs) (e, all_weaker _ (λ x. is_under a x ≡ false) (λ x h. still_above a r x high h) rs up.0)

turned_gt : (o : Ordering) → is_gt o ≡ false → is_lt (ordering_reverse o) ≡ false
turned_gt Less h = refl
turned_gt Equal h = refl
turned_gt Greater h = absurd cc

joined_none : {X : Type 0} (p : X → Bool) (xs ys : List X) → filter p (xs ++ ys) ≡ [] → filter p ys ≡ []
joined_none p [] ys h = h
joined_none p (x ∷ xs) ys h = go (p x) h (joined_none p xs ys)
  where
    go : (b : Bool) → cond b (x ∷ filter p (xs ++ ys)) (filter p (xs ++ ys)) ≡ [] → (filter p (xs ++ ys) ≡ [] → filter p ys ≡ []) → filter p ys ≡ []
    go true h more = absurd cc
    go false h more = more h

other_owner : (a b : List ℕ) (r : Row) → b ≢ a → is_under a r ≡ true → is_under b r ≡ false
other_owner a b r apart h = go (is_under b r) refl
  where
    go : (t : Bool) → is_under b r ≡ t → is_under b r ≡ false
    go false e = e
    go true e = absurd (apart (let f = sym (text_is (column r 6) b e) ∙ text_is (column r 6) a h in ap bytes_in f))

-- the rows of a document have one root, the first
some_nodes : (t : Tree) → map cells (placed_rows t) ≢ []
some_nodes t none = absurd cc

none_root : (rs : List Row) → filter is_root (map node_of rs) ≡ [] → filter is_root rs ≡ []
none_root rs none = no_length (filter is_root rs) (sym (length-map (filter is_root rs) node_of) ∙ ap length (sym (filter-map is_root node_of rs) ∙ none))

roots_in : (a : List ℕ) (run : List Row) (nodes : List Node) → nodes ≢ [] → AllByRecursion (λ r. is_under a r ≡ true) run → map node_of run ≡ map cells (enumerate_from 0 nodes)
    → map (λ r. column r 6) (filter is_root run) ≡ Text a ∷ []
roots_in a run [] some under same = absurd (some refl)
roots_in a [] (n ∷ ns) some under same = absurd cc
roots_in a (r ∷ rs) (n ∷ ns) some under same =
    let head : node_of r ≡ cells (0, n) = ap (λ l. get_or l 0 []) same in
    let tail : map node_of rs ≡ map cells (enumerate_from 1 ns) = ap (drop 1) same in
    let zero_is : column r 0 ≡ Int (pos 0) = ap (λ l. column l 0) head in
    let passes_it : is_root r ≡ true = ap (λ v. is_eq (value_cmp v (Int (pos 0)))) zero_is ∙ ap is_eq (tied_itself value_cmp_total (Int (pos 0))) in
    let none = none_root rs (ap (filter is_root) tail ∙ no_roots 1 ns (omega arith)) in
    ap (λ b. map (λ r. column r 6) (cond b (r ∷ filter is_root rs) (filter is_root rs))) passes_it ∙ ap (λ l. column r 6 ∷ map (λ r. column r 6) l) none ∙ ap (λ v. v ∷ []) (text_is (column r 6) a under.0)

roots_of : (a : List ℕ) (run : List Row) (t : Tree) → AllByRecursion (λ r. is_under a r ≡ true) run → map node_of run ≡ map cells (placed_rows t) → map (λ r. column r 6) (filter is_root run) ≡ Text a ∷ []
roots_of a run t under same = roots_in a run (rows_of t) (λ none. absurd cc) under same

module _ (a : List ℕ) (first : Row) (own : column first 6 ≡ Text a) where
  pub passes : (r : Row) → r ≡ first → is_under a r ≡ true
  passes r same = ap (λ v. is_eq (value_cmp v (Text a))) (ap (λ x. column x 6) same ∙ own) ∙ ap is_eq (tied_itself value_cmp_total (Text a))

  some_run : (rest : List Row) → slice_get rest 0 ≡ Some first → map node_of (take (run_length a rest) rest) ≢ []
  some_run [] here none = absurd cc
  some_run (r ∷ rs) here none =
      let same : r ≡ first = cc in
      let all : map node_of (take (suc (run_length a rs)) (r ∷ rs)) ≡ [] = subst (λ b. map node_of (take (cond b (suc (run_length a rs)) 0) (r ∷ rs)) ≡ []) (passes r same) none in
      absurd cc

  not_none : (rest : List Row) → slice_get rest 0 ≡ Some first → filter (is_under a) rest ≢ []
  not_none [] here none = absurd cc
  not_none (r ∷ rs) here none =
      let same : r ≡ first = cc in
      let all : r ∷ filter (is_under a) rs ≡ [] = subst (λ b. cond b (r ∷ filter (is_under a) rs) (filter (is_under a) rs) ≡ []) (passes r same) none in
      absurd cc

  not_lower : (rest : List Row) → slice_get rest 0 ≡ Some first → IsAscending AtMost rest → AllByRecursion (λ r. is_lt (value_cmp (column r 6) (Text a)) ≡ false) rest
  not_lower [] here up = tt
  not_lower (r ∷ rs) here up =
      let same : r ≡ first = cc in
      let text : column r 6 ≡ Text a = ap (λ x. column x 6) same ∙ own in (
        ap (λ v. is_lt (value_cmp v (Text a))) text ∙ ap is_lt (tied_itself value_cmp_total (Text a)),
        all_weaker _ (λ x. is_lt (value_cmp (column x 6) (Text a)) ≡ false)
            (λ x h. ap is_lt (value_cmp_total.antisymm (column x 6) (Text a)) ∙ turned_gt (value_cmp (Text a) (column x 6)) (subst (λ v. is_gt (value_cmp v (column x 6)) ≡ false) text h)) rs up.0,
      )

  owned_first : (rest : List Row) → slice_get rest 0 ≡ Some first → AllByRecursion HasOwner rest → IsAddress a
  owned_first [] here all = absurd cc
  owned_first (r ∷ rs) here all =
      let same : r ≡ first = cc in
      let text : Text all.0.0 ≡ Text a = sym all.0.2 ∙ ap (λ x. column x 6) same ∙ own in
      subst IsAddress (ap bytes_in text) all.0.1

  module _ (past rest : List Row) (here : slice_get rest 0 ≡ Some first) (up : IsAscending AtMost rest) (cut : IsCut past rest) where
    abbrev run : List Row
    run = take (run_length a rest) rest

    abbrev more : List Row
    more = drop (run_length a rest) rest

    whole_rest : run ++ more ≡ rest
    whole_rest = take-append-drop (run_length a rest) rest

    in_run : AllByRecursion (λ r. is_under a r ≡ true) run
    in_run = all_in_run a rest

    gone : filter (is_under a) more ≡ []
    gone = none_after a rest (not_lower rest here up) up

    others : (b : List ℕ) → b ≢ a → filter (is_under b) run ≡ []
    others b apart = filter_none (is_under b) run (all_weaker _ (λ r. is_under b r ≡ false) (λ r h. other_owner a b r apart h) run in_run)

    before : filter (is_under a) past ≡ []
    before = elim (cut a) [ inl h ↦ h | inr h ↦ absurd (not_none rest here h) ]

    here_is : nodes_under a (past ++ rest) ≡ map node_of run
    here_is =
        let mine : filter (is_under a) rest ≡ run =
        ap (filter (is_under a)) (sym whole_rest) ∙ filter-append (is_under a) run more ∙ ap₂ ◌++◌ (filter_all (is_under a) run in_run) gone ∙ append-nil run in
        ap (map node_of) (filter-append (is_under a) past rest ∙ ap₂ ◌++◌ before mine)

    told_more : AreDocumentRuns past → IsAddress a → IsRun (map node_of run) → AreDocumentRuns (past ++ run)
    told_more told good is = record {
      owned = all_append HasOwner past run told.owned (all_weaker _ HasOwner (λ r h. (a, good, text_is (column r 6) a h)) run in_run);
      whole = λ b. elim (same_address a b) [
        | inl e ↦
            let own_is : nodes_under a (past ++ run) ≡ map node_of run = ap (map node_of) (filter-append (is_under a) past run ∙ ap₂ ◌++◌ before (filter_all (is_under a) run in_run)) in
            inr (subst (λ x. IsRun (nodes_under x (past ++ run))) (sym e) (subst IsRun (sym own_is) is))
        | inr apart ↦
            let other_is : nodes_under b (past ++ run) ≡ nodes_under b past = ap (map node_of) (filter-append (is_under b) past run ∙ ap (λ l. filter (is_under b) past ++ l) (others b apart) ∙ append-nil _) in
            subst (λ l. (l ≡ []) ⊎ IsRun l) (sym other_is) (told.whole b)
      ];
    }

    cut_more : IsCut (past ++ run) more
    cut_more b = elim (same_address a b) [
      | inl e ↦ inr (subst (λ x. filter (is_under x) more ≡ []) (sym e) gone)
      | inr apart ↦ elim (cut b) [
        | inl h ↦ inl (filter-append (is_under b) past run ∙ ap₂ ◌++◌ h (others b apart))
        | inr h ↦ inr (joined_none (is_under b) run more (ap (filter (is_under b)) whole_rest ∙ h))
      ]
    ]

    -- what was found stays as it was
    others_stay : (d : FoundDocument) → IsFoundOf (nodes_under (found_address d) past) d → IsFoundOf (nodes_under (found_address d) (past ++ run)) d
    others_stay d it = elim (same_address a (found_address d)) [
      | inl e ↦
          let gone_too : nodes_under (found_address d) past ≡ [] = ap (map node_of) (subst (λ x. filter (is_under x) past ≡ []) (sym e) before) in
          absurd (some_nodes it.tree (sym it.same ∙ gone_too))
      | inr apart ↦
          let other_is : nodes_under (found_address d) (past ++ run) ≡ nodes_under (found_address d) past = ap (map node_of) (filter-append (is_under (found_address d)) past run ∙ ap (λ l. filter (is_under (found_address d)) past ++ l) (others (found_address d) apart) ∙ append-nil _) in
          subst (λ l. IsFoundOf l d) (sym other_is) it
    ]

    found_more : (found : List FoundDocument) (d : FoundDocument) → AreFoundIn past found → found_address d ≡ a → IsFoundOf (map node_of run) d → AreFoundIn (past ++ run) (found ++ d ∷ [])
    found_more found d were address it = record {
      listed =
          ap (map (λ r. column r 6)) (filter-append is_root past run) ∙ map-append (λ r. column r 6) (filter is_root past) (filter is_root run) ∙ ap₂ ◌++◌ were.listed (roots_of a run it.tree in_run it.same)
          ∙ ap (λ x. map (λ d. Text (found_address d)) found ++ Text x ∷ []) (sym address) ∙ sym (map-append (λ d. Text (found_address d)) found (d ∷ []));
      each = all_append (λ d. IsFoundOf (nodes_under (found_address d) (past ++ run)) d) found (d ∷ []) (all_weaker _ _ others_stay found were.each) (own_found d address it, tt);
    }
      where
        own_found : (d : FoundDocument) → found_address d ≡ a → IsFoundOf (map node_of run) d → IsFoundOf (nodes_under (found_address d) (past ++ run)) d
        own_found d address it =
            let own_is : nodes_under a (past ++ run) ≡ map node_of run = ap (map node_of) (filter-append (is_under a) past run ∙ ap₂ ◌++◌ before (filter_all (is_under a) run in_run)) in
            subst (λ l. IsFoundOf l d) (sym (ap (λ x. nodes_under x (past ++ run)) address ∙ own_is)) it

    bad_run : ¬ (IsAddress a × IsRun (map node_of run)) → ¬ AreDocumentRuns (past ++ rest)
    bad_run bad told = elim (told.whole a) [
      | inl none ↦ some_run rest here (sym here_is ∙ none)
      | inr ok ↦ bad (owned_first rest here (all_later HasOwner past rest told.owned), subst IsRun here_is ok)
    ]

pub judged_none : (all : List Row) → AreJudged all all []
judged_none all = record { past = []; is = refl; told = λ sorted. (record { owned = tt; whole = λ b. inl refl }, λ b. inl refl, record { listed = refl; each = tt }) }

rest_rises : (all rest past : List Row) → past ++ rest ≡ all → IsSorted by_place all → IsAscending AtMost rest
rest_rises all rest past is sorted = rises_later AtMost past rest (subst (IsAscending AtMost) (sym is) (addresses_rise all sorted))

module _ (all rest : List Row) (found : List FoundDocument) (judged : AreJudged all rest found) (a : List ℕ) (first : Row) (here : slice_get rest 0 ≡ Some first) (own : column first 6 ≡ Text a) where
  pub judged_more : (d : FoundDocument) → IsAddress a → found_address d ≡ a → IsFoundOf (map node_of (take (run_length a rest) rest)) d → AreJudged all (drop (run_length a rest) rest) (found ++ d ∷ [])
  judged_more d good address is = record {
    past = judged.past ++ take (run_length a rest) rest;
    is = append_assoc judged.past (take (run_length a rest) rest) (drop (run_length a rest) rest) ∙ ap (λ l. judged.past ++ l) (take-append-drop (run_length a rest) rest) ∙ judged.is;
    told = λ sorted.
        let so_far = judged.told sorted in
        let up = rest_rises all rest judged.past judged.is sorted in (
          told_more a first own judged.past rest here up so_far.1 so_far.0 good (is.tree, is.is_document, is.same),
          cut_more a first own judged.past rest here up so_far.1,
          found_more a first own judged.past rest here up so_far.1 found d so_far.2 address is,
        );
  }

  pub judged_bad : ¬ (IsAddress a × IsRun (map node_of (take (run_length a rest) rest))) → IsSorted by_place all → ¬ AreDocumentRuns all
  judged_bad bad sorted told =
      let so_far = judged.told sorted in
      let up = rest_rises all rest judged.past judged.is sorted in
      bad_run a first own judged.past rest here up so_far.1 bad (subst AreDocumentRuns (sym judged.is) told)

pub judged_all : (all rest : List Row) (found : List FoundDocument) → AreJudged all rest found → rest ≡ [] → IsSorted by_place all → AreDocumentRuns all × AreFoundIn all found
judged_all all rest found judged none sorted =
    let e : judged.past ≡ all = sym (append-nil judged.past) ∙ ap (λ l. judged.past ++ l) (sym none) ∙ judged.is in
    let told = judged.told sorted in
    (subst AreDocumentRuns e told.0, subst (λ l. AreFoundIn l found) e told.2)

-- # The table

nodes_of_named : (a : List ℕ) (table : List Row) → nodes_under a (map addressed_node table) ≡ rows_at a table
nodes_of_named a table = ap (map node_of) (filter-map (is_under a) addressed_node table) ∙ map-map node_of addressed_node (filter (is_at a) table)

module _ (table rows : List Row) (are : AreNodes table rows) where
  moved : (a : List ℕ) → IsPermutation (rows_at a table) (nodes_under a rows)
  moved a = subst (λ l. IsPermutation l (nodes_under a rows)) (nodes_of_named a table) (IsPermutation-map node_of _ _ (IsPermutation-filter (is_under a) _ _ are.same))

  none_too : (a : List ℕ) → nodes_under a rows ≡ [] → rows_at a table ≡ []
  none_too a none = no_length (rows_at a table) (sym (length_permutation _ _ (moved a)) ∙ ap length none)

  pub table_named : AreDocumentRuns rows → AllByRecursion HasAddress table
  table_named told = all_unmap HasOwner addressed_node table (all_moved HasOwner rows (map addressed_node table) (IsPermutation-sym _ _ are.same) told.owned)

  pub table_whole : AreDocumentRuns rows → (a : List ℕ) → (rows_at a table ≡ []) ⊎ IsIntact (rows_at a table)
  table_whole told a = elim (told.whole a) [
    | inl none ↦ inl (none_too a none)
    | inr is ↦ inr (record { tree = is.0; is_document = is.1; same = subst (IsPermutation (rows_at a table)) is.2 (moved a) })
  ]

  -- the documents that were found are those of the table
  rises_shown : (l : List Row) → IsAscending AtMost l → IsAscending (λ x y. is_gt (by_first x y) ≡ false) (map (λ r. column r 6 ∷ []) l)
  rises_shown [] up = tt
  rises_shown (r ∷ rs) up = (all_map (λ y. is_gt (by_first (column r 6 ∷ []) y) ≡ false) (λ r. column r 6 ∷ []) rs up.0, rises_shown rs up.1)

  roots_picked : (found : List FoundDocument) → AreFoundIn rows found → IsPicked is_first (λ r. column r 1 ∷ []) table (map alone (map found_address found))
  roots_picked found are_found =
      let shown : map (λ r. column r 6 ∷ []) (filter is_root rows) ≡ map alone (map found_address found) =
      sym (map-map (λ v. v ∷ []) (λ r. column r 6) (filter is_root rows)) ∙ ap (map (λ v. v ∷ [])) are_found.listed ∙ map-map (λ v. v ∷ []) (λ d. Text (found_address d)) found ∙ sym (map-map alone found_address found) in
      let first : map (λ r. column r 6 ∷ []) (filter is_root (map addressed_node table)) ≡ map (λ r. column r 1 ∷ []) (filter is_first table) =
      ap (map (λ r. column r 6 ∷ [])) (filter-map is_root addressed_node table) ∙ map-map (λ r. column r 6 ∷ []) addressed_node (filter is_first table) in
      record {
        same = subst₂ IsPermutation first shown (IsPermutation-map (λ r. column r 6 ∷ []) _ _ (IsPermutation-filter is_root _ _ are.same));
        sorted = subst (IsSorted by_first) shown (sorted_from by_first first_total _ (rises_shown (filter is_root rows) (ascending-filter AtMost is_root rows (addresses_rise rows are.sorted))));
      }

  pub table_found : AreDocumentRuns rows → (found : List FoundDocument) → AreFoundIn rows found → (map found_address found ≡ keys (documents_in table)) × AllByRecursion (λ d. IsFoundAt (tree_at table (found_address d)) d) found
  table_found told found are_found = (
    keys_are table (map found_address found) (table_named told) (table_whole told) (roots_picked found are_found),
    all_weaker _ _ (λ d it. subst (λ t. IsFoundAt t d) (sym (tree_back it.tree (rows_at (found_address d) table) (subst (IsPermutation (rows_at (found_address d) table)) it.same (moved (found_address d))))) it.kept) found are_found.each,
  )

  -- and back: the nodes of an address stand in the order of their numbers
  numbers_fall_not : (o p : Ordering) → o ≡ Equal → is_gt (ordering_then o p) ≡ false → is_gt p ≡ false
  numbers_fall_not o p e h = subst (λ x. is_gt (ordering_then x p) ≡ false) e h

  by_number : (a : List ℕ) (x y : Row) → is_under a x ≡ true → is_under a y ≡ true → is_gt (by_place x y) ≡ false → is_gt (by_first (node_of x) (node_of y)) ≡ false
  by_number a x y hx hy h =
      let same : value_cmp (column x 6) (column y 6) ≡ Equal =
      ap (λ v. value_cmp v (column y 6)) (text_is (column x 6) a hx) ∙ ap (value_cmp (Text a)) (text_is (column y 6) a hy) ∙ tied_itself value_cmp_total (Text a) in
      numbers_fall_not _ (value_cmp (column x 0) (column y 0)) same h

  run_rises : (a : List ℕ) (l : List Row) → AllByRecursion (λ r. is_under a r ≡ true) l → IsAscending (λ x y. is_gt (by_place x y) ≡ false) l → IsAscending (λ x y. is_gt (by_first x y) ≡ false) (map node_of l)
  run_rises a [] all up = tt
  run_rises a (r ∷ rs) all up = (each rs all.1 up.0, run_rises a rs all.1 up.1)
    where
      each : (l : List Row) → AllByRecursion (λ r. is_under a r ≡ true) l → AllByRecursion (λ y. is_gt (by_place r y) ≡ false) l → AllByRecursion (λ y. is_gt (by_first (node_of r) y) ≡ false) (map node_of l)
      each [] all up = tt
      each (y ∷ ys) more up = (by_number a r y all.0 more.0 up.0, each ys more.1 up.1)

  nodes_sorted : (a : List ℕ) → IsSorted by_first (nodes_under a rows)
  nodes_sorted a =
      let up = ascending-filter (λ x y. is_gt (by_place x y) ≡ false) (is_under a) rows (rises_from by_place place_total rows are.sorted) in
      sorted_from by_first first_total _ (run_rises a (filter (is_under a) rows) (all_passed (is_under a) rows) up)

  pub told_of : AllByRecursion HasAddress table → ((a : List ℕ) → (rows_at a table ≡ []) ⊎ IsIntact (rows_at a table)) → AreDocumentRuns rows
  told_of named_all whole = record {
    owned = all_moved HasOwner (map addressed_node table) rows are.same (all_map HasOwner addressed_node table named_all);
    whole = λ a. elim (whole a) [
      | inl none ↦ inl (no_length (nodes_under a rows) (length_permutation _ _ (moved a) ∙ ap length none))
      | inr it ↦ inr (
        it.tree,
        it.is_document,
        sorted_unique by_first first_total (map cells (placed_rows it.tree)) (nodes_under a rows) (numbers_rise 0 (rows_of it.tree)) (IsPermutation-trans _ _ _ (IsPermutation-sym _ _ it.same) (moved a)) (nodes_sorted a),
      )
    ];
  }
