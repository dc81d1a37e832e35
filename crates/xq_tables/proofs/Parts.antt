-- A part of an address's rows after the other gives way to new rows.
use Rattle.std.proofs.Common.{◌≡◌, ◌≢◌, ◌&&◌, ◌||◌, ◌+◌, ◌-◌, ◌<◌, ◌≤◌, inl, inr, ℕ, zero, suc, pos, Bool, true, false, not, cond, List, [], ◌∷◌, ◌++◌, map, filter, length, take, drop, refl, sym, ap, ap₂, subst, subst₂, ◌∙◌, arith, append-nil, append_assoc, take-add, Ordering, Less, Equal, Greater, nat_lt}
use Rattle.std.specs.Ordering.{is_ge, is_gt, is_lt, ordering_reverse}
use Rattle.std.specs.List.{AllByRecursion, enumerate_from, slice_range}
use Rattle.std.specs.List.Sorted.{IsPermutation}
use Rattle.std.proofs.lemmas.Cmp.{upto}
use Rattle.std.proofs.lemmas.Int.{ints}
use Rattle.std.proofs.lemmas.List.{length-map, length-append, length-drop, length-take, take_all}
use Rattle.std.proofs.lemmas.List.Elements.{filter-append}
use Rattle.std.proofs.lemmas.List.Filters.{length-filter_both}
use Rattle.std.proofs.lemmas.List.FromFn.{length-enumerate_from}
use Rattle.std.proofs.lemmas.List.Sorted.{IsPermutation-refl, IsPermutation-trans, IsPermutation-append_left, IsPermutation-sym, length_permutation}
use Rattle.sqlite_value.specs.Order.{Row, column, value_cmp}
use Rattle.sqlite_value.specs.declared.value.Value.{Value}
use Rattle.sqlite_value.specs.declared.value.Value.TheVariants.{Int}
use Rattle.sqlite_value.proofs.OrderLemmas.{value_cmp_total, value_cmp-Int}
use Rattle.sqlite_trees.proofs.ListLemmas.{IsPermutation-filter, filter-filter, all-filter}
use Rattle.sqlite_keyed.specs.Lists.{delete_where}
use Rattle.sqlite.specs.Effect.{Database}
use Rattle.xq_atoms.specs.Address.{IsAddress}
use Rattle.xq_trees.specs.Tree.{Tree, IsTree, nodes}
use Rattle.xq_trees.specs.Forest.{count}
use Rattle.xq_trees.specs.Rows.{Row as Node, rows as rows_of, measured, placed_rows}
use Rattle.xq_trees.specs.Nesting.{count-measured}
use Rattle.xq_tables.specs.Documents.{is_at, node_columns, rows_at, HasAddress, IsSound, IsStore}
use Rattle.xq_tables.specs.Nodes.{cells}
use Rattle.xq_tables.specs.Writes.{AreFrom, Deletes, HasDropped, Puts, is_from}
use Rattle.xq_tables.specs.private.Statements.{HasRenewed, is_between, is_part}
use Rattle.xq_tables.specs.Labels.{shown_rows}
use Rattle.xq_tables.specs.Tables.{layout_rows}
use Rattle.xq_tables.proofs.Lists.{both_filters, same_test}
use Rattle.xq_tables.proofs.Loads.{length-labels}
use Rattle.xq_tables.proofs.Maps.{apart_rows}

-- # Numbers from k on

at_least : (a b : Value) → is_ge (value_cmp a b) ≡ not (is_gt (value_cmp b a))
at_least a b = ap is_ge (value_cmp_total.antisymm a b) ∙ turned (value_cmp b a)
  where
    turned : (o : Ordering) → is_ge (ordering_reverse o) ≡ not (is_gt o)
    turned Less = refl
    turned Equal = refl
    turned Greater = refl

not_true : (b : Bool) → not b ≡ true → b ≡ false
not_true true e = absurd cc
not_true false e = refl

in_order : (j k : ℕ) → j ≤ k → is_gt (value_cmp (Int (pos j)) (Int (pos k))) ≡ false
in_order j k h = ap is_gt (value_cmp-Int (pos j) (pos k)) ∙ grind (arith, ints)

-- what is from k on is from each number before it on
pub from_before : (j k : ℕ) → j ≤ k → (x : Row) → is_from k x ≡ true → is_from j x ≡ true
from_before j k h x e =
    let v = column x 0 in
    let above : is_gt (value_cmp (Int (pos k)) v) ≡ false = not_true _ (sym (at_least v (Int (pos k))) ∙ e) in
    at_least v (Int (pos j)) ∙ ap not (upto value_cmp_total (Int (pos j)) (Int (pos k)) v (in_order j k h) above)

split : (b : Bool) (o : Ordering) → (is_ge o ≡ true → b ≡ true) → cond b (not (b && is_lt o)) false ≡ is_ge o
split true Less h = refl
split true Equal h = refl
split true Greater h = refl
split false Less h = refl
split false Equal h = h refl
split false Greater h = h refl

-- what is from j on, and not between j and k, is from k on
later : (j k : ℕ) → j ≤ k → (x : Row) → cond (is_from j x) (not (is_between j k x)) false ≡ is_from k x
later j k h x = split (is_from j x) (value_cmp (column x 0) (Int (pos k))) (from_before j k h x)

pub number_from : (k n : ℕ) → k ≤ n → is_ge (value_cmp (Int (pos n)) (Int (pos k))) ≡ true
number_from k n h = ap is_ge (value_cmp-Int (pos n) (pos k)) ∙ grind (arith, ints)

pub number_before : (k n : ℕ) → n < k → is_ge (value_cmp (Int (pos n)) (Int (pos k))) ≡ false
number_before k n h = ap is_ge (value_cmp-Int (pos n) (pos k)) ∙ grind (arith, ints)

-- # Lists of rows

pub all_pass : (p : Row → Bool) (xs : List Row) → AllByRecursion (λ x. p x ≡ true) xs → filter p xs ≡ xs
all_pass p [] h = refl
all_pass p (x ∷ xs) h = rw h.0 (ap (λ l. x ∷ l) (all_pass p xs h.1))

pub none_pass : (p : Row → Bool) (xs : List Row) → AllByRecursion (λ x. p x ≡ false) xs → filter p xs ≡ []
none_pass p [] h = refl
none_pass p (x ∷ xs) h = rw h.0 (none_pass p xs h.1)

pub outside : (j k : ℕ) (xs : List Row) → AllByRecursion (λ x. is_from j x ≡ false) xs → AllByRecursion (λ x. not (is_between j k x) ≡ true) xs
outside j k [] h = tt
outside j k (x ∷ xs) h = (ap (λ b. not (b && is_lt (value_cmp (column x 0) (Int (pos k))))) h.0, outside j k xs h.1)

-- the rows of an address without a part of them
pub rows_without : (a : List ℕ) (j k : ℕ) (table : List Row) → rows_at a (delete_where (is_part a j k) table) ≡ filter (λ x. not (is_between j k x)) (rows_at a table)
rows_without a j k [] = refl
rows_without a j k (r ∷ rs) = go (is_at a r) (is_between j k (node_columns r)) refl refl (rows_without a j k rs)
  where
    go : (t b : Bool) → is_at a r ≡ t → is_between j k (node_columns r) ≡ b → rows_at a (delete_where (is_part a j k) rs) ≡ filter (λ x. not (is_between j k x)) (rows_at a rs)
        → rows_at a (cond (not (t && b)) (r ∷ delete_where (is_part a j k) rs) (delete_where (is_part a j k) rs)) ≡ filter (λ x. not (is_between j k x)) (map node_columns (cond t (r ∷ filter (is_at a) rs) (filter (is_at a) rs)))
    go true true e f h = h ∙ sym (ap (λ b. cond (not b) (node_columns r ∷ filter (λ x. not (is_between j k x)) (rows_at a rs)) (filter (λ x. not (is_between j k x)) (rows_at a rs))) f)
    go true false e f h =
        ap (λ t. map node_columns (cond t (r ∷ filter (is_at a) (delete_where (is_part a j k) rs)) (filter (is_at a) (delete_where (is_part a j k) rs)))) e ∙ ap (λ l. node_columns r ∷ l) h
        ∙ sym (ap (λ b. cond (not b) (node_columns r ∷ filter (λ x. not (is_between j k x)) (rows_at a rs)) (filter (λ x. not (is_between j k x)) (rows_at a rs))) f)
    go false b e f h = ap (λ t. map node_columns (cond t (r ∷ filter (is_at a) (delete_where (is_part a j k) rs)) (filter (is_at a) (delete_where (is_part a j k) rs)))) e ∙ h

-- and how many the part has
part_length : (a : List ℕ) (j k : ℕ) (table : List Row) → length (filter (is_part a j k) table) ≡ length (filter (is_between j k) (rows_at a table))
part_length a j k [] = refl
part_length a j k (r ∷ rs) = go (is_at a r) (is_between j k (node_columns r)) refl (part_length a j k rs)
  where
    go : (t b : Bool) → is_between j k (node_columns r) ≡ b → length (filter (is_part a j k) rs) ≡ length (filter (is_between j k) (rows_at a rs))
        → length (cond (t && b) (r ∷ filter (is_part a j k) rs) (filter (is_part a j k) rs)) ≡ length (filter (is_between j k) (map node_columns (cond t (r ∷ filter (is_at a) rs) (filter (is_at a) rs))))
    go true true f h = ap suc h ∙ sym (ap (λ b. length (cond b (node_columns r ∷ filter (is_between j k) (rows_at a rs)) (filter (is_between j k) (rows_at a rs)))) f)
    go true false f h = h ∙ sym (ap (λ b. length (cond b (node_columns r ∷ filter (is_between j k) (rows_at a rs)) (filter (is_between j k) (rows_at a rs)))) f)
    go false b f h = h

-- other addresses have all of theirs
pub rows_beside : (a b : List ℕ) (j k : ℕ) (table : List Row) → b ≢ a → rows_at b (delete_where (is_part a j k) table) ≡ rows_at b table
rows_beside a b j k table apart = ap (map node_columns) (filter-filter (is_at b) (λ r. not (is_part a j k r)) (λ r here. passes r (is_at a r) (apart_rows a b r apart here)) table)
  where
    passes : (r : Row) (t : Bool) → not t ≡ true → not (t && is_between j k (node_columns r)) ≡ true
    passes r true e = absurd cc
    passes r false e = refl

-- # One part after the other

-- of the rows of the address, the so many with numbers below k have given way to these
pub record IsReplaced (a : List ℕ) (k deleted : ℕ) (added : List Row) (old new : Database) : Type 0 where
  pub sound : IsSound new
  pub layout : layout_rows new ≡ layout_rows old
  pub named : IsAddress a → AllByRecursion HasAddress (shown_rows old) → AllByRecursion HasAddress (shown_rows new)
  pub own : IsPermutation (filter (is_from k) (rows_at a (shown_rows old)) ++ added) (rows_at a (shown_rows new))
  pub others : (b : List ℕ) → b ≢ a → rows_at b (shown_rows new) ≡ rows_at b (shown_rows old)
  pub gone : deleted + length (filter (is_from k) (rows_at a (shown_rows old))) ≡ length (rows_at a (shown_rows old))

left_of : (j k : ℕ) (all added : List Row) → j ≤ k → AllByRecursion (λ x. is_from j x ≡ false) added → filter (λ x. not (is_between j k x)) (filter (is_from j) all ++ added) ≡ filter (is_from k) all ++ added
left_of j k all added h below =
    filter-append (λ x. not (is_between j k x)) (filter (is_from j) all) added
    ∙ ap₂ ◌++◌ (both_filters (λ x. not (is_between j k x)) (is_from j) all ∙ same_test _ _ (later j k h) all) (all_pass (λ x. not (is_between j k x)) added (outside j k added below))

-- the rows from j up to k go as well
pub cut_more : (a : List ℕ) (j k deleted count : ℕ) (added : List Row) (old mid new : Database) → j ≤ k → AllByRecursion (λ x. is_from j x ≡ false) added
    → IsReplaced a j deleted added old mid → HasDropped (is_part a j k) mid new → count ≡ length (filter (is_part a j k) (shown_rows mid)) → IsReplaced a k (deleted + count) added old new
cut_more a j k deleted count added old mid new h below it dropped counted = record {
  sound = dropped.sound;
  layout = dropped.layout ∙ it.layout;
  named = λ good all. subst (AllByRecursion HasAddress) (sym dropped.rows) (all-filter _ (λ r. not (is_part a j k r)) (shown_rows mid) (it.named good all));
  own = own;
  others = λ b other. ap (rows_at b) dropped.rows ∙ rows_beside a b j k (shown_rows mid) other ∙ it.others b other;
  gone = gone;
}
  where
    all : List Row
    all = rows_at a (shown_rows old)

    stay : rows_at a (shown_rows new) ≡ filter (λ x. not (is_between j k x)) (rows_at a (shown_rows mid))
    stay = ap (rows_at a) dropped.rows ∙ rows_without a j k (shown_rows mid)

    own : IsPermutation (filter (is_from k) all ++ added) (rows_at a (shown_rows new))
    own = subst₂ IsPermutation (left_of j k all added h below) (sym stay) (IsPermutation-filter (λ x. not (is_between j k x)) _ _ it.own)

    gone : deleted + count + length (filter (is_from k) all) ≡ length all
    gone =
        let parts = length-filter_both (is_between j k) (λ x. not (is_between j k x)) (λ x. refl) (rows_at a (shown_rows mid)) in
        let sizes = length-append (filter (is_from k) all) added in
        let cut = counted ∙ part_length a j k (shown_rows mid) in
        omega (arith, parts, length_permutation _ _ it.own, length-append (filter (is_from j) all) added, ap length stay, length_permutation _ _ own, sizes, cut, it.gone)

-- some give way to others
pub renew_more : (a : List ℕ) (j k deleted count : ℕ) (added more : List Row) (old mid new : Database) → j ≤ k → AllByRecursion (λ x. is_from j x ≡ false) added → IsReplaced a j deleted added old mid → HasRenewed a j k more mid new
    → count ≡ length (filter (is_between j k) (rows_at a (shown_rows mid))) → IsReplaced a k (deleted + count) (added ++ more) old new
renew_more a j k deleted count added more old mid new h below it renewed counted = record {
  sound = renewed.sound;
  layout = renewed.layout ∙ it.layout;
  named = λ good all. renewed.named good (it.named good all);
  own = subst (λ l. IsPermutation l (rows_at a (shown_rows new))) (append_assoc (filter (is_from k) all) added more) (IsPermutation-trans _ _ _ (IsPermutation-append_left more _ _ stay) renewed.own);
  others = λ b other. renewed.others b other ∙ it.others b other;
  gone = gone;
}
  where
    all : List Row
    all = rows_at a (shown_rows old)

    stay : IsPermutation (filter (is_from k) all ++ added) (filter (λ x. not (is_between j k x)) (rows_at a (shown_rows mid)))
    stay = subst (λ l. IsPermutation l (filter (λ x. not (is_between j k x)) (rows_at a (shown_rows mid)))) (left_of j k all added h below) (IsPermutation-filter (λ x. not (is_between j k x)) _ _ it.own)

    gone : deleted + count + length (filter (is_from k) all) ≡ length all
    gone =
        let parts = length-filter_both (is_between j k) (λ x. not (is_between j k x)) (λ x. refl) (rows_at a (shown_rows mid)) in
        omega (arith, parts, length_permutation _ _ it.own, length-append (filter (is_from j) all) added, length_permutation _ _ stay, length-append (filter (is_from k) all) added, counted, it.gone)

pub take_then : {X : Type 0} (j k : ℕ) (xs : List X) → j ≤ k → take k xs ≡ take j xs ++ slice_range xs j k
take_then j k xs h = ap (λ n. take n xs) (let e : k ≡ j + (k - j) = omega (arith, h) in e) ∙ take-add j (k - j) xs

-- as many as there are from one place to before another
pub many_between : {X : Type 0} (xs : List X) (j k : ℕ) → j ≤ k → k ≤ length xs → j + length (slice_range xs j k) ≡ k
many_between xs j k forward within = omega (arith, length-take (k - j) (drop j xs), length-drop j xs)

-- # The rows of a document

numbers_from : (n m : ℕ) (list : List Node) → AllByRecursion (λ x. is_from 0 x ≡ true) (map cells (enumerate_from n list))
numbers_from n m [] = tt
numbers_from n m (x ∷ list) = (number_from 0 n (omega arith), numbers_from (n + 1) m list)

pub numbers_before : (k n : ℕ) (list : List Node) → n + length list ≤ k → AllByRecursion (λ x. is_from k x ≡ false) (map cells (enumerate_from n list))
numbers_before k n [] h = tt
numbers_before k n (x ∷ list) h = (number_before k n (omega (arith, h)), numbers_before k (n + 1) list (omega (arith, h)))

pub new_before : (n j : ℕ) (rows : List (ℕ × Node)) → AreFrom n rows → AllByRecursion (λ x. is_from (n + j) x ≡ false) (map cells (take j rows))
new_before n zero rows h = tt
new_before n (suc j) [] h = tt
new_before n (suc j) (r ∷ rows) h =
    let here : is_from (n + suc j) (cells r) ≡ false = ap (λ m. is_ge (value_cmp (Int (pos m)) (Int (pos (n + suc j))))) h.0 ∙ number_before (n + suc j) n (omega arith) in
    let next : suc n + j ≡ n + suc j = omega arith in
    (here, subst (λ m. AllByRecursion (λ x. is_from m x ≡ false) (map cells (take j rows))) next (new_before (suc n) j rows h.1))

-- # From the first part to the last

rows_few : (t : Tree) → count (nodes t) ≤ 1000000 → length (rows_of t) ≤ 1000000
rows_few t room = (let s = length-labels (measured 0 (nodes t)) in let c = count-measured 0 (nodes t) in omega (arith, s, c, room))

pub few : (rows : List (ℕ × Node)) (t : Tree) → IsTree t → rows ≡ placed_rows t → length rows ≤ 1000000
few rows t tree is = (let n = length-enumerate_from 0 (rows_of t) in let same = ap length is in let h = rows_few t tree.room in omega (arith, n, same, h))

-- the rows of a tree are numbered from 0 on
numbered_so : (n : ℕ) (rs : List Node) → AreFrom n (enumerate_from n rs)
numbered_so n [] = tt
numbered_so n (r ∷ rs) = (refl, let e : n + 1 ≡ suc n = omega arith in subst (λ m. AreFrom m (enumerate_from (n + 1) rs)) e (numbered_so (n + 1) rs))

pub from_root : (rows : List (ℕ × Node)) (t : Tree) → rows ≡ placed_rows t → AreFrom 0 rows
from_root rows t is = subst (AreFrom 0) (sym is) (numbered_so 0 (rows_of t))

pub nothing_yet : (a : List ℕ) (db : Database) → IsStore db → IsReplaced a 0 0 [] db db
nothing_yet a db store = record {
  sound = store.sound;
  layout = refl;
  named = λ good all. all;
  own = subst (λ l. IsPermutation l rows) (sym (append-nil (filter (is_from 0) rows))) whole;
  others = λ b other. refl;
  gone = (let e = length_permutation _ _ whole in omega (arith, e));
}
  where
    rows : List Row
    rows = rows_at a (shown_rows db)

    whole : IsPermutation (filter (is_from 0) rows) rows
    whole = elim (store.whole a) [
      | inl none ↦ subst (λ l. IsPermutation (filter (is_from 0) l) l) (sym none) (IsPermutation-refl [])
      | inr some ↦
          let given = map cells (placed_rows some.tree) in
          let all : filter (is_from 0) given ≡ given = all_pass (is_from 0) given (numbers_from 0 0 (rows_of some.tree)) in
          IsPermutation-trans _ _ _ (subst (IsPermutation (filter (is_from 0) rows)) all (IsPermutation-filter (is_from 0) _ _ some.same)) (IsPermutation-sym _ _ some.same)
    ]

no_row_left : (a : List ℕ) (db : Database) (k : ℕ) → 1000000 ≤ k → IsStore db → filter (is_from k) (rows_at a (shown_rows db)) ≡ []
no_row_left a db k h store = elim (store.whole a) [
  | inl none ↦ ap (filter (is_from k)) none
  | inr some ↦
      let t = some.tree in
      let size = rows_few t some.is_document.is_tree.room in
      let none : filter (is_from k) (map cells (placed_rows t)) ≡ [] = none_pass (is_from k) (map cells (placed_rows t)) (numbers_before k 0 (rows_of t) (omega (arith, size, h))) in
      empty_from (filter (is_from k) (rows_at a (shown_rows db))) (sym (length_permutation _ _ (IsPermutation-filter (is_from k) _ _ some.same)) ∙ ap length none)
]
  where
    empty_from : (xs : List Row) → length xs ≡ 0 → xs ≡ []
    empty_from [] e = refl
    empty_from (x ∷ xs) e = absurd (omega (arith, e))

-- after the last part the address has the new rows alone
puts_all : (a : List ℕ) (k deleted : ℕ) (added : List Row) (old new : Database) (replaced : Bool) → 1000000 ≤ k → replaced ≡ nat_lt 0 deleted → IsReplaced a k deleted added old new → Puts a added old new replaced
puts_all a k deleted added old new replaced h is done store = (
  record {
    sound = done.sound;
    layout = done.layout;
    named = λ good. done.named good store.named;
    own = subst (λ l. IsPermutation (l ++ added) (rows_at a (shown_rows new))) none done.own;
    others = done.others;
  },
  is ∙ ap (nat_lt 0) all,
)
  where
    none : filter (is_from k) (rows_at a (shown_rows old)) ≡ []
    none = no_row_left a old k h store

    all : deleted ≡ length (filter (is_at a) (shown_rows old))
    all = (let g = done.gone in let n = ap length none in let m = length-map (filter (is_at a) (shown_rows old)) node_columns in omega (arith, g, n, m))

-- # What the statements come to

either_some : (m n : ℕ) → (nat_lt 0 m || nat_lt 0 n) ≡ nat_lt 0 (m + n)
either_some zero n = ap (nat_lt 0) (omega arith)
either_some (suc m) n = grind arith

-- how far a put has come: the rows of the address with numbers below `at` have given way to the first `at` new ones
abbrev pub IsAt : List ℕ → List (ℕ × Node) → ℕ → Bool → Database → Database → Type 0
IsAt a rows at replaced old now = IsStore old → (deleted : ℕ) × (replaced ≡ nat_lt 0 deleted) × IsReplaced a at deleted (map cells (take at rows)) old now

module _ (a : List ℕ) (rows : List (ℕ × Node)) (numbered : AreFrom 0 rows) (at stop count : ℕ) (forward : at ≤ stop) (replaced next : Bool) (is : next ≡ (replaced || nat_lt 0 count)) (old now mid : Database)
    (so_far : IsAt a rows at replaced old now) (did : Deletes (is_part a at stop) now mid count) where
  some_gone : (deleted : ℕ) → replaced ≡ nat_lt 0 deleted → next ≡ nat_lt 0 (deleted + count)
  some_gone deleted e = is ∙ ap (λ b. b || nat_lt 0 count) e ∙ either_some deleted count

  cut : (store : IsStore old) → IsReplaced a stop ((so_far store).0 + count) (map cells (take at rows)) old mid
  cut store =
      let done = (so_far store).2 in
      let gone = did done.sound in
      let same : 0 + at ≡ at = omega arith in
      let below = subst (λ k. AllByRecursion (λ x. is_from k x ≡ false) (map cells (take at rows))) same (new_before 0 at rows numbered) in
      cut_more a at stop (so_far store).0 count _ old now mid forward below done gone.0 gone.1

  -- the rest was deleted
  pub last_part : length rows ≤ at → 1000000 ≤ stop → Puts a (map cells rows) old mid next
  last_part all high store =
      let gone = subst (λ l. IsReplaced a stop ((so_far store).0 + count) (map cells l) old mid) (take_all at rows all) (cut store) in
      puts_all a stop ((so_far store).0 + count) _ old mid next high (some_gone (so_far store).0 (so_far store).1) gone store
