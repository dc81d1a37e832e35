-- Rows that come to stand under their numbers, one after another.
use Rattle.std.proofs.Common.{◌≡◌, ◌&&◌, ◌||◌, ◌+◌, ◌-◌, ◌<◌, ◌≤◌, inl, inr, ℕ, zero, suc, pos, Bool, true, false, not, cond, List, [], ◌∷◌, ◌++◌, map, filter, length, take, drop, get_or, Option, Some, None, Result, Ok, Err, OnOk, refl, sym, ap, ap₂, subst, subst₂, ◌∙◌, arith, append-nil, append_assoc, nat_lt, String, Global, Ordering, Less, Equal, Greater}
use Rattle.std.specs.Prelude.{slice_get, option_map}
use Rattle.std.specs.Ordering.{is_ge, is_lt}
use Rattle.std.specs.List.{AllByRecursion, enumerate_from, slice_range}
use Rattle.std.specs.List.Sorted.{IsPermutation}
use Rattle.std.proofs.lemmas.Bool.{cases_lt}
use Rattle.std.proofs.lemmas.Option.{slice_get-get_or, slice_get-map}
use Rattle.std.proofs.lemmas.List.{length-map, length-take, length-take-le, map-append, take-map, take-take, take_all, take_more}
use Rattle.std.proofs.lemmas.List.Elements.{filter-append}
use Rattle.std.proofs.lemmas.List.FromFn.{length-enumerate_from}
use Rattle.std.proofs.lemmas.List.Sorted.{IsPermutation-refl, IsPermutation-trans, IsPermutation-sym, IsPermutation-cons, IsPermutation-middle, IsPermutation-append_left, length_permutation}
use Rattle.sqlite_value.specs.Order.{Row, column, value_cmp}
use Rattle.sqlite_value.specs.declared.value.Value.TheVariants.{Int}
use Rattle.sqlite_trees.proofs.ListLemmas.{IsPermutation-filter, filter-filter, all-filter}
use Rattle.sqlite_keyed.proofs.SortLemmas.{sorted_unique}
use Rattle.sqlite.specs.Effect.{Database}
use Rattle.sqlite.specs.State.{State}
use Rattle.sqlite.proofs.Callers.{one_permutation}
use Rattle.xq_trees.specs.Rows.{Row as Node, rows as rows_of, placed_rows}
use Rattle.xq_trees.specs.Tree.{Tree}
use Rattle.xq_tables.specs.Documents.{is_at, node_columns, rows_at, by_first, HasAddress, IsSound, IsStore}
use Rattle.xq_tables.specs.Labels.{label_rows, shown_rows, IsNumberOf, IsStoreSchema}
use Rattle.xq_tables.specs.Nodes.{cells}
use Rattle.xq_tables.specs.private.Columns.{node_of}
use Rattle.xq_tables.specs.private.Statements.{is_between, is_part, AddsNamed, AreNumbers, HasAdded, HasRenewed, LiesAs, RenewsPart, RenewsRow, RenewsRows, UpdatesNamed}
use Rattle.xq_tables.specs.Writes.{is_from, AreFrom, HasDropped, AreThere, RunsFrom}
use Rattle.xq_tables.specs.Reads.{IsPicked}
use Rattle.xq_tables.proofs.Lists.{both_filters, same_test}
use Rattle.xq_tables.proofs.Orders.{first_total, numbers_rise}
use Rattle.xq_tables.proofs.Parts.{all_pass, from_before, new_before, none_pass, number_before, number_from, numbers_before, nothing_yet, outside, rows_beside, rows_without, renew_more, take_then, IsReplaced}
use Rattle.xq_tables.proofs.Ranges.{picks}

-- # The numbers of rows

below_is : (o : Ordering) → is_lt o ≡ not (is_ge o)
below_is Less = refl
below_is Equal = refl
below_is Greater = refl

between_is : (j k : ℕ) (x : Row) → is_between j k x ≡ is_from j x && not (is_from k x)
between_is j k x = ap (λ b. is_from j x && b) (below_is (value_cmp (column x 0) (Int (pos k))))

both_out : (a b c : Bool) → (b ≡ true → a ≡ true) → (c ≡ true → b ≡ true) → cond (not (a && not b)) (not (b && not c)) false ≡ not (a && not c)
both_out true true true h k = refl
both_out true true false h k = refl
both_out true false true h k = absurd (let e = k refl in cc)
both_out true false false h k = refl
both_out false true c h k = absurd (let e = h refl in cc)
both_out false false true h k = absurd (let e = k refl in cc)
both_out false false false h k = refl

-- what is not between j and k, and not between k and l, is not between j and l
out_of_both : (j k l : ℕ) → j ≤ k → k ≤ l → (x : Row) → cond (not (is_between j k x)) (not (is_between k l x)) false ≡ not (is_between j l x)
out_of_both j k l low high x =
    ap₂ (λ a b. cond (not a) (not b) false) (between_is j k x) (between_is k l x) ∙ both_out (is_from j x) (is_from k x) (is_from l x) (from_before j k low x) (from_before k l high x) ∙ ap not (sym (between_is j l x))

and_first : (a b : Bool) → (a && b) ≡ true → a ≡ true
and_first true b e = refl
and_first false b e = absurd cc

-- what is between two numbers is from each number up to the first
between_from : (i j k : ℕ) → i ≤ j → (x : Row) → is_between j k x ≡ true → is_from i x ≡ true
between_from i j k h x e = from_before i j h x (and_first _ _ e)

not_both : (a b c : Bool) → (b && c) ≡ true → not (a && not b) ≡ true
not_both true true c e = refl
not_both false b c e = refl
not_both true false c e = absurd cc

-- and is not between numbers before them
between_later : (i j k : ℕ) → (x : Row) → is_between j k x ≡ true → not (is_between i j x) ≡ true
between_later i j k x e = ap not (between_is i j x) ∙ not_both (is_from i x) (is_from j x) _ e

none_between : (j k : ℕ) (xs : List Row) → AllByRecursion (λ x. is_from j x ≡ false) xs → AllByRecursion (λ x. is_between j k x ≡ false) xs
none_between j k [] all = tt
none_between j k (x ∷ xs) all = (ap (λ b. b && is_lt (value_cmp (column x 0) (Int (pos k)))) all.0, none_between j k xs all.1)

-- # The rows of nodes that are numbered without a gap

all_from_here : (m n : ℕ) (nodes : List Node) → m ≤ n → AllByRecursion (λ x. is_from m x ≡ true) (map cells (enumerate_from n nodes))
all_from_here m n [] h = tt
all_from_here m n (x ∷ nodes) h = (number_from m n h, all_from_here m (n + 1) nodes (omega (arith, h)))

from_numbered : (k n m : ℕ) (nodes : List Node) → m ≡ n + k → filter (is_from m) (map cells (enumerate_from n nodes)) ≡ map cells (enumerate_from m (drop k nodes))
from_numbered zero n m nodes e =
    let same : n ≡ m = omega (arith, e) in
    all_pass (is_from m) (map cells (enumerate_from n nodes)) (all_from_here m n nodes (omega (arith, e))) ∙ ap (λ i. map cells (enumerate_from i nodes)) same
from_numbered (suc k) n m [] e = refl
from_numbered (suc k) n m (x ∷ nodes) e =
    ap (λ b. cond b (cells (n, x) ∷ filter (is_from m) (map cells (enumerate_from (n + 1) nodes))) (filter (is_from m) (map cells (enumerate_from (n + 1) nodes)))) (number_before m n (omega (arith, e)))
    ∙ from_numbered k (n + 1) m nodes (omega (arith, e))

-- the one under a number
abbrev one_at : ℕ → Option Node → List Row
one_at p None = []
one_at p (Some n) = cells (p, n) ∷ []

never : (b : Bool) → (b && false) ≡ false
never true = refl
never false = refl

past_number : (j k n : ℕ) (nodes : List Node) → k ≤ n → AllByRecursion (λ x. is_between j k x ≡ false) (map cells (enumerate_from n nodes))
past_number j k n [] h = tt
past_number j k n (x ∷ nodes) h = (between_is j k (cells (n, x)) ∙ ap (λ b. is_from j (cells (n, x)) && not b) (number_from k n h) ∙ never _, past_number j k (n + 1) nodes (omega (arith, h)))

own_number : (p : ℕ) (x : Node) → is_between p (p + 1) (cells (p, x)) ≡ true
own_number p x = between_is p (p + 1) (cells (p, x)) ∙ ap₂ (λ a b. a && not b) (number_from p p (omega arith)) (number_before (p + 1) p (omega arith))

under_number : (i low p : ℕ) (nodes : List Node) → p ≡ low + i → filter (is_between p (p + 1)) (map cells (enumerate_from low nodes)) ≡ one_at p (slice_get nodes i)
under_number zero low p [] e = refl
under_number (suc i) low p [] e = refl
under_number zero low p (x ∷ nodes) e =
    let same : low ≡ p = omega (arith, e) in
    let rest : filter (is_between p (p + 1)) (map cells (enumerate_from (low + 1) nodes)) ≡ [] = none_pass (is_between p (p + 1)) _ (past_number p (p + 1) (low + 1) nodes (omega (arith, e))) in
    ap (λ n. filter (is_between p (p + 1)) (cells (n, x) ∷ map cells (enumerate_from (low + 1) nodes))) same
    ∙ ap (λ b. cond b (cells (p, x) ∷ filter (is_between p (p + 1)) (map cells (enumerate_from (low + 1) nodes))) (filter (is_between p (p + 1)) (map cells (enumerate_from (low + 1) nodes)))) (own_number p x)
    ∙ ap (λ l. cells (p, x) ∷ l) rest
under_number (suc i) low p (x ∷ nodes) e =
    ap (λ b. cond b (cells (low, x) ∷ filter (is_between p (p + 1)) (map cells (enumerate_from (low + 1) nodes))) (filter (is_between p (p + 1)) (map cells (enumerate_from (low + 1) nodes))))
    (ap (λ b. b && is_lt (value_cmp (Int (pos low)) (Int (pos (p + 1))))) (number_before p low (omega (arith, e))))
    ∙ under_number i (low + 1) p nodes (omega (arith, e))

got : (i n low p : ℕ) (nodes : List Node) → i < n → p ≡ low + i → slice_get (map cells (enumerate_from low (take n nodes))) i ≡ option_map (λ x. cells (p, x)) (slice_get nodes i)
got i zero low p nodes h e = absurd (omega (arith, h))
got zero (suc n) low p [] h e = refl
got (suc i) (suc n) low p [] h e = refl
got zero (suc n) low p (x ∷ nodes) h e = let same : low ≡ p = omega (arith, e) in ap (λ k. Some (cells (k, x))) same
got (suc i) (suc n) low p (x ∷ nodes) h e = got i n (low + 1) p nodes (omega (arith, h)) (omega (arith, e))

-- those between two numbers
within_numbered : (n low first high : ℕ) (nodes : List Node) → first ≤ low → high ≡ low + n → filter (is_between first high) (map cells (enumerate_from low nodes)) ≡ map cells (enumerate_from low (take n nodes))
within_numbered zero low first high nodes h e = none_pass (is_between first high) _ (past_number first high low nodes (omega (arith, e)))
within_numbered (suc n) low first high [] h e = refl
within_numbered (suc n) low first high (x ∷ nodes) h e =
    let rest = within_numbered n (low + 1) first high nodes (omega (arith, h)) (omega (arith, e)) in
    let own : is_between first high (cells (low, x)) ≡ true = between_is first high (cells (low, x)) ∙ ap₂ (λ a b. a && not b) (number_from first low h) (number_before high low (omega (arith, e))) in
    ap (λ b. cond b (cells (low, x) ∷ filter (is_between first high) (map cells (enumerate_from (low + 1) nodes))) (filter (is_between first high) (map cells (enumerate_from (low + 1) nodes)))) own ∙ ap (λ l. cells (low, x) ∷ l) rest

-- # What lies under a number

lies_one : (a : List ℕ) (p : ℕ) (found : Option Node) (db : Database) → filter (is_between p (p + 1)) (rows_at a (shown_rows db)) ≡ one_at p found → LiesAs a p (option_map (λ x. cells (p, x)) found) db
lies_one a p None db is = is
lies_one a p (Some n) db is = ((p, n), refl, refl, is)

only_these : (p : ℕ) (found : Option Node) (xs : List Row) → IsPermutation (one_at p found) xs → xs ≡ one_at p found
only_these p None [] same = refl
only_these p None (x ∷ xs) same = absurd (let e = length_permutation _ _ same in omega (arith, e))
only_these p (Some n) xs same = one_permutation (cells (p, n)) xs same

module _ (a : List ℕ) (low : ℕ) (nodes : List Node) (db : Database) (runs : RunsFrom a low nodes db) where
  abbrev mine : List Row
  mine = rows_at a (shown_rows db)

  -- those from low on that pass a test are those of the nodes that do
  passing : (Q : Row → Bool) → ((x : Row) → Q x ≡ true → is_from low x ≡ true) → IsPermutation (filter Q mine) (filter Q (map cells (enumerate_from low nodes)))
  passing Q up = subst (λ l. IsPermutation l (filter Q (map cells (enumerate_from low nodes)))) (filter-filter Q (is_from low) up mine) (IsPermutation-filter Q _ _ runs)

  under : (i p : ℕ) → p ≡ low + i → filter (is_between p (p + 1)) mine ≡ one_at p (slice_get nodes i)
  under i p e =
      let all = passing (is_between p (p + 1)) (between_from low p (p + 1) (omega (arith, e))) in
      only_these p (slice_get nodes i) (filter (is_between p (p + 1)) mine) (subst (λ l. IsPermutation l (filter (is_between p (p + 1)) mine)) (under_number i low p nodes e) (IsPermutation-sym _ _ all))

  module _ (n high : ℕ) (size : high ≡ low + n) where
    all_within : IsPermutation (filter (is_between low high) mine) (map cells (enumerate_from low (take n nodes)))
    all_within = subst (IsPermutation (filter (is_between low high) mine)) (within_numbered n low low high nodes (omega arith) size) (passing (is_between low high) (between_from low low high (omega arith)))

    -- what is read of them
    read_is : (read : List Row) → IsPicked (is_part a low high) node_columns (shown_rows db) read → read ≡ map cells (enumerate_from low (take n nodes))
    read_is read picked =
        let some : IsPermutation (filter (is_between low high) mine) read = subst (λ l. IsPermutation l read) (picks (is_at a) (is_between low high) (shown_rows db)) picked.same in
        sorted_unique by_first first_total (map cells (enumerate_from low (take n nodes))) read (numbers_rise low (take n nodes)) (IsPermutation-trans _ _ _ (IsPermutation-sym _ _ all_within) some) picked.sorted

    module _ (there : List (ℕ × Node)) (are : map cells there ≡ map cells (enumerate_from low (take n nodes))) where
      -- each lies under its number, and none lies beyond them
      each_lies : (i p : ℕ) → i < n → p ≡ low + i → LiesAs a p (slice_get (map cells there) i) db
      each_lies i p h e =
          subst (λ o. LiesAs a p o db) (sym (ap (λ l. slice_get l i) are ∙ got i n low p nodes h e)) (lies_one a p (slice_get nodes i) db (under i p e))

      -- they are so many
      so_many : length there ≡ length (filter (is_between low high) mine)
      so_many = sym (length-map there cells) ∙ ap length are ∙ length_permutation _ _ all_within

none_left : (xs ys : List Row) → IsPermutation xs ys → xs ≡ [] → ys ≡ []
none_left xs [] same none = refl
none_left xs (y ∷ ys) same none = absurd (let e = length_permutation _ _ same in let n = ap length none in omega (arith, e, n))

never_later : (a b : Bool) → (a ≡ true → b ≡ true) → (a && not b) ≡ false
never_later true true h = refl
never_later true false h = absurd (let e = h refl in cc)
never_later false b h = refl

none_within : (j k : ℕ) → k ≤ j → (xs : List Row) → AllByRecursion (λ x. is_between j k x ≡ false) xs
none_within j k h [] = tt
none_within j k h (x ∷ xs) = (between_is j k x ∙ never_later (is_from j x) (is_from k x) (from_before k j h x), none_within j k h xs)

-- none lies beyond those that are read
none_beyond : (a : List ℕ) (low n : ℕ) (there : List (ℕ × Node)) (db : Database) → AreThere a low n there db → filter (is_between (low + length there) (low + n)) (rows_at a (shown_rows db)) ≡ []
none_beyond a low n there db are = elim (cases_lt (length there) n) [
  | inl fewer ↦
      let given = map cells (enumerate_from low are.0) in
      let below : low + length are.0 ≤ low + length there = omega (arith, fewer, size, length-take n are.0) in
      let none : filter (is_between (low + length there) (low + n)) given ≡ [] = none_pass (is_between (low + length there) (low + n)) given (none_between (low + length there) (low + n) given (numbers_before (low + length there) low are.0 below)) in
      none_left _ _ (IsPermutation-sym _ _ (passing a low are.0 db are.1 (is_between (low + length there) (low + n)) (between_from low (low + length there) (low + n) (omega arith)))) none
  | inr all ↦ none_pass (is_between (low + length there) (low + n)) _ (none_within (low + length there) (low + n) (omega (arith, all)) _)
]
  where
    size : length there ≡ length (take n are.0)
    size = sym (length-map there cells) ∙ ap length are.2 ∙ length-map (enumerate_from low (take n are.0)) cells ∙ length-enumerate_from low (take n are.0)

-- # Rows that stay, or give way to others

parts_of : (p : Row → Bool) (xs : List Row) → IsPermutation (filter (λ x. not (p x)) xs ++ filter p xs) xs
parts_of p [] = IsPermutation-refl []
parts_of p (x ∷ xs) = go (p x) (parts_of p xs)
  where
    go : (b : Bool) → IsPermutation (filter (λ y. not (p y)) xs ++ filter p xs) xs → IsPermutation (cond (not b) (x ∷ filter (λ y. not (p y)) xs) (filter (λ y. not (p y)) xs) ++ cond b (x ∷ filter p xs) (filter p xs)) (x ∷ xs)
    go true h = IsPermutation-trans _ _ _ (IsPermutation-middle (filter (λ y. not (p y)) xs) x (filter p xs)) (IsPermutation-cons x _ _ h)
    go false h = IsPermutation-cons x _ _ h

-- a node among others as a row
pub shown_at : (rows : List (ℕ × Node)) (i : ℕ) (row none : ℕ × Node) → i < length rows → row ≡ get_or rows i none → slice_get (map cells rows) i ≡ Some (cells row)
shown_at rows i row none h is = slice_get-map cells rows i ∙ ap (option_map cells) (slice_get-get_or rows i none h ∙ ap Some (sym is))

-- the row that is to stand there is there
pub stays : (a : List ℕ) (p : ℕ) (row : Row) (db : Database) → IsSound db → LiesAs a p (Some row) db → HasRenewed a p (p + 1) (row ∷ []) db db
stays a p row db sound lies = record {
  sound = sound;
  layout = refl;
  keeps = λ n name is. is;
  named = λ good all. all;
  own = (let all = rows_at a (shown_rows db) in subst (λ l. IsPermutation (filter (λ x. not (is_between p (p + 1) x)) all ++ l) all) lies.3 (parts_of (is_between p (p + 1)) all));
  others = λ b apart. refl;
}

-- none is there, and some are added
added_there : (a : List ℕ) (j k : ℕ) (rows : List Row) (old new : Database) → filter (is_between j k) (rows_at a (shown_rows old)) ≡ [] → HasAdded a rows old new → HasRenewed a j k rows old new
added_there a j k rows old new none it = record {
  sound = it.sound;
  layout = it.layout;
  keeps = it.keeps;
  named = it.named;
  own = IsPermutation-trans _ _ _ (IsPermutation-append_left rows _ _ all_left) it.own;
  others = it.others;
}
  where
    all : List Row
    all = rows_at a (shown_rows old)

    all_left : IsPermutation (filter (λ x. not (is_between j k x)) all) all
    all_left = subst (λ l. IsPermutation l all) (append-nil (filter (λ x. not (is_between j k x)) all)) (subst (λ l. IsPermutation (filter (λ x. not (is_between j k x)) all ++ l) all) none (parts_of (is_between j k) all))

-- a row that gives way to another
pub updated_row : {E : Type 0} (a : List ℕ) (n : ℕ × Node) (there : Row) (before after : List (String Global × ℕ)) (old new : Database) (r : Result (Unit {0}) E) → OnOk r (UpdatesNamed a n before after old new)
    → OnOk r (RenewsRow a n (Some there) before after old new)
updated_row a n there before after old new (Err e) it = tt
updated_row a n there before after old new (Ok x) it = it there

-- and one that is the same
pub stays_row : (a : List ℕ) (n : ℕ × Node) (o : Option Row) (names : List (String Global × ℕ)) (db : Database) → o ≡ Some (cells n) → RenewsRow a n o names names db db
stays_row a n o names db some sound all lies = (stays a n.0 (cells n) db sound (subst (λ o. LiesAs a n.0 o db) some lies), all)

-- some were taken out, and others were added
pub exchanged : (a : List ℕ) (j k : ℕ) (rows : List Row) (old mid new : Database) → HasDropped (is_part a j k) old mid → HasAdded a rows mid new → HasRenewed a j k rows old new
exchanged a j k rows old mid new drops adds = record {
  sound = adds.sound;
  layout = adds.layout ∙ drops.layout;
  keeps = λ n name is. adds.keeps n name (subst (λ ls. IsNumberOf ls n name) (sym drops.labels) is);
  named = λ good all. adds.named good (subst (AllByRecursion HasAddress) (sym drops.rows) (all-filter _ (λ r. not (is_part a j k r)) (shown_rows old) all));
  own = subst (λ l. IsPermutation (l ++ rows) (rows_at a (shown_rows new))) (ap (rows_at a) drops.rows ∙ rows_without a j k (shown_rows old)) adds.own;
  others = λ b apart. adds.others b apart ∙ ap (rows_at b) drops.rows ∙ rows_beside a b j k (shown_rows old) apart;
}

-- one after the other
pub renewed_then : (a : List ℕ) (j k l : ℕ) (xs ys : List Row) (first mid last : Database) → j ≤ k → k ≤ l → AllByRecursion (λ x. is_from k x ≡ false) xs → HasRenewed a j k xs first mid → HasRenewed a k l ys mid last
    → HasRenewed a j l (xs ++ ys) first last
renewed_then a j k l xs ys first mid last low high below p q = record {
  sound = q.sound;
  layout = q.layout ∙ p.layout;
  keeps = λ n name is. q.keeps n name (p.keeps n name is);
  named = λ good all. q.named good (p.named good all);
  own = own;
  others = λ b apart. q.others b apart ∙ p.others b apart;
}
  where
    all : List Row
    all = rows_at a (shown_rows first)

    left : filter (λ x. not (is_between k l x)) (filter (λ x. not (is_between j k x)) all ++ xs) ≡ filter (λ x. not (is_between j l x)) all ++ xs
    left =
        filter-append (λ x. not (is_between k l x)) (filter (λ x. not (is_between j k x)) all) xs
        ∙ ap₂ ◌++◌ (both_filters (λ x. not (is_between k l x)) (λ x. not (is_between j k x)) all ∙ same_test _ _ (out_of_both j k l low high) all) (all_pass (λ x. not (is_between k l x)) xs (outside k l xs below))

    stay : IsPermutation (filter (λ x. not (is_between j l x)) all ++ xs) (filter (λ x. not (is_between k l x)) (rows_at a (shown_rows mid)))
    stay = subst (λ zs. IsPermutation zs (filter (λ x. not (is_between k l x)) (rows_at a (shown_rows mid)))) left (IsPermutation-filter (λ x. not (is_between k l x)) _ _ p.own)

    own : IsPermutation (filter (λ x. not (is_between j l x)) all ++ (xs ++ ys)) (rows_at a (shown_rows last))
    own = subst (λ zs. IsPermutation zs (rows_at a (shown_rows last))) (append_assoc (filter (λ x. not (is_between j l x)) all) xs ys) (IsPermutation-trans _ _ _ (IsPermutation-append_left ys _ _ stay) q.own)

-- those between later numbers are still there where others before them gave way
still_same : (a : List ℕ) (low j k : ℕ) (xs : List Row) (old now : Database) → AllByRecursion (λ x. is_from j x ≡ false) xs → HasRenewed a low j xs old now
    → IsPermutation (filter (is_between j k) (rows_at a (shown_rows old))) (filter (is_between j k) (rows_at a (shown_rows now)))
still_same a low j k xs old now below it = subst (λ l. IsPermutation l (filter (is_between j k) (rows_at a (shown_rows now)))) left (IsPermutation-filter (is_between j k) _ _ it.own)
  where
    all : List Row
    all = rows_at a (shown_rows old)

    left : filter (is_between j k) (filter (λ x. not (is_between low j x)) all ++ xs) ≡ filter (is_between j k) all
    left =
        filter-append (is_between j k) (filter (λ x. not (is_between low j x)) all) xs
        ∙ ap₂ ◌++◌ (filter-filter (is_between j k) (λ x. not (is_between low j x)) (between_later low j k) all) (none_pass (is_between j k) xs (none_between j k xs below)) ∙ append-nil (filter (is_between j k) all)

-- so what lies under a number still lies there
still_lies : (a : List ℕ) (low p : ℕ) (xs : List Row) (o : Option Row) (old now : Database) → AllByRecursion (λ x. is_from p x ≡ false) xs → HasRenewed a low p xs old now → LiesAs a p o old → LiesAs a p o now
still_lies a low p xs None old now below it none = none_left _ _ (still_same a low p (p + 1) xs old now below it) none
still_lies a low p xs (Some row) old now below it lies = (
  lies.0,
  lies.1,
  lies.2,
  one_permutation row _ (subst (λ l. IsPermutation l (filter (is_between p (p + 1)) (rows_at a (shown_rows now)))) lies.3 (still_same a low p (p + 1) xs old now below it)),
)

-- # Rows, one by one

-- the first so many have come to stand where those others were
abbrev pub IsRenewed : List ℕ → List (ℕ × Node) → List (ℕ × Node) → ℕ → List (String Global × ℕ) → List (String Global × ℕ) → Database → Database → Type 0
IsRenewed a there rows i before after old now = (low : ℕ) → AreFrom low rows → IsSound old → AreNumbers (label_rows old) before → AreThere a low (length rows) there old
    → HasRenewed a low (low + i) (map cells (take i rows)) old now × AreNumbers (label_rows now) after

numbered_at : (low i : ℕ) (rows : List (ℕ × Node)) (row none : ℕ × Node) → AreFrom low rows → i < length rows → row ≡ get_or rows i none → row.0 ≡ low + i
numbered_at low i [] row none all h is = absurd (omega (arith, h))
numbered_at low zero (r ∷ rows) row none all h is = (let e : low ≡ low + 0 = omega arith in ap (λ (r : ℕ × Node). r.0) is ∙ all.0 ∙ e)
numbered_at low (suc i) (r ∷ rows) row none all h is = (let e : suc low + i ≡ low + suc i = omega arith in numbered_at (suc low) i rows row none all.1 (omega (arith, h)) is ∙ e)

-- none has
pub none_renewed : (a : List ℕ) (there : List (ℕ × Node)) (rows : List (ℕ × Node)) (names : List (String Global × ℕ)) (db : Database) → IsRenewed a there rows 0 names names db db
none_renewed a there rows names db low numbered sound all are = (
  record {
    sound = sound;
    layout = refl;
    keeps = λ n name is. is;
    named = λ good all. all;
    own = subst (λ l. IsPermutation l rows_there) (sym (append-nil (filter (λ x. not (is_between low (low + 0) x)) rows_there) ∙ all_pass _ rows_there (all_out rows_there))) (IsPermutation-refl rows_there);
    others = λ b apart. refl;
  },
  all,
)
  where
    rows_there : List Row
    rows_there = rows_at a (shown_rows db)

    neither : (b : Bool) → not (b && not b) ≡ true
    neither true = refl
    neither false = refl

    out : (x : Row) → not (is_between low (low + 0) x) ≡ true
    out x = (let e : low + 0 ≡ low = omega arith in ap (λ k. not (is_between low k x)) e ∙ ap not (between_is low low x) ∙ neither (is_from low x))

    all_out : (xs : List Row) → AllByRecursion (λ x. not (is_between low (low + 0) x) ≡ true) xs
    all_out [] = tt
    all_out (x ∷ xs) = (out x, all_out xs)

-- and one more
pub one_renewed : (a : List ℕ) (i : ℕ) (there : List (ℕ × Node)) (rows : List (ℕ × Node)) (row none : ℕ × Node) (before mid after : List (String Global × ℕ)) (old now new : Database) → i < length rows → row ≡ get_or rows i none
    → IsRenewed a there rows i before mid old now → RenewsRow a row (slice_get (map cells there) i) mid after now new → IsRenewed a there rows (i + 1) before after old new
one_renewed a i there rows row none before mid after old now new h is so_far step low numbered sound all are =
    let p = low + i in
    let xs = map cells (take i rows) in
    let o = slice_get (map cells there) i in
    let done = so_far low numbered sound all are in
    let own : row.0 ≡ p = numbered_at low i rows row none numbered h is in
    let below : AllByRecursion (λ x. is_from p x ≡ false) xs = new_before low i rows numbered in
    let first = each_lies a low are.0 old are.1 (length rows) (low + length rows) refl there are.2 i p h refl in
    let lies = still_lies a low p xs o old now below done.0 first in
    let one = step done.0.sound done.1 (subst (λ n. LiesAs a n o now) (sym own) lies) in
    let here : HasRenewed a p (p + 1) (cells row ∷ []) now new = subst (λ n. HasRenewed a n (n + 1) (cells row ∷ []) now new) own one.0 in
    let more = renewed_then a low p (p + 1) xs (cells row ∷ []) old now new (omega arith) (omega arith) below done.0 here in
    let joined : xs ++ cells row ∷ [] ≡ map cells (take (i + 1) rows) =
    sym (ap (map cells) (take_more rows i none h ∙ ap (λ y. take i rows ++ y ∷ []) (sym is)) ∙ map-append cells (take i rows) (row ∷ [])) in
    let next : p + 1 ≡ low + (i + 1) = omega arith in
    (subst₂ (λ k l. HasRenewed a low k l old new) next joined more, one.1)

-- rows that are the same as those that are there have done so as well
pub same_renewed : (a : List ℕ) (n i j : ℕ) (there : List (ℕ × Node)) (rows : List (ℕ × Node)) (none : ℕ × Node) (before after : List (String Global × ℕ)) (old now : Database) → j ≡ i + n → j ≤ length rows → length rows ≤ length there
    → ((k : ℕ) → i ≤ k → k < j → get_or rows k none ≡ get_or there k none) → IsRenewed a there rows i before after old now → IsRenewed a there rows j before after old now
same_renewed a zero i j there rows none before after old now size within covers same so_far =
    subst (λ k. IsRenewed a there rows k before after old now) (let e : i ≡ j = omega (arith, size) in e) so_far
same_renewed a (suc n) i j there rows none before after old now size within covers same so_far =
    let row = get_or rows i none in
    let in_rows : i < length rows = omega (arith, size, within) in
    let in_there : i < length there = omega (arith, in_rows, covers) in
    let here : row ≡ get_or there i none = same i (omega arith) (omega (arith, size)) in
    let step : RenewsRow a row (slice_get (map cells there) i) after after now now = stays_row a row (slice_get (map cells there) i) after now (shown_at there i row none in_there here) in
    let one : IsRenewed a there rows (i + 1) before after old now = one_renewed a i there rows row none before after after old now now in_rows refl so_far step in
    same_renewed a n (i + 1) j there rows none before after old now (omega (arith, size)) within covers (λ k from to. same k (omega (arith, from)) to) one

-- then all have
pub rows_renewed : (a : List ℕ) (i : ℕ) (there : List (ℕ × Node)) (rows : List (ℕ × Node)) (before after : List (String Global × ℕ)) (old now : Database) → i ≡ length rows → IsRenewed a there rows i before after old now → RenewsRows a there rows before after old now
rows_renewed a i there rows before after old now all_done done low numbered sound all are =
    let it = done low numbered sound all are in
    let whole : take i rows ≡ rows = take_all i rows (omega (arith, all_done)) in
    let last : low + i ≡ low + length rows = omega (arith, all_done) in
    (subst₂ (λ k l. HasRenewed a low k (map cells l) old now) last whole it.0, it.1)

-- # The first rows, and those beyond the ones that were there

-- the first of rows that are numbered are so
first_numbered : (k m : ℕ) (rs : List (ℕ × Node)) → AreFrom m rs → AreFrom m (take k rs)
first_numbered zero m rs all = tt
first_numbered (suc k) m [] all = tt
first_numbered (suc k) m (r ∷ rs) all = (all.0, first_numbered k (suc m) rs all.1)

some_numbered : (n k : ℕ) (nodes : List Node) → take n (enumerate_from k nodes) ≡ enumerate_from k (take n nodes)
some_numbered zero k nodes = refl
some_numbered (suc n) k [] = refl
some_numbered (suc n) k (x ∷ nodes) = ap (λ l. (k, x) ∷ l) (some_numbered n (k + 1) nodes)

-- some of the first are there
some_there : (a : List ℕ) (low i n : ℕ) (rows : List (ℕ × Node)) (db : Database) → i ≤ n → AreThere a low n rows db → AreThere a low i (take i rows) db
some_there a low i n rows db h are = (
  are.0,
  are.1,
  sym (take-map cells i rows) ∙ ap (take i) are.2 ∙ take-map cells i (enumerate_from low (take n are.0)) ∙ ap (map cells) (some_numbered i low (take n are.0) ∙ ap (enumerate_from low) (take-take i n are.0 h)),
)

-- the first have come to stand where others were, and the rest was added
pub rest_added : {E : Type 0} (a : List ℕ) (many : ℕ) (there : List (ℕ × Node)) (rows : List (ℕ × Node)) (before between after : List (String Global × ℕ)) (old : Database) (mid new : State) (r : Result (Unit {0}) E) → many ≤ length rows → many ≤ length there
    → (length there ≤ length rows → length there ≤ many) → RenewsRows a (take many there) (take many rows) before between old mid.now → OnOk r (AddsNamed a (map cells (slice_range rows many (length rows))) between after mid new) → OnOk r (RenewsRows a there rows before after old new.now)
rest_added a many there rows before between after old mid new (Err e) in_rows in_there covers renews adds = tt
rest_added a many there rows before between after old mid new (Ok x) in_rows in_there covers renews adds = λ low numbered sound all are.
    let size : length (take many rows) ≡ many = length-take-le many rows in_rows in
    let fits : length there ≤ length rows = omega (arith, sym (length-map there cells) ∙ ap length are.2 ∙ length-map (enumerate_from low (take (length rows) are.0)) cells ∙ length-enumerate_from low (take (length rows) are.0), length-take (length rows) are.0) in
    let same : length there ≡ many = omega (arith, in_there, covers fits) in
    let first_are = subst (λ n. AreThere a low n (take many there) old) (sym size) (some_there a low many (length rows) there old in_rows are) in
    let done = renews low (first_numbered many low rows numbered) sound all first_are in
    let j = low + many in
    let k = low + length rows in
    let xs = map cells (take many rows) in
    let ys = map cells (slice_range rows many (length rows)) in
    let first : HasRenewed a low j xs old mid.now = subst (λ n. HasRenewed a low (low + n) xs old mid.now) size done.0 in
    let below : AllByRecursion (λ x. is_from j x ≡ false) xs = new_before low many rows numbered in
    let none : filter (is_between j k) (rows_at a (shown_rows old)) ≡ [] = subst (λ n. filter (is_between (low + n) k) (rows_at a (shown_rows old)) ≡ []) same (none_beyond a low (length rows) there old are) in
    let still : filter (is_between j k) (rows_at a (shown_rows mid.now)) ≡ [] = none_left _ _ (still_same a low j k xs old mid.now below first) none in
    let added = adds.did first.sound done.1 in
    let last = added_there a j k ys mid.now new.now still added.0 in
    let joined : xs ++ ys ≡ map cells rows =
    sym (map-append cells (take many rows) (slice_range rows many (length rows))) ∙ ap (map cells) (sym (take_then many (length rows) rows in_rows) ∙ take_all (length rows) rows (omega arith)) in
    (subst (λ l. HasRenewed a low k l old new.now) joined (renewed_then a low j k xs ys old mid.now new.now (omega arith) (omega (arith, in_rows)) below first last), added.1)

-- # A part that is read

columns_of : (ns : List (ℕ × Node)) → map node_of (map cells ns) ≡ map cells ns
columns_of [] = refl
columns_of (n ∷ ns) = ap (λ l. cells n ∷ l) (columns_of ns)

pub part_renewed : (a : List ℕ) (low high count : ℕ) (rows : List (ℕ × Node)) (there : List (ℕ × Node)) (read : List Row) (before after : List (String Global × ℕ)) (old began now : Database) → AreFrom low rows → high ≡ low + length rows → began ≡ old
    → (IsStoreSchema old.schema → IsPicked (is_part a low high) node_columns (shown_rows old) read) → map cells there ≡ map node_of read
    → RenewsRows a there rows before after began now → count ≡ length there → RenewsPart a low (low + length rows) (map cells rows) before after old now count
part_renewed a low high count rows there read before after old began now numbered size stays picked same renews counted sound all nodes runs =
    let were = read_is a low nodes old runs (length rows) high size read (picked sound.schema) in
    let are : map cells there ≡ map cells (enumerate_from low (take (length rows) nodes)) = same ∙ ap (map node_of) were ∙ columns_of _ in
    let done = subst (λ db. RenewsRows a there rows before after db now) stays renews low numbered sound all (nodes, runs, are) in
    (done.0, done.1, counted ∙ so_many a low nodes old runs (length rows) (low + length rows) refl there are)

-- # The first rows of a document

-- the rows of an address are those of nodes that are numbered from 0 on
listed : (a : List ℕ) (db : Database) → IsStore db → (nodes : List Node) × IsPermutation (rows_at a (shown_rows db)) (map cells (enumerate_from 0 nodes))
listed a db store = elim (store.whole a) [
  | inl none ↦ ([], subst (λ l. IsPermutation l []) (sym none) (IsPermutation-refl []))
  | inr some ↦ (rows_of some.tree, some.same)
]

-- those from 0 on are all
all_run : (a : List ℕ) (nodes : List Node) (db : Database) → IsPermutation (rows_at a (shown_rows db)) (map cells (enumerate_from 0 nodes)) → RunsFrom a 0 nodes db
all_run a nodes db same = subst (IsPermutation (filter (is_from 0) (rows_at a (shown_rows db)))) (from_numbered 0 0 0 nodes refl) (IsPermutation-filter (is_from 0) _ _ same)

pub first_there : (a : List ℕ) (t : Tree) (rows : List (ℕ × Node)) (db : Database) → IsPermutation (rows_at a (shown_rows db)) (map cells (placed_rows t)) → rows ≡ take (length rows) (placed_rows t) → AreThere a 0 (length rows) rows db
first_there a t rows db same first = (rows_of t, all_run a (rows_of t) db same, ap (map cells) (first ∙ some_numbered (length rows) 0 (rows_of t)))

-- none is a first part as well
pub none_there : (a : List ℕ) (db : Database) → IsStore db → AreThere a 0 0 [] db
none_there a db store = (let whole = listed a db store in (whole.0, all_run a whole.0 db whole.1, refl))

-- # A document, part by part

-- those that have not given way yet are numbered without a gap
pub runs_on : (a : List ℕ) (k deleted : ℕ) (added : List Row) (old now : Database) → IsStore old → AllByRecursion (λ x. is_from k x ≡ false) added → IsReplaced a k deleted added old now → (nodes : List Node) × RunsFrom a k nodes now
runs_on a k deleted added old now store below it =
    let whole = listed a old store in
    let all = rows_at a (shown_rows old) in
    let left : filter (is_from k) (filter (is_from k) all ++ added) ≡ filter (is_from k) all =
    filter-append (is_from k) (filter (is_from k) all) added ∙ ap₂ ◌++◌ (filter-filter (is_from k) (is_from k) (λ x e. e) all) (none_pass (is_from k) added below) ∙ append-nil (filter (is_from k) all) in
    let own : IsPermutation (filter (is_from k) all) (filter (is_from k) (rows_at a (shown_rows now))) = subst (λ l. IsPermutation l (filter (is_from k) (rows_at a (shown_rows now)))) left (IsPermutation-filter (is_from k) _ _ it.own) in
    let zero_more : k ≡ 0 + k = omega arith in
    let are : IsPermutation (filter (is_from k) all) (map cells (enumerate_from k (drop k whole.0))) = subst (IsPermutation (filter (is_from k) all)) (from_numbered k 0 k whole.0 zero_more) (IsPermutation-filter (is_from k) _ _ whole.1) in
    (drop k whole.0, IsPermutation-trans _ _ _ (IsPermutation-sym _ _ own) are)

-- a slice of rows that are numbered is numbered from its first on
pub numbered_slice : (n at first stop : ℕ) (rows : List (ℕ × Node)) → first ≡ n + at → AreFrom n rows → AreFrom first (slice_range rows at stop)
numbered_slice n at first stop rows is all = subst (λ k. AreFrom k (slice_range rows at stop)) (let e : at + n ≡ first = omega (arith, is) in e) (first_numbered (stop - at) (at + n) (drop at rows) (dropped at n rows all))
  where
    dropped : (k m : ℕ) (rs : List (ℕ × Node)) → AreFrom m rs → AreFrom (k + m) (drop k rs)
    dropped zero m rs all = subst (λ i. AreFrom i rs) (let e : m ≡ zero + m = omega arith in e) all
    dropped (suc k) m [] all = tt
    dropped (suc k) m (r ∷ rs) all = subst (λ i. AreFrom i (drop k rs)) (let e : k + suc m ≡ suc k + m = omega arith in e) (dropped k (suc m) rs all.1)

either_some : (m n : ℕ) → (nat_lt 0 m || nat_lt 0 n) ≡ nat_lt 0 (m + n)
either_some zero n = ap (nat_lt 0) (omega arith)
either_some (suc m) n = grind arith

-- how far a put has come over the rows that are kept
abbrev pub IsUpTo : List ℕ → List (ℕ × Node) → List (ℕ × Node) → ℕ → Bool → List (String Global × ℕ) → Database → Database → Type 0
IsUpTo a kept rows at replaced names old now = AreThere a 0 (length kept) kept old → IsStore old
    → ((deleted : ℕ) × (replaced ≡ nat_lt 0 deleted) × IsReplaced a at deleted (map cells (take at rows)) old now) × AreNumbers (label_rows now) names

-- the first rows have given way
pub first_part : (a : List ℕ) (kept : List (ℕ × Node)) (rows : List (ℕ × Node)) (at : ℕ) (next : Bool) (before after : List (String Global × ℕ)) (old new : Database) → AreFrom 0 rows → at ≤ length kept → at ≤ length rows → next ≡ nat_lt 0 at → before ≡ []
    → RenewsRows a (take at kept) (take at rows) before after old new → IsUpTo a kept rows at next after old new
first_part a kept rows at next before after old new numbered in_kept in_rows is none renews there store =
    let are = some_there a 0 at (length kept) kept old in_kept there in
    let ours = take at rows in
    let size : length ours ≡ at = length-take-le at rows in_rows in
    let zero_more : 0 + at ≡ at = omega arith in
    let done = renews 0 (first_numbered at 0 rows numbered) store.sound (subst (AreNumbers (label_rows old)) (sym none) tt) (subst (λ k. AreThere a 0 k (take at kept) old) (sym size) are) in
    let here : HasRenewed a 0 at (map cells ours) old new = subst (λ k. HasRenewed a 0 k (map cells ours) old new) (let e : 0 + length ours ≡ at = omega (arith, size) in e) done.0 in
    let many : at ≡ length (take at kept) = sym (length-take-le at kept in_kept) in
    let counted : at ≡ length (filter (is_between 0 at) (rows_at a (shown_rows old))) = many ∙ so_many a 0 are.0 old are.1 at at (sym zero_more) (take at kept) are.2 in
    let more = renew_more a 0 at 0 at [] (map cells ours) old old new (omega arith) tt (nothing_yet a old store) here counted in
    ((at, is, subst (λ n. IsReplaced a at n (map cells ours) old new) zero_more more), done.1)

-- one part more has given way
pub part_more : (a : List ℕ) (kept : List (ℕ × Node)) (rows : List (ℕ × Node)) (at stop count : ℕ) (replaced next : Bool) (before after : List (String Global × ℕ)) (old now new : Database) → AreFrom 0 rows → at ≤ stop → next ≡ (replaced || nat_lt 0 count) → IsUpTo a kept rows at replaced before old now
    → RenewsPart a at stop (map cells (slice_range rows at stop)) before after now new count → IsUpTo a kept rows stop next after old new
part_more a kept rows at stop count replaced next before after old now new numbered forward is so_far renews there store =
    let up = so_far there store in
    let done = up.0 in
    let zero_more : 0 + at ≡ at = omega arith in
    let below = subst (λ k. AllByRecursion (λ x. is_from k x ≡ false) (map cells (take at rows))) zero_more (new_before 0 at rows numbered) in
    let runs = runs_on a at done.0 (map cells (take at rows)) old now store below done.2 in
    let part = renews done.2.sound up.1 runs.0 runs.1 in
    let more = renew_more a at stop done.0 count (map cells (take at rows)) (map cells (slice_range rows at stop)) old now new forward below done.2 part.0 part.2 in
    let joined : map cells (take at rows) ++ map cells (slice_range rows at stop) ≡ map cells (take stop rows) =
    sym (ap (map cells) (take_then at stop rows forward) ∙ map-append cells (take at rows) (slice_range rows at stop)) in
    let some : next ≡ nat_lt 0 (done.0 + count) = is ∙ ap (λ b. b || nat_lt 0 count) done.1 ∙ either_some done.0 count in
    ((done.0 + count, some, subst (λ l. IsReplaced a stop (done.0 + count) l old new) joined more), part.1)
