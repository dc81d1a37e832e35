-- What a change of the tables is to the rows with the names of their labels.
use Rattle.std.proofs.Common.{◌≡◌, ◌++◌, ℕ, pos, List, [], ◌∷◌, map, filter, length, get_or, cond, Bool, true, false, not, refl, sym, ap, ap₂, subst, ◌∙◌, inl, inr, Ordering, Less, Equal, Greater}
use Rattle.std.specs.Ordering.{is_eq, ordering_reverse}
use Rattle.std.specs.List.{AllByRecursion}
use Rattle.std.specs.List.Sorted.{IsPermutation}
use Rattle.std.proofs.lemmas.Cmp.{tied_itself}
use Rattle.std.proofs.lemmas.List.{length-map}
use Rattle.std.proofs.lemmas.List.Elements.{filter-append}
use Rattle.sqlite_value.specs.Order.{Row, column, value_cmp}
use Rattle.sqlite_value.specs.declared.value.Value.{Value}
use Rattle.sqlite_value.specs.declared.value.Value.TheVariants.{Int}
use Rattle.sqlite_value.proofs.OrderLemmas.{value_cmp_total}
use Rattle.sqlite_trees.specs.Tree.{put_row, rowid}
use Rattle.sqlite_trees.proofs.ListLemmas.{filter-map, IsPermutation-filter}
use Rattle.sqlite_keyed.specs.Lists.{delete_where}
use Rattle.sqlite_keyed.proofs.ListLemmas.{all_weaker, filter_none}
use Rattle.sqlite_rules.specs.Edit.{is_taken}
use Rattle.sqlite_rules.specs.Lists.{Has}
use Rattle.sqlite_rules.proofs.ListLemmas.{all_has, has_filtered}
use Rattle.sqlite_sql.specs.Ops.{binary, is_true}
use Rattle.sqlite_sql.specs.declared.ops.BinaryOp.TheVariants.{Compare}
use Rattle.sqlite_sql.specs.declared.ops.CompareOp.TheVariants.{Eq}
use Rattle.sqlite_value.specs.declared.keys.Collation.TheVariants.{Binary}
use Rattle.sqlite.proofs.Callers.{one_permutation}
use Rattle.xq_tables.specs.Documents.{AreApart}
use Rattle.xq_tables.specs.Labels.{has_number, is_label, named, named_rows, HasLabel, IsNumbered, IsNumberOf}
use Rattle.xq_tables.proofs.Inserts.{not_taken, put_passed, put_permutes}
use Rattle.xq_tables.proofs.Lists.{same_test, tied}
use Rattle.xq_tables.proofs.Selects.{equals_int}

-- # Rows that pass a test that reads neither the label nor the name

module _ (p : Row → Bool) (same : (r l : Row) → p (named r l) ≡ p r) where
  all_pass : (r : Row) → p r ≡ true → (labels : List Row) → filter p (map (named r) labels) ≡ map (named r) labels
  all_pass r e [] = refl
  all_pass r e (l ∷ ls) = rw (same r l ∙ e) (ap (λ t. named r l ∷ t) (all_pass r e ls))

  none_pass : (r : Row) → p r ≡ false → (labels : List Row) → filter p (map (named r) labels) ≡ []
  none_pass r e [] = refl
  none_pass r e (l ∷ ls) = rw (same r l ∙ e) (none_pass r e ls)

  pub named_filter : (labels nodes : List Row) → filter p (named_rows labels nodes) ≡ named_rows labels (filter p nodes)
  named_filter labels [] = refl
  named_filter labels (r ∷ rs) = filter-append p (map (named r) (filter (is_label r) labels)) (named_rows labels rs) ∙ go (p r) refl (named_filter labels rs)
    where
      go : (b : Bool) → p r ≡ b → filter p (named_rows labels rs) ≡ named_rows labels (filter p rs)
          → filter p (map (named r) (filter (is_label r) labels)) ++ filter p (named_rows labels rs) ≡ named_rows labels (cond b (r ∷ filter p rs) (filter p rs))
      go true e h = ap₂ ◌++◌ (all_pass r e (filter (is_label r) labels)) h
      go false e h = ap₂ ◌++◌ (none_pass r e (filter (is_label r) labels)) h

-- so what a DELETE of such rows of `node2` takes out is what it takes out of the rows with names
pub named_deleted : (p : Row → Bool) → ((r l : Row) → p (named r l) ≡ p r) → (labels nodes : List Row) → delete_where p (named_rows labels nodes) ≡ named_rows labels (delete_where p nodes)
named_deleted p same labels nodes = named_filter (λ r. not (p r)) (λ r l. ap not (same r l)) labels nodes

-- # Rows that have one label each

-- a row with the name of its label
abbrev pub with_name : List Row → Row → Row
with_name labels r = named r (get_or (filter (is_label r) labels) 0 [])

pub named_each : (labels nodes : List Row) → AllByRecursion (HasLabel labels) nodes → named_rows labels nodes ≡ map (with_name labels) nodes
named_each labels [] held = refl
named_each labels (r ∷ rs) held =
    subst (λ found. map (named r) found ++ named_rows labels rs ≡ named r (get_or found 0 []) ∷ map (with_name labels) rs) (sym held.0.1) (ap (λ l. named r held.0.0 ∷ l) (named_each labels rs held.1))

-- as many of them pass a test that reads neither the label nor the name
pub named_count : (p : Row → Bool) → ((r l : Row) → p (named r l) ≡ p r) → (labels nodes : List Row) → AllByRecursion (HasLabel labels) nodes → length (filter p (named_rows labels nodes)) ≡ length (filter p nodes)
named_count p same labels nodes held =
    ap (λ l. length (filter p l)) (named_each labels nodes held) ∙ ap length (filter-map p (with_name labels) nodes ∙ ap (map (with_name labels)) (same_test (λ r. p (with_name labels r)) p (λ r. same r (get_or (filter (is_label r) labels) 0 [])) nodes))
    ∙ length-map (filter p nodes) (with_name labels)

-- # A label more

-- the label of a value: of a column of numbers, or of a number
abbrev pub labels_it : Value → Row → Bool
labels_it v l = is_true (binary (Compare Eq Binary) v (column l 0))

pub by_number : (v : Value) (l : Row) → IsNumbered l → labels_it v l ≡ is_eq (value_cmp v (rowid l))
by_number v l (n, is, small) = ap (λ x. is_true (binary (Compare Eq Binary) v x)) is ∙ equals_int v (pos n) ∙ ap (λ x. is_eq (value_cmp v x)) (sym is)

module _ (labels : List Row) (new : Row) (free : is_taken labels new ≡ false) (numbered : IsNumbered new) (small : AllByRecursion IsNumbered labels) where
  -- what has a label has not the new one
  not_its : (v : Value) (l : Row) → filter (labels_it v) labels ≡ l ∷ [] → labels_it v new ≡ false
  not_its v l one = go (labels_it v new) refl
    where
      there : Has labels l × (labels_it v l ≡ true)
      there = has_filtered (labels_it v) labels l (subst (λ found. Has found l) (sym one) (inl refl))

      apart : is_eq (value_cmp (rowid new) (rowid l)) ≡ false
      apart = all_has (λ y. is_eq (value_cmp (rowid new) (rowid y)) ≡ false) labels l (not_taken new labels free) there.0

      go : (b : Bool) → labels_it v new ≡ b → labels_it v new ≡ false
      go false e = e
      go true e = absurd (
          let mine : value_cmp v (rowid new) ≡ Equal = tied _ (sym (by_number v new numbered) ∙ e) in
          let its : is_eq (value_cmp v (rowid l)) ≡ true = sym (by_number v l (all_has IsNumbered labels l small there.0)) ∙ there.1 in
          let same : value_cmp v (rowid l) ≡ value_cmp (rowid new) (rowid l) = value_cmp_total.congr v (rowid new) (rowid l) mine in
          let f = sym apart ∙ ap is_eq (sym same) ∙ its in cc)

  found_too : (v : Value) (l : Row) → filter (labels_it v) labels ≡ l ∷ [] → filter (labels_it v) (put_row new labels) ≡ l ∷ []
  found_too v l one = put_passed (labels_it v) new labels (not_its v l one) free ∙ one

  pub number_stays : (n : ℕ) (name : List ℕ) → IsNumberOf labels n name → IsNumberOf (put_row new labels) n name
  number_stays n name (l, one, named_so) = (l, found_too (Int (pos n)) l one, named_so)

  pub held_stays : (nodes : List Row) → AllByRecursion (HasLabel labels) nodes → AllByRecursion (HasLabel (put_row new labels)) nodes
  held_stays nodes held = all_weaker (HasLabel labels) (HasLabel (put_row new labels)) (λ r has. (has.0, found_too (column r 6) has.0 has.1)) nodes held

  -- a label that no row has changes no row
  pub named_stays : (nodes : List Row) → AllByRecursion (HasLabel labels) nodes → named_rows (put_row new labels) nodes ≡ named_rows labels nodes
  named_stays [] held = refl
  named_stays (r ∷ rs) held = ap₂ ◌++◌ (ap (map (named r)) (found_too (column r 6) held.0.0 held.0.1 ∙ sym held.0.1)) (named_stays rs held.1)

  -- the number of the new one is its own
  pub number_new : (n : ℕ) → column new 0 ≡ Int (pos n) → filter (has_number n) (put_row new labels) ≡ new ∷ []
  number_new n is = one_permutation new _ (subst (λ l. IsPermutation l (filter (has_number n) (put_row new labels))) front (IsPermutation-filter (has_number n) _ _ (put_permutes new labels free)))
    where
      none : filter (has_number n) labels ≡ []
      none = filter_none (has_number n) labels (others labels small (not_taken new labels free))
        where
          others : (ls : List Row) → AllByRecursion IsNumbered ls → AllByRecursion (λ y. is_eq (value_cmp (rowid new) (rowid y)) ≡ false) ls → AllByRecursion (λ l. has_number n l ≡ false) ls
          others [] all apart = tt
          others (l ∷ ls) all apart = (by_number (Int (pos n)) l all.0 ∙ ap (λ v. is_eq (value_cmp v (rowid l))) (sym is) ∙ apart.0, others ls all.1 apart.1)

      own : has_number n new ≡ true
      own = by_number (Int (pos n)) new numbered ∙ ap (λ v. is_eq (value_cmp v (rowid new))) (sym is) ∙ ap is_eq (tied_itself value_cmp_total (rowid new))

      last : filter (has_number n) (new ∷ []) ≡ new ∷ []
      last = ap (λ b. cond b (new ∷ []) []) own

      front : filter (has_number n) (labels ++ new ∷ []) ≡ new ∷ []
      front = filter-append (has_number n) labels (new ∷ []) ∙ ap₂ ◌++◌ none last

-- # A label that is there

turned : (o : Ordering) → is_eq (ordering_reverse o) ≡ is_eq o
turned Less = refl
turned Equal = refl
turned Greater = refl

-- a number is that of one label, since numbers are apart
pub number_found : (labels : List Row) (l : Row) (n : ℕ) → AreApart labels → AllByRecursion IsNumbered labels → Has labels l → column l 0 ≡ Int (pos n) → filter (has_number n) labels ≡ l ∷ []
number_found [] l n up small here is = absurd here
number_found (x ∷ xs) l n up small (inl e) is =
    let own : has_number n x ≡ true = by_number (Int (pos n)) x small.0 ∙ ap₂ (λ v y. is_eq (value_cmp v (rowid y))) (sym is) (sym e) ∙ ap is_eq (tied_itself value_cmp_total (rowid l)) in
    let none : filter (has_number n) xs ≡ [] = filter_none (has_number n) xs (others xs small.1 up.0) in
    ap (λ b. cond b (x ∷ filter (has_number n) xs) (filter (has_number n) xs)) own ∙ ap₂ ◌∷◌ (sym e) none
  where
    others : (ls : List Row) → AllByRecursion IsNumbered ls → AllByRecursion (λ y. is_eq (value_cmp (rowid x) (rowid y)) ≡ false) ls → AllByRecursion (λ y. has_number n y ≡ false) ls
    others [] all apart = tt
    others (y ∷ ls) all apart = (by_number (Int (pos n)) y all.0 ∙ ap (λ v. is_eq (value_cmp v (rowid y))) (sym is ∙ ap (λ (z : Row). rowid z) e) ∙ apart.0, others ls all.1 apart.1)
number_found (x ∷ xs) l n up small (inr more) is =
    let apart : is_eq (value_cmp (rowid x) (rowid l)) ≡ false = all_has (λ y. is_eq (value_cmp (rowid x) (rowid y)) ≡ false) xs l up.0 more in
    let other : has_number n x ≡ false =
    by_number (Int (pos n)) x small.0 ∙ ap (λ v. is_eq (value_cmp v (rowid x))) (sym is) ∙ ap is_eq (value_cmp_total.antisymm (rowid l) (rowid x)) ∙ turned (value_cmp (rowid x) (rowid l)) ∙ apart in
    ap (λ b. cond b (x ∷ filter (has_number n) xs) (filter (has_number n) xs)) other ∙ number_found xs l n up.1 small.1 more is
