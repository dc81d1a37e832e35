-- Lists of rows.
use Rattle.std.proofs.Common.{◌≡◌, ℤ, List, [], ◌∷◌, ◌++◌, map, filter, flat_map, Bool, true, false, not, cond, refl, sym, ap, ◌∙◌, inl, inr, Less, Equal, Greater}
use Rattle.std.proofs.Common.{subst, IsTrue, Ordering}
use Rattle.std.proofs.lemmas.List.Sorted.{Contains-permutation, IsPermutation-sym}
use Rattle.std.specs.Ordering.{ordering_reverse}
use Rattle.std.proofs.lemmas.Cmp.{tied_itself}
use Rattle.sqlite_value.specs.declared.value.Value.{Value}
use Rattle.sqlite_value.proofs.OrderLemmas.{value_cmp_total}
use Rattle.sqlite_trees.specs.View.{is_int}
use Rattle.sqlite_rules.specs.Lists.{Has}
use Rattle.sqlite_rules.specs.Calls.{ids_of}
use Rattle.sqlite_rules.specs.Edit.{id_in}
use Rattle.sqlite_rules.proofs.ListLemmas.{all_has, all_from, has_kept, has_filtered, has_contained, contains_had}
use Rattle.sqlite_rules.proofs.TableLemmas.{int_is}
use Rattle.sqlite_trees.proofs.ListLemmas.{filter_same}
use Rattle.sqlite_keyed.specs.Lists.{delete_where}
use Rattle.xq_tables.specs.Documents.{AreApart, HaveInts}
use Rattle.std.specs.List.Sorted.{IsPermutation}
use Rattle.std.specs.Ordering.{is_eq}
use Rattle.sqlite_value.specs.Order.{Row, value_cmp}
use Rattle.sqlite.specs.declared.types.Value.TheVariants.{Int}
use Rattle.sqlite_trees.specs.Tree.{rowid, has_rowid, without_rowid}
use Rattle.sqlite_rules.specs.Edit.{without_all}

pub flat_map_picks : {A B : Type 0} (p : A → Bool) (f : A → B) (xs : List A) → flat_map (λ x. cond (p x) (f x ∷ []) []) xs ≡ map f (filter p xs)
flat_map_picks p f [] = refl
flat_map_picks p f (x ∷ xs) = go (p x) (flat_map_picks p f xs)
  where
    go : (b : Bool) → flat_map (λ x. cond (p x) (f x ∷ []) []) xs ≡ map f (filter p xs) → cond b (f x ∷ []) [] ++ flat_map (λ x. cond (p x) (f x ∷ []) []) xs ≡ map f (cond b (x ∷ filter p xs) (filter p xs))
    go true e = ap (λ l. f x ∷ l) e
    go false e = e

abbrev pub is_gone : List ℤ → Row → Bool
is_gone [] r = false
is_gone (id ∷ ids) r = cond (has_rowid id r) true (is_gone ids r)

pub both_filters : {A : Type 0} (p q : A → Bool) (xs : List A) → filter p (filter q xs) ≡ filter (λ x. cond (q x) (p x) false) xs
both_filters p q [] = refl
both_filters p q (x ∷ xs) = go (q x) (p x) refl (both_filters p q xs)
  where
    go : (b c : Bool) → p x ≡ c → filter p (filter q xs) ≡ filter (λ x. cond (q x) (p x) false) xs
        → filter p (cond b (x ∷ filter q xs) (filter q xs)) ≡ cond (cond b c false) (x ∷ filter (λ x. cond (q x) (p x) false) xs) (filter (λ x. cond (q x) (p x) false) xs)
    go true true e h = rw e (ap (λ l. x ∷ l) h)
    go true false e h = rw e h
    go false c e h = h

pub same_test : {A : Type 0} (p q : A → Bool) → ((x : A) → p x ≡ q x) → (xs : List A) → filter p xs ≡ filter q xs
same_test p q h [] = refl
same_test p q h (x ∷ xs) = rw (h x) (ap (λ l. cond (q x) (x ∷ l) l) (same_test p q h xs))

-- those with one of the rowids are taken out
pub without_all-is : (ids : List ℤ) (rows : List Row) → without_all rows ids ≡ filter (λ r. not (is_gone ids r)) rows
without_all-is [] rows = sym (all_kept rows)
  where
    all_kept : (rows : List Row) → filter (λ r. true) rows ≡ rows
    all_kept [] = refl
    all_kept (r ∷ rs) = ap (λ l. r ∷ l) (all_kept rs)
without_all-is (id ∷ ids) rows =
    without_all-is ids (without_rowid id rows) ∙ both_filters (λ r. not (is_gone ids r)) (λ r. not (has_rowid id r)) rows
    ∙ same_test _ _ (λ r. go (has_rowid id r) (is_gone ids r)) rows
  where
    go : (a b : Bool) → cond (not a) (not b) false ≡ not (cond a true b)
    go true b = refl
    go false b = refl

pub map_has : {A B : Type 0} (f : A → B) (xs : List A) (x : A) → Has xs x → Has (map f xs) (f x)
map_has f [] x h = absurd h
map_has f (y ∷ ys) x (inl e) = inl (ap f e)
map_has f (y ∷ ys) x (inr h) = inr (map_has f ys x h)

pub has_map : {A B : Type 0} (f : A → B) (xs : List A) (y : B) → Has (map f xs) y → (x : A) × Has xs x × (y ≡ f x)
has_map f [] y h = absurd h
has_map f (x ∷ xs) y (inl e) = (x, inl refl, e)
has_map f (x ∷ xs) y (inr h) = let more = has_map f xs y h in (more.0, inr more.1, more.2)

pub has_permuted : {A : Type 0} (xs ys : List A) (x : A) → IsPermutation xs ys → Has xs x → Has ys x
has_permuted xs ys x same h = has_contained ys x (Contains-permutation xs ys x same (contains_had xs x h))

pub gone_has : (ids : List ℤ) (r : Row) → is_gone ids r ≡ true → (id : ℤ) × Has ids id × (has_rowid id r ≡ true)
gone_has [] r h = absurd cc
gone_has (id ∷ ids) r h = go (has_rowid id r) refl (gone_has ids r)
  where
    go : (b : Bool) → has_rowid id r ≡ b → (is_gone ids r ≡ true → (id : ℤ) × Has ids id × (has_rowid id r ≡ true)) → (i : ℤ) × Has (id ∷ ids) i × (has_rowid i r ≡ true)
    go true e more = (id, inl refl, e)
    go false e more = let it = more (rw e at h) in (it.0, inr it.1, it.2)

pub has_gone : (ids : List ℤ) (r : Row) (id : ℤ) → Has ids id → has_rowid id r ≡ true → is_gone ids r ≡ true
has_gone [] r id here h = absurd here
has_gone (i ∷ ids) r id (inl e) h = let here : has_rowid i r ≡ true = subst (λ z. has_rowid z r ≡ true) e h in ap (λ b. cond b true (is_gone ids r)) here
has_gone (i ∷ ids) r id (inr more) h = ap (cond (has_rowid i r) true) (has_gone ids r id more h) ∙ always (has_rowid i r)
  where
    always : (b : Bool) → cond b true true ≡ true
    always true = refl
    always false = refl

pub tied : (o : Ordering) → is_eq o ≡ true → o ≡ Equal
tied Less e = absurd cc
tied Equal e = refl
tied Greater e = absurd cc

not_equal : (a b : Value) → is_eq (value_cmp a b) ≡ false → value_cmp a b ≡ Equal → ⊥
not_equal a b apart equal = absurd (let e = sym apart ∙ ap is_eq equal in cc)

-- the rowids of a table tell its rows apart
pub one_row : (table : List Row) (x y : Row) → AreApart table → Has table x → Has table y → value_cmp (rowid x) (rowid y) ≡ Equal → x ≡ y
one_row [] x y up a b e = absurd a
one_row (t ∷ ts) x y up (inl a) (inl b) e = a ∙ sym b
one_row (t ∷ ts) x y up (inl a) (inr b) e =
    absurd (not_equal (rowid t) (rowid y) (all_has (λ z. is_eq (value_cmp (rowid t) (rowid z)) ≡ false) ts y up.0 b) (subst (λ z. value_cmp (rowid z) (rowid y) ≡ Equal) a e))
one_row (t ∷ ts) x y up (inr a) (inl b) e =
    let back : value_cmp (rowid y) (rowid x) ≡ Equal = value_cmp_total.antisymm (rowid y) (rowid x) ∙ ap ordering_reverse e in
    absurd (not_equal (rowid t) (rowid x) (all_has (λ z. is_eq (value_cmp (rowid t) (rowid z)) ≡ false) ts x up.0 a) (subst (λ z. value_cmp (rowid z) (rowid x) ≡ Equal) b back))
one_row (t ∷ ts) x y up (inr a) (inr b) e = one_row ts x y up.1 a b e

own_rowid : (r : Row) → IsTrue (is_int (rowid r)) → has_rowid (id_in (rowid r)) r ≡ true
own_rowid r h = ap (λ v. is_eq (value_cmp (rowid r) v)) (sym (int_is (rowid r) h)) ∙ ap is_eq (tied_itself value_cmp_total (rowid r))

-- the rowids of the rows that pass a test take out these rows and no others
pub takes_out : (p : Row → Bool) (table found : List Row) → AreApart table → HaveInts table → IsPermutation (map (λ r. rowid r ∷ []) (filter p table)) found
    → without_all table (ids_of found) ≡ delete_where p table
takes_out p table found up ints same = without_all-is (ids_of found) table ∙ filter_same _ _ table (all_from _ table each)
  where
    is_found : (x : Row) → Has table x → p x ≡ true → is_gone (ids_of found) x ≡ true
    is_found x here passed =
        let one = map_has (λ r. rowid r ∷ []) (filter p table) x (has_kept p table x here passed) in
        let there = has_permuted _ found (rowid x ∷ []) same one in
        has_gone (ids_of found) x (id_in (rowid x)) (map_has (λ r. id_in (rowid r)) found (rowid x ∷ []) there) (own_rowid x (all_has _ table x ints here))

    passes : (x : Row) → Has table x → is_gone (ids_of found) x ≡ true → p x ≡ true
    passes x here gone =
        let it = gone_has (ids_of found) x gone in
        let row = has_map (λ r. id_in (rowid r)) found it.0 it.1 in
        let kept = has_map (λ r. rowid r ∷ []) (filter p table) row.0 (has_permuted found _ row.0 (IsPermutation-sym _ _ same) row.1) in
        let y = has_filtered p table kept.0 kept.1 in
        let id : it.0 ≡ id_in (rowid kept.0) = row.2 ∙ ap (λ r. id_in (rowid r)) kept.2 in
        let own : rowid kept.0 ≡ Int it.0 = int_is (rowid kept.0) (all_has _ table kept.0 ints y.0) ∙ ap Int (sym id) in
        let equal : value_cmp (rowid x) (rowid kept.0) ≡ Equal = tied _ (subst (λ v. is_eq (value_cmp (rowid x) v) ≡ true) (sym own) it.2) in
        subst (λ z. p z ≡ true) (sym (one_row table x kept.0 up here y.0 equal)) y.1

    agree : (x : Row) → Has table x → (a b : Bool) → is_gone (ids_of found) x ≡ a → p x ≡ b → not a ≡ not b
    agree x here true true e f = refl
    agree x here true false e f = absurd (let h = sym (passes x here e) ∙ f in cc)
    agree x here false true e f = absurd (let h = sym (is_found x here f) ∙ e in cc)
    agree x here false false e f = refl

    each : (x : Row) → Has table x → not (is_gone (ids_of found) x) ≡ not (p x)
    each x here = agree x here _ _ refl refl
