-- The addresses of a map, place by place: what a put and a drop do to their list.
use Rattle.std.proofs.Common.{◌≡◌, ◌≢◌, ◌&&◌, ◌||◌, ℕ, zero, suc, Bool, true, false, cond, T, List, [], ◌∷◌, map, Some, None, IfSome, refl, sym, ap, subst, ◌∙◌, arith, Ordering, Less, Equal, Greater}
use Rattle.std.specs.Prelude.{slice_get}
use Rattle.std.specs.List.{AllByRecursion, list_any, insert as insert_at, remove as remove_at}
use Rattle.std.specs.Ordering.{eq_by_cmp, is_lt, ordering_reverse}
use Rattle.std.specs.FinMap.{insert, remove, keys, entries, entries_sorted, entries-insert, entries-from_sorted, from_sorted, find, get-entries, get-from_sorted, get-remove, contains_key-keys, same_map, is_sorted, put}
use Rattle.std.specs.FinMap.Entries.{below_all}
use Rattle.std.proofs.lemmas.Cmp.{tied_itself}
use Rattle.xq_trees.specs.Tree.{Tree}
use Rattle.xq_sources.specs.Addresses.{IsBefore, IsGap, Rise}
use Rattle.xq_sources.proofs.Rising.{at_all, map-remove, rise_remove}
use Rattle.xq_tables.specs.Documents.{Map}
use Rattle.xq_tables.proofs.Lists.{tied}
use Rattle.xq_tables.proofs.MapLaws.{remove_absent}
use Rattle.xq_tables.proofs.Maps.{apart_key, order, order_exact, order_total}

abbrev Entries : Type 0
Entries = List (List ℕ × Tree)

abbrev names : Entries → List (List ℕ)
names es = map (λ (e : List ℕ × Tree). e.0) es

-- # Before and after

is_less : (o : Ordering) → T (is_lt o) → o ≡ Less
is_less Less p = refl
is_less Equal p = absurd p
is_less Greater p = absurd p

both_true : (a b : Bool) → T (a && b) → T a × T b
both_true true b p = (tt, p)
both_true false b p = absurd p

true_both : (a b : Bool) → T a → T b → T (a && b)
true_both true b p q = q
true_both false b p q = p

pub after : (a b : List ℕ) → IsBefore a b → order b a ≡ Greater
after a b less = order_total.antisymm b a ∙ ap ordering_reverse less

pub apart : (a b : List ℕ) → IsBefore a b → b ≢ a
apart a b less e = absurd (let tie = sym (subst (λ x. order a x ≡ Less) e less) ∙ tied_itself order_total a in cc)

pub apart_too : (a b : List ℕ) → IsBefore a b → a ≢ b
apart_too a b less e = apart a b less (sym e)

-- # The entries rise

below_names : (a : List ℕ) (es : Entries) → T (below_all order a es) → AllByRecursion (IsBefore a) (names es)
below_names a [] h = tt
below_names a (e ∷ es) h = let two = both_true (is_lt (order a e.0)) (below_all order a es) h in (is_less _ two.0, below_names a es two.1)

names_rise : (es : Entries) → T (is_sorted order es) → Rise (names es)
names_rise [] h = tt
names_rise (e ∷ es) h = let two = both_true (below_all order e.0 es) (is_sorted order es) h in (below_names e.0 es two.0, names_rise es two.1)

names_below : (a : List ℕ) (es : Entries) → AllByRecursion (IsBefore a) (names es) → T (below_all order a es)
names_below a [] all = tt
names_below a (e ∷ es) all = true_both (is_lt (order a e.0)) (below_all order a es) (subst (λ o. T (is_lt o)) (sym all.0) tt) (names_below a es all.1)

rise_names : (es : Entries) → Rise (names es) → T (is_sorted order es)
rise_names [] up = tt
rise_names (e ∷ es) up = true_both (below_all order e.0 es) (is_sorted order es) (names_below e.0 es up.0) (rise_names es up.1)

pub keys_rise : (m : Map) → Rise (keys m)
keys_rise m = names_rise (entries m) (entries_sorted m)

later_gap : (x : List ℕ) (xs : List (List ℕ)) (i : ℕ) (a : List ℕ) → IsGap (x ∷ xs) (suc i) a → IsGap xs i a
later_gap x xs i a gap =
    let w = gap.within in
    record {
      within = omega (arith, w);
      front = λ k b less e. gap.front (suc k) b (omega (arith, less)) e;
      rest = λ k b more e. gap.rest (suc k) b (omega (arith, more)) e;
    }

-- # A put

by_less : (a : List ℕ) (t : Tree) (e : List ℕ × Tree) (es : Entries) (o : Ordering) → order a e.0 ≡ o → o ≡ Less → put order a t (e ∷ es) ≡ (a, t) ∷ e ∷ es
by_less a t e es Less h is = rw h refl
by_less a t e es Equal h is = absurd cc
by_less a t e es Greater h is = absurd cc

by_equal : (a : List ℕ) (t : Tree) (e : List ℕ × Tree) (es : Entries) → order a e.0 ≡ Equal → put order a t (e ∷ es) ≡ (e.0, t) ∷ es
by_equal a t e es h = rw h refl

by_greater : (a : List ℕ) (t : Tree) (e : List ℕ × Tree) (es : Entries) → order a e.0 ≡ Greater → put order a t (e ∷ es) ≡ e ∷ put order a t es
by_greater a t e es h = rw h refl

put_there : (a : List ℕ) (t : Tree) (es : Entries) (i : ℕ) → Rise (names es) → slice_get (names es) i ≡ Some a → names (put order a t es) ≡ names es
put_there a t [] i up here = absurd cc
put_there a t (e ∷ es) zero up here =
    let same : e.0 ≡ a = subst (λ o. IfSome o (λ x. e.0 ≡ x)) here refl in
    ap names (by_equal a t e es (ap (order a) same ∙ tied_itself order_total a))
put_there a t (e ∷ es) (suc i) up here =
    let less = at_all (IsBefore e.0) (names es) i a up.0 here in
    ap names (by_greater a t e es (after e.0 a less)) ∙ ap (λ l. e.0 ∷ l) (put_there a t es i up.1 here)

put_gap : (a : List ℕ) (t : Tree) (es : Entries) (i : ℕ) → IsGap (names es) i a → names (put order a t es) ≡ insert_at (names es) i a
put_gap a t [] zero gap = refl
put_gap a t [] (suc i) gap = let w = gap.within in absurd (omega (arith, w))
put_gap a t (e ∷ es) zero gap = ap names (by_less a t e es (order a e.0) refl (gap.rest 0 e.0 (omega arith) refl))
put_gap a t (e ∷ es) (suc i) gap =
    ap names (by_greater a t e es (after e.0 a (gap.front 0 e.0 (omega arith) refl))) ∙ ap (λ l. e.0 ∷ l) (put_gap a t es i (later_gap e.0 (names es) i a gap))

pub keys_put_there : (m : Map) (a : List ℕ) (t : Tree) (i : ℕ) → slice_get (keys m) i ≡ Some a → keys (insert m a t) ≡ keys m
keys_put_there m a t i here = ap names (entries-insert order_total m a t) ∙ put_there a t (entries m) i (keys_rise m) here

pub keys_put_gap : (m : Map) (a : List ℕ) (t : Tree) (i : ℕ) → IsGap (keys m) i a → keys (insert m a t) ≡ insert_at (keys m) i a
keys_put_gap m a t i gap = ap names (entries-insert order_total m a t) ∙ put_gap a t (entries m) i gap

-- # A drop

-- nothing is found under an address that comes before all
none_found : (q : List ℕ) (es : Entries) → AllByRecursion (IsBefore q) (names es) → find order q es ≡ None
none_found q [] all = refl
none_found q (e ∷ es) all = ap (λ b. cond b (Some e.1) (find order q es)) (apart_key e.0 q (apart_too q e.0 all.0)) ∙ none_found q es all.1

find_without : (q a : List ℕ) (es : Entries) (i : ℕ) → Rise (names es) → slice_get (names es) i ≡ Some a → find order q (remove_at es i) ≡ cond (eq_by_cmp order q a) None (find order q es)
find_without q a [] i up here = absurd cc
find_without q a (e ∷ es) zero up here = go (eq_by_cmp order q a) refl
  where
    same : e.0 ≡ a
    same = subst (λ o. IfSome o (λ x. e.0 ≡ x)) here refl

    go : (b : Bool) → eq_by_cmp order q a ≡ b → find order q es ≡ cond b None (cond (eq_by_cmp order q e.0) (Some e.1) (find order q es))
    go true h = none_found q es (subst (λ x. AllByRecursion (IsBefore x) (names es)) (same ∙ sym (order_exact q a (tied _ h))) up.0)
    go false h = sym (ap (λ b. cond b (Some e.1) (find order q es)) (ap (eq_by_cmp order q) same ∙ h))
find_without q a (e ∷ es) (suc i) up here = go (eq_by_cmp order q e.0) refl (find_without q a es i up.1 here)
  where
    less : IsBefore e.0 a
    less = at_all (IsBefore e.0) (names es) i a up.0 here

    go : (b : Bool) → eq_by_cmp order q e.0 ≡ b → find order q (remove_at es i) ≡ cond (eq_by_cmp order q a) None (find order q es)
        → cond b (Some e.1) (find order q (remove_at es i)) ≡ cond (eq_by_cmp order q a) None (cond b (Some e.1) (find order q es))
    go true h later = sym (ap (λ b. cond b None (Some e.1)) (apart_key a q (λ is. apart_too e.0 a less (sym (order_exact q e.0 (tied _ h)) ∙ is))))
    go false h later = later

pub keys_drop_there : (m : Map) (a : List ℕ) (i : ℕ) → slice_get (keys m) i ≡ Some a → keys (remove m a) ≡ remove_at (keys m) i
keys_drop_there m a i here =
    let es = entries m in
    let up = keys_rise m in
    let left : T (is_sorted order (remove_at es i)) = rise_names (remove_at es i) (subst Rise (sym (map-remove (λ (e : List ℕ × Tree). e.0) es i)) (rise_remove (names es) i up)) in
    let is : remove m a ≡ from_sorted (remove_at es i) = same_map order_total order_exact _ _ (λ q.
    get-remove order_total m a q ∙ ap (λ o. cond (eq_by_cmp order q a) None o) (get-entries m q) ∙ sym (find_without q a es i up here) ∙ sym (get-from_sorted order (remove_at es i) q left)) in
    ap keys is ∙ ap names (entries-from_sorted order (remove_at es i) left) ∙ map-remove (λ (e : List ℕ × Tree). e.0) es i

none_tie : (a : List ℕ) (xs : List (List ℕ)) → AllByRecursion (λ b. b ≢ a) xs → list_any (eq_by_cmp order a) xs ≡ false
none_tie a [] all = refl
none_tie a (x ∷ xs) all = ap (λ b. b || list_any (eq_by_cmp order a) xs) (apart_key x a (λ e. all.0 (sym e))) ∙ none_tie a xs all.1

-- an address that would stand in a gap is none of them
pub gap_apart : (a : List ℕ) (ks : List (List ℕ)) (i : ℕ) → IsGap ks i a → AllByRecursion (λ b. b ≢ a) ks
gap_apart a [] i gap = tt
gap_apart a (k ∷ ks) zero gap = (apart a k (gap.rest 0 k (omega arith) refl), gap_apart a ks 0 (record { within = omega arith; front = λ j b less e. absurd (omega (arith, less)); rest = λ j b more e. gap.rest (suc j) b (omega arith) e }))
gap_apart a (k ∷ ks) (suc i) gap = (apart_too k a (gap.front 0 k (omega arith) refl), gap_apart a ks i (later_gap k ks i a gap))

pub keys_drop_gap : (m : Map) (a : List ℕ) (i : ℕ) → IsGap (keys m) i a → keys (remove m a) ≡ keys m
keys_drop_gap m a i gap = ap keys (remove_absent m a (contains_key-keys m a ∙ none_tie a (keys m) (gap_apart a (keys m) i gap)))
