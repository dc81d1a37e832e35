-- What a row more is to a table.
use Rattle.std.proofs.Common.{◌≡◌, ◌&&◌, ℕ, ℤ, List, [], ◌∷◌, filter, Bool, true, false, not, cond, refl, sym, ap, ◌∙◌, ◌++◌, ◌||◌, ◌≢◌, Ordering, Less, Equal, Greater}
use Rattle.sqlite_value.specs.Order.{Row, value_cmp}
use Rattle.sqlite_value.specs.declared.value.Value.{Value}
use Rattle.sqlite_value.specs.declared.value.Value.TheVariants.{Null, Int, Text}
use Rattle.sqlite_trees.specs.Tree.{put_row, rowid}
use Rattle.sqlite_sql.specs.Ops.{unary}
use Rattle.sqlite.specs.Kind.TheVariants as kind
use Rattle.sqlite.specs.Cast.{cast}
use Rattle.sqlite_rules.specs.Edit.{is_taken, are_fresh}
use Rattle.sqlite.specs.State.{State, KeepsCommit}
use Rattle.std.specs.Ordering.{is_eq, match_ordering, ordering_reverse}
use Rattle.std.specs.List.Sorted.{IsPermutation}
use Rattle.std.proofs.lemmas.List.Sorted.{IsPermutation-refl, IsPermutation-cons, IsPermutation-to_front}
use Rattle.std.proofs.lemmas.Cmp.{tied_itself}
use Rattle.sqlite_value.proofs.OrderLemmas.{value_cmp_total, value_cmp-Text}
use Rattle.std.proofs.lemmas.Map.Lookups.{exact_bytes}
use Rattle.sqlite_trees.proofs.TreeLemmas.{all-put_row}
use Rattle.std.specs.List.{AllByRecursion}
use Rattle.xq_tables.specs.Documents.{AreApart}

either : (b : Bool) (x : Value) → cond b x x ≡ x
either true x = refl
either false x = refl

pub cast_null : cast kind.Integer Null ≡ Null
unfolding unary
cast_null = either _ Null

pub cast_int : (n : ℤ) → cast kind.Integer (Int n) ≡ Int n
unfolding unary
cast_int n = either _ (Int n)

pub one_fresh : (rows : List Row) (row : Row) → are_fresh rows (row ∷ []) ≡ true → is_taken rows row ≡ false
one_fresh rows row h = go (is_taken rows row) h
  where
    go : (b : Bool) → (not b && true) ≡ true → b ≡ false
    go true e = absurd cc
    go false e = refl

-- a row whose rowid is free is added, wherever it comes to stand
pub put_permutes : (new : Row) (rows : List Row) → is_taken rows new ≡ false → IsPermutation (rows ++ new ∷ []) (put_row new rows)
put_permutes new [] free = IsPermutation-refl _
put_permutes new (r ∷ rs) free = go (value_cmp (rowid r) (rowid new)) free (put_permutes new rs)
  where
    go : (o : Ordering) → (is_eq o || is_taken rs new) ≡ false → (is_taken rs new ≡ false → IsPermutation (rs ++ new ∷ []) (put_row new rs))
        → IsPermutation (r ∷ (rs ++ new ∷ [])) (match_ordering o (r ∷ put_row new rs) (new ∷ rs) (new ∷ r ∷ rs))
    go Less h more = IsPermutation-cons r _ _ (more h)
    go Equal h more = absurd cc
    go Greater h more = IsPermutation-to_front (r ∷ rs) new

turned : (o : Ordering) → is_eq (ordering_reverse o) ≡ is_eq o
turned Less = refl
turned Equal = refl
turned Greater = refl

pub not_taken : (new : Row) (rows : List Row) → is_taken rows new ≡ false → AllByRecursion (λ y. is_eq (value_cmp (rowid new) (rowid y)) ≡ false) rows
not_taken new [] free = tt
not_taken new (r ∷ rs) free = go (is_eq (value_cmp (rowid r) (rowid new))) refl free (not_taken new rs)
  where
    go : (b : Bool) → is_eq (value_cmp (rowid r) (rowid new)) ≡ b → (b || is_taken rs new) ≡ false → (is_taken rs new ≡ false → AllByRecursion (λ y. is_eq (value_cmp (rowid new) (rowid y)) ≡ false) rs)
        → AllByRecursion (λ y. is_eq (value_cmp (rowid new) (rowid y)) ≡ false) (r ∷ rs)
    go true e h more = absurd cc
    go false e h more = (ap is_eq (value_cmp_total.antisymm (rowid new) (rowid r)) ∙ turned (value_cmp (rowid r) (rowid new)) ∙ e, more h)

-- and no rowid comes twice
pub apart-put_row : (new : Row) (rows : List Row) → is_taken rows new ≡ false → AreApart rows → AreApart (put_row new rows)
apart-put_row new [] free up = (tt, tt)
apart-put_row new (r ∷ rs) free up = go (value_cmp (rowid r) (rowid new)) refl free (apart-put_row new rs)
  where
    go : (o : Ordering) → value_cmp (rowid r) (rowid new) ≡ o → (is_eq o || is_taken rs new) ≡ false → (is_taken rs new ≡ false → AreApart rs → AreApart (put_row new rs))
        → AreApart (match_ordering o (r ∷ put_row new rs) (new ∷ rs) (new ∷ r ∷ rs))
    go Less e h more = (all-put_row _ new rs (ap is_eq e) up.0, more h up.1)
    go Equal e h more = absurd cc
    go Greater e h more = (not_taken new (r ∷ rs) free, up)

pub put_passed : (p : Row → Bool) (new : Row) (rows : List Row) → p new ≡ false → is_taken rows new ≡ false → filter p (put_row new rows) ≡ filter p rows
put_passed p new [] fails free = rw fails refl
put_passed p new (r ∷ rs) fails free = go (value_cmp (rowid r) (rowid new)) free (put_passed p new rs fails)
  where
    go : (o : Ordering) → (is_eq o || is_taken rs new) ≡ false → (is_taken rs new ≡ false → filter p (put_row new rs) ≡ filter p rs)
        → filter p (match_ordering o (r ∷ put_row new rs) (new ∷ rs) (new ∷ r ∷ rs)) ≡ filter p (r ∷ rs)
    go Less h more = ap (λ l. cond (p r) (r ∷ l) l) (more h)
    go Equal h more = absurd cc
    go Greater h more = rw fails refl

pub own_address : (a : List ℕ) → is_eq (value_cmp (Text a) (Text a)) ≡ true
own_address a = ap is_eq (tied_itself value_cmp_total (Text a))

pub other_address : (a b : List ℕ) → b ≢ a → is_eq (value_cmp (Text a) (Text b)) ≡ false
other_address a b apart = go (value_cmp (Text a) (Text b)) refl
  where
    go : (o : Ordering) → value_cmp (Text a) (Text b) ≡ o → is_eq o ≡ false
    go Less e = refl
    go Equal e = absurd (apart (sym (exact_bytes a b (sym (value_cmp-Text a b) ∙ e))))
    go Greater e = refl

pub kept_then : (first mid last : State) → KeepsCommit first mid → KeepsCommit mid last → KeepsCommit first last
kept_then first mid last p q = record { was_open = λ up. p.was_open (q.was_open up); committed = λ up. q.committed up ∙ p.committed (q.was_open up) }
