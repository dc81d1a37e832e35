-- The one order of a document's rows.
use Rattle.std.proofs.Common.{◌≡◌, ℕ, ◌+◌, ◌<◌, pos, Bool, true, false, cond, List, [], ◌∷◌, map, refl, sym, ap, ◌∙◌, arith, Ordering, Less, Equal, Greater}
use Rattle.std.specs.Ordering.{is_eq, is_gt, is_lt, ordering_reverse}
use Rattle.std.specs.List.{AllByRecursion}
use Rattle.std.specs.List.Sorted.{IsPermutation, IsSorted}
use Rattle.std.specs.Cmp.{IsTotalOrder}
use Rattle.std.proofs.lemmas.Cmp.{on_total, upto}
use Rattle.std.proofs.lemmas.List.Sorted.{IsPermutation-sym, IsPermutation-trans}
use Rattle.std.proofs.lemmas.Int.{ints}
use Rattle.sqlite_value.specs.Order.{Row, column, value_cmp}
use Rattle.sqlite_value.proofs.OrderLemmas.{value_cmp_total, value_cmp-Int}
use Rattle.sqlite_value.specs.declared.value.Value.TheVariants.{Int}
use Rattle.sqlite_trees.specs.Tree.{IsAscending}
use Rattle.sqlite_trees.proofs.ListLemmas.{all_weaker, ascending-get_or}
use Rattle.sqlite_keyed.specs.Lists.{sort_by, insert_sorted}
use Rattle.sqlite_keyed.proofs.SortLemmas.{IsPermutation-sort_by, sorted_unique}
use Rattle.std.specs.List.{enumerate_from}
use Rattle.xq_trees.specs.Rows.{Row as Node}
use Rattle.xq_tables.specs.Nodes.{cells}
use Rattle.xq_tables.specs.Documents.{by_first}

module _ {X : Type 0} (cmp : X → X → Ordering) (total : IsTotalOrder cmp) where
  abbrev AtMost : X → X → Type 0
  AtMost a b = is_gt (cmp a b) ≡ false

  turned : (o : Ordering) → is_gt o ≡ true → is_gt (ordering_reverse o) ≡ false
  turned Less e = absurd cc
  turned Equal e = absurd cc
  turned Greater e = refl

  flipped : (o : Ordering) → is_gt o ≡ false → is_lt (ordering_reverse o) ≡ false
  flipped Less e = refl
  flipped Equal e = refl
  flipped Greater e = absurd cc

  all_more : (P : X → Type 0) (new : X) (xs : List X) → P new → AllByRecursion P xs → AllByRecursion P (insert_sorted cmp new xs)
  all_more P new [] h all = (h, tt)
  all_more P new (x ∷ xs) h all =
      elim (is_gt (cmp new x)) as (λ b. AllByRecursion P (cond b (x ∷ insert_sorted cmp new xs) (new ∷ x ∷ xs))) [ true ↦ (all.0, all_more P new xs h all.1) | false ↦ (h, all) ]

  pub rises : (new : X) (xs : List X) → IsAscending AtMost xs → IsAscending AtMost (insert_sorted cmp new xs)
  rises new [] up = (tt, tt)
  rises new (x ∷ xs) up = go (is_gt (cmp new x)) refl (rises new xs up.1)
    where
      go : (b : Bool) → is_gt (cmp new x) ≡ b → IsAscending AtMost (insert_sorted cmp new xs) → IsAscending AtMost (cond b (x ∷ insert_sorted cmp new xs) (new ∷ x ∷ xs))
      go true e more = (all_more (AtMost x) new xs (ap is_gt (total.antisymm x new) ∙ turned _ e) up.0, more)
      go false e more = ((e, all_weaker (AtMost x) (AtMost new) (λ z. upto total new x z e) xs up.0), up)

  all_rise : (xs : List X) → IsAscending AtMost (sort_by cmp xs)
  all_rise [] = tt
  all_rise (x ∷ xs) = rises x (sort_by cmp xs) (all_rise xs)

  pub sorted_from : (xs : List X) → IsAscending AtMost xs → IsSorted cmp xs
  sorted_from xs up k d low high = let h = ascending-get_or AtMost xs k (k + 1) d up (omega arith) high in ap is_lt (total.antisymm _ _) ∙ flipped _ h

  -- a list has one order that rises
  pub sorted_is : (xs ys : List X) → IsAscending (λ a b. cmp a b ≡ Less) ys → IsPermutation xs ys → sort_by cmp xs ≡ ys
  sorted_is xs ys strict same =
      sorted_unique cmp total ys (sort_by cmp xs) strict (IsPermutation-trans _ _ _ (IsPermutation-sym _ _ same) (IsPermutation-sym _ _ (IsPermutation-sort_by cmp total xs))) (sorted_from _ (all_rise xs))

  abbrev Lower : X → X → Type 0
  Lower a b = cmp a b ≡ Less

  rises_strictly : (new : X) (xs : List X) → AllByRecursion (λ y. is_eq (cmp new y) ≡ false) xs → IsAscending Lower xs → IsAscending Lower (insert_sorted cmp new xs)
  rises_strictly new [] apart up = (tt, tt)
  rises_strictly new (x ∷ xs) apart up = go (cmp new x) refl (rises_strictly new xs apart.1 up.1)
    where
      go : (o : Ordering) → cmp new x ≡ o → IsAscending Lower (insert_sorted cmp new xs) → IsAscending Lower (cond (is_gt o) (x ∷ insert_sorted cmp new xs) (new ∷ x ∷ xs))
      go Less e more = ((e, all_weaker (Lower x) (Lower new) (λ y. total.trans new x y e) xs up.0), up)
      go Equal e more = absurd (let f = sym (ap is_eq e) ∙ apart.0 in cc)
      go Greater e more = (all_more (Lower x) new xs (total.antisymm x new ∙ ap ordering_reverse e) up.0, more)

  all_sorted : (P : X → Type 0) (xs : List X) → AllByRecursion P xs → AllByRecursion P (sort_by cmp xs)
  all_sorted P [] all = tt
  all_sorted P (x ∷ xs) all = all_more P x (sort_by cmp xs) all.0 (all_sorted P xs all.1)

  -- a list without ties rises strictly, once it is sorted
  pub sort_rises : (xs : List X) → IsAscending (λ a b. is_eq (cmp a b) ≡ false) xs → IsAscending (λ a b. cmp a b ≡ Less) (sort_by cmp xs)
  sort_rises [] apart = tt
  sort_rises (x ∷ xs) apart = rises_strictly x (sort_by cmp xs) (all_sorted _ xs apart.0) (sort_rises xs apart.1)

below : (a b : ℕ) → a < b → value_cmp (Int (pos a)) (Int (pos b)) ≡ Less
below a b h = value_cmp-Int (pos a) (pos b) ∙ grind (arith, ints)

from_here : (k l : ℕ) (first : Node) (nodes : List Node) → k < l → AllByRecursion (λ r. by_first (cells (k, first)) r ≡ Less) (map cells (enumerate_from l nodes))
from_here k l first [] h = tt
from_here k l first (n ∷ ns) h = (below k l h, from_here k (l + 1) first ns (omega arith))

-- the rows of a tree rise by their numbers
pub numbers_rise : (k : ℕ) (nodes : List Node) → IsAscending (λ a b. by_first a b ≡ Less) (map cells (enumerate_from k nodes))
numbers_rise k [] = tt
numbers_rise k (n ∷ ns) = (from_here k (k + 1) n ns (omega arith), numbers_rise (k + 1) ns)

pub first_total : IsTotalOrder by_first
first_total = on_total (λ r. column r 0) value_cmp_total

-- rows that are those of nodes in some order, in their own order
pub sorted_nodes : (rows : List Row) (nodes : List Node) → IsPermutation rows (map cells (enumerate_from 0 nodes)) → sort_by by_first rows ≡ map cells (enumerate_from 0 nodes)
sorted_nodes rows nodes same = sorted_is by_first first_total rows _ (numbers_rise 0 nodes) same
