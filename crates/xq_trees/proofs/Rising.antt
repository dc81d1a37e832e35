-- Nodes in document order.
use Rattle.std.proofs.Common.{◌≡◌, ◌↔◌, suc, ◌<◌, List, [], ◌∷◌, ℕ, ◌+◌, ◌++◌, length, get_or, Bool, true, false, ◌&&◌, ◌||◌, cond, nat_eq, ◌⊎◌, inl, inr, refl, sym, ◌∙◌, ap, subst, arith}
use Rattle.std.specs.List.{list_any, Contains, AllByRecursion, IsAllAdjacentAnswer, dedup}
use Rattle.std.specs.List.Sorted.{IsStrictlySortedBy, IsSorted, IsPermutation}
use Rattle.std.specs.declared.cmp.Ordering.{Ordering}
use Rattle.std.specs.declared.cmp.Ordering.TheVariants.{Less, Equal, Greater}
use Rattle.std.specs.Ordering.{ordering_then, nat_cmp, is_lt, is_eq, eq_by_cmp, MatchOrdering}
use Rattle.std.specs.Cmp.{IsTotalOrder, IsEquivalence, nat_cmp_is, ranks}
use Rattle.std.specs.BTreeSet.{BTreeSet}
use Rattle.std.specs.BTreeMap.{is_at}
use Rattle.std.proofs.lemmas.Cmp.{then_total, on_total, nat_cmp_total}
use Rattle.std.proofs.lemmas.Bool.{cases_order, and_from, and_parts, eq-eqb, eqb-true}
use Rattle.std.proofs.lemmas.List.Kept.{Contains-dedup, Contains-from_dedup, IsStrictlySortedBy-dedup}
use Rattle.std.proofs.lemmas.List.Sorted.{Contains-permutation, IsPermutation-sym}
use Rattle.std.proofs.lemmas.List.Folds.{Any-from_list_any, list_any-from_Any}
use Rattle.std.proofs.lemmas.Map.Keys.{sorted_from_all_adjacent}
use Rattle.std.proofs.lemmas.Map.Lookups.{btree_set_from_contains, exact_unsigned}
use Rattle.xq_trees.specs.declared.items.Node.{Node}
use Rattle.xq_trees.specs.Rising.{document_order, AreRising}
use Rattle.xq_trees.proofs.Lists.{same_test, all_append}

pub order_total : IsTotalOrder document_order
order_total = then_total (on_total (λ (n : Node). n.tree) nat_cmp_total) (on_total (λ (n : Node). n.pre) nat_cmp_total)

both_equal : (a b : Ordering) → ordering_then a b ≡ Equal → (a ≡ Equal) × (b ≡ Equal)
both_equal Less b e = absurd (cc)
both_equal Equal b e = (refl, e)
both_equal Greater b e = absurd (cc)

pub same_fields : (x y : Node) → x.tree ≡ y.tree → x.pre ≡ y.pre → x ≡ y
same_fields x y a b = λ i. record { tree = a i; pre = b i }

pub order_exact : (x y : Node) → document_order x y ≡ Equal → x ≡ y
order_exact x y e =
    let w = both_equal (nat_cmp x.tree y.tree) (nat_cmp x.pre y.pre) e in
    same_fields x y (exact_unsigned x.tree y.tree w.0) (exact_unsigned x.pre y.pre w.1)

pub order_less : (x y : Node) → (x.tree < y.tree) ⊎ ((x.tree ≡ y.tree) × (x.pre < y.pre)) → document_order x y ≡ Less
order_less x y (inl h) = ap (λ r. ordering_then r (nat_cmp x.pre y.pre)) (sym (nat_cmp_is x.tree y.tree Less h))
order_less x y (inr h) = ap (λ r. ordering_then r (nat_cmp x.pre y.pre)) (sym (nat_cmp_is x.tree y.tree Equal h.0)) ∙ sym (nat_cmp_is x.pre y.pre Less h.1)

pub order_parts : (x y : Node) → document_order x y ≡ Less → (x.tree < y.tree) ⊎ ((x.tree ≡ y.tree) × (x.pre < y.pre))
order_parts x y e = elim (cases_order x.tree y.tree) [
  | inl same ↦ (
      let l : nat_cmp x.pre y.pre ≡ Less = sym (ap (λ r. ordering_then r (nat_cmp x.pre y.pre)) (sym (nat_cmp_is x.tree y.tree Equal same))) ∙ e in
      inr (same, subst (λ r. MatchOrdering r (x.pre < y.pre) (x.pre ≡ y.pre) (y.pre < x.pre)) l (ranks x.pre y.pre)))
  | inr apart ↦ elim apart [
    | inl l ↦ inl l
    | inr g ↦ (let z : Greater ≡ Less = ap (λ r. ordering_then r (nat_cmp x.pre y.pre)) (nat_cmp_is x.tree y.tree Greater g) ∙ e in absurd (cc))
  ]
]

-- # Lists with the same members

any_one_way : {X : Type 0} (p : X → Bool) (xs ys : List X) → ((x : X) → Contains xs x → Contains ys x) → list_any p xs ≡ true → list_any p ys ≡ true
any_one_way p xs ys h e =
    let a = Any-from_list_any p xs e in
    let c = h a.1 (a.0, a.2, a.3) in
    list_any-from_Any p ys (c.0, a.1, c.1, c.2, a.4)

pub same_any : {X : Type 0} (p : X → Bool) (xs ys : List X) → ((x : X) → Contains xs x ↔ Contains ys x) → list_any p xs ≡ list_any p ys
same_any p xs ys h = same_test (list_any p xs) (list_any p ys) (any_one_way p xs ys (λ x. (h x).0)) (any_one_way p ys xs (λ x. (h x).1))

-- two that rise are one
pub same_rising : (xs ys : List Node) → AreRising xs → AreRising ys → ((p : Node → Bool) → list_any p xs ≡ list_any p ys) → xs ≡ ys
same_rising xs ys a b h =
    let s : BTreeSet Node = record { keys = xs } in
    let t : BTreeSet Node = record { keys = ys } in
    btree_set_from_contains order_total s t a b (λ q. h (is_at (document_order q))) order_exact

-- # Lists that rise

pub from_contains : {X : Type 0} (P : X → Type 0) (ys : List X) → ((y : X) → Contains ys y → P y) → AllByRecursion P ys
from_contains P [] h = tt
from_contains P (y ∷ ys) h = (h y (0, omega arith, refl), from_contains P ys (λ z c. h z (suc c.0, omega (arith, c.1), c.2)))

pub rising_append : (xs ys : List Node) → AreRising xs → AreRising ys → ((x y : Node) → Contains xs x → Contains ys y → document_order x y ≡ Less) → AreRising (xs ++ ys)
unfolding IsStrictlySortedBy
rising_append [] ys a b h = b
rising_append (x ∷ xs) ys a b h = (
  all_append (λ y. document_order x y ≡ Less) xs ys a.0 (from_contains (λ y. document_order x y ≡ Less) ys (λ y c. h x y (0, omega arith, refl) c)),
  rising_append xs ys a.1 b (λ u v c d. h u v (suc c.0, omega (arith, c.1), c.2) d),
)

less_trans : (x y z : Node) → document_order x y ≡ Less → document_order y z ≡ Less → document_order x z ≡ Less
less_trans x y z a b = order_less x z (elim (order_parts x y a) [
  | inl p ↦ elim (order_parts y z b) [
    | inl q ↦ inl (omega (arith, p, q))
    | inr q ↦ (let e = q.0 in inl (omega (arith, p, e)))
  ]
  | inr p ↦ elim (order_parts y z b) [
    | inl q ↦ (let e = p.0 in inl (omega (arith, q, e)))
    | inr q ↦ (let f = p.1 in let g = q.1 in inr (p.0 ∙ q.0, omega (arith, f, g)))
  ]
])

all_last : {X : Type 0} (P : X → Type 0) (xs : List X) (y : X) → AllByRecursion P (xs ++ y ∷ []) → P y
all_last P [] y a = a.0
all_last P (x ∷ xs) y a = all_last P xs y a.1

pub rising_none : AreRising []
unfolding IsStrictlySortedBy
rising_none = tt

-- one more node, which comes after the last
pub rising_more : (xs : List Node) (y d : Node) → AreRising xs → ((i : ℕ) → i + 1 ≡ length xs → document_order (get_or xs i d) y ≡ Less) → AreRising (xs ++ y ∷ [])
unfolding IsStrictlySortedBy
rising_more [] y d a h = (tt, tt)
rising_more (x ∷ []) y d a h = ((h 0 (omega arith), tt), (tt, tt))
rising_more (x ∷ z ∷ zs) y d a h =
    let more = rising_more (z ∷ zs) y d a.1 (λ i e. h (suc i) (omega (arith, e))) in
    let after = all_last (λ u. document_order z u ≡ Less) zs y more.0 in
    (all_append (λ u. document_order x u ≡ Less) (z ∷ zs) (y ∷ []) a.0 (less_trans x z y a.0.0 after, tt), more)

pub less_of : (r : Ordering) → true ≡ is_lt r → r ≡ Less
less_of Less e = refl
less_of Equal e = absurd (cc)
less_of Greater e = absurd (cc)

-- what one look finds
pub rising_seen : (xs : List Node) (r : Bool) → IsAllAdjacentAnswer (λ x y b. b ≡ is_lt (document_order x y)) xs r → r ≡ true → AreRising xs
rising_seen xs true h e = sorted_from_all_adjacent order_total xs (record { tree = 0; pre = 0 }) (λ k l. less_of _ (h k (record { tree = 0; pre = 0 }) l))
rising_seen xs false h e = absurd (cc)

-- # A sorted list without doubles

-- both fields are equal
abbrev pub is_one_node : Node → Node → Bool
is_one_node x y = nat_eq x.tree y.tree && nat_eq x.pre y.pre

pub one_node : (x y : Node) → is_one_node x y ≡ true → x ≡ y
one_node x y e = let w = and_parts _ _ e in same_fields x y (eqb-true x.tree y.tree w.0) (eqb-true x.pre y.pre w.1)

pub node_itself : (x : Node) → is_one_node x x ≡ true
node_itself x = and_from _ _ (eq-eqb x.tree x.tree refl) (eq-eqb x.pre x.pre refl)

one_node_equivalence : IsEquivalence is_one_node
one_node_equivalence = record {
  refl = node_itself;
  symm = λ x y. same_test (is_one_node x y) (is_one_node y x) (λ e. ap (λ z. is_one_node z x) (sym (one_node x y e)) ∙ node_itself x) (λ e. ap (λ z. is_one_node z y) (sym (one_node y x e)) ∙ node_itself y);
  congr = λ x y z e. ap (λ w. is_one_node w z) (one_node x y e);
}

equal_at : (x y : Node) → x ≡ y → eq_by_cmp document_order x y ≡ true
equal_at x y e = ap is_eq (ap (λ r. ordering_then r (nat_cmp x.pre y.pre)) (sym (nat_cmp_is x.tree y.tree Equal (ap (λ (n : Node). n.tree) e))) ∙ sym (nat_cmp_is x.pre y.pre Equal (ap (λ (n : Node). n.pre) e)))

equal_of : (r : Ordering) → is_eq r ≡ true → r ≡ Equal
equal_of Less e = absurd (cc)
equal_of Equal e = refl
equal_of Greater e = absurd (cc)

pub ties_at : (x y : Node) → is_one_node x y ≡ eq_by_cmp document_order x y
ties_at x y = same_test (is_one_node x y) (eq_by_cmp document_order x y) (λ e. equal_at x y (one_node x y e)) (λ e. subst (λ z. is_one_node x z ≡ true) (order_exact x y (equal_of (document_order x y) e)) (node_itself x))

pub record Deduped (xs zs : List Node) : Type 0 where
  pub rising : AreRising zs
  pub members : (n : Node) → Contains zs n ↔ Contains xs n

pub deduped : (xs ys zs : List Node) → IsPermutation xs ys → IsSorted document_order ys → zs ≡ dedup is_one_node ys → Deduped xs zs
deduped xs ys zs p s e =
    let d = dedup is_one_node ys in
    subst (Deduped xs) (sym e) (record {
      rising = IsStrictlySortedBy-dedup order_total ties_at ys s;
      members = λ n. (
        λ c. Contains-permutation ys xs n (IsPermutation-sym xs ys p) (Contains-from_dedup is_one_node ys n c),
        λ c. Contains-dedup one_node_equivalence one_node ys n (Contains-permutation xs ys n p c),
      );
    })

-- document order by tests of numbers
pub before_is : (a b c d : Bool) → (a || (b && c)) ≡ is_lt (ordering_then (cond a Less (cond b Equal Greater)) (cond c Less (cond d Equal Greater)))
before_is true b c d = refl
before_is false true true d = refl
before_is false true false true = refl
before_is false true false false = refl
before_is false false c d = refl
