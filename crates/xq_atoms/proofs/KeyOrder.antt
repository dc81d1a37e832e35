-- Keys are equal by an equivalence, and in a total order.
use Rattle.std.proofs.Common.{◌≡◌, ℕ, ℤ, pos, List, [], Bool, true, false, ◌&&◌, nat_eq, refl, subst}
use Rattle.std.specs.declared.cmp.Ordering.{Ordering}
use Rattle.std.specs.declared.cmp.Ordering.TheVariants.{Less, Equal, Greater}
use Rattle.std.specs.Ordering.{nat_cmp, int_cmp, int_eq, ordering_then, on, then_cmp, eq_of_both}
use Rattle.std.specs.Cmp.{IsEquivalence, IsTotalOrder, nat_eq_equiv, int_eq_equiv, nat_cmp_total, int_cmp_total, on_equiv, on_total, and_equiv, then_total}
use Rattle.std.specs.Cmp.Lexicographic.{pointwise, slice_cmp, nat_list_eq_equiv, nat_list_cmp_total}
use Rattle.xq_atoms.specs.Compare.{Key, Nothing, Number, Characters, Truth, key_eq, key_cmp}

-- a key as a kind, a number and a text
abbrev kind : Key → ℕ
kind Nothing = 0
kind (Number m) = 1
kind (Characters t) = 2
kind (Truth false) = 3
kind (Truth true) = 4

abbrev number : Key → ℤ
number (Number m) = m
number k = pos 0

abbrev text : Key → List ℕ
text (Characters t) = t
text k = []

and_true : (b : Bool) → (b && true) ≡ b
and_true true = refl
and_true false = refl

then_equal : (o : Ordering) → ordering_then o Equal ≡ o
then_equal Less = refl
then_equal Equal = refl
then_equal Greater = refl

abbrev by_parts_eq : Key → Key → Bool
by_parts_eq = eq_of_both (on kind nat_eq) (eq_of_both (on number int_eq) (on text (pointwise nat_eq)))

abbrev by_parts_cmp : Key → Key → Ordering
by_parts_cmp = then_cmp (on kind nat_cmp) (then_cmp (on number int_cmp) (on text (slice_cmp nat_cmp)))

key_eq-parts : (j k : Key) → by_parts_eq j k ≡ key_eq j k
key_eq-parts Nothing Nothing = refl
key_eq-parts Nothing (Number n) = refl
key_eq-parts Nothing (Characters t) = refl
key_eq-parts Nothing (Truth false) = refl
key_eq-parts Nothing (Truth true) = refl
key_eq-parts (Number m) Nothing = refl
key_eq-parts (Number m) (Number n) = and_true (int_eq m n)
key_eq-parts (Number m) (Characters t) = refl
key_eq-parts (Number m) (Truth false) = refl
key_eq-parts (Number m) (Truth true) = refl
key_eq-parts (Characters s) Nothing = refl
key_eq-parts (Characters s) (Number n) = refl
key_eq-parts (Characters s) (Characters t) = refl
key_eq-parts (Characters s) (Truth false) = refl
key_eq-parts (Characters s) (Truth true) = refl
key_eq-parts (Truth false) Nothing = refl
key_eq-parts (Truth false) (Number n) = refl
key_eq-parts (Truth false) (Characters t) = refl
key_eq-parts (Truth false) (Truth false) = refl
key_eq-parts (Truth false) (Truth true) = refl
key_eq-parts (Truth true) Nothing = refl
key_eq-parts (Truth true) (Number n) = refl
key_eq-parts (Truth true) (Characters t) = refl
key_eq-parts (Truth true) (Truth false) = refl
key_eq-parts (Truth true) (Truth true) = refl

key_cmp-parts : (j k : Key) → by_parts_cmp j k ≡ key_cmp j k
key_cmp-parts Nothing Nothing = refl
key_cmp-parts Nothing (Number n) = refl
key_cmp-parts Nothing (Characters t) = refl
key_cmp-parts Nothing (Truth false) = refl
key_cmp-parts Nothing (Truth true) = refl
key_cmp-parts (Number m) Nothing = refl
key_cmp-parts (Number m) (Number n) = then_equal (int_cmp m n)
key_cmp-parts (Number m) (Characters t) = refl
key_cmp-parts (Number m) (Truth false) = refl
key_cmp-parts (Number m) (Truth true) = refl
key_cmp-parts (Characters s) Nothing = refl
key_cmp-parts (Characters s) (Number n) = refl
key_cmp-parts (Characters s) (Characters t) = refl
key_cmp-parts (Characters s) (Truth false) = refl
key_cmp-parts (Characters s) (Truth true) = refl
key_cmp-parts (Truth false) Nothing = refl
key_cmp-parts (Truth false) (Number n) = refl
key_cmp-parts (Truth false) (Characters t) = refl
key_cmp-parts (Truth false) (Truth false) = refl
key_cmp-parts (Truth false) (Truth true) = refl
key_cmp-parts (Truth true) Nothing = refl
key_cmp-parts (Truth true) (Number n) = refl
key_cmp-parts (Truth true) (Characters t) = refl
key_cmp-parts (Truth true) (Truth false) = refl
key_cmp-parts (Truth true) (Truth true) = refl

pub key_eq_equiv : IsEquivalence key_eq
key_eq_equiv = subst IsEquivalence (λ i j k. key_eq-parts j k i) (and_equiv (on_equiv kind nat_eq_equiv) (and_equiv (on_equiv number int_eq_equiv) (on_equiv text nat_list_eq_equiv)))

pub key_cmp_total : IsTotalOrder key_cmp
key_cmp_total = subst IsTotalOrder (λ i j k. key_cmp-parts j k i) (then_total (on_total kind nat_cmp_total) (then_total (on_total number int_cmp_total) (on_total text nat_list_cmp_total)))
