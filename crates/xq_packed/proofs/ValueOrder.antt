-- Texts in the order of their lengths and bytes.
use Rattle.std.proofs.Common.{◌≡◌, ◌≤◌, ℕ, List, get_or, true, false, not, ◌&&◌, refl, ap, ◌∙◌, arith}
use Rattle.std.specs.Prelude.{bytes_eq}
use Rattle.std.specs.Ordering.{is_eq, is_le, is_lt, nat_cmp, ordering_index, ordering_reverse}
use Rattle.std.specs.declared.cmp.Ordering.{Ordering}
use Rattle.std.specs.declared.cmp.Ordering.TheVariants.{Less, Equal, Greater}
use Rattle.std.specs.Cmp.Lexicographic.{slice_cmp}
use Rattle.std.specs.List.Sorted.{ties, IsNonDecreasingBy, IsPartitionedBy, IsSortedBy}
use Rattle.std.proofs.lemmas.Cmp.{nat_list_cmp_total, nat_list_eq_equiv}
use Rattle.std.proofs.lemmas.List.Sorted.{searchable_from_sorted}
use Rattle.std.proofs.lemmas.Map.Text.{is_eq-slice_cmp}
use Rattle.std.proofs.lemmas.Slice.Eq.{bytes_eq-Decides}
use Rattle.xq_atoms.specs.Text.{Text, text_eq}
use Rattle.xq_trees.specs.Rows.{Row}
use Rattle.xq_packed.specs.Found.{rank, value_at, value_order, comes_before, has_value}
use Rattle.xq_packed.proofs.Naming.{same_test}

-- # Equal texts

rank_inside : (a b : Text) → rank a ≡ rank b → a ≡ b
rank_inside a b e = cc

rank_same : (a b : Text) → bytes_eq (rank a) (rank b) ≡ bytes_eq a b
rank_same a b =
    same_test (bytes_eq (rank a) (rank b)) (bytes_eq a b)
    (λ e. (bytes_eq-Decides a b).1 (rank_inside a b ((bytes_eq-Decides (rank a) (rank b)).0 e)))
    (λ e. (bytes_eq-Decides (rank a) (rank b)).1 (ap rank ((bytes_eq-Decides a b).0 e)))

equal_order : (a b : Text) → is_eq (slice_cmp nat_cmp (rank a) (rank b)) ≡ text_eq a b
equal_order a b = is_eq-slice_cmp (rank a) (rank b) ∙ rank_same a b

-- a place has the value where it comes neither before it nor after it
pub equal-value : (rows : List Row) (value : Text) (place : ℕ) → is_eq (value_order rows place value) ≡ has_value rows value place
equal-value rows value place =
    equal_order (value_at rows place) value ∙ nat_list_eq_equiv.symm (value_at rows place) value

pub less-not-equal : (o : Ordering) → is_lt o ≡ true → is_eq o ≡ false
less-not-equal Less e = refl
less-not-equal Equal e = cc
less-not-equal Greater e = cc

pub greater-not-equal : (o : Ordering) → is_le o ≡ false → is_eq o ≡ false
greater-not-equal Less e = cc
greater-not-equal Equal e = cc
greater-not-equal Greater e = refl

pub between-equal : (o : Ordering) → is_lt o ≡ false → is_le o ≡ true → is_eq o ≡ true
between-equal Less e f = cc
between-equal Equal e f = refl
between-equal Greater e f = cc

pub less-not-greater : (o : Ordering) → is_lt o ≡ true → is_le o ≡ false → ⊥
less-not-greater Less e f = cc
less-not-greater Equal e f = cc
less-not-greater Greater e f = cc

-- # Ties

neither : (o : Ordering) → (not (is_lt o) && not (is_lt (ordering_reverse o))) ≡ is_eq o
neither Less = refl
neither Equal = refl
neither Greater = refl

tie : (a b : Text) → (not (is_lt (slice_cmp nat_cmp (rank a) (rank b))) && not (is_lt (slice_cmp nat_cmp (rank b) (rank a)))) ≡ text_eq a b
tie a b =
    let o = slice_cmp nat_cmp (rank a) (rank b) in
    ap (λ u. not (is_lt o) && not (is_lt u)) (nat_list_cmp_total.antisymm (rank b) (rank a)) ∙ neither o ∙ equal_order a b

-- places tie with one that has a value where they have it too
pub tie-value : (rows : List Row) (value : Text) (x : ℕ) → value_at rows x ≡ value → (y : ℕ) → ties (comes_before rows) x y ≡ has_value rows value y
tie-value rows value x e y = tie (value_at rows x) (value_at rows y) ∙ ap (λ a. text_eq a (value_at rows y)) e

-- # Parts of places whose values do not fall

less_before : (u o : Ordering) → ordering_index u ≤ ordering_index o → is_lt o ≡ true → is_lt u ≡ true
less_before Less o h e = refl
less_before Equal Less h e = absurd (omega (arith, h))
less_before Equal Equal h e = cc
less_before Equal Greater h e = cc
less_before Greater Less h e = absurd (omega (arith, h))
less_before Greater Equal h e = cc
less_before Greater Greater h e = cc

up_to_before : (u o : Ordering) → ordering_index u ≤ ordering_index o → is_le o ≡ true → is_le u ≡ true
up_to_before Less o h e = refl
up_to_before Equal o h e = refl
up_to_before Greater Less h e = absurd (omega (arith, h))
up_to_before Greater Equal h e = absurd (omega (arith, h))
up_to_before Greater Greater h e = cc

rising : (rows : List Row) (value : Text) (places : List ℕ) → IsSortedBy (comes_before rows) places → IsNonDecreasingBy (λ p. ordering_index (value_order rows p value)) places
rising rows value places up =
    searchable_from_sorted nat_list_cmp_total (λ p. rank (value_at rows p)) places (rank value) up

pub parted-before : (rows : List Row) (value : Text) (places : List ℕ) → IsSortedBy (comes_before rows) places → IsPartitionedBy (λ p. is_lt (value_order rows p value)) places
parted-before rows value places up = λ i j d le inside e.
    less_before (value_order rows (get_or places i d) value) (value_order rows (get_or places j d) value) (rising rows value places up i j d le inside) e

pub parted-up_to : (rows : List Row) (value : Text) (places : List ℕ) → IsSortedBy (comes_before rows) places → IsPartitionedBy (λ p. is_le (value_order rows p value)) places
parted-up_to rows value places up = λ i j d le inside e.
    up_to_before (value_order rows (get_or places i d) value) (value_order rows (get_or places j d) value) (rising rows value places up i j d le inside) e
