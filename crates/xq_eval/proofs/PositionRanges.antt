-- Predicates that ask whether the position is in a range, and the items that they keep as a span.
use Rattle.std.proofs.Common.{◌≡◌, ℕ, zero, suc, ◌+◌, ◌<◌, ◌≤◌, List, [], ◌∷◌, Bool, true, false, Ok, refl, sym, ◌∙◌, ap, ◌⊎◌, inl, inr, arith}
use Rattle.std.specs.Prelude.{ℤ, pos, negsuc, ◌<ℤ◌, ◌≤ℤ◌, ◌+ℤ◌, ◌-ℤ◌, nat_abs, int_le, int_lt, nat_le, nat_lt, max, ◌&&◌, ◌||◌, if◌then◌else◌}
use Rattle.std.specs.declared.cmp.Ordering.TheVariants.{Less, Equal, Greater}
use Rattle.std.specs.Cmp.{int_cmp_is}
use Rattle.std.proofs.lemmas.Bool.{cases_lt, lt-ltb, le-ltb, le-leb, lt-leb, and_left, and_right, and_from}
use Rattle.std.proofs.lemmas.Int.{ints, by_lt_z}
use Rattle.xq_atoms.specs.declared.comparisons.CompOp.TheVariants as comp
use Rattle.xq_atoms.specs.Atom.{Integer}
use Rattle.xq_atoms.specs.Compare.{key, key_cmp, holds}
use Rattle.xq_atoms.specs.Decimal.{in_millionths}
use Rattle.xq_atoms.specs.Judged.{Judged, ◌>>=◌}
use Rattle.xq_expressions.specs.declared.operators.ComparisonOperator.TheVariants as comparing
use Rattle.xq_expressions.specs.declared.operators.Relation.TheVariants as relation
use Rattle.xq_expressions.specs.declared.signatures.Function.TheVariants.{Position}
use Rattle.xq_trees.specs.Tree.{Tree}
use Rattle.xq_meaning.specs.declared.plans.Plan.{Plan}
use Rattle.xq_meaning.specs.declared.plans.Plan.TheVariants as plan
use Rattle.xq_tuples.specs.declared.slots.SlotValue.{SlotValue}
use Rattle.xq_meaning.specs.declared.operators.Operator.TheVariants as operator
use Rattle.xq_meaning.specs.Arguments.{as_boolean, atomic, boolean}
use Rattle.xq_meaning.specs.Forms as Forms
use Rattle.xq_meaning.specs.Items.{atomized}
use Rattle.xq_meaning.specs.Operators.{or_rest, some_with, some_pair, integers_from, integers_within, how_many, most_integers}
use Rattle.xq_meaning.specs.PlanMeaning.{Frame, plan_mean}
use Rattle.xq_eval.specs.declared.positions.ByPosition.TheVariants.{At, Within}
use Rattle.xq_eval.specs.declared.positions.Span.{Span}
use Rattle.xq_eval.specs.private.Positions.{GivesRange, IsPlaceOf, IsPositional, KeepsSpan, is_within}
use Rattle.xq_eval.proofs.PositionalPredicates.{position_is, two_values}

-- `to` between two integers
pub range_there : (slots : List SlotValue) (p first part : Plan) (count : ℕ) (m n : ℤ) → p ≡ plan.Chain first ((operator.Range, part) ∷ []) → IsPositional slots first count (At m) → IsPositional slots part count (At n) → how_many m n ≤ most_integers
    → GivesRange slots p count m n
range_there slots p first part count m n is left right few = λ trees frame env focus at.
    let here : Frame = Forms.in_focus frame focus in
    ap (λ q. plan_mean q here trees) is
    ∙ two_values here trees first part operator.Range (atomic (Integer m)) (atomic (Integer n)) (integers_from m (how_many m n)) ((left trees frame env).value_is focus at) ((right trees frame env).value_is focus at)
    (ap (λ b. integers_within b m (how_many m n)) (le-leb (how_many m n) most_integers few))

-- # Tests of integers

pub le_true : (a b : ℤ) → a ≤ℤ b → int_le a b ≡ true
le_true a b h = by (int_le a b) refl
  where
    by : (t : Bool) → int_le a b ≡ t → t ≡ true
    by true e = refl
    by false e = absurd (omega (arith, ints))

pub le_false : (a b : ℤ) → b <ℤ a → int_le a b ≡ false
le_false a b h = by (int_le a b) refl
  where
    by : (t : Bool) → int_le a b ≡ t → t ≡ false
    by true e = absurd (omega (arith, ints))
    by false e = refl

lt_true : (a b : ℤ) → a <ℤ b → int_lt a b ≡ true
lt_true a b h = by (int_lt a b) refl
  where
    by : (t : Bool) → int_lt a b ≡ t → t ≡ true
    by true e = refl
    by false e = absurd (omega (arith, ints))

lt_false : (a b : ℤ) → b ≤ℤ a → int_lt a b ≡ false
lt_false a b h = by (int_lt a b) refl
  where
    by : (t : Bool) → int_lt a b ≡ t → t ≡ false
    by true e = absurd (omega (arith, ints))
    by false e = refl

-- # One of the integers of a range

abbrev equal : ℤ → ℤ → Bool
equal a b = holds comp.Eq (key_cmp (key (Integer a)) (key (Integer b)))

less_is : (a b : ℤ) → a <ℤ b → equal a b ≡ false
less_is a b h = ap (holds comp.Eq) (sym (int_cmp_is (in_millionths a) (in_millionths b) Less (omega (arith, ints, h))))

same_is : (a b : ℤ) → a ≡ b → equal a b ≡ true
same_is a b h = ap (holds comp.Eq) (sym (int_cmp_is (in_millionths a) (in_millionths b) Equal (ap in_millionths h)))

more_is : (a b : ℤ) → b <ℤ a → equal a b ≡ false
more_is a b h = ap (holds comp.Eq) (sym (int_cmp_is (in_millionths a) (in_millionths b) Greater (omega (arith, ints, h))))

-- one of n integers from m on
abbrev among : ℤ → ℕ → ℤ → Bool
among m n k = int_le m k && int_lt k (m +ℤ pos n)

none_among : (m k : ℤ) → among m 0 k ≡ false
none_among m k =
    by_lt_z k m
    (λ l. and_left (int_le m k) (int_lt k (m +ℤ pos 0)) (le_false m k l))
    (λ h. and_right (int_le m k) (int_lt k (m +ℤ pos 0)) (lt_false k (m +ℤ pos 0) (omega (arith, ints, h))))

one_more : (m k : ℤ) (n : ℕ) (b : Bool) → (k <ℤ m → b ≡ false) → (k ≡ m → b ≡ true) → (m <ℤ k → b ≡ false) → (b || among (m +ℤ pos 1) n k) ≡ among m (suc n) k
one_more m k n b less same more =
    by_lt_z k m
    (λ l. ap (λ c. c || among (m +ℤ pos 1) n k) (less l) ∙ and_left (int_le (m +ℤ pos 1) k) (int_lt k ((m +ℤ pos 1) +ℤ pos n)) (le_false (m +ℤ pos 1) k (omega (arith, ints, l)))
    ∙ sym (and_left (int_le m k) (int_lt k (m +ℤ pos (suc n))) (le_false m k l)))
    (λ h. by_lt_z m k
    (λ l. ap (λ c. c || among (m +ℤ pos 1) n k) (more l)
    ∙ ap (λ c. c && int_lt k ((m +ℤ pos 1) +ℤ pos n)) (le_true (m +ℤ pos 1) k (omega (arith, ints, l)) ∙ sym (le_true m k h))
    ∙ ap (λ z. int_le m k && int_lt k z) (let e : (m +ℤ pos 1) +ℤ pos n ≡ m +ℤ pos (suc n) = omega (arith, ints) in e))
    (λ l. ap (λ c. c || among (m +ℤ pos 1) n k) (same (let e : k ≡ m = omega (arith, ints, h, l) in e))
    ∙ sym (and_from (int_le m k) (int_lt k (m +ℤ pos (suc n))) (le_true m k h) (lt_true k (m +ℤ pos (suc n)) (omega (arith, ints, l))))))

or_ok : (b c : Bool) → or_rest b (Ok c) ≡ Ok (b || c)
or_ok true c = refl
or_ok false c = refl

alone : (b : Bool) → or_rest b (Ok false) ≡ Ok b
alone true = refl
alone false = refl

-- a number before a range
some_left : (trees : List Tree) (k m : ℤ) (n : ℕ) → some_with comp.Eq (Integer k) (atomized trees (integers_from m n)) ≡ Ok (among m n k)
some_left trees k m zero = ap Ok (sym (none_among m k))
some_left trees k m (suc n) =
    ap (or_rest (equal k m)) (some_left trees k (m +ℤ pos 1) n) ∙ or_ok (equal k m) (among (m +ℤ pos 1) n k)
    ∙ ap Ok (one_more m k n (equal k m) (λ l. less_is k m l) (λ e. same_is k m e) (λ l. more_is k m l))

-- a number behind a range
some_right : (trees : List Tree) (k m : ℤ) (n : ℕ) → some_pair comp.Eq (atomized trees (integers_from m n)) (Integer k ∷ []) ≡ Ok (among m n k)
some_right trees k m zero = ap Ok (sym (none_among m k))
some_right trees k m (suc n) =
    ap (λ (r : Judged Bool). r >>= (λ b. or_rest b (some_pair comp.Eq (atomized trees (integers_from (m +ℤ pos 1) n)) (Integer k ∷ [])))) (alone (equal m k))
    ∙ ap (or_rest (equal m k)) (some_right trees k (m +ℤ pos 1) n) ∙ or_ok (equal m k) (among (m +ℤ pos 1) n k)
    ∙ ap Ok (one_more m k n (equal m k) (λ l. more_is m k l) (λ e. same_is m k (sym e)) (λ l. less_is m k l))

-- the size of a number that is not negative
size_is : (d : ℤ) → pos 0 ≤ℤ d → pos (nat_abs d) ≡ d
size_is (pos n) h = refl
size_is (negsuc n) h = absurd (omega (arith, ints, h))

up_to : (k u n : ℤ) → u ≡ n +ℤ pos 1 → int_lt k u ≡ int_le k n
up_to k u n e =
    by_lt_z n k
    (λ l. lt_false k u (omega (arith, ints, l, e)) ∙ sym (le_false k n l))
    (λ h. lt_true k u (omega (arith, ints, h, e)) ∙ sym (le_true k n h))

-- one of the integers from the first to the last
among_ends : (m n k : ℤ) → among m (how_many m n) k ≡ (int_le m k && int_le k n)
among_ends m n k = by (int_lt n m) refl
  where
    by : (t : Bool) → int_lt n m ≡ t → among m (if t then 0 else nat_abs (n -ℤ m) + 1) k ≡ (int_le m k && int_le k n)
    by true e =
        none_among m k
        ∙ sym (by_lt_z k m
        (λ l. and_left (int_le m k) (int_le k n) (le_false m k l))
        (λ h. and_right (int_le m k) (int_le k n) (le_false k n (omega (arith, ints, h, e)))))
    by false e =
        let size : pos (nat_abs (n -ℤ m)) ≡ n -ℤ m = size_is (n -ℤ m) (omega (arith, ints, e)) in
        ap (λ b. int_le m k && b) (up_to k (m +ℤ pos (nat_abs (n -ℤ m) + 1)) n (omega (arith, ints, size)))

-- # Comparisons with a range

module _ (slots : List SlotValue) (p q r : Plan) (count : ℕ) (m n : ℤ) (is : r ≡ plan.Chain p ((operator.Comparison (comparing.General relation.Equal), q) ∷ [])) where
  abbrev one_of : ℤ → Bool
  one_of k = int_le m k && int_le k n

  -- `position()` stands first
  pub position_in_range : p ≡ plan.Call Position [] → GivesRange slots q count m n → IsPositional slots r count (Within m n)
  position_in_range asked range = λ trees frame env. record {
    value_is = λ focus at.
        let here : Frame = Forms.in_focus frame focus in
        let k = pos focus.position in
        let all = integers_from m (how_many m n) in
        let found : some_pair comp.Eq (Integer k ∷ []) (atomized trees all) ≡ Ok (one_of k) =
        ap (λ (j : Judged Bool). j >>= (λ b. or_rest b (Ok false))) (some_left trees k m (how_many m n) ∙ ap Ok (among_ends m n k)) ∙ alone (one_of k) in
        ap (λ s. plan_mean s here trees) is
        ∙ two_values here trees p q (operator.Comparison (comparing.General relation.Equal)) (atomic (Integer k)) all (boolean (one_of k)) (position_is p frame focus trees asked) (range trees frame env focus at) (ap as_boolean found);
  }

  -- `position()` stands second
  pub range_has_position : q ≡ plan.Call Position [] → GivesRange slots p count m n → IsPositional slots r count (Within m n)
  range_has_position asked range = λ trees frame env. record {
    value_is = λ focus at.
        let here : Frame = Forms.in_focus frame focus in
        let k = pos focus.position in
        let all = integers_from m (how_many m n) in
        let found : some_pair comp.Eq (atomized trees all) (Integer k ∷ []) ≡ Ok (one_of k) = some_right trees k m (how_many m n) ∙ ap Ok (among_ends m n k) in
        ap (λ s. plan_mean s here trees) is
        ∙ two_values here trees p q (operator.Comparison (comparing.General relation.Equal)) all (atomic (Integer k)) (boolean (one_of k)) (range trees frame env focus at) (position_is q frame focus trees asked) (ap as_boolean found);
  }

-- # The span

module _ (first last : ℤ) (count : ℕ) (start end : Span) (at_start : IsPlaceOf first count start) (at_end : IsPlaceOf last count end) where
  lower : (i : ℕ) → i < count → int_le first (pos (i + 1)) ≡ nat_le start.from i
  lower i h = by (cases_lt i start.from)
    where
      not_before : start.from ≤ i → (i < start.to) ⊎ (start.to ≤ i) → first ≤ℤ pos (i + 1)
      not_before k (inl l) = let e = at_start.inside i k l in omega (arith, ints, e)
      not_before k (inr l) = let e = at_start.behind i l h in omega (arith, ints, e)

      by : (i < start.from) ⊎ (start.from ≤ i) → int_le first (pos (i + 1)) ≡ nat_le start.from i
      by (inl l) = le_false first (pos (i + 1)) (at_start.before i l) ∙ sym (lt-leb start.from i l)
      by (inr k) = le_true first (pos (i + 1)) (not_before k (cases_lt i start.to)) ∙ sym (le-leb start.from i k)

  upper : (i : ℕ) → i < count → int_le (pos (i + 1)) last ≡ nat_lt i end.to
  upper i h = by (cases_lt i end.to)
    where
      not_behind : i < end.to → (i < end.from) ⊎ (end.from ≤ i) → pos (i + 1) ≤ℤ last
      not_behind k (inl l) = let e = at_end.before i l in omega (arith, ints, e)
      not_behind k (inr l) = let e = at_end.inside i l k in omega (arith, ints, e)

      by : (i < end.to) ⊎ (end.to ≤ i) → int_le (pos (i + 1)) last ≡ nat_lt i end.to
      by (inl l) = le_true (pos (i + 1)) last (not_behind l (cases_lt i end.from)) ∙ sym (lt-ltb i end.to l)
      by (inr k) = le_false (pos (i + 1)) last (at_end.behind i k h) ∙ sym (le-ltb i end.to k)

  abbrev span : Span
  span = record { from = start.from; to = max end.to start.from }

  ends : (i : ℕ) → (nat_le start.from i && nat_lt i end.to) ≡ is_within span i
  ends i = by (cases_lt i start.from) (cases_lt i end.to)
    where
      by : (i < start.from) ⊎ (start.from ≤ i) → (i < end.to) ⊎ (end.to ≤ i) → (nat_le start.from i && nat_lt i end.to) ≡ is_within span i
      by (inl l) k = and_left (nat_le start.from i) (nat_lt i end.to) (lt-leb start.from i l) ∙ sym (and_left (nat_le start.from i) (nat_lt i (max end.to start.from)) (lt-leb start.from i l))
      by (inr l) (inl k) = ap (λ b. nat_le start.from i && b) (lt-ltb i end.to k ∙ sym (lt-ltb i (max end.to start.from) (omega arith)))
      by (inr l) (inr k) = ap (λ b. nat_le start.from i && b) (le-ltb i end.to k ∙ sym (le-ltb i (max end.to start.from) (omega arith)))

  pub range_kept : KeepsSpan (Within first last) count span
  range_kept =
      let a = at_start.in_order in
      let b = at_start.to_fits in
      let c = at_end.to_fits in
      record {
        in_order = omega arith;
        to_fits = omega (arith, a, b, c);
        keeps_those = λ trees i h.
            let answer : (int_le first (pos (i + 1)) && int_le (pos (i + 1)) last) ≡ is_within span i =
            ap (λ t. t && int_le (pos (i + 1)) last) (lower i h) ∙ ap (λ t. nat_le start.from i && t) (upper i h) ∙ ends i in
            ap Ok answer;
      }
