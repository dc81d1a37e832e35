-- Digits and their values.
use Rattle.std.proofs.Common.{◌≡◌, ℕ, ◌+◌, ◌-◌, ◌*◌, ◌^◌, ◌<◌, ◌≤◌, Bool, true, false, cond, not, ◌&&◌, ◌==◌, IsTrue, List, [], ◌∷◌, ◌++◌, length, get_or, drop, reverse, arith, rules, refl, sym, ap, ◌∙◌, lit<, zero, suc, replicate, All}
use Rattle.std.specs.Prelude.{decimal}
use Rattle.std.specs.List.{list_all}
use Rattle.std.proofs.lemmas.Fmt.{digits_decimal}
use Rattle.xq_atoms.specs.Cast.{six_digits}
use Rattle.std.proofs.Math.Nat.{pow-le-pow_right, mul-le-mul}
use Rattle.std.proofs.lemmas.List.{at_drop_more, reverse-append}
use Rattle.std.proofs.lemmas.List.Folds.{list_all-append}
use Rattle.std.proofs.lemmas.Bool.Decides.{nat_tests}
use Rattle.std.proofs.lemmas.Str.Parse.{IsNumeralModel, numerals_by_fold, digits_value_short}
use Rattle.xq_atoms.specs.Text.{Text, is_empty, are_digits, value, value_after}
use Rattle.xq_atoms.specs.Characters.{is_digit}
use Rattle.xq_atoms.specs.Spaces.{after_leading, before_trailing}
use Rattle.xq_atoms.specs.Literal.{without_trailing_zeros, is_zero_digit, is_number, whole_part, after_point}

-- more digits give no smaller number
pub value_after-ge : (n : ℕ) (cs : List ℕ) → n ≤ value_after n cs
value_after-ge n [] = omega arith
value_after-ge n (c ∷ cs) = omega (arith, value_after-ge (n * 10 + (c - 48)) cs)

pub value_after-drop : (n i : ℕ) (cs : List ℕ) → i < length cs → value_after n (drop i cs) ≡ value_after (n * 10 + (get_or cs i 0 - 48)) (drop (i + 1) cs)
value_after-drop n i cs h = at_drop_more (value_after n) cs i 0 h

-- these are std's digits and their value
pub digits_model : IsNumeralModel (λ cs. IsTrue (are_digits cs)) value
digits_model = numerals_by_fold _ (search rules) value_after (search rules)

pub value-lt : (cs : Text) (k : ℕ) → IsTrue (are_digits cs) → length cs ≤ k → value cs < 10 ^ k
value-lt cs k ds short = digits_value_short digits_model cs k ds short

-- digits of a fraction, filled up to six
pub scaled-lt : (n power len : ℕ) → n < 10 ^ 6 → power ≡ 10 ^ (6 - len) → n * power < 10 ^ 13
scaled-lt n power len small is =
    let exponent : 6 - len ≤ 6 = omega arith in
    let le : power ≤ 10 ^ 6 = rw is (pow-le-pow_right {n = 10} (lit< tt) exponent) in
    let most : n ≤ 10 ^ 6 = omega arith in
    let product : n * power ≤ 10 ^ 6 * 10 ^ 6 = mul-le-mul most le in
    omega arith

pub and-true : (a b : Bool) → IsTrue (a && b) → IsTrue a × IsTrue b
and-true true b h = (refl, h)
and-true false b h = absurd (search rules)

and-swap : (a b : Bool) → (a && (b && true)) ≡ (b && a)
and-swap true true = refl
and-swap true false = refl
and-swap false true = refl
and-swap false false = refl

pub list_all-reverse : (p : ℕ → Bool) (cs : Text) → list_all p (reverse cs) ≡ list_all p cs
list_all-reverse p [] = refl
list_all-reverse p (c ∷ cs) = ap (list_all p) (reverse-append (c ∷ []) cs) ∙ list_all-append p (reverse cs) (c ∷ []) ∙ and-swap (list_all p (reverse cs)) (p c) ∙ ap (λ b. p c && b) (list_all-reverse p cs)

all-after_leading : (p of_kind : ℕ → Bool) (cs : Text) → IsTrue (list_all p cs) → IsTrue (list_all p (after_leading of_kind cs))
all-after_leading p of_kind [] h = refl
all-after_leading p of_kind (c ∷ cs) h = elim (of_kind c) as (λ b. IsTrue (list_all p (cond b (after_leading of_kind cs) (c ∷ cs)))) [ true ↦ all-after_leading p of_kind cs (and-true (p c) _ h).1 | false ↦ h ]

pub all-before_trailing : (p of_kind : ℕ → Bool) (cs : Text) → IsTrue (list_all p cs) → IsTrue (list_all p (before_trailing of_kind cs))
all-before_trailing p of_kind cs h = list_all-reverse p _ ∙ all-after_leading p of_kind (reverse cs) (list_all-reverse p cs ∙ h)

pub are_digits-without_trailing_zeros : (cs : Text) → IsTrue (are_digits cs) → IsTrue (are_digits (without_trailing_zeros cs))
are_digits-without_trailing_zeros cs h = all-before_trailing is_digit is_zero_digit cs h

-- a number has digits alone on both sides of its point
pub is_number-digits : (t : Text) → IsTrue (is_number t) → IsTrue (are_digits (whole_part t)) × IsTrue (are_digits (after_point t))
is_number-digits t h =
    and-true (are_digits (whole_part t)) (are_digits (after_point t))
    (sym (list_all-append is_digit (whole_part t) (after_point t)) ∙ (and-true (not (is_empty (whole_part t ++ after_point t))) _ h).1)

is_empty-append : (xs ys : Text) → is_empty (xs ++ ys) ≡ (is_empty xs && is_empty ys)
is_empty-append [] ys = refl
is_empty-append (x ∷ xs) ys = refl

-- whether a text is a number, by the parts before and after its point
pub is_number-parts : (t whole decimals : Text) → whole ≡ whole_part t → decimals ≡ after_point t → is_number t ≡ (not (is_empty whole && is_empty decimals) && (are_digits whole && are_digits decimals))
is_number-parts t whole decimals w d =
    rw (w, d) (λ i. not (is_empty-append (whole_part t) (after_point t) i) && list_all-append is_digit (whole_part t) (after_point t) i)

pub is_empty-length : (xs : Text) → (length xs == 0) ≡ is_empty xs
is_empty-length [] = refl
is_empty-length (x ∷ xs) = first_of (search rules, grind (arith, nat_tests))

pub and-false : (a b : Bool) → b ≡ false → (a && b) ≡ false
and-false true b h = h
and-false false b h = refl

-- of a number whose whole part has digits alone
pub is_number-from_parts : (t whole decimals : Text) → whole ≡ whole_part t → decimals ≡ after_point t → (is_empty whole && is_empty decimals) ≡ false → are_digits whole ≡ true → is_number t ≡ are_digits decimals
is_number-from_parts t whole decimals w d some digits =
    is_number-parts t whole decimals w d ∙ (λ i. not (some i) && (digits i && are_digits decimals))

pub are_digits-replicate : (n : ℕ) → IsTrue (are_digits (replicate n 48))
are_digits-replicate zero = refl
are_digits-replicate (suc n) = are_digits-replicate n

digit-lt : (c : ℕ) → IsTrue (is_digit c) → c < 128
digit-lt c h = grind (arith, nat_tests)

-- digits are ASCII
pub All-digits : (cs : Text) → IsTrue (are_digits cs) → All (λ c. c < 128) cs
All-digits [] h k d below = absurd (omega arith)
All-digits (c ∷ cs) h zero d below = digit-lt c (and-true (is_digit c) (are_digits cs) h).0
All-digits (c ∷ cs) h (suc k) d below = All-digits cs (and-true (is_digit c) (are_digits cs) h).1 k d (omega arith)

pub are_digits-six_digits : (n : ℕ) → n < 1000000 → IsTrue (are_digits (six_digits n))
are_digits-six_digits n small =
    list_all-append is_digit (replicate (6 - length (decimal n)) 48) (decimal n)
    ∙ (λ i. are_digits-replicate (6 - length (decimal n)) i && digits_decimal digits_model n (omega arith) i)
