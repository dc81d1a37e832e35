-- The texts of decimals, read back.
use Rattle.std.proofs.Common.{◌≡◌, ℕ, zero, suc, ◌+◌, ◌-◌, ◌*◌, ◌/◌, ◌%◌, ◌^◌, ◌<◌, ◌≤◌, Bool, true, false, not, ◌&&◌, IsTrue, [], ◌∷◌, ◌++◌, length, ℤ, pos, negsuc, neg_ℤ, Ok, Err, arith, refl, sym, ap, subst, ◌∙◌, append_assoc}
use Rattle.std.specs.Prelude.{decimal, nat_lt, codes, if◌then◌else◌}
use Rattle.std.specs.List.{list_all}
use Rattle.std.proofs.lemmas.Bool.Decides.{nat_tests}
use Rattle.std.proofs.lemmas.Fmt.{digits_value-decimal}
use Rattle.std.proofs.lemmas.Int.{ints}
use Rattle.std.proofs.lemmas.List.{append-nil}
use Rattle.std.proofs.lemmas.List.Folds.{list_all-append}
use Rattle.xq_atoms.specs.declared.refusals.Code.TheVariants.{FOAR0002, FORG0001, FOCA0001, FOCA0006, XPST0003, ProfDigits}
use Rattle.xq_atoms.specs.Judged.{Judged, ◌>>=◌, only_if}
use Rattle.xq_atoms.specs.Decimal.{IsDecimal, is_decimal}
use Rattle.xq_atoms.specs.Text.{Text, are_digits, is_whole, value}
use Rattle.xq_atoms.specs.Spaces.{trimmed}
use Rattle.xq_atoms.specs.Literal.{is_number, whole_part, fraction, without_trailing_zeros, millionths_of, integer_literal, decimal_literal}
use Rattle.xq_atoms.specs.Atom.{Atomic, Integer, Decimal, String}
use Rattle.xq_atoms.specs.Arithmetic.{neg}
use Rattle.xq_atoms.specs.Cast.{after_sign, decimal_of_text, cast_decimal, six_digits, fraction_text, sign_text, pointed, decimal_text}
use Rattle.xq_atoms.specs.Print.{at_least_zero, print_decimal}
use Rattle.xq_atoms.proofs.TextLemmas.{digits_model, are_digits-six_digits, are_digits-without_trailing_zeros}
use Rattle.xq_atoms.proofs.ReadBack.{is_whole-decimal}
use Rattle.xq_readback.specs.Reading.{numeric_literal, number}
use Rattle.xq_readback.proofs.Zeros.{value-six_digits, length-six_digits, length-without_trailing_zeros, value-without_trailing_zeros, without_trailing_zeros-twice}
use Rattle.xq_readback.proofs.Parts.{Parts, parts-point, parts-digits, is_whole-point, whole-digits}
use Rattle.xq_readback.proofs.Visible.{visible, trimmed-visible, digits-visible, unsigned}

-- ---- the parts of what is printed, by the number n of millionths without its sign

-- the digits before the point
abbrev pub whole : ℕ → Text
whole n = decimal (n / 1000000)

-- as it is printed, and as it is cast to a string
abbrev pub printed : ℕ → Text
printed n = whole n ++ 46 ∷ at_least_zero (fraction_text n)

abbrev pub plain : ℕ → Text
plain n = whole n ++ pointed (fraction_text n)

below_million : (n : ℕ) → n % 1000000 < 1000000
below_million n = omega arith

pub is_whole-whole : (n : ℕ) → n < 10000000000000000000000000 → is_whole (whole n) ≡ true
is_whole-whole n small = is_whole-decimal (n / 1000000) (omega arith)

pub fraction-digits : (n : ℕ) → IsTrue (are_digits (fraction_text n))
fraction-digits n = are_digits-without_trailing_zeros (six_digits (n % 1000000)) (are_digits-six_digits (n % 1000000) (below_million n))

fraction-kept : (n : ℕ) → without_trailing_zeros (fraction_text n) ≡ fraction_text n
fraction-kept n = without_trailing_zeros-twice (six_digits (n % 1000000))

fraction-short : (n : ℕ) → nat_lt 6 (length (fraction_text n)) ≡ false
fraction-short n = short (length (fraction_text n)) (omega (arith, length-without_trailing_zeros (six_digits (n % 1000000)), length-six_digits (n % 1000000) (below_million n)))
  where
    short : (k : ℕ) → k ≤ 6 → nat_lt 6 k ≡ false
    short k h = grind (arith, nat_tests)

joined : (n : ℕ) → n < 10000000000000000000000000 → millionths_of (whole n) (fraction_text n) ≡ n
joined n small =
    let front : value (whole n) ≡ n / 1000000 = digits_value-decimal digits_model (n / 1000000) (omega arith) in
    let back : value (fraction_text n) * 10 ^ (6 - length (fraction_text n)) ≡ n % 1000000 =
    value-without_trailing_zeros (six_digits (n % 1000000)) (length-six_digits (n % 1000000) (below_million n)) ∙ value-six_digits (n % 1000000) (below_million n) in
    (λ i. front i * 1000000 + back i) ∙ again n
  where
    again : (n : ℕ) → n / 1000000 * 1000000 + n % 1000000 ≡ n
    again n = omega arith

zero-dropped : (ds : Text) → without_trailing_zeros ds ≡ ds → without_trailing_zeros (at_least_zero ds) ≡ ds
zero-dropped [] kept = refl
zero-dropped (c ∷ cs) kept = kept

zero-digits : (ds : Text) → IsTrue (are_digits ds) → IsTrue (are_digits (at_least_zero ds))
zero-digits [] h = refl
zero-digits (c ∷ cs) h = h

parts-printed : (n : ℕ) → n < 10000000000000000000000000 → Parts (printed n) (whole n) (fraction_text n)
parts-printed n small =
    parts-point (whole n) (at_least_zero (fraction_text n)) (fraction_text n) (is_whole-whole n small)
    (zero-digits (fraction_text n) (fraction-digits n)) (zero-dropped (fraction_text n) (fraction-kept n))

parts-pointed : (ds decimals : Text) → is_whole ds ≡ true → IsTrue (are_digits decimals) → without_trailing_zeros decimals ≡ decimals → Parts (ds ++ pointed decimals) ds decimals
parts-pointed ds [] h digits kept = subst (λ t. Parts t ds []) (sym (append-nil ds)) (parts-digits ds h)
parts-pointed ds (c ∷ cs) h digits kept = parts-point ds (c ∷ cs) (c ∷ cs) h digits kept

parts-plain : (n : ℕ) → n < 10000000000000000000000000 → Parts (plain n) (whole n) (fraction_text n)
parts-plain n small = parts-pointed (whole n) (fraction_text n) (is_whole-whole n small) (fraction-digits n) (fraction-kept n)

-- ---- the range

is_decimal-pos : (n : ℕ) → n < 10000000000000000000000000 → is_decimal (pos n) ≡ true
is_decimal-pos n small = grind (arith, nat_tests)

is_decimal-neg : (n : ℕ) → n < 10000000000000000000000000 → is_decimal (neg_ℤ (pos n)) ≡ true
is_decimal-neg zero small = refl
is_decimal-neg (suc n) small = grind (arith, nat_tests)

-- ---- the literal

abbrev pub judged_literal : Bool → ℕ → Judged ℤ
judged_literal long n = if long then Err ProfDigits else only_if (is_decimal (pos n)) FOAR0002 (pos n)

abbrev pub literal_of_parts : Text → Text → Judged ℤ
literal_of_parts front back = judged_literal (nat_lt 6 (length back)) (millionths_of front back)

pub decimal_literal-printed : (n : ℕ) → n < 10000000000000000000000000 → decimal_literal (printed n) ≡ Ok (pos n)
decimal_literal-printed n small =
    let parts = parts-printed n small in
    (λ i. literal_of_parts (parts.whole_is i) (parts.fraction_is i))
    ∙ (λ i. judged_literal (fraction-short n i) (joined n small i))
    ∙ ap (λ b. only_if b FOAR0002 (pos n)) (is_decimal-pos n small)

abbrev pub numeric_shape : Bool → Bool → Judged ℤ → Judged ℤ → Judged Atomic
numeric_shape has_digits has_point integer fractional =
    if has_digits then integer >>= (λ n. Ok (Integer n)) else if has_point then fractional >>= (λ m. Ok (Decimal m)) else Err XPST0003

numeric_literal-printed : (n : ℕ) → n < 10000000000000000000000000 → numeric_literal (printed n) ≡ Ok (Decimal (pos n))
numeric_literal-printed n small =
    let parts = parts-printed n small in
    let no_integer = is_whole-point (whole n) (at_least_zero (fraction_text n)) in
    let literal = decimal_literal-printed n small in
    (λ i. numeric_shape (no_integer i) (parts.number i) (integer_literal (printed n)) (literal i))

abbrev pub signed_shape : Text → Bool → Judged Atomic
signed_shape t negated = if negated then numeric_literal (after_sign t) >>= neg else numeric_literal t

number-printed : (n : ℕ) → n < 10000000000000000000000000 → number (printed n) ≡ Ok (Decimal (pos n))
number-printed n small =
    let front = unsigned (whole n) (46 ∷ at_least_zero (fraction_text n)) (is_whole-whole n small) in
    ap (signed_shape (printed n)) front.1 ∙ numeric_literal-printed n small

number-minus : (n : ℕ) → n < 10000000000000000000000000 → number (45 ∷ printed n) ≡ Ok (Decimal (neg_ℤ (pos n)))
number-minus n small =
    ap (λ x. x >>= neg) (numeric_literal-printed n small) ∙ ap (λ b. only_if b FOAR0002 (Decimal (neg_ℤ (pos n)))) (is_decimal-neg n small)

sign-pos : (n : ℕ) → sign_text (pos n) ≡ []
sign-pos n = ap (λ b. if b then codes "-" else []) (not_below n)
  where
    not_below : (n : ℕ) → nat_lt n 0 ≡ false
    not_below n = grind (arith, nat_tests)

pub print-pos : (n : ℕ) → print_decimal (pos n) ≡ printed n
print-pos n =
    ap (λ s. s ++ whole n ++ codes "." ++ at_least_zero (fraction_text n)) (sign-pos n) ∙ append_assoc (whole n) (codes ".") (at_least_zero (fraction_text n))

pub print-minus : (k : ℕ) → print_decimal (negsuc k) ≡ 45 ∷ printed (suc k)
print-minus k = ap (λ t. 45 ∷ t) (append_assoc (whole (suc k)) (codes ".") (at_least_zero (fraction_text (suc k))))

below-pos : (n : ℕ) → IsDecimal (pos n) → n < 10000000000000000000000000
below-pos n within = omega (arith, ints, within.1)

below-minus : (k : ℕ) → IsDecimal (negsuc k) → suc k < 10000000000000000000000000
below-minus k within = omega (arith, ints, within.0)

pub decimal-literal : (z : ℤ) → IsDecimal z → number (print_decimal z) ≡ Ok (Decimal z)
decimal-literal (pos n) within = ap number (print-pos n) ∙ number-printed n (below-pos n within)
decimal-literal (negsuc k) within = ap number (print-minus k) ∙ number-minus (suc k) (below-minus k within)

-- ---- the cast

abbrev pub with_sign : Bool → ℕ → ℤ
with_sign negated n = if negated then neg_ℤ (pos n) else pos n

abbrev pub judged_cast : Bool → Bool → ℕ → Judged Atomic
judged_cast negated long n = if long then Err FOCA0006 else only_if (is_decimal (with_sign negated n)) FOCA0001 (Decimal (with_sign negated n))

abbrev pub cast_of_parts : Bool → Bool → Text → Text → Judged Atomic
cast_of_parts negated is_one front back =
    if not is_one then Err FORG0001 else judged_cast negated (nat_lt 6 (length back)) (millionths_of front back)

is_decimal-signed : (negated : Bool) (n : ℕ) → n < 10000000000000000000000000 → is_decimal (with_sign negated n) ≡ true
is_decimal-signed true n small = is_decimal-neg n small
is_decimal-signed false n small = is_decimal-pos n small

-- of a text without its sign
abbrev pub cast_unsigned : Bool → Text → Judged Atomic
cast_unsigned negated t = cast_of_parts negated (is_number t) (whole_part t) (fraction t)

cast-parts : (negated : Bool) (t : Text) (n : ℕ) → n < 10000000000000000000000000 → Parts t (whole n) (fraction_text n)
    → cast_unsigned negated t ≡ Ok (Decimal (with_sign negated n))
cast-parts negated t n small parts =
    (λ i. cast_of_parts negated (parts.number i) (parts.whole_is i) (parts.fraction_is i))
    ∙ (λ i. judged_cast negated (fraction-short n i) (joined n small i))
    ∙ ap (λ b. only_if b FOCA0001 (Decimal (with_sign negated n))) (is_decimal-signed negated n small)

cast-plain : (n : ℕ) → n < 10000000000000000000000000 → decimal_of_text (plain n) ≡ Ok (Decimal (pos n))
cast-plain n small =
    let front = unsigned (whole n) (pointed (fraction_text n)) (is_whole-whole n small) in
    (λ i. cast_unsigned (front.1 i) (front.0 i)) ∙ cast-parts false (plain n) n small (parts-plain n small)

cast-minus : (n : ℕ) → n < 10000000000000000000000000 → decimal_of_text (45 ∷ plain n) ≡ Ok (Decimal (neg_ℤ (pos n)))
cast-minus n small = cast-parts true (plain n) n small (parts-plain n small)

pointed-visible : (ds : Text) → IsTrue (are_digits ds) → IsTrue (list_all visible (pointed ds))
pointed-visible [] h = refl
pointed-visible (c ∷ cs) h = digits-visible (c ∷ cs) h

plain-visible : (n : ℕ) → n < 10000000000000000000000000 → IsTrue (list_all visible (plain n))
plain-visible n small =
    list_all-append visible (whole n) (pointed (fraction_text n))
    ∙ (λ i. digits-visible (whole n) (whole-digits (whole n) (is_whole-whole n small)) i && pointed-visible (fraction_text n) (fraction-digits n) i)

text-pos : (n : ℕ) → decimal_text (pos n) ≡ plain n
text-pos n = ap (λ s. s ++ whole n ++ pointed (fraction_text n)) (sign-pos n)

pub decimal-cast : (z : ℤ) → IsDecimal z → cast_decimal (String (decimal_text z)) ≡ Ok (Decimal z)
decimal-cast (pos n) within =
    let small = below-pos n within in
    ap (λ t. decimal_of_text (trimmed t)) (text-pos n) ∙ ap decimal_of_text (trimmed-visible (plain n) (plain-visible n small)) ∙ cast-plain n small
decimal-cast (negsuc k) within =
    let small = below-minus k within in
    ap decimal_of_text (trimmed-visible (45 ∷ plain (suc k)) (plain-visible (suc k) small)) ∙ cast-minus (suc k) small
