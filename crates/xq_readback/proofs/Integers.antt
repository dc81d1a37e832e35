-- The texts of integers, read back.
use Rattle.std.proofs.Common.{◌≡◌, ℕ, suc, ◌<◌, ◌≤◌, ◌^◌, Bool, false, IsTrue, [], ◌∷◌, ◌++◌, ℤ, pos, negsuc, neg_ℤ, Ok, Err, arith, refl, sym, ap, ◌∙◌}
use Rattle.std.specs.Prelude.{decimal, ◌<ℤ◌, FitsSigned, codes, if◌then◌else◌}
use Rattle.std.specs.Fmt.{signed_decimal, digits}
use mir.Syntax.{w64}
use Rattle.std.specs.List.{list_all}
use Rattle.std.specs.Ordering.{int_eq}
use Rattle.std.proofs.lemmas.Bool.Decides.{nat_tests}
use Rattle.std.proofs.lemmas.Int.{ints}
use Rattle.std.proofs.lemmas.List.{append-nil}
use Rattle.xq_atoms.specs.declared.refusals.Code.TheVariants.{FOAR0002, XPST0003}
use Rattle.xq_atoms.specs.Judged.{Judged, ◌>>=◌, only_if}
use Rattle.xq_atoms.specs.Text.{Text}
use Rattle.xq_atoms.specs.Literal.{is_number, decimal_literal}
use Rattle.xq_atoms.specs.Atom.{Atomic, Integer, Decimal, String}
use Rattle.xq_atoms.specs.Arithmetic.{neg}
use Rattle.xq_atoms.specs.Cast.{after_sign, integer_of_text, cast_integer, text_of}
use Rattle.xq_atoms.specs.Print.{print_integer, print_atomic}
use Rattle.xq_atoms.proofs.ReadBack.{is_whole-decimal, is_integer-neg, integer_literal-decimal, integer_of_text-decimal, integer_of_text-minus}
use Rattle.xq_readback.specs.Reading.{numeric_literal, number, called}
use Rattle.xq_readback.proofs.Parts.{whole-digits}
use Rattle.xq_readback.proofs.Visible.{visible, trimmed-visible, digits-visible, unsigned}

-- ---- the literal

abbrev numeric_shape : Bool → Judged ℤ → Judged Atomic → Judged Atomic
numeric_shape has_digits integer other = if has_digits then integer >>= (λ n. Ok (Integer n)) else other

abbrev decimal_shape : Text → Judged Atomic
decimal_shape t = if is_number t then decimal_literal t >>= (λ m. Ok (Decimal m)) else Err XPST0003

numeric_literal-decimal : (n : ℕ) → n < 2 ^ 63 → numeric_literal (decimal n) ≡ Ok (Integer (pos n))
numeric_literal-decimal n small =
    let is_one = is_whole-decimal n (omega arith) in
    let literal = integer_literal-decimal n small in
    (λ i. numeric_shape (is_one i) (literal i) (decimal_shape (decimal n)))

is_negated-decimal : (n : ℕ) → n < 2 ^ 63 → number (decimal n) ≡ numeric_literal (decimal n)
is_negated-decimal n small =
    let front = unsigned (decimal n) [] (is_whole-decimal n (omega arith)) in
    ap number (sym (append-nil (decimal n)))
    ∙ ap (λ b. if b then numeric_literal (after_sign (decimal n ++ [])) >>= neg else numeric_literal (decimal n ++ [])) front.1
    ∙ ap numeric_literal (append-nil (decimal n))

number-decimal : (n : ℕ) → n < 2 ^ 63 → number (decimal n) ≡ Ok (Integer (pos n))
number-decimal n small = is_negated-decimal n small ∙ numeric_literal-decimal n small

number-minus : (n : ℕ) → n < 2 ^ 63 → number (45 ∷ decimal n) ≡ Ok (Integer (neg_ℤ (pos n)))
number-minus n small =
    ap (λ x. x >>= neg) (numeric_literal-decimal n small) ∙ ap (λ b. only_if b FOAR0002 (Integer (neg_ℤ (pos n)))) (is_integer-neg n (omega arith))

abbrev least : ℤ
least = neg_ℤ (pos (2 ^ 63))

abbrev print_shape : ℤ → Bool → Text
print_shape z is_least = if is_least then codes "xs:integer(\"-9223372036854775808\")" else signed_decimal z

not_least : (k : ℕ) → suc k < 2 ^ 63 → int_eq (negsuc k) least ≡ false
not_least k small = grind (arith, nat_tests)

above_least : (k : ℕ) → least <ℤ negsuc k → suc k < 2 ^ 63
above_least k above = omega (arith, ints, above)

pub integer-literal : (z : ℤ) → FitsSigned w64 z → least <ℤ z → number (print_integer z) ≡ Ok (Integer z)
integer-literal (pos n) fits above = number-decimal n fits.sfits
integer-literal (negsuc k) fits above =
    let small = above_least k above in
    ap (λ b. number (print_shape (negsuc k) b)) (not_least k small) ∙ number-minus (suc k) small

called-least : print_atomic (Integer least) ≡ called (codes "xs:integer") (text_of (Integer least))
unfolding digits
called-least = refl

pub integer-least : (z : ℤ) → z ≡ least → print_atomic (Integer z) ≡ called (codes "xs:integer") (text_of (Integer z))
integer-least z is =
    ap (λ x. print_atomic (Integer x)) is ∙ called-least ∙ sym (ap (λ x. called (codes "xs:integer") (text_of (Integer x))) is)

-- ---- the cast

decimal-visible : (n : ℕ) → n < 2 ^ 64 → IsTrue (list_all visible (decimal n))
decimal-visible n small = digits-visible (decimal n) (whole-digits (decimal n) (is_whole-decimal n small))

pub integer-cast : (z : ℤ) → FitsSigned w64 z → cast_integer (String (signed_decimal z)) ≡ Ok (Integer z)
integer-cast (pos n) fits =
    ap integer_of_text (trimmed-visible (decimal n) (decimal-visible n (omega (arith, fits.sfits)))) ∙ integer_of_text-decimal n fits.sfits
integer-cast (negsuc k) fits =
    let small : suc k ≤ 2 ^ 63 = omega (arith, fits.sfits) in
    ap integer_of_text (trimmed-visible (45 ∷ decimal (suc k)) (decimal-visible (suc k) (omega arith))) ∙ integer_of_text-minus (suc k) small
