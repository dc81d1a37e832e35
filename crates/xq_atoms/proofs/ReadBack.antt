-- The texts of integers, read back.
use Rattle.std.proofs.Common.{◌≡◌, ℕ, zero, suc, ◌<◌, ◌≤◌, ◌^◌, ◌==◌, ◌||◌, Bool, true, false, IsTrue, [], ◌∷◌, length, pos, neg_ℤ, Ok, Err, arith, refl, ap, ◌∙◌}
use Rattle.std.specs.Prelude.{decimal, if◌then◌else◌}
use Rattle.std.proofs.lemmas.Fmt.{decimal_nonempty, digits_decimal, digits_value-decimal}
use Rattle.std.proofs.lemmas.Bool.Decides.{nat_tests}
use Rattle.xq_atoms.specs.declared.refusals.Code.TheVariants.{FORG0001, FOAR0002, FOCA0003}
use Rattle.xq_atoms.specs.Judged.{Judged, only_if}
use Rattle.xq_atoms.specs.Text.{Text, are_digits, is_whole, value}
use Rattle.xq_atoms.specs.Characters.{is_digit}
use Rattle.xq_atoms.specs.Atom.{Atomic, Integer, is_integer}
use Rattle.xq_atoms.specs.Literal.{integer_literal}
use Rattle.xq_atoms.specs.Cast.{after_sign, is_negated, integer_of_text}
use Rattle.xq_atoms.proofs.TextLemmas.{digits_model, and-true}

pub is_whole-decimal : (n : ℕ) → n < 2 ^ 64 → is_whole (decimal n) ≡ true
is_whole-decimal n small = whole (decimal n) (decimal_nonempty n small) (digits_decimal digits_model n small)
  where
    whole : (ds : Text) → 0 < length ds → IsTrue (are_digits ds) → is_whole ds ≡ true
    whole [] some digits = absurd (omega arith)
    whole (d ∷ ds) some digits = digits

no-sign : (c : ℕ) → IsTrue (is_digit c) → ((c == 43 || c == 45) ≡ false) × ((c == 45) ≡ false)
no-sign c h = (grind (arith, nat_tests), grind (arith, nat_tests))

unsigned : (ds : Text) → is_whole ds ≡ true → (after_sign ds ≡ ds) × (is_negated ds ≡ false)
unsigned [] h = (refl, refl)
unsigned (c ∷ cs) h =
    let none = no-sign c (and-true (is_digit c) (are_digits cs) h).0 in
    (ap (λ b. if b then cs else c ∷ cs) none.0, none.1)

-- the cast of a text, by its sign, the value of its digits and whether it has digits alone
abbrev shape : Bool → ℕ → Bool → Judged Atomic
shape negated n digits =
    let z = if negated then neg_ℤ (pos n) else pos n in
    if digits then only_if (is_integer z) FOCA0003 (Integer z) else Err FORG0001

is_integer-pos : (n : ℕ) → n < 2 ^ 63 → is_integer (pos n) ≡ true
is_integer-pos n small = grind (arith, nat_tests)

pub is_integer-neg : (n : ℕ) → n ≤ 2 ^ 63 → is_integer (neg_ℤ (pos n)) ≡ true
is_integer-neg zero small = refl
is_integer-neg (suc n) small = grind (arith, nat_tests)

pub integer_literal-decimal : (n : ℕ) → n < 2 ^ 63 → integer_literal (decimal n) ≡ Ok (pos n)
integer_literal-decimal n small =
    ap (λ v. only_if (is_integer (pos v)) FOAR0002 (pos v)) (digits_value-decimal digits_model n (omega arith))
    ∙ ap (λ b. only_if b FOAR0002 (pos n)) (is_integer-pos n small)

pub integer_of_text-decimal : (n : ℕ) → n < 2 ^ 63 → integer_of_text (decimal n) ≡ Ok (Integer (pos n))
integer_of_text-decimal n small =
    let whole = is_whole-decimal n (omega arith) in
    let front = unsigned (decimal n) whole in
    (λ i. shape (front.1 i) (value (front.0 i)) (is_whole (front.0 i)))
    ∙ (λ i. shape false (digits_value-decimal digits_model n (omega arith) i) (whole i))
    ∙ ap (λ b. only_if b FOCA0003 (Integer (pos n))) (is_integer-pos n small)

pub integer_of_text-minus : (n : ℕ) → n ≤ 2 ^ 63 → integer_of_text (45 ∷ decimal n) ≡ Ok (Integer (neg_ℤ (pos n)))
integer_of_text-minus n small =
    let whole = is_whole-decimal n (omega arith) in
    (λ i. shape true (digits_value-decimal digits_model n (omega arith) i) (whole i))
    ∙ ap (λ b. only_if b FOCA0003 (Integer (neg_ℤ (pos n)))) (is_integer-neg n small)
