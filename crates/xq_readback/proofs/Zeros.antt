-- Digits with zeros at their front or their end.
use Rattle.std.proofs.Common.{◌≡◌, ℕ, zero, suc, ◌+◌, ◌-◌, ◌*◌, ◌^◌, ◌<◌, ◌≤◌, Bool, true, false, cond, [], ◌∷◌, ◌++◌, length, reverse, replicate, arith, refl, sym, ap, ◌∙◌, lit<}
use Rattle.std.specs.Prelude.{decimal}
use Rattle.std.proofs.Math.Nat.{pow-succ', mul_assoc}
use Rattle.std.proofs.lemmas.Bool.Decides.{nat_tests}
use Rattle.std.proofs.lemmas.Fmt.{digits_value-decimal, length-decimal-le}
use Rattle.std.proofs.lemmas.List.{reverse-append, reverse-reverse, length-append, length-replicate, replicate_more}
use Rattle.xq_atoms.specs.Text.{Text, value, value_after}
use Rattle.xq_atoms.specs.Spaces.{after_leading}
use Rattle.xq_atoms.specs.Literal.{is_zero_digit, without_trailing_zeros}
use Rattle.xq_atoms.specs.Cast.{six_digits}
use Rattle.xq_atoms.proofs.TextLemmas.{digits_model}

value_after-append : (n : ℕ) (xs ys : Text) → value_after n (xs ++ ys) ≡ value_after (value_after n xs) ys
value_after-append n [] ys = refl
value_after-append n (c ∷ xs) ys = value_after-append (n * 10 + (c - 48)) xs ys

once_more : (n p q : ℕ) → q ≡ 10 * p → (n * 10 + 0) * p ≡ n * q
once_more n p q e = ap (λ x. x * p) (tens n) ∙ mul_assoc n 10 p ∙ ap (λ x. n * x) (sym e)
  where
    tens : (n : ℕ) → n * 10 + 0 ≡ n * 10
    tens n = omega arith

times_one : (n : ℕ) → n ≡ n * 10 ^ 0
times_one n = omega arith

value_after-zeros : (n k : ℕ) → value_after n (replicate k 48) ≡ n * 10 ^ k
value_after-zeros n zero = times_one n
value_after-zeros n (suc k) = value_after-zeros (n * 10 + 0) k ∙ once_more n (10 ^ k) (10 ^ suc k) (pow-succ' 10 k)

-- zeros at the front count nothing
value-zeros : (k : ℕ) (ds : Text) → value (replicate k 48 ++ ds) ≡ value ds
value-zeros zero ds = refl
value-zeros (suc k) ds = value-zeros k ds

pub value-six_digits : (n : ℕ) → n < 1000000 → value (six_digits n) ≡ n
value-six_digits n small = value-zeros (6 - length (decimal n)) (decimal n) ∙ digits_value-decimal digits_model n (omega arith)

pub length-six_digits : (n : ℕ) → n < 1000000 → length (six_digits n) ≡ 6
length-six_digits n small =
    let short = length-decimal-le 6 n (lit< tt) (omega arith) (omega arith) in
    omega (arith, length-append (replicate (6 - length (decimal n)) 48) (decimal n), length-replicate {A = ℕ} (6 - length (decimal n)) 48)

zero_digit-is : (c : ℕ) → is_zero_digit c ≡ true → c ≡ 48
zero_digit-is c e = grind (arith, nat_tests)

leading-first : (c : ℕ) (cs : Text) → (k : ℕ) × (cs ≡ replicate k 48 ++ after_leading is_zero_digit cs) → (b : Bool) → is_zero_digit c ≡ b
    → (k : ℕ) × (c ∷ cs ≡ replicate k 48 ++ cond b (after_leading is_zero_digit cs) (c ∷ cs))
leading-first c cs more true e = (suc more.0, λ i. zero_digit-is c e i ∷ more.1 i)
leading-first c cs more false e = (0, refl)

leading : (cs : Text) → (k : ℕ) × (cs ≡ replicate k 48 ++ after_leading is_zero_digit cs)
leading [] = (0, refl)
leading (c ∷ cs) = leading-first c cs (leading cs) (is_zero_digit c) refl

reverse-replicate : (k : ℕ) → reverse {A = ℕ} (replicate k 48) ≡ replicate k 48
reverse-replicate zero = refl
reverse-replicate (suc k) =
    reverse-append (48 ∷ []) (replicate k 48) ∙ ap (λ x. x ++ 48 ∷ []) (reverse-replicate k) ∙ replicate_more k 48 ∙ ap (λ n. replicate n 48) (next k)
  where
    next : (k : ℕ) → k + 1 ≡ suc k
    next k = omega arith

-- the zeros that are dropped
pub trailing : (cs : Text) → (k : ℕ) × (cs ≡ without_trailing_zeros cs ++ replicate k 48)
trailing cs =
    let front = leading (reverse cs) in
    let rest = after_leading is_zero_digit (reverse cs) in
    (front.0, sym (reverse-reverse cs) ∙ ap reverse front.1 ∙ reverse-append (replicate front.0 48) rest ∙ ap (λ x. reverse rest ++ x) (reverse-replicate front.0))

pub length-without_trailing_zeros : (cs : Text) → length (without_trailing_zeros cs) ≤ length cs
length-without_trailing_zeros cs =
    let back = trailing cs in
    omega (arith, ap length back.1, length-append (without_trailing_zeros cs) (replicate back.0 48))

pub value-without_trailing_zeros : (cs : Text) → length cs ≡ 6 → value (without_trailing_zeros cs) * 10 ^ (6 - length (without_trailing_zeros cs)) ≡ value cs
value-without_trailing_zeros cs six =
    let back = trailing cs in
    let kept = without_trailing_zeros cs in
    let count : 6 - length kept ≡ back.0 = omega (arith, ap length back.1, length-append kept (replicate back.0 48), length-replicate {A = ℕ} back.0 48) in
    ap (λ k. value kept * 10 ^ k) count ∙ sym (value_after-zeros (value kept) back.0) ∙ sym (value_after-append 0 kept (replicate back.0 48)) ∙ sym (ap value back.1)

after_leading-first : (p : ℕ → Bool) (c : ℕ) (cs : Text) → after_leading p (after_leading p cs) ≡ after_leading p cs → (b : Bool) → p c ≡ b
    → after_leading p (cond b (after_leading p cs) (c ∷ cs)) ≡ cond b (after_leading p cs) (c ∷ cs)
after_leading-first p c cs more true e = more
after_leading-first p c cs more false e = ap (λ b. cond b (after_leading p cs) (c ∷ cs)) e

after_leading-twice : (p : ℕ → Bool) (cs : Text) → after_leading p (after_leading p cs) ≡ after_leading p cs
after_leading-twice p [] = refl
after_leading-twice p (c ∷ cs) = after_leading-first p c cs (after_leading-twice p cs) (p c) refl

pub without_trailing_zeros-twice : (cs : Text) → without_trailing_zeros (without_trailing_zeros cs) ≡ without_trailing_zeros cs
without_trailing_zeros-twice cs =
    ap (λ x. reverse (after_leading is_zero_digit x)) (reverse-reverse (after_leading is_zero_digit (reverse cs)))
    ∙ ap reverse (after_leading-twice is_zero_digit (reverse cs))
