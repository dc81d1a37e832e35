-- Numbers with and without a point, by the digits before and after it.
use Rattle.std.proofs.Common.{◌≡◌, ℕ, suc, ◌+◌, true, false, cond, not, ◌&&◌, IsTrue, [], ◌∷◌, ◌++◌, length, take, drop, arith, refl, sym, ap, ◌∙◌}
use Rattle.std.specs.List.{position_or_len}
use Rattle.std.proofs.Math.Seq.{take-append_seam, drop-append-add}
use Rattle.std.proofs.lemmas.Bool.{false≢true}
use Rattle.std.proofs.lemmas.Bool.Decides.{nat_tests}
use Rattle.std.proofs.lemmas.List.{append-nil}
use Rattle.std.proofs.lemmas.List.Folds.{list_all-append}
use Rattle.xq_atoms.specs.Text.{Text, is_empty, are_digits, is_whole}
use Rattle.xq_atoms.specs.Characters.{is_digit}
use Rattle.xq_atoms.specs.Literal.{is_point, is_number, whole_part, after_point, fraction, without_trailing_zeros}
use Rattle.xq_atoms.proofs.TextLemmas.{and-true, and-false}

-- a number without a sign, by its whole part, and its fraction without the zeros at its end
pub record Parts (t whole decimals : Text) : Type 0 where
  pub whole_is : whole_part t ≡ whole
  pub fraction_is : fraction t ≡ decimals
  pub number : is_number t ≡ true

no_point : (c : ℕ) → IsTrue (is_digit c) → is_point c ≡ false
no_point c h = grind (arith, nat_tests)

one_more : (n k : ℕ) → n ≡ k → 1 + n ≡ suc k
one_more n k e = omega arith

point_place : (ds rest : Text) → IsTrue (are_digits ds) → position_or_len is_point (ds ++ 46 ∷ rest) ≡ length ds
point_place [] rest h = refl
point_place (d ∷ ds) rest h =
    let here = and-true (is_digit d) (are_digits ds) h in
    let there = position_or_len is_point (ds ++ 46 ∷ rest) in
    ap (λ b. cond (not b) (1 + there) 0) (no_point d here.0) ∙ one_more there (length ds) (point_place ds rest here.1)

no_place : (ds : Text) → IsTrue (are_digits ds) → position_or_len is_point ds ≡ length ds
no_place [] h = refl
no_place (d ∷ ds) h =
    let here = and-true (is_digit d) (are_digits ds) h in
    let there = position_or_len is_point ds in
    ap (λ b. cond (not b) (1 + there) 0) (no_point d here.0) ∙ one_more there (length ds) (no_place ds here.1)

whole_part-point : (ds rest : Text) → IsTrue (are_digits ds) → whole_part (ds ++ 46 ∷ rest) ≡ ds
whole_part-point ds rest h = ap (λ n. take n (ds ++ 46 ∷ rest)) (point_place ds rest h) ∙ take-append_seam ds (46 ∷ rest)

after_point-point : (ds rest : Text) → IsTrue (are_digits ds) → after_point (ds ++ 46 ∷ rest) ≡ rest
after_point-point ds rest h = ap (λ n. drop (n + 1) (ds ++ 46 ∷ rest)) (point_place ds rest h) ∙ drop-append-add ds (46 ∷ rest) 1

whole_part-digits : (ds : Text) → IsTrue (are_digits ds) → whole_part ds ≡ ds
whole_part-digits ds h = ap (λ n. take n ds) (no_place ds h) ∙ ap (take (length ds)) (sym (append-nil ds)) ∙ take-append_seam ds []

after_point-digits : (ds : Text) → IsTrue (are_digits ds) → after_point ds ≡ []
after_point-digits ds h = ap (λ n. drop (n + 1) ds) (no_place ds h) ∙ ap (drop (length ds + 1)) (sym (append-nil ds)) ∙ drop-append-add ds [] 1

pub whole-digits : (ds : Text) → is_whole ds ≡ true → IsTrue (are_digits ds)
whole-digits ds h = (and-true (not (is_empty ds)) (are_digits ds) h).1

pub is_whole-append : (ds rest : Text) → is_whole ds ≡ true → IsTrue (are_digits rest) → is_whole (ds ++ rest) ≡ true
is_whole-append [] rest h more = absurd (false≢true h)
is_whole-append (d ∷ ds) rest h more = list_all-append is_digit (d ∷ ds) rest ∙ (λ i. whole-digits (d ∷ ds) h i && more i)

pub parts-point : (ds rest decimals : Text) → is_whole ds ≡ true → IsTrue (are_digits rest) → without_trailing_zeros rest ≡ decimals → Parts (ds ++ 46 ∷ rest) ds decimals
parts-point ds rest decimals h more kept =
    let digits = whole-digits ds h in
    let whole = whole_part-point ds rest digits in
    let after = after_point-point ds rest digits in
    record {
      whole_is = whole;
      fraction_is = ap without_trailing_zeros after ∙ kept;
      number = (λ i. is_whole (whole i ++ after i)) ∙ is_whole-append ds rest h more;
    }

pub parts-digits : (ds : Text) → is_whole ds ≡ true → Parts ds ds []
parts-digits ds h =
    let digits = whole-digits ds h in
    let whole = whole_part-digits ds digits in
    let after = after_point-digits ds digits in
    record {
      whole_is = whole;
      fraction_is = ap without_trailing_zeros after;
      number = (λ i. is_whole (whole i ++ after i)) ∙ ap is_whole (append-nil ds) ∙ h;
    }

-- with a point it is no integer
pub is_whole-point : (ds rest : Text) → is_whole (ds ++ 46 ∷ rest) ≡ false
is_whole-point ds rest =
    and-false (not (is_empty (ds ++ 46 ∷ rest))) _ (list_all-append is_digit ds (46 ∷ rest) ∙ and-false (are_digits ds) _ refl)
