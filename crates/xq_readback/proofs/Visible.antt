-- Texts without white space are trimmed already, and those that begin with a digit have no sign.
use Rattle.std.proofs.Common.{◌≡◌, ℕ, Bool, true, false, cond, not, ◌&&◌, IsTrue, [], ◌∷◌, ◌++◌, reverse, refl, ap, ◌∙◌, arith}
use Rattle.std.specs.Prelude.{◌==◌, ◌||◌, if◌then◌else◌}
use Rattle.std.specs.List.{list_all}
use Rattle.std.proofs.lemmas.Bool.{false≢true}
use Rattle.std.proofs.lemmas.Bool.Decides.{nat_tests}
use Rattle.std.proofs.lemmas.List.{reverse-reverse}
use Rattle.xq_atoms.specs.Text.{Text, are_digits, is_whole}
use Rattle.xq_atoms.specs.Characters.{is_space, is_digit}
use Rattle.xq_atoms.specs.Spaces.{after_leading, before_trailing, trimmed}
use Rattle.xq_atoms.specs.Cast.{after_sign, is_negated}
use Rattle.xq_atoms.proofs.TextLemmas.{and-true, list_all-reverse}

abbrev pub visible : ℕ → Bool
visible c = not (is_space c)

not-true : (b : Bool) → IsTrue (not b) → b ≡ false
not-true true h = absurd (false≢true h)
not-true false h = refl

after_leading-visible : (cs : Text) → IsTrue (list_all visible cs) → after_leading is_space cs ≡ cs
after_leading-visible [] h = refl
after_leading-visible (c ∷ cs) h =
    ap (λ b. cond b (after_leading is_space cs) (c ∷ cs)) (not-true (is_space c) (and-true (visible c) (list_all visible cs) h).0)

pub trimmed-visible : (cs : Text) → IsTrue (list_all visible cs) → trimmed cs ≡ cs
trimmed-visible cs h =
    ap (before_trailing is_space) (after_leading-visible cs h)
    ∙ ap reverse (after_leading-visible (reverse cs) (list_all-reverse visible cs ∙ h))
    ∙ reverse-reverse cs

digit-visible : (c : ℕ) → IsTrue (is_digit c) → IsTrue (visible c)
digit-visible c h = grind (arith, nat_tests)

pub digits-visible : (cs : Text) → IsTrue (are_digits cs) → IsTrue (list_all visible cs)
digits-visible [] h = refl
digits-visible (c ∷ cs) h =
    let here = and-true (is_digit c) (are_digits cs) h in
    (λ i. digit-visible c here.0 i && digits-visible cs here.1 i)

no-sign : (c : ℕ) → IsTrue (is_digit c) → ((c == 43 || c == 45) ≡ false) × ((c == 45) ≡ false)
no-sign c h = (grind (arith, nat_tests), grind (arith, nat_tests))

pub unsigned : (ds rest : Text) → is_whole ds ≡ true → (after_sign (ds ++ rest) ≡ ds ++ rest) × (is_negated (ds ++ rest) ≡ false)
unsigned [] rest h = absurd (false≢true h)
unsigned (c ∷ cs) rest h =
    let none = no-sign c (and-true (is_digit c) (are_digits cs) h).0 in
    (ap (λ b. if b then cs ++ rest else c ∷ cs ++ rest) none.0, none.1)
