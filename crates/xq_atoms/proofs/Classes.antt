-- The classes of characters: what a digit isn't, and what a name's first character is.
use Rattle.std.proofs.Common.{◌≡◌, ℕ, true, false, refl, arith}
use Rattle.std.proofs.lemmas.Bool.Decides.{nat_tests}
use Rattle.xq_atoms.specs.Characters.{is_digit, is_name_start, is_name_char}

pub digit_no_start : (c : ℕ) → is_digit c ≡ true → is_name_start c ≡ false
unfolding is_name_start
digit_no_start c h = grind (arith, nat_tests)

pub start_is_char : (c : ℕ) → is_name_start c ≡ true → is_name_char c ≡ true
unfolding is_name_char
start_is_char c h = rw h refl
