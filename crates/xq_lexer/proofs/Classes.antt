-- The classes of characters: what a digit, a quote, a sign isn't.
use Rattle.std.proofs.Common.{◌≡◌, ℕ, true, false, ◌⊎◌, refl, inl, inr, arith}
use Rattle.std.specs.Prelude.{◌==◌}
use Rattle.std.proofs.lemmas.Bool.Decides.{nat_tests}
use Rattle.xq_atoms.specs.Characters.{is_char, is_digit, is_name_start, is_name_char}
use Rattle.xq_lexer.specs.Chars.{is_quote}

pub eq_is : (a b : ℕ) → (a == b) ≡ true → a ≡ b
eq_is a b h = grind (arith, nat_tests)

pub eq_same : (a : ℕ) → (a == a) ≡ true
eq_same a = grind (arith, nat_tests)

pub quote_is : (c : ℕ) → is_quote c ≡ true → (c ≡ 34) ⊎ (c ≡ 39)
quote_is c h = grind (arith, nat_tests)

pub quote_no_start : (c : ℕ) → is_quote c ≡ true → is_name_start c ≡ false
unfolding is_name_start
quote_no_start c h = elim (quote_is c h) [ inl e ↦ rw e refl | inr e ↦ rw e refl ]

pub quote_no_digit : (c : ℕ) → is_quote c ≡ true → is_digit c ≡ false
quote_no_digit c h = elim (quote_is c h) [ inl e ↦ rw e refl | inr e ↦ rw e refl ]

pub quote_no_point : (c : ℕ) → is_quote c ≡ true → (c == 46) ≡ false
quote_no_point c h = elim (quote_is c h) [ inl e ↦ rw e refl | inr e ↦ rw e refl ]

pub quote_no_ampersand : (c : ℕ) → is_quote c ≡ true → (38 == c) ≡ false
quote_no_ampersand c h = elim (quote_is c h) [ inl e ↦ rw e refl | inr e ↦ rw e refl ]

pub quote_is_char : (c : ℕ) → is_quote c ≡ true → is_char c ≡ true
unfolding is_char
quote_is_char c h = elim (quote_is c h) [ inl e ↦ rw e refl | inr e ↦ rw e refl ]

pub point_no_start : is_name_start 46 ≡ false
unfolding is_name_start
point_no_start = refl

pub colon_no_char : is_name_char 58 ≡ false
unfolding is_name_char is_name_start
colon_no_char = refl

pub ampersand_is_char : is_char 38 ≡ true
unfolding is_char
ampersand_is_char = refl

pub digit_no_x : (c : ℕ) → is_digit c ≡ true → (c == 120) ≡ false
digit_no_x c h = grind (arith, nat_tests)

pub digit_no_point : (c : ℕ) → is_digit c ≡ true → (c == 46) ≡ false
digit_no_point c h = grind (arith, nat_tests)
