-- Passing over separators step by step.
use Rattle.std.proofs.Common.{◌≡◌, ℕ, zero, suc, ◌+◌, ◌-◌, ◌<◌, ◌≤◌, Bool, true, false, cond, [], ◌∷◌, ◌++◌, length, Option, Some, None, refl, sym, ap, subst, arith}
use Rattle.std.specs.Prelude.{◌==◌, nat_lt}
use Rattle.std.proofs.lemmas.Bool.Decides.{nat_tests}
use Rattle.xq_atoms.specs.Characters.{is_char, is_space}
use Rattle.xq_lexer.specs.Chars.{Text}
use Rattle.xq_lexer.specs.Separators.{opens, closes, skip}
use Rattle.xq_lexer.specs.Reading.{skip_step, unless_open}

-- what a step leads to
abbrev pub Leads : ℕ → Text → Option (ℕ × Text) → Type 0
Leads depth t None = skip depth t ≡ unless_open depth t
Leads depth t (Some x) = (skip depth t ≡ skip x.0 x.1) × (length x.1 < length t) × (x.0 + length x.1 ≤ depth + length t)

not_zero : (n : ℕ) → (suc n == 0) ≡ false
not_zero n = grind (arith, nat_tests)

above_zero : (n : ℕ) → nat_lt 0 (suc n) ≡ true
above_zero n = grind (arith, nat_tests)

closed_more : (n : ℕ) (t : Text) → unless_open (suc n) t ≡ None
closed_more n t = rw (not_zero n) refl

more_is : (n : ℕ) → suc n + 1 ≡ suc (suc n)
more_is n = omega arith

less_is : (n : ℕ) → suc n - 1 ≡ n
less_is n = omega arith

one_more : (t : Text) → skip 1 t ≡ skip (0 + 1) t
one_more t = refl

alone_zero : (a : ℕ) (p : Bool) → is_space a ≡ p → Leads 0 (a ∷ []) (cond {A = Option (ℕ × Text)} p (Some (0, [])) None)
alone_zero a true e = (rw e refl, omega arith, omega arith)
alone_zero a false e = rw e refl

alone_more : (n a : ℕ) (p : Bool) → is_char a ≡ p → Leads (suc n) (a ∷ []) (cond {A = Option (ℕ × Text)} p (Some (suc n, [])) None)
alone_more n a true e = (refl, omega arith, omega arith)
alone_more n a false e = sym (closed_more n (a ∷ []))

pair_zero : (a b : ℕ) (t : Text) (o : Bool) → opens a b ≡ o → (p : Bool) → is_space a ≡ p
    → Leads 0 (a ∷ b ∷ t) (cond {A = Option (ℕ × Text)} o (Some (0 + 1, t)) (cond {A = Option (ℕ × Text)} p (Some (0, b ∷ t)) None))
pair_zero a b t true e p k = (rw e refl, omega arith, omega arith)
pair_zero a b t false e true k = (rw (e, k) refl, omega arith, omega arith)
pair_zero a b t false e false k = rw (e, k) refl

pair_more : (n a b : ℕ) (t : Text) (o : Bool) → opens a b ≡ o → (d : Bool) → closes a b ≡ d → (p : Bool) → is_char a ≡ p
    → Leads (suc n) (a ∷ b ∷ t) (cond {A = Option (ℕ × Text)} o (Some (suc n + 1, t)) (cond {A = Option (ℕ × Text)} d (Some (suc n - 1, t)) (cond {A = Option (ℕ × Text)} p (Some (suc n, b ∷ t)) None)))
pair_more n a b t true e d f p k = (rw (e, more_is n) refl, omega arith, omega arith)
pair_more n a b t false e true f p k = (rw (e, f, less_is n) refl, omega arith, omega arith)
pair_more n a b t false e false f true k = (rw (e, f, k) refl, omega arith, omega arith)
pair_more n a b t false e false f false k = rw (e, f, k) (sym (closed_more n (a ∷ b ∷ t)))

pub skip_leads : (depth : ℕ) (t : Text) → Leads depth t (skip_step depth t)
skip_leads zero [] = refl
skip_leads (suc n) [] = sym (closed_more n [])
skip_leads zero (a ∷ []) = alone_zero a (is_space a) refl
skip_leads (suc n) (a ∷ []) = rw (not_zero n) (alone_more n a (is_char a) refl)
skip_leads zero (a ∷ b ∷ t) = pair_zero a b t (opens a b) refl (is_space a) refl
skip_leads (suc n) (a ∷ b ∷ t) = rw (not_zero n, above_zero n) (pair_more n a b t (opens a b) refl (closes a b) refl (is_char a) refl)

pub led : (depth : ℕ) (t : Text) (d : ℕ) (u : Text) → skip_step depth t ≡ Some (d, u) → (skip depth t ≡ skip d u) × (length u < length t) × (d + length u ≤ depth + length t)
led depth t d u e = subst (Leads depth t) e (skip_leads depth t)

pub ended : (depth : ℕ) (t : Text) → skip_step depth t ≡ None → skip depth t ≡ unless_open depth t
ended depth t e = subst (Leads depth t) e (skip_leads depth t)

-- what is left is the end of the text
pub record Suffix (t z : Text) : Type 0 where
  pub front : Text
  pub whole : front ++ z ≡ t

suffix_more : (a : ℕ) (t z : Text) → Suffix t z → Suffix (a ∷ t) z
suffix_more a t z s = record { front = a ∷ s.front; whole = ap (λ (y : Text). a ∷ y) s.whole }

suffix_same : (t z : Text) → t ≡ z → Suffix t z
suffix_same t z e = record { front = []; whole = sym e }

abbrev Finds : ℕ → Text → Type 0
Finds depth t = (z : Text) → skip depth t ≡ Some z → Suffix t z

zero_one : (a : ℕ) (p : Bool) (z : Text) → ◌≡◌ {A = Option Text} (cond p (Some []) (Some (a ∷ []))) (Some z) → Suffix (a ∷ []) z
zero_one a true z h = suffix_more a [] z (suffix_same [] z cc)
zero_one a false z h = suffix_same (a ∷ []) z cc

zero_two : (a b : ℕ) (t : Text) (o p : Bool) → Finds 1 t → Finds 0 (b ∷ t) → (z : Text) → cond o (skip 1 t) (cond p (skip 0 (b ∷ t)) (Some (a ∷ b ∷ t))) ≡ Some z → Suffix (a ∷ b ∷ t) z
zero_two a b t true p f g z h = suffix_more a (b ∷ t) z (suffix_more b t z (f z h))
zero_two a b t false true f g z h = suffix_more a (b ∷ t) z (g z h)
zero_two a b t false false f g z h = suffix_same (a ∷ b ∷ t) z cc

more_two : (n a b : ℕ) (t : Text) (o d p : Bool) → Finds (suc (suc n)) t → Finds n t → Finds (suc n) (b ∷ t) → (z : Text)
    → cond o (skip (suc (suc n)) t) (cond d (skip n t) (cond p (skip (suc n) (b ∷ t)) None)) ≡ Some z → Suffix (a ∷ b ∷ t) z
more_two n a b t true d p f g k z h = suffix_more a (b ∷ t) z (suffix_more b t z (f z h))
more_two n a b t false true p f g k z h = suffix_more a (b ∷ t) z (suffix_more b t z (g z h))
more_two n a b t false false true f g k z h = suffix_more a (b ∷ t) z (k z h)
more_two n a b t false false false f g k z h = absurd cc

finds : (n : ℕ) (depth : ℕ) (t : Text) → length t ≤ n → Finds depth t
finds n zero [] len z h = suffix_same [] z cc
finds n (suc depth) [] len z h = absurd cc
finds n zero (a ∷ []) len z h = zero_one a (is_space a) z h
finds n (suc depth) (a ∷ []) len z h = absurd cc
finds zero depth (a ∷ b ∷ t) len z h = absurd (omega (arith, len))
finds (suc n) zero (a ∷ b ∷ t) len z h = zero_two a b t (opens a b) (is_space a) (finds n 1 t (omega (arith, len))) (finds n 0 (b ∷ t) (omega (arith, len))) z h
finds (suc n) (suc depth) (a ∷ b ∷ t) len z h = more_two depth a b t (opens a b) (closes a b) (is_char a) (finds n (suc (suc depth)) t (omega (arith, len))) (finds n depth t (omega (arith, len))) (finds n (suc depth) (b ∷ t) (omega (arith, len))) z h

pub skip_suffix : (t z : Text) → skip 0 t ≡ Some z → Suffix t z
skip_suffix t z h = finds (length t) 0 t (omega arith) z h
