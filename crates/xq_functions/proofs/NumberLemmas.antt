-- Signs before numbers, and ranges.
use Rattle.std.proofs.Common.{◌≡◌, ℕ, zero, suc, ◌≤◌, ℤ, pos, ◌+ℤ◌, neg_ℤ, Bool, true, false, List, [], ◌∷◌, ◌++◌, Ok, Err, refl, sym, ap, ◌∙◌, arith}
use Rattle.std.proofs.lemmas.Int.{ints}
use Rattle.xq_expressions.specs.declared.operators.Sign.{Sign}
use Rattle.xq_expressions.specs.declared.operators.Sign.TheVariants.{Plus, Minus}
use Rattle.xq_atoms.specs.Judged.{Judged, ◌>>=◌, only_if}
use Rattle.xq_atoms.specs.Atom.{Atomic, Integer, Decimal, String, Boolean, Untyped, numeric, is_integer}
use Rattle.xq_atoms.specs.Decimal.{is_decimal}
use Rattle.xq_atoms.specs.declared.refusals.Code.TheVariants.{FOAR0002}
use Rattle.xq_meaning.specs.Items.{Atom}
use Rattle.xq_meaning.specs.Operators.{sign_of, with_signs, integers_from, integers, integers_within, how_many}
use Rattle.std.proofs.lemmas.Bool.{le-leb}

-- a sign judges whether it stands before a number
pub sign_of-numeric : (s : Sign) (a : Atomic) → sign_of s a ≡ (numeric a >>= sign_of s)
sign_of-numeric Plus (Integer n) = refl
sign_of-numeric Plus (Decimal m) = refl
sign_of-numeric Plus (String t) = refl
sign_of-numeric Plus (Boolean b) = refl
sign_of-numeric Plus (Untyped t) = refl
sign_of-numeric Minus (Integer n) = refl
sign_of-numeric Minus (Decimal m) = refl
sign_of-numeric Minus (String t) = refl
sign_of-numeric Minus (Boolean b) = refl
sign_of-numeric Minus (Untyped t) = refl

only_if-numeric : (b : Bool) (x : Atomic) → numeric x ≡ Ok x → only_if b FOAR0002 x ≡ (only_if b FOAR0002 x >>= numeric)
only_if-numeric true x e = sym e
only_if-numeric false x e = refl

-- and gives a number
signed-numeric : (s : Sign) (a : Atomic) → sign_of s a ≡ (sign_of s a >>= numeric)
signed-numeric Plus (Integer n) = refl
signed-numeric Plus (Decimal m) = refl
signed-numeric Plus (String t) = refl
signed-numeric Plus (Boolean b) = refl
signed-numeric Plus (Untyped t) = refl
signed-numeric Minus (Integer n) = only_if-numeric (is_integer (neg_ℤ n)) (Integer (neg_ℤ n)) refl
signed-numeric Minus (Decimal m) = only_if-numeric (is_decimal (neg_ℤ m)) (Decimal (neg_ℤ m)) refl
signed-numeric Minus (String t) = refl
signed-numeric Minus (Boolean b) = refl
signed-numeric Minus (Untyped t) = refl

bind-assoc : {A B C : Type 0} (j : Judged A) (f : A → Judged B) (g : B → Judged C) → ((j >>= f) >>= g) ≡ (j >>= (λ x. f x >>= g))
bind-assoc (Ok x) f g = refl
bind-assoc (Err code) f g = refl

-- the last sign first
pub with_signs-last : (before : List Sign) (s : Sign) (a : Atomic) → with_signs (before ++ s ∷ []) a ≡ (sign_of s a >>= with_signs before)
with_signs-last [] s a = sym (sign_of-numeric s a) ∙ signed-numeric s a
with_signs-last (t ∷ before) s a = ap (λ j. j >>= sign_of t) (with_signs-last before s a) ∙ bind-assoc (sign_of s a) (with_signs before) (sign_of t)

add-pos_zero : (m : ℤ) → m ≡ m +ℤ pos 0
add-pos_zero m = omega (arith, ints)

add-pos_suc : (m : ℤ) (k : ℕ) → (m +ℤ pos 1) +ℤ pos k ≡ m +ℤ pos (suc k)
add-pos_suc m k = omega (arith, ints)

-- one integer more
pub integers_from-push : (m : ℤ) (k : ℕ) → integers_from m (suc k) ≡ integers_from m k ++ Atom (Integer (m +ℤ pos k)) ∷ []
integers_from-push m zero = ap (λ n. Atom (Integer n) ∷ []) (add-pos_zero m)
integers_from-push m (suc k) = ap (λ l. Atom (Integer m) ∷ l) (integers_from-push (m +ℤ pos 1) k ∙ ap (λ n. integers_from (m +ℤ pos 1) k ++ Atom (Integer n) ∷ []) (add-pos_suc m k))

-- as many as there may be
pub integers-within : (m n : ℤ) → how_many m n ≤ 1000000 → integers m n ≡ Ok (integers_from m (how_many m n))
integers-within m n h = ap (λ b. integers_within b m (how_many m n)) (le-leb (how_many m n) 1000000 h)
