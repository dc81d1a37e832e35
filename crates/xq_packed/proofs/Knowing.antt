-- Numbers of names that were looked up before.
use Rattle.std.proofs.Common.{◌≡◌, ℕ, zero, suc, List, [], ◌∷◌, ◌++◌, Bool, true, false, ◌||◌, Some, None, Option, refl, sym, ap, arith, if◌then◌else◌}
use Rattle.std.specs.Prelude.{bytes_eq, All}
use Rattle.std.specs.List.{list_any}
use Rattle.std.proofs.lemmas.List.Elements.{All-weaker}
use Rattle.std.proofs.lemmas.Option.{slice_get_within, same_Some}
use Rattle.std.proofs.lemmas.Slice.Eq.{bytes_eq-Decides}
use Rattle.xq_packed.specs.Packed.{with_name, IsNumbered}
use Rattle.xq_packed.specs.private.Copies.{IsKnown}
use Rattle.xq_packed.specs.private.Shapes.{name_at}
use Rattle.xq_packed.proofs.Copying.{numbered-with}

abbrev Text : Type 0
Text = List ℕ

either_first : (b c : Bool) → b ≡ true → (b || c) ≡ true
either_first true c h = refl
either_first false c h = cc

either_second : (b c : Bool) → c ≡ true → (b || c) ≡ true
either_second true c h = refl
either_second false c h = h

-- a name that has a number is among the names
among : (names : List Text) (n : ℕ) (name : Text) → IsNumbered names n name → list_any (bytes_eq name) names ≡ true
among [] n name h = absurd (omega (arith, slice_get_within [] n name h))
among (x ∷ names) zero name h =
    either_first (bytes_eq name x) (list_any (bytes_eq name) names) ((bytes_eq-Decides name x).1 (sym (same_Some x name h)))
among (x ∷ names) (suc n) name h =
    either_second (bytes_eq name x) (list_any (bytes_eq name) names) (among names n name h)

-- so it adds nothing to them
pub with-known : (names : List Text) (n : ℕ) (name : Text) → IsNumbered names n name → with_name names name ≡ names
with-known names n name h = ap (λ b. if b then names else names ++ name ∷ []) (among names n name h)

known_with : (others names : List Text) (other : Text) (pair : Option (ℕ × ℕ)) → IsKnown others names pair → IsKnown others (with_name names other) pair
known_with others names other None h = tt
known_with others names other (Some pair) h = numbered-with names other pair.1 (name_at others pair.0) h

-- what is known stays where a name is added
pub all-known : (others names : List Text) (other : Text) (pairs : List (Option (ℕ × ℕ))) → All (IsKnown others names) pairs → All (IsKnown others (with_name names other)) pairs
all-known others names other pairs h =
    All-weaker (IsKnown others names) (IsKnown others (with_name names other)) (known_with others names other) pairs h
