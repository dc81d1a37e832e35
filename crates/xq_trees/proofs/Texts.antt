-- Where a piece stands in a text.
use Rattle.std.proofs.Common.{◌≡◌, ℕ, List, [], ◌∷◌, ◌++◌, length, Bool, true, false, ◌||◌, refl, ap, nat_eq, ◌⊎◌, inl, inr, drop}
use Rattle.std.specs.Prelude.{None}
use Rattle.std.specs.List.{starts_with}
use Rattle.std.specs.Str.Iter.{HasSubslice}
use Rattle.std.proofs.lemmas.Bool.{or_cases}
use Rattle.std.proofs.lemmas.Bool.Decides.{Decides-eqb}
use Rattle.std.proofs.lemmas.Slice.Eq.{starts_is}
use Rattle.std.proofs.lemmas.Str.Pattern.{contains_text}
use Rattle.std.specs.Str.Pattern.{HasMatch, FindsText}
use Rattle.std.specs.Bool.{MatchBool}
use Rattle.xq_trees.specs.Names.{holds}
use Rattle.xq_trees.proofs.Lists.{same_test}

-- two tests that are true alike are equal
begins : (piece text : List ℕ) → starts_with nat_eq text piece ≡ true → text ≡ piece ++ drop (length piece) text
begins piece text h = (starts_is Decides-eqb text piece (starts_with nat_eq text piece) refl).0 h

begun : (piece text rest : List ℕ) → text ≡ piece ++ rest → starts_with nat_eq text piece ≡ true
begun piece text rest e = (starts_is Decides-eqb text piece (starts_with nat_eq text piece) refl).1 rest e

pub holds_found : (piece text : List ℕ) → holds piece text ≡ true → HasSubslice text piece
holds_found [] [] h = ([], [], refl)
holds_found (p ∷ piece) [] h = absurd (cc)
holds_found piece (b ∷ bs) h =
    elim (or_cases (starts_with nat_eq (b ∷ bs) piece) (holds piece bs) h) [
      | inl first ↦ ([], drop (length piece) (b ∷ bs), begins piece (b ∷ bs) first)
      | inr later ↦ (let w = holds_found piece bs later in (b ∷ w.0, w.1, ap (λ l. b ∷ l) w.2))
    ]

or_true : (x y : Bool) → (x ≡ true) ⊎ (y ≡ true) → (x || y) ≡ true
or_true true y h = refl
or_true false y (inl e) = absurd (cc)
or_true false y (inr e) = e

found_holds : (before piece after text : List ℕ) → text ≡ before ++ (piece ++ after) → holds piece text ≡ true
found_holds [] [] after [] e = refl
found_holds [] (p ∷ piece) after [] e = absurd (cc)
found_holds [] piece after (b ∷ bs) e = or_true _ _ (inl (begun piece (b ∷ bs) after e))
found_holds (c ∷ before) piece after [] e = absurd (cc)
found_holds (c ∷ before) piece after (b ∷ bs) e =
    let rest : bs ≡ before ++ (piece ++ after) = cc in
    or_true _ _ (inr (found_holds before piece after bs rest))

-- what `contains` answers
pub contains-holds : (r : Bool) (piece text : List ℕ) → MatchBool r (HasMatch (FindsText piece) text) (FindsText piece text None) → r ≡ holds piece text
contains-holds r piece text h =
    let w = contains_text r piece text h in
    same_test r (holds piece text) (λ e. (let f = w.0 e in found_holds f.0 piece f.1 text f.2)) (λ e. w.1 (holds_found piece text e))
