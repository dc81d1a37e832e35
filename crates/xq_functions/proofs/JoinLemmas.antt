-- One text more among those that are joined.
use Rattle.std.proofs.Common.{◌≡◌, List, [], ◌∷◌, ◌++◌, length, flat_map, ◌==◌, true, false, arith, refl, sym, ap, ◌∙◌}
use Rattle.std.proofs.lemmas.List.{append_assoc, append-nil}
use Rattle.std.proofs.lemmas.Bool.{false≢true, eqb-true}
use Rattle.xq_atoms.specs.Text.{Text}
use Rattle.xq_meaning.specs.Texts.{joined}

joined-push : (separator t : Text) (ts : List Text) (u : Text) → joined separator ((t ∷ ts) ++ u ∷ []) ≡ (joined separator (t ∷ ts) ++ separator) ++ u
joined-push separator t [] u = refl
joined-push separator t (s ∷ ts) u =
    ap (λ rest. t ++ separator ++ rest) (joined-push separator s ts u) ∙ (simp append_assoc)

-- after the first
pub joined-more : (separator : Text) (ts : List Text) (u : Text) → (length ts == 0) ≡ false → joined separator (ts ++ u ∷ []) ≡ (joined separator ts ++ separator) ++ u
joined-more separator [] u more = absurd (false≢true (sym more))
joined-more separator (t ∷ ts) u more = joined-push separator t ts u

pub joined-first : (separator : Text) (ts : List Text) (u : Text) → (length ts == 0) ≡ true → joined separator (ts ++ u ∷ []) ≡ joined separator ts ++ u
joined-first separator [] u none = refl
joined-first separator (t ∷ ts) u none = absurd (omega (arith, eqb-true (length (t ∷ ts)) 0 none))

-- without a separator
pub joined-nothing : (ts : List Text) → joined [] ts ≡ flat_map (λ t. t) ts
joined-nothing [] = refl
joined-nothing (t ∷ []) = sym (append-nil t)
joined-nothing (t ∷ u ∷ us) = ap (λ x. x ++ joined [] (u ∷ us)) (append-nil t) ∙ ap (λ x. t ++ x) (joined-nothing (u ∷ us))
