-- Which texts are addresses, and where an address stands in a list that rises.
use Rattle.std.proofs.Common.{◌≡◌, ◌+◌, ℕ, zero, suc, List, [], ◌∷◌, length, Some, IfSome, true, false, Result, Ok, Err, is_ok, refl, sym, ap, subst, ◌∙◌, arith, inl, inr}
use Rattle.std.specs.Prelude.{slice_get}
use Rattle.std.specs.Cmp.Lexicographic.{nat_list_cmp_total}
use Rattle.std.specs.Ordering.{is_eq, ordering_reverse}
use Rattle.xq_atoms.specs.declared.refusals.Code.{Code}
use Rattle.xq_atoms.specs.declared.refusals.Code.TheVariants.{FODC0002}
use Rattle.xq_functions.specs.private.Documents.{document_at}
use Rattle.std.proofs.lemmas.Cmp.{tied_itself}
use Rattle.std.proofs.lemmas.Map.Text.{is_eq-slice_cmp}
use Rattle.std.proofs.lemmas.Bool.{cases_lt, lt-ltb, le-leb, ltb-true, leb-true, and_from, and_parts, false_from_ne_true}
use Rattle.std.proofs.lemmas.List.Sums.{AllPass-from_list_all, list_all-from_AllPass}
use Rattle.xq_atoms.specs.Text.{Text, text_eq}
use Rattle.xq_atoms.specs.Address.{IsAddress, is_address_byte}
use Rattle.xq_sources.specs.Addresses.{IsBefore, IsGap, Rise}
use Rattle.xq_sources.proofs.Rising.{at_all}
use Rattle.xq_meaning.specs.Functions.{document_from, is_address, is_found}
use Rattle.xq_meaning.specs.Items.{Node, root_of}

-- # Which texts are addresses

pub is_address-true : (t : Text) → IsAddress t → is_address t ≡ true
is_address-true t h = and_from _ _ (lt-ltb 0 (length t) h.0) (and_from _ _ (le-leb (length t) 200 h.1) (list_all-from_AllPass is_address_byte t h.2))

IsAddress-from : (t : Text) → is_address t ≡ true → IsAddress t
IsAddress-from t e =
    let first = and_parts _ _ e in
    let second = and_parts _ _ first.1 in
    (ltb-true 0 (length t) first.0, leb-true (length t) 200 second.0, AllPass-from_list_all is_address_byte t second.1)

pub is_address-false : (t : Text) → (IsAddress t → ⊥) → is_address t ≡ false
is_address-false t h = false_from_ne_true (is_address t) (λ e. h (IsAddress-from t e))

pub is_found-is : (r : Result ℕ Code) → is_ok r ≡ is_found (document_at r)
is_found-is (Ok n) = refl
is_found-is (Err code) = refl

-- # Where an address stands

is_itself : (a : Text) → text_eq a a ≡ true
is_itself a = sym (is_eq-slice_cmp a a) ∙ ap is_eq (tied_itself nat_list_cmp_total a)

differs_before : (a b : Text) → IsBefore a b → text_eq a b ≡ false
differs_before a b less = sym (is_eq-slice_cmp a b) ∙ ap is_eq less

differs_after : (a b : Text) → IsBefore b a → text_eq a b ≡ false
differs_after a b less = sym (is_eq-slice_cmp a b) ∙ ap is_eq (nat_list_cmp_total.antisymm a b ∙ ap ordering_reverse less)

stands : (n : ℕ) (a : Text) (as' : List Text) (address : Text) → text_eq a address ≡ true → document_from n (a ∷ as') address ≡ Ok (Node (root_of n) ∷ [])
stands n a as' address e = rw e refl

passes : (n : ℕ) (a : Text) (as' : List Text) (address : Text) → text_eq a address ≡ false → document_from n (a ∷ as') address ≡ document_from (suc n) as' address
passes n a as' address e = rw e refl

-- where the addresses rise, those before it are others: the first place where it stands is the one
-- that a search found
pub document_found : (n : ℕ) (addresses : List Text) (place : ℕ) (address : Text) → Rise addresses → slice_get addresses place ≡ Some address → document_at (Ok (n + place)) ≡ document_from n addresses address
document_found n [] place address up e = absurd cc
document_found n (a ∷ as') zero address up e =
    let here : n + 0 ≡ n = omega arith in
    ap (λ k. document_at (Ok k)) here ∙ sym (stands n a as' address (subst (λ o. IfSome o (λ b. text_eq a b ≡ true)) e (is_itself a)))
document_found n (a ∷ as') (suc place) address up e =
    let next : n + suc place ≡ suc n + place = omega arith in
    ap (λ k. document_at (Ok k)) next ∙ document_found (suc n) as' place address up.1 e
    ∙ sym (passes n a as' address (differs_before a address (at_all (IsBefore a) as' place address up.0 e)))

nowhere : (n : ℕ) (addresses : List Text) (address : Text) → ((i : ℕ) (a : Text) → slice_get addresses i ≡ Some a → text_eq a address ≡ false) → Err FODC0002 ≡ document_from n addresses address
nowhere n [] address each = refl
nowhere n (a ∷ as') address each =
    nowhere (suc n) as' address (λ i b e. each (suc i) b e) ∙ sym (passes n a as' address (each 0 a refl))

-- where it would stand between those before and those after it, it stands nowhere
pub document_absent : (n : ℕ) (addresses : List Text) (place : ℕ) (address : Text) → IsGap addresses place address → document_at (Err FODC0002) ≡ document_from n addresses address
document_absent n addresses place address gap =
    nowhere n addresses address (λ i a e. elim (cases_lt i place) [
      | inl front ↦ differs_before a address (gap.front i a front e)
      | inr rest ↦ differs_after a address (gap.rest i a rest e)
    ])
