-- Rows in a list that have their places.
use Rattle.std.proofs.Common.{◌≡◌, ◌↔◌, ◌<◌, ◌≤◌, ◌+◌, ◌++◌, ℕ, List, [], ◌∷◌, length, take, map, get_or, false, true, refl, sym, ap, ◌∙◌, subst, arith}
use Rattle.std.specs.Prelude.{IsTrue, slice_index}
use Rattle.std.proofs.lemmas.Bool.{true≢false}
use Rattle.std.proofs.lemmas.List.{get_or-map, length-take, take_more, take_all}
use Rattle.xq_trees.specs.Rows.{AreNumbered}
use Rattle.xq_trees.specs.private.Checks.{pre_of}
use Rattle.xq_trees.specs.declared.NodeRow.{NodeRow}
use Rattle.xq_trees.proofs.Encoding.{numbered_at}
use Rattle.xq_trees.proofs.SizedRows.{numbered_push}

pub numbered_more : (xs : List NodeRow) (i : ℕ) (x : NodeRow) → i < length xs → x ≡ get_or xs i x → x.pre ≡ i → AreNumbered 0 (take i xs) → AreNumbered 0 (take (i + 1) xs)
numbered_more xs i x within here place so_far =
    let next : take (i + 1) xs ≡ take i xs ++ x ∷ [] = take_more xs i x within ∙ ap (λ (y : NodeRow). take i xs ++ y ∷ []) (sym here) in
    subst (AreNumbered 0) (sym next) (numbered_push 0 (take i xs) x so_far (omega (arith, length-take i xs)))

pub not_numbered : (xs : List NodeRow) (i : ℕ) (x : NodeRow) → i < length xs → x ≡ get_or xs i x → (x.pre ≡ i → ⊥) → IsTrue false ↔ AreNumbered 0 xs
not_numbered xs i x within here other = (
  λ t. absurd (true≢false (sym t)),
  λ n. absurd (
      let at : slice_index (map pre_of xs) i ≡ pre_of (get_or xs i x) = get_or-map pre_of xs i x 0 within in
      other (ap pre_of here ∙ sym at ∙ numbered_at 0 xs i n within ∙ (let e : 0 + i ≡ i = omega arith in e))
      ),
)

pub all_numbered : (xs : List NodeRow) (i : ℕ) → length xs ≤ i → AreNumbered 0 (take i xs) → IsTrue true ↔ AreNumbered 0 xs
all_numbered xs i past all = (λ t. subst (AreNumbered 0) (take_all i xs past) all, λ n. refl)
