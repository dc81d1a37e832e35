-- Places of parents that are kept.
use Rattle.std.proofs.Common.{◌≡◌, ◌<◌, ℕ, List, [], ◌∷◌, ◌++◌, length, get_or, inl, inr, sym, subst, arith}
use Rattle.std.proofs.lemmas.Bool.{cases_lt}
use Rattle.std.proofs.lemmas.List.{get_or_append_left, get_or_push, length_push}
use Rattle.xq_trees.specs.Rows.{Row}
use Rattle.xq_sources.specs.Parents.{AreParents, IsParentRow}

-- one more is kept after them, the place of a parent or none
pub one_more : (rs : List Row) (parents : List ℕ) (told v : ℕ) → length parents ≡ v → AreParents rs parents → (told < 4294967295 → IsParentRow rs told v) → AreParents rs (parents ++ told ∷ [])
one_more rs parents told v many are is = record {
  told = λ w within known. elim (cases_lt w (length parents)) [
    | inl less ↦ (let same = get_or_append_left parents (told ∷ []) 0 w less in
        subst (λ u. IsParentRow rs u w) (sym same) (are.told w less (subst (λ u. u < 4294967295) same known)))
    | inr past ↦ (let last : v ≡ w = omega (arith, past, within, many, length_push parents told) in
        let same : get_or (parents ++ told ∷ []) w 0 ≡ told = get_or_push parents told 0 w (omega (arith, many, last)) in
        subst (λ u. IsParentRow rs u w) (sym same) (subst (λ x. IsParentRow rs told x) last (is (subst (λ u. u < 4294967295) same known))))
  ];
}
