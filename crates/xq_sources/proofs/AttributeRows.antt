-- Attributes, row by row.
use Rattle.std.proofs.Common.{◌≡◌, ℕ, ◌+◌, ◌<◌, ◌≤◌, List, length, true, false, not, inl, inr, sym, ◌∙◌, ap, subst, arith}
use Rattle.std.proofs.lemmas.Bool.{cases_lt}
use Rattle.xq_trees.specs.Tree.{is_attribute}
use Rattle.xq_trees.specs.Rows.{Row}
use Rattle.xq_trees.specs.RegionTests.{plain_row}
use Rattle.xq_sources.specs.AttributeRows.{AreAttributeRows}
use Rattle.xq_sources.specs.declared.lent.LentRow.{LentRow}
use Rattle.xq_sources.proofs.Unplaced.{IsGot}

-- so many rows after v are those of attributes
pub record AreSoFar (rs : List Row) (v number : ℕ) : Type 0 where
  pub there : v + number < length rs
  pub are : (p : ℕ) → v < p → p ≤ v + number → plain_row rs p ≡ false

-- whether the row that was found is that of no attribute
plain-got : (rs : List Row) (at : ℕ) (r : LentRow) → IsGot rs at r → plain_row rs at ≡ not (is_attribute r.kind)
plain-got rs at r got = ap (λ (q : Row). not (is_attribute q.label.kind)) got.is

-- the next row is that of an attribute too
pub one_more : (rs : List Row) (v number : ℕ) (x : LentRow) → AreSoFar rs v number → IsGot rs (v + 1 + number) x → is_attribute x.kind ≡ true → AreSoFar rs v (number + 1)
one_more rs v number x s got k = record {
  there = (let there = got.there in omega (arith, there));
  are = λ p a b. elim (cases_lt p (v + number + 1)) [
    | inl l ↦ s.are p a (omega (arith, l))
    | inr l ↦ (let same : v + 1 + number ≡ p = omega (arith, l, b) in subst (λ q. plain_row rs q ≡ false) same (plain-got rs (v + 1 + number) x got ∙ ap not k))
  ];
}

-- the next row is that of no attribute, so that their number is known
pub told : (rs : List Row) (v number : ℕ) (x y : LentRow) → AreSoFar rs v number → IsGot rs v y → number < y.size → IsGot rs (v + 1 + number) x → is_attribute x.kind ≡ false → AreAttributeRows rs v number
told rs v number x y s own less got k =
    let same : v + 1 + number ≡ v + number + 1 = omega arith in
    let there = got.there in
    record {
      there = s.there;
      below = subst (λ (r : Row). number ≤ r.size) (sym own.is) (omega (arith, less));
      are = s.are;
      after = λ _. (omega (arith, there), subst (λ q. plain_row rs q ≡ true) same (plain-got rs (v + 1 + number) x got ∙ ap not k));
    }
