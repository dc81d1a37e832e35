-- Rows without their places, and the one that was looked up.
use Rattle.std.proofs.Common.{◌≡◌, ◌<◌, ℕ, List, Some, length, sym, ap, ◌∙◌, arith}
use Rattle.std.specs.Prelude.{slice_get}
use Rattle.std.proofs.lemmas.List.{get_or-map, length-map}
use Rattle.std.proofs.lemmas.Option.{slice_get_within, get_or_from_slice_get}
use Rattle.xq_trees.specs.Rows.{Row, row_at, no_row}
use Rattle.xq_sources.specs.Lent.{row_lent, placed_lent, unplaced}
use Rattle.xq_sources.specs.declared.lent.LentRow.{LentRow}

-- what is known of a row that was found at a place
pub record IsGot (rs : List Row) (at : ℕ) (r : LentRow) : Type 0 where
  pub there : at < length rs
  pub is : row_at rs at ≡ row_lent r

-- it stands there also without its place
pub row_got : (rows : List (ℕ × Row)) (at : ℕ) (r : LentRow) → Some (placed_lent r) ≡ slice_get rows at → IsGot (unplaced rows) at r
row_got rows at r found =
    let within : at < length rows = slice_get_within rows at (placed_lent r) (sym found) in
    record {
      there = omega (arith, within, length-map rows (λ (p : ℕ × Row). p.1));
      is = get_or-map (λ (p : ℕ × Row). p.1) rows at (placed_lent r) no_row within ∙ ap (λ (p : ℕ × Row). p.1) (get_or_from_slice_get rows at (placed_lent r) (placed_lent r) (sym found));
    }
