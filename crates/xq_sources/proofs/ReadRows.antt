-- What is read of the rows of a tree.
use Rattle.std.proofs.Common.{◌≡◌, ℕ, ◌+◌, ◌-◌, ◌<◌, List, [], ◌∷◌, length, map, take, drop, drop-cons, refl, sym, ◌∙◌, ap, arith}
use Rattle.std.specs.Prelude.{slice_get, Option, Some, None}
use Rattle.std.specs.List.{enumerate_from}
use Rattle.std.proofs.lemmas.List.FromFn.{length-enumerate_from, get_or-enumerate_from}
use Rattle.std.proofs.lemmas.Option.{slice_get_within, get_or_from_slice_get}
use Rattle.xq_trees.specs.Tree.{Tree, nodes}
use Rattle.xq_trees.specs.Forest.{count}
use Rattle.xq_trees.specs.declared.NodeRow.{NodeRow}
use Rattle.xq_trees.specs.Rows.{Row, row_of, row_at, no_row, rows, placed, placed_rows, measured}
use Rattle.xq_trees.specs.Nesting.{count-measured}
use Rattle.xq_sources.specs.Lent.{placed_lent, placed_between, unplaced}
use Rattle.xq_sources.specs.declared.lent.LentRow.{LentRow}
use Rattle.xq_sources.specs.Sources.{rows_between}
use Rattle.xq_sources.specs.private.Runs.{rows_of_run}
use Rattle.xq_sources.proofs.Intervals.{between-places}
use Rattle.xq_trees.proofs.Regions.{length-labels}

-- no row of any tree
pub no_rows : (held : Option Tree) → rows_of_run held 1 0 ≡ []
no_rows None = refl
no_rows (Some t) = between-places 1 0 1 0 (rows t) refl

-- rows that code holds, without their places
pub unplaced-placed : (xs : List NodeRow) → unplaced (map placed xs) ≡ map row_of xs
unplaced-placed [] = refl
unplaced-placed (x ∷ xs) = ap (λ rs. row_of x ∷ rs) (unplaced-placed xs)

-- rows without the places that they were given
unplaced-numbered : (n : ℕ) (rs : List Row) → unplaced (enumerate_from n rs) ≡ rs
unplaced-numbered n [] = refl
unplaced-numbered n (r ∷ rs) = ap (λ qs. r ∷ qs) (unplaced-numbered (n + 1) rs)

module _ (t : Tree) where
  pub read_between : (low high : ℕ) → placed_between (rows t) low (high + 1) ≡ rows_between t low high
  read_between low high =
      sym (between-places low 0 low high (rows t) (let z : low ≡ 0 + low = omega arith in z))

  -- a row that was looked up
  pub read_row : (v : ℕ) (r : LentRow) → Some (placed_lent r) ≡ slice_get (placed_rows t) v → placed_lent r ≡ (v, row_at (rows t) v)
  read_row v r found =
      let all : slice_get (placed_rows t) v ≡ Some (placed_lent r) = sym found in
      let within : v < length (placed_rows t) = slice_get_within (placed_rows t) v (placed_lent r) all in
      let many = length-enumerate_from 0 (rows t) in
      let from_none : 0 + v ≡ v = omega arith in
      sym (get_or_from_slice_get (placed_rows t) v (placed_lent r) (0, no_row) all)
      ∙ get_or-enumerate_from 0 (rows t) v (0, no_row) (omega (arith, within, many))
      ∙ ap (λ n. (n, row_at (rows t) v)) from_none

  pub read_one : (v : ℕ) → v < length (placed_rows t) → rows_between t v v ≡ (v, row_at (rows t) v) ∷ []
  read_one v h =
      let n : v + 1 - v ≡ 1 = omega arith in
      let many = length-enumerate_from 0 (rows t) in
      let from_none : 0 + v ≡ v = omega arith in
      sym (read_between v v) ∙ ap (λ m. take m (drop v (placed_rows t))) n
      ∙ ap (take 1) (drop-cons (placed_rows t) v (0, no_row) h)
      ∙ ap (λ (r : ℕ × Row). r ∷ []) (get_or-enumerate_from 0 (rows t) v (0, no_row) (omega (arith, h, many)))
      ∙ ap (λ n. (n, row_at (rows t) v) ∷ []) from_none

  pub node_within : (v : ℕ) → v < length (placed_rows t) → v < count (nodes t)
  node_within v h = omega (arith, h, length-enumerate_from 0 (rows t), length-labels (measured 0 (nodes t)), count-measured 0 (nodes t))

  pub read_unplaced : unplaced (placed_rows t) ≡ rows t
  read_unplaced = unplaced-numbered 0 (rows t)
