-- The places that a step gives, by rows.
use Rattle.std.proofs.Common.{zero, suc}
use Rattle.std.specs.Prelude.{ℕ, ◌<◌, ◌≤◌, ◌≡◌, List, [], ◌∷◌, ◌++◌, length, Bool, false, ◌&&◌, ◌==◌, if◌then◌else◌, slice_index}
use Rattle.std.specs.List.{list_any}
use Rattle.xq_trees.specs.Tree.{Tree}
use Rattle.xq_trees.specs.Rows.{Row, row_at, rows}
use Rattle.xq_trees.specs.RegionTests.{in_region}
use Rattle.xq_trees.specs.declared.Axis.{Axis}
use Rattle.xq_meaning.specs.declared.node_tests.Test.{Test}
use Rattle.xq_meaning.specs.Steps.{passes}

-- the place p is on the axis from one of the nodes
abbrev pub is_hit : Axis → Tree → List ℕ → ℕ → Bool
is_hit axis t vs p = list_any (λ v. in_region axis (rows t) v p) vs

abbrev pub row_passes : Test → Row → Bool
row_passes test r = passes test r.label.kind r.label.name

-- and passes the test
abbrev pub is_wanted : Axis → Test → Tree → List ℕ → ℕ → Bool
is_wanted axis test t vs p = is_hit axis t vs p && row_passes test (row_at (rows t) p)

-- the numbers below n that pass a test, in order
abbrev pub below_where : (ℕ → Bool) → ℕ → List ℕ
below_where f zero = []
below_where f (suc n) = below_where f n ++ (if f n then n ∷ [] else [])

-- none of the numbers from low to before high passes the test
abbrev pub AreUnhit : (ℕ → Bool) → ℕ → ℕ → Type 0
AreUnhit f low high = (n : ℕ) → low ≤ n → n < high → f n ≡ false

-- a number is among these
abbrev pub is_among : List ℕ → ℕ → Bool
is_among vs n = list_any (λ v. v == n) vs

-- each number is greater than the one before
abbrev pub IsRising : List ℕ → Type 0
IsRising vs = (i j : ℕ) → i < j → j < length vs → slice_index vs i < slice_index vs j

-- those before this index are less than n, the others are not
pub record IsReached (vs : List ℕ) (index n : ℕ) : Type 0 where
  pub within : index ≤ length vs
  pub before : (i : ℕ) → i < index → slice_index vs i < n
  pub others : (i : ℕ) → index ≤ i → i < length vs → n ≤ slice_index vs i
