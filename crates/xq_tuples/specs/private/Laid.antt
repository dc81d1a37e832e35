-- Tuples that lie in one list, one after another, and some of them kept in place.
use Rattle.std.specs.Prelude.{◌≡◌, ℕ, ◌*◌, ◌<◌, ◌≤◌, ◌^◌, List, Bool, length, take, drop, replicate, if◌then◌else◌}
use Rattle.std.specs.List.{flat_map}
use Rattle.xq_trees.specs.Tuples.{satisfying}

-- so many tuples of so many slots are so many slots in all. There are few enough tuples for their
-- numbers, and where there is none they have no slot
pub record AreLaid (count width all : ℕ) : Type 0 where
  pub long : all ≡ count * width
  pub narrow : width ≤ all
  pub few : count < 2 ^ 63

-- tuples one after another
abbrev pub laid : {A : Type 0} → List (List A) → List A
laid tuples = flat_map (λ tuple. tuple) tuples

-- how many slots a `for` binds
abbrev pub slots_bound : Bool → ℕ
slots_bound at = if at then 2 else 1

-- for each slot the test of its tuple
abbrev pub spread : ℕ → List Bool → List Bool
spread width tests = flat_map (λ test. replicate width test) tests

-- ys began as xs. What is kept of the first i of xs stands in the first k places of ys, and from
-- i on ys is as it was
pub record KeepsInPlace {X : Type 0} (xs : List X) (tests : List Bool) (ys : List X)
    (k i : ℕ) : Type 0 where
  pub front : take k ys ≡ satisfying (take i xs) (take i tests)
  pub rest : drop i ys ≡ drop i xs
  pub behind : k ≤ i
  pub long : length ys ≡ length xs
