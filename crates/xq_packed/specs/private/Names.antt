-- How names are kept.
use Rattle.std.specs.Prelude.{ℕ, ◌≡◌, ◌<◌, ◌≤◌, ◌^◌, ◌++◌, List, [], length, bytes_eq}
use Rattle.std.specs.List.{IsDistinct}
use Rattle.xq_packed.specs.declared.names.TheConstants.{FEW}

-- the first names and those after them: no name stands twice, their numbers have four bytes, and
-- there are none after the first while those are few
pub record AreNumbered (few many : List (List ℕ)) : Type 0 where
  pub distinct : IsDistinct bytes_eq (few ++ many)
  pub room : length (few ++ many) ≤ 2 ^ 32
  pub full : length few < FEW → many ≡ []
