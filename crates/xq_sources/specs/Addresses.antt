-- Addresses in the order of their bytes, each once.
use Rattle.std.specs.Prelude.{◌≡◌, ◌<◌, ◌≤◌, ⊤, ℕ, List, [], ◌∷◌, length, slice_get, Some}
use Rattle.std.specs.List.{AllByRecursion}
use Rattle.std.specs.Ordering.{nat_cmp}
use Rattle.std.specs.Cmp.Lexicographic.{slice_cmp}
use Rattle.std.specs.declared.cmp.Ordering.TheVariants.{Less}

-- the bytes of one come before those of the other
abbrev pub IsBefore : List ℕ → List ℕ → Type 0
IsBefore a b = slice_cmp nat_cmp a b ≡ Less

-- each comes before all that follow it
abbrev pub Rise : List (List ℕ) → Type 0
Rise [] = ⊤
Rise (a ∷ addresses) = AllByRecursion (IsBefore a) addresses × Rise addresses

-- an address that isn't among them would stand at this place: those in front come before it, and
-- it comes before the others
pub record IsGap (addresses : List (List ℕ)) (place : ℕ) (address : List ℕ) : Type 0 where
  pub within : place ≤ length addresses
  pub front : (i : ℕ) (a : List ℕ) → i < place → slice_get addresses i ≡ Some a → IsBefore a address
  pub rest : (i : ℕ) (a : List ℕ) → place ≤ i → slice_get addresses i ≡ Some a → IsBefore address a
