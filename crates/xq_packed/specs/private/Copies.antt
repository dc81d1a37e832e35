-- Shapes that were copied after others.
use Rattle.std.specs.Prelude.{ℕ, ◌≡◌, ◌+◌, ◌-◌, ◌<◌, ◌≤◌, List, [], ◌∷◌, ◌++◌, length, Option, Some, None}
use Rattle.xq_packed.specs.declared.shapes.Shape.{Shape}
use Rattle.xq_packed.specs.Packed.{IsNumbered, with_name}
use Rattle.xq_packed.specs.private.Shapes.{value_end, name_at}

-- a shape whose value ends as far after the base as another's after the low place, whose level is
-- moved, and whose name has this number
pub record IsMovedTo (low base from to : ℕ) (s : Shape) (number : ℕ) (t : Shape) : Type 0 where
  pub size : t.size ≡ s.size
  pub level : t.level ≡ s.level - from + to
  pub kind : t.kind ≡ s.kind
  pub ends : value_end t + low ≡ value_end s + base
  pub name : t.name ≡ number

-- the shape of a row that is moved so, whose name has a number among the names
abbrev pub IsMoved : List (List ℕ) → List (List ℕ) → ℕ → ℕ → ℕ → ℕ → Shape → Shape → Type 0
IsMoved others names low base from to s t =
    IsMovedTo low base from to s t.name t × IsNumbered names t.name (name_at others s.name)

-- each of the second is that of a copied row of the first
abbrev pub AreMoved : List (List ℕ) → List (List ℕ) → ℕ → ℕ → ℕ → ℕ → List Shape → List Shape
    → Type 0
AreMoved others names low base from to [] [] = Unit {0}
AreMoved others names low base from to [] (t ∷ ts) = ⊥
AreMoved others names low base from to (s ∷ ss) [] = ⊥
AreMoved others names low base from to (s ∷ ss) (t ∷ ts) =
    IsMoved others names low base from to s t × AreMoved others names low base from to ss ts

-- some shapes, and after them those of copied rows
abbrev pub AreMovedAfter : List (List ℕ) → List (List ℕ) → ℕ → ℕ → ℕ → ℕ → List Shape
    → List Shape → List Shape → Type 0
AreMovedAfter others names low base from to old run new =
    (ts : List Shape) × (new ≡ old ++ ts) × AreMoved others names low base from to run ts

-- each of the second is the shape of a row of the first that is moved so, with the number of its
-- name
abbrev pub AreShifted : ℕ → ℕ → ℕ → ℕ → List Shape → List Shape → Type 0
AreShifted low base from to [] [] = Unit {0}
AreShifted low base from to [] (t ∷ ts) = ⊥
AreShifted low base from to (s ∷ ss) [] = ⊥
AreShifted low base from to (s ∷ ss) (t ∷ ts) =
    IsMovedTo low base from to s s.name t × AreShifted low base from to ss ts

-- some shapes, and after them those of rows that are moved so
abbrev pub AreShiftedAfter : ℕ → ℕ → ℕ → ℕ → List Shape → List Shape → List Shape → Type 0
AreShiftedAfter low base from to old run new =
    (ts : List Shape) × (new ≡ old ++ ts) × AreShifted low base from to run ts

-- the names with those of shapes, each where it is not among those before it
abbrev pub with_named : List (List ℕ) → List (List ℕ) → List Shape → List (List ℕ)
with_named others names [] = names
with_named others names (s ∷ shapes) =
    with_named others (with_name names (name_at others s.name)) shapes

-- a number of a name among others, with that among these names
abbrev pub IsKnown : List (List ℕ) → List (List ℕ) → Option (ℕ × ℕ) → Type 0
IsKnown others names None = Unit {0}
IsKnown others names (Some pair) = IsNumbered names pair.1 (name_at others pair.0)

-- a shape whose value ends after a place, and whose name is among these
abbrev pub IsReadable : List (List ℕ) → ℕ → Shape → Type 0
IsReadable others low s = (low ≤ value_end s) × (s.name < length others)
