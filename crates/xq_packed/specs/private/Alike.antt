-- Shapes of rows that are compared with others.
use Rattle.std.specs.Prelude.{ℕ, ◌≡◌, ◌-◌, ◌<◌, ◌≤◌, List, length, slice_index_or}
use Rattle.xq_trees.specs.declared.Kind.TheVariants.{Document}
use Rattle.xq_packed.specs.declared.shapes.Shape.{Shape}
use Rattle.xq_packed.specs.private.Shapes.{value_end, name_at}

-- what stands for a shape where there is none
abbrev pub no_shape : Shape
no_shape = record { size = 0; name = 0; end_low = 0; end_high = 0; level = 0; kind = Document }

-- two shapes are those of rows that are the same but for their values, which end as far after two
-- places
pub record IsAlike (names others : List (List ℕ)) (start other : ℕ) (s t : Shape) : Type 0 where
  pub size : s.size ≡ t.size
  pub level : s.level ≡ t.level
  pub kind : s.kind ≡ t.kind
  pub ends : value_end s - start ≡ value_end t - other
  pub name : name_at names s.name ≡ name_at others t.name

-- the shapes from one place to before another are so
abbrev pub AreAlike : List (List ℕ) → List (List ℕ) → ℕ → ℕ → List Shape → List Shape → ℕ → ℕ
    → Type 0
AreAlike names others start other mine its low high = (k : ℕ) → low ≤ k → k < high
    → IsAlike names others start other (slice_index_or mine k no_shape)
    (slice_index_or its k no_shape)

-- a shape's value ends after a place, and its name is among these
pub record IsWithin (names : List (List ℕ)) (start : ℕ) (s : Shape) : Type 0 where
  pub after : start ≤ value_end s
  pub named : s.name < length names

-- there are shapes from one place to before another, and they are so
pub record AreWithin (names : List (List ℕ)) (start : ℕ) (shapes : List Shape)
    (low high : ℕ) : Type 0 where
  pub there : high ≤ length shapes
  pub each : (k : ℕ) → low ≤ k → k < high → IsWithin names start (slice_index_or shapes k no_shape)
