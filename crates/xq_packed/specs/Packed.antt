-- Rows whose names are numbered.
use Rattle.std.specs.Prelude.{ℕ, ◌≡◌, ◌↔◌, ◌≢◌, ◌<◌, ◌≤◌, length, List, [], ◌∷◌, ◌++◌, Some, bytes_eq, slice_get, if◌then◌else◌, refl}
use Rattle.std.specs.List.{list_any}
use Rattle.std.specs.Coded.{Coded, code_by, coded×, coded_ℕ, coded_list}
use Rattle.xq_trees.specs.Rows.{Row, row_at}
use Rattle.xq_trees.specs.Codes.{row_code}
use Rattle.xq_trees.specs.declared.Kind.{Kind}

-- rows, and the distinct names among which theirs are, in the order of their numbers
pub record Packed : Type 0 where
  pub rows : List Row
  pub names : List (List ℕ)

-- told by both
abbrev pub packed_code : Coded Packed
packed_code =
    code_by (List Row × List (List ℕ))
    (coded× (coded_list row_code) (coded_list (coded_list coded_ℕ)))
    (λ p. (p.rows, p.names)) (λ p. record { rows = p.0; names = p.1 }) (λ _. refl)

-- a row of these
pub record NamedRow : Type 0 where
  pub row : Row
  pub names : List (List ℕ)

-- told by both
abbrev pub named_code : Coded NamedRow
named_code =
    code_by (Row × List (List ℕ)) (coded× row_code (coded_list (coded_list coded_ℕ)))
    (λ p. (p.row, p.names)) (λ p. record { row = p.0; names = p.1 }) (λ _. refl)

-- a row of its parts
abbrev pub row : ℕ → ℕ → Kind → List ℕ → List ℕ → Row
row size level kind name value =
    record {
      size = size;
      level = level;
      label = record { kind = kind; name = name; value = value };
    }

-- the name has this number
abbrev pub IsNumbered : List (List ℕ) → ℕ → List ℕ → Type 0
IsNumbered names number name = slice_get names number ≡ Some name

-- the name has this number and no other, which no other name has
pub record IsNumberOf (names : List (List ℕ)) (number : ℕ) (name : List ℕ) : Type 0 where
  pub numbered : IsNumbered names number name
  pub only : (n : ℕ) (other : List ℕ) → IsNumbered names n other → (n ≡ number) ↔ (other ≡ name)

-- the names with another, where it is not among them
abbrev pub with_name : List (List ℕ) → List ℕ → List (List ℕ)
with_name names name = if list_any (bytes_eq name) names then names else names ++ name ∷ []

-- no row has the name
abbrev pub NoneNamed : List Row → List ℕ → Type 0
NoneNamed rows name = (at : ℕ) → at < length rows → (row_at rows at).label.name ≢ name

-- the names with those of rows, each where it is not among those before it
abbrev pub with_names : List (List ℕ) → List Row → List (List ℕ)
with_names names [] = names
with_names names (r ∷ rows) = with_names (with_name names r.label.name) rows

-- the rows with more after them, whose names are numbered after those of the others
pub record IsExtended (old new : Packed) (more : List Row) : Type 0 where
  pub rows : new.rows ≡ old.rows ++ more
  pub names : new.names ≡ with_names old.names more

-- the rows from one place to before another are the same as others there
abbrev pub AreSame : List Row → List Row → ℕ → ℕ → Type 0
AreSame rows others low high = (k : ℕ) → low ≤ k → k < high → row_at rows k ≡ row_at others k
