-- What rows are kept as: shapes, one text of all values, and the names.
use Rattle.std.proofs.Common.{zero, suc}
use Rattle.std.specs.Prelude.{ℕ, ◌≡◌, ◌+◌, ◌-◌, ◌*◌, ◌^◌, ◌<◌, ◌≤◌, List, [], ◌∷◌, take, drop, length, slice_index_or}
use Rattle.std.specs.Str.{IsUtf8}
use Rattle.xq_trees.specs.Rows.{Row}
use Rattle.xq_packed.specs.Packed.{row, IsNumbered}
use Rattle.xq_packed.specs.declared.shapes.Shape.{Shape}

-- where the value ends
abbrev pub value_end : Shape → ℕ
value_end s = s.end_high * 2 ^ 32 + s.end_low

-- where the last value ends, after others that end at a place
abbrev pub last_end : ℕ → List Shape → ℕ
last_end start [] = start
last_end start (s ∷ shapes) = last_end (value_end s) shapes

-- where the value at a place begins
abbrev pub value_start : ℕ → List Shape → ℕ → ℕ
value_start start shapes zero = start
value_start start [] (suc n) = start
value_start start (s ∷ shapes) (suc n) = value_start (value_end s) shapes n

-- the text between two places
abbrev pub text_between : List ℕ → ℕ → ℕ → List ℕ
text_between text start end = take (end - start) (drop start text)

-- the name with a number
abbrev pub name_at : List (List ℕ) → ℕ → List ℕ
name_at names number = slice_index_or names number []

-- the row that a shape stands for, whose value begins at a place
abbrev pub row_of_shape : List ℕ → List (List ℕ) → ℕ → Shape → Row
row_of_shape text names start s =
    row s.size s.level s.kind (name_at names s.name) (text_between text start (value_end s))

-- the rows that the shapes stand for
abbrev pub rows_of_shapes : List ℕ → List (List ℕ) → ℕ → List Shape → List Row
rows_of_shapes text names start [] = []
rows_of_shapes text names start (s ∷ shapes) =
    row_of_shape text names start s ∷ rows_of_shapes text names (value_end s) shapes

-- a shape whose value begins at a place stands for a row: the text may be cut where the value ends
pub record IsShape (text : List ℕ) (names : List (List ℕ)) (start : ℕ) (s : Shape) : Type 0 where
  pub rises : start ≤ value_end s
  pub within : value_end s ≤ length text
  pub cut : IsUtf8 (take (value_end s) text)
  pub named : s.name < length names

-- each shape stands for a row
abbrev pub AreShapes : List ℕ → List (List ℕ) → ℕ → List Shape → Type 0
AreShapes text names start [] = Unit {0}
AreShapes text names start (s ∷ shapes) =
    IsShape text names start s × AreShapes text names (value_end s) shapes

-- what is kept of rows: the text ends with the last value, and places have four bytes
pub record IsKept (text : List ℕ) (names : List (List ℕ)) (kept : List Shape) : Type 0 where
  pub shapes : AreShapes text names 0 kept
  pub end : last_end 0 kept ≡ length text
  pub room : length kept < 2 ^ 32

-- the shape is that of a row whose name is among these
pub record Describes (names : List (List ℕ)) (s : Shape) (r : Row) : Type 0 where
  pub size : s.size ≡ r.size
  pub level : s.level ≡ r.level
  pub kind : s.kind ≡ r.label.kind
  pub name : IsNumbered names s.name r.label.name

-- the shape one level further down
abbrev pub sunk : Shape → Shape
sunk s =
    record {
      size = s.size;
      name = s.name;
      end_low = s.end_low;
      end_high = s.end_high;
      level = s.level + 1;
      kind = s.kind;
    }

-- the number of its name
abbrev pub number_of : Shape → ℕ
number_of s = s.name
