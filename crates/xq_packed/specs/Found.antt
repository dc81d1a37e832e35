-- Places in the order of the values there.
use Rattle.std.specs.Prelude.{ℕ, ◌≡◌, List, ◌∷◌, filter, length, Bool}
use Rattle.std.specs.List.Sorted.{IsSortedBy}
use Rattle.std.specs.Ordering.{is_lt, nat_cmp}
use Rattle.std.specs.declared.cmp.Ordering.{Ordering}
use Rattle.std.specs.Cmp.Lexicographic.{slice_cmp}
use Rattle.xq_atoms.specs.Text.{Text, text_eq}
use Rattle.xq_trees.specs.Rows.{Row, row_at}
use Rattle.xq_packed.specs.Values.{valued}

-- by its length first
abbrev pub rank : Text → List ℕ
rank text = length text ∷ text

-- the value at a place
abbrev pub value_at : List Row → ℕ → Text
value_at rows place = (row_at rows place).label.value

-- the order of the value at a place and another
abbrev pub value_order : List Row → ℕ → Text → Ordering
value_order rows place value = slice_cmp nat_cmp (rank (value_at rows place)) (rank value)

-- the value at one place comes before that at the other
abbrev pub comes_before : List Row → ℕ → ℕ → Bool
comes_before rows p q = is_lt (slice_cmp nat_cmp (rank (value_at rows p)) (rank (value_at rows q)))

-- the value at a place is this one
abbrev pub has_value : List Row → Text → ℕ → Bool
has_value rows value place = text_eq value (value_at rows place)

-- places whose values do not fall; those with one value are the places of all attributes that have
-- the name and this value, in document order
pub record AreByValue (rows : List Row) (name : Text) (places : List ℕ) : Type 0 where
  pub rise : IsSortedBy (comes_before rows) places
  pub all : (value : Text) → filter (has_value rows value) places ≡ valued rows name value
