-- The test of rows, from the last to the first, without a list of what is open.
use Rattle.std.proofs.Common.{suc}
use Rattle.std.specs.Prelude.{ℕ, ◌+◌, ◌-◌, ◌≡◌, ◌≤◌, length, string_bytes, List, [], ◌∷◌, map, drop, Bool, true, ◌&&◌, nat_eq, nat_le, nat_lt}
use Rattle.std.specs.List.{IsDistinct}
use Rattle.std.specs.Str.{bytes_eq}
use Rattle.xq_trees.specs.Forest.{tops}
use Rattle.xq_trees.specs.Tree.{Label, IsText, may_stand, has_text, may_precede, attribute_names, is_legal, most_nodes}
use Rattle.xq_trees.specs.Rows.{Row, row_at, front, nest}
use Rattle.xq_trees.specs.declared.NodeRow.{NodeRow}

abbrev pub label_of : Row → Label
label_of r = r.label

abbrev pub name_of : NodeRow → List ℕ
name_of r = string_bytes r.name

-- what rows are ordered by to find equal names: the length of the name, and then the name
abbrev pub rank_of : NodeRow → List ℕ
rank_of r = length (name_of r) ∷ name_of r

abbrev pub pre_of : NodeRow → ℕ
pre_of r = r.pre

-- a row may be the next child of the parent, where n rows are left below the parent and the labels
-- come after it
abbrev pub child_ok : Row → ℕ → Row → List Label → Bool
child_ok parent n r labels =
    nat_eq r.level (suc parent.level)
    && (may_stand parent.label.kind r.label.kind
    && (has_text r.label.kind r.label.value
    && (may_precede r.label.kind labels && nat_lt r.size n)))

-- these are all children of the parent
abbrev pub is_run : Row → ℕ → List Row → Bool
is_run parent n [] = nat_eq n 0
is_run parent n (r ∷ rs) = child_ok parent n r (map label_of rs)
    && is_run parent (n - suc r.size) rs

abbrev pub row_ok : Row → List Row → Bool
row_ok r below = is_legal r.label.kind r.label.name r.label.value
    && (nat_le r.level 100 && is_run r r.size below)

abbrev pub RowOk : Row → List Row → Type 0
RowOk r below = row_ok r below ≡ true

abbrev pub IsChecked : List Row → Type 0
IsChecked [] = Unit {0}
IsChecked (r ∷ rs) = RowOk r (tops (front r.size (nest rs))) × IsChecked rs

-- the attributes of each row have distinct names
abbrev pub NamesOk : Row → List Row → Type 0
NamesOk r below = IsDistinct bytes_eq (attribute_names (map label_of below))

abbrev pub AreNamed : List Row → Type 0
AreNamed [] = Unit {0}
AreNamed (r ∷ rs) = NamesOk r (tops (front r.size (nest rs))) × AreNamed rs

-- rows that pass the test, from the root's on
pub record Passes (rs : List Row) : Type 0 where
  pub checked : IsChecked rs
  pub root_level : (row_at rs 0).level ≡ 0
  pub root_size : suc (row_at rs 0).size ≡ length rs
  pub room : length rs ≤ most_nodes

-- the names and values of the rows are UTF-8
abbrev pub AreTexts : List Row → Type 0
AreTexts [] = Unit {0}
AreTexts (r ∷ rs) = IsText r.label × AreTexts rs

-- the rows at the top, from the row c to before the row `stop`
abbrev pub roots : List Row → ℕ → ℕ → List Row
roots rs c stop = tops (front (stop - c) (nest (drop c rs)))

-- the row c may be the next child of the parent, whose rows end before the row `stop`
abbrev pub may_be_child : Row → List Row → ℕ → ℕ → Bool
may_be_child parent rs c stop =
    child_ok parent (stop - c) (row_at rs c)
    (map label_of (roots rs (suc c + (row_at rs c).size) stop))

-- the rows after the row p are, as far as its size says, those of its children
abbrev pub are_children_after : List Row → ℕ → Bool
are_children_after rs p = is_run (row_at rs p) (row_at rs p).size
    (roots rs (suc p) (suc p + (row_at rs p).size))

-- the row at the place i is right, where those after it are
abbrev pub IsSoundAt : List Row → ℕ → Type 0
IsSoundAt rs i = RowOk (row_at rs i) (roots rs (suc i) (suc i + (row_at rs i).size))

-- the attributes of the row at the place i have distinct names
abbrev pub IsNamedAt : List Row → ℕ → Type 0
IsNamedAt rs i = NamesOk (row_at rs i) (tops (front (row_at rs i).size (nest (drop (suc i) rs))))
