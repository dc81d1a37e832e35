-- Contexts that wait for their siblings, or for their parent, by level.
use Rattle.std.proofs.Common.{zero, suc}
use Rattle.std.specs.Prelude.{ℕ, ◌+◌, ◌-◌, ◌*◌, ◌<◌, ◌≤◌, ◌≡◌, List, [], ◌∷◌, ◌++◌, reverse, length, min, max, Bool, true, false, not, ◌&&◌, ◌==◌, if◌then◌else◌, nat_lt, slice_index, Option, Some, None}
use Rattle.xq_trees.specs.Forest.{count}
use Rattle.xq_trees.specs.Tree.{Tree, nodes, is_attribute}
use Rattle.xq_trees.specs.Rows.{Row, row_at, rows}
use Rattle.xq_trees.specs.Regions.{IsInside}
use Rattle.xq_trees.specs.RegionTests.{plain_row}
use Rattle.xq_trees.specs.declared.Axis.{Axis}
use Rattle.xq_trees.specs.declared.Axis.TheVariants as axis
use Rattle.xq_meaning.specs.declared.node_tests.Test.{Test}
use Rattle.xq_axes.specs.private.Hits.{is_among, is_wanted, row_passes, below_where, IsRising, IsReached}
use Rattle.xq_axes.specs.private.Downward.{level_of, is_within}
use Rattle.xq_axes.specs.declared.backward.Backward.{Backward}
use Rattle.xq_axes.specs.declared.backward.Backward.TheVariants.{Parent, PrecedingSibling}
use Rattle.xq_axes.specs.declared.backward.Seen.{Seen}

-- the row that holds v, one level up
pub record IsParent (t : Tree) (u v : ℕ) : Type 0 where
  pub inside : IsInside (rows t) u v
  pub level : level_of t v ≡ suc (level_of t u)

-- there is a level, and it is deeper than this one
abbrev pub is_deeper : Option ℕ → ℕ → Bool
is_deeper None level = false
is_deeper (Some last) level = nat_lt level last

-- there is a level, and it is this one
abbrev pub is_level : Option ℕ → ℕ → Bool
is_level None level = false
is_level (Some last) level = last == level

-- few rows where no level is awaited, else twice as many as before, up to a bound
abbrev pub wider : List ℕ → ℕ → ℕ
wider [] width = 16
wider (level ∷ levels) width = min (min (width * 2) 4294967295) 4096

-- a context of this level that is no attribute has siblings
abbrev pub has_siblings : ℕ → Bool → Bool
has_siblings level plain = nat_lt 0 level && plain

-- # Back, to parents and siblings

abbrev pub axis_back : Backward → Axis
axis_back Parent = axis.Parent
axis_back PrecedingSibling = axis.PrecedingSibling

-- whether a context of this level waits for rows
abbrev pub waits : Backward → ℕ → Bool → Bool
waits Parent level plain = nat_lt 0 level
waits PrecedingSibling level plain = has_siblings level plain

-- whether a row is on the axis: by whether rows one level deeper, and rows of its level, are
-- awaited, and it is no attribute
abbrev pub is_awaited : Backward → Bool → Bool → Bool → Bool
is_awaited Parent deeper beside plain = deeper
is_awaited PrecedingSibling deeper beside plain = beside && plain

-- whether rows one level deeper are awaited, where the axis asks
abbrev pub is_deeper_awaited : Backward → Bool → Bool
is_deeper_awaited Parent deeper = deeper
is_deeper_awaited PrecedingSibling deeper = false

abbrev pub waits_at : Backward → Tree → ℕ → Bool
waits_at d t v = waits d (level_of t v) (plain_row (rows t) v)

-- from n on there is a context of this level that waits, and no row between is of a lesser level
pub record WaitsBack (d : Backward) (t : Tree) (vs : List ℕ) (n level : ℕ) : Type 0 where
  pub index : ℕ
  pub within : index < length vs
  pub from : n ≤ slice_index vs index
  pub is_there : slice_index vs index < count (nodes t)
  pub waits : waits_at d t (slice_index vs index) ≡ true
  pub is_level : level_of t (slice_index vs index) ≡ level
  pub clear : (q : ℕ) → n ≤ q → q < slice_index vs index → level ≤ level_of t q

-- the levels are those at which contexts wait
pub record AreBack (d : Backward) (t : Tree) (vs : List ℕ) (n : ℕ) (levels : List ℕ) : Type 0 where
  pub sound : (m : ℕ) → is_among levels m ≡ true → WaitsBack d t vs n m
  pub complete : (m : ℕ) → WaitsBack d t vs n m → is_among levels m ≡ true

-- the rows from n on were looked at
pub record IsLooked (d : Backward) (test : Test) (t : Tree) (vs : List ℕ) (n left : ℕ)
    (levels found : List ℕ) : Type 0 where
  pub within : n ≤ count (nodes t)
  pub rising : IsRising vs
  pub reached : IsReached vs left n
  pub there : (i : ℕ) → i < length vs → slice_index vs i < count (nodes t)
  pub levels_are : AreBack d t vs n levels
  pub is_found : below_where (is_wanted (axis_back d) test t vs) (count (nodes t))
      ≡ below_where (is_wanted (axis_back d) test t vs) n ++ reverse found

-- what is kept of a row
abbrev pub seen_of : Test → Row → Seen
seen_of test r = record {
  level = r.level;
  is_plain = not
      (is_attribute r.label.kind);
  passes = row_passes test r;
}

-- the rows from n on
abbrev pub AreSeen : Test → Tree → ℕ → List Seen → Type 0
AreSeen _ t n [] = Unit {0}
AreSeen test t n (s ∷ ss) = (s ≡ seen_of test (row_at (rows t) n)) × AreSeen test t (suc n) ss

-- the last of the places before the index
abbrev pub latest : List ℕ → ℕ → Option ℕ
latest vs zero = None
latest vs (suc i) = Some (slice_index vs i)

-- rows before it are left to look at
abbrev pub bound : Option ℕ → ℕ
bound None = 0
bound (Some n) = suc n

-- # Onward, to siblings

-- before n there is a context of this level with siblings, and no row between is of a lesser level
pub record WaitsOn (t : Tree) (vs : List ℕ) (n level : ℕ) : Type 0 where
  pub index : ℕ
  pub within : index < length vs
  pub to : slice_index vs index < n
  pub waits : has_siblings (level_of t (slice_index vs index))
      (plain_row (rows t) (slice_index vs index)) ≡ true
  pub is_level : level_of t (slice_index vs index) ≡ level
  pub clear : (q : ℕ) → slice_index vs index < q → q < n → level ≤ level_of t q

-- the rows before n were met, and the levels are those at which contexts wait
pub record IsOn (t : Tree) (vs : List ℕ) (n met : ℕ) (levels : List ℕ) : Type 0 where
  pub rising : IsRising vs
  pub reached : IsReached vs met n
  pub sound : (m : ℕ) → is_among levels m ≡ true → WaitsOn t vs n m
  pub complete : (m : ℕ) → WaitsOn t vs n m → is_among levels m ≡ true

-- how many rows right after a row lie below it, up to the last place, where the next context does
-- not: by that context, and the place and size of the row
abbrev pub rows_below : Option ℕ → ℕ → ℕ → ℕ → ℕ
rows_below next pre size last = if is_within next (pre + size) then 0 else min size (last - pre)

-- the place that is read next: the next row, or the next context where no row is awaited, or that
-- after the last
abbrev pub place_or_end : Option ℕ → ℕ → ℕ
place_or_end None last = last + 1
place_or_end (Some v) last = v

abbrev pub next_place : List ℕ → Option ℕ → ℕ → ℕ → ℕ
next_place [] v next last = max (place_or_end v last) next
next_place (level ∷ levels) v next last = next
