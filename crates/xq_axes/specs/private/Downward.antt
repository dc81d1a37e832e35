-- Axes to what is below the context nodes, judged row by row.
use Rattle.std.proofs.Common.{suc}
use Rattle.std.specs.Prelude.{ℕ, ◌+◌, ◌-◌, ◌<◌, ◌≤◌, ◌≡◌, ◌⊎◌, List, length, min, Bool, true, false, not, ◌&&◌, ◌||◌, if◌then◌else◌, Option, Some, None, nat_le, slice_index, slice_index_or}
use Rattle.xq_trees.specs.Forest.{count}
use Rattle.xq_trees.specs.Tree.{Tree, IsTree, nodes}
use Rattle.xq_trees.specs.Rows.{row_at, rows}
use Rattle.xq_trees.specs.Regions.{IsInside}
use Rattle.xq_trees.specs.RegionTests.{plain_row}
use Rattle.xq_trees.specs.declared.Axis.{Axis}
use Rattle.xq_trees.specs.declared.Axis.TheVariants as axis
use Rattle.xq_meaning.specs.declared.node_tests.Test.{Test}
use Rattle.xq_axes.specs.Reads.{Span}
use Rattle.xq_axes.specs.private.Hits.{is_among, is_wanted, below_where, IsRising, IsReached}
use Rattle.xq_axes.specs.declared.downward.Downward.{Downward}
use Rattle.xq_axes.specs.declared.downward.Downward.TheVariants.{Child, Attribute, Descendant, DescendantOrSelf}

abbrev pub axis_of : Downward → Axis
axis_of Child = axis.Child
axis_of Attribute = axis.Attributes
axis_of Descendant = axis.Descendant
axis_of DescendantOrSelf = axis.DescendantOrSelf

-- whether a row below a context is on the axis: by whether its parent is a context, it is one, and
-- it is no attribute
abbrev pub is_chosen : Downward → Bool → Bool → Bool → Bool
is_chosen Child child context plain = child && plain
is_chosen Attribute child context plain = child && not plain
is_chosen Descendant child context plain = plain
is_chosen DescendantOrSelf child context plain = context || plain

-- a context that stands in no other is on its own axis
abbrev pub is_own : Downward → Bool
is_own DescendantOrSelf = true
is_own direction = false

abbrev pub level_of : Tree → ℕ → ℕ
level_of t p = (row_at (rows t) p).level

abbrev pub end_of : Tree → ℕ → ℕ
end_of t p = p + (row_at (rows t) p).size

-- the span is that of the rows below a context that stands in no other
pub record IsCluster (t : Tree) (vs : List ℕ) (s : Span) (v : ℕ) : Type 0 where
  pub low : s.low ≡ suc v
  pub high : s.high ≡ end_of t v
  pub is_there : v < count (nodes t)
  pub is_top : (i : ℕ) → i < length vs → IsInside (rows t) (slice_index vs i) v → ⊥

-- whether the parent of a row is a context, as far as the axis asks: of an attribute by the row
-- that was open, of others by the mark one level up
abbrev pub is_child : Downward → Bool → Bool → Bool
is_child Attribute is_open below_mark = is_open
is_child direction is_open below_mark = below_mark

-- the last place before the next context, or the last one where that is less
abbrev pub stop : Option ℕ → ℕ → ℕ
stop None last = last
stop (Some v) last = min (v - 1) last

-- there is a place, and it is not after the end
abbrev pub is_within : Option ℕ → ℕ → Bool
is_within None last = false
is_within (Some v) last = nat_le v last

-- how many rows right after a row need no look: to children all below one that is no context and
-- holds none, to attributes those before the next context; by whether the row is a context, and no
-- attribute, the next context, its place and size, and the last place
abbrev pub rows_over : Downward → Bool → Bool → Option ℕ → ℕ → ℕ → ℕ → ℕ
rows_over Child false plain next pre size last = if is_within next (pre + size) then 0 else size
rows_over Attribute false true next pre size last = stop next last - pre
rows_over direction context plain next pre size last = 0

-- by level, whether the row that n is below there is that of a context
abbrev pub AreMarked : Tree → List ℕ → ℕ → ℕ → List Bool → Type 0
AreMarked t vs v n marks = (w : ℕ) → v ≤ w → IsInside (rows t) w n
    → slice_index_or marks (level_of t w) false ≡ is_among vs w

-- whether the last row before n that is no attribute is that of a context
abbrev pub IsOpen : Tree → List ℕ → ℕ → ℕ → Bool → Type 0
IsOpen t vs v n is_open = (w : ℕ) → v ≤ w → w < n → plain_row (rows t) w ≡ true
    → ((q : ℕ) → w < q → q < n → plain_row (rows t) q ≡ false) → is_open ≡ is_among vs w

-- the contexts before n were met, unless the axis asks for none: all below a context is on the
-- descendant axis
abbrev pub IsMet : Downward → List ℕ → ℕ → ℕ → Type 0
IsMet Descendant vs met n = Unit {0}
IsMet direction vs met n = IsReached vs met n

-- what the axis asks for is known of the parent of row n
abbrev pub IsKnown : Downward → Tree → List ℕ → ℕ → ℕ → List Bool → Bool → Type 0
IsKnown Attribute t vs v n marks is_open = IsOpen t vs v n is_open
IsKnown Descendant t vs v n marks is_open = Unit {0}
IsKnown direction t vs v n marks is_open = AreMarked t vs v n marks

-- the rows below a context were judged to before n
pub record IsJudged (direction : Downward) (t : Tree) (vs : List ℕ) (s : Span) (n met : ℕ)
    (marks : List Bool) (is_open : Bool) : Type 0 where
  pub is_tree : IsTree t
  pub rising : IsRising vs
  pub reached : IsMet direction vs met n
  pub top : ℕ
  pub cluster : IsCluster t vs s top
  pub is_context : is_among vs top ≡ true
  pub from : top < n
  pub levels : length marks ≡ 101
  pub is_known : IsKnown direction t vs top n marks is_open

-- all was found to before n, and no context before n holds a row from there on
pub record IsSearched (direction : Downward) (test : Test) (t : Tree) (vs : List ℕ) (n met : ℕ)
    (marks : ℕ) (found : List ℕ) : Type 0 where
  pub rising : IsRising vs
  pub reached : IsMet direction vs met n
  pub closed : (i : ℕ) → i < length vs → slice_index vs i < n → end_of t (slice_index vs i) < n
  pub within : n ≤ count (nodes t)
  pub levels : marks ≡ 101
  pub is_found : found ≡ below_where (is_wanted (axis_of direction) test t vs) n

-- the place is a context, and no other is between n and it
pub record IsNext (vs : List ℕ) (n place : ℕ) : Type 0 where
  pub is_context : is_among vs place ≡ true
  pub none_before : (i : ℕ) → i < length vs → n ≤ slice_index vs i → place ≤ slice_index vs i

-- nothing was read, or of a node that is there the rows below it at most, each once
abbrev pub ReadsBelow : Tree → ℕ → ℕ → ℕ → Type 0
ReadsBelow t v old new = (new ≤ old)
    ⊎ ((v < count (nodes t)) × (new ≤ old + (row_at (rows t) v).size))
