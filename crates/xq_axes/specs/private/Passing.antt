-- Axes to what is before, after and above the context nodes, judged row by row.
use Rattle.std.specs.Prelude.{ℕ, ◌<◌, ◌≤◌, ◌≡◌, List, Bool, true, false, ◌&&◌, nat_lt, length, slice_index, slice_get}
use Rattle.xq_trees.specs.declared.Axis.{Axis}
use Rattle.xq_trees.specs.declared.Axis.TheVariants as axis
use Rattle.xq_trees.specs.Tree.{Tree, IsTree, nodes}
use Rattle.xq_trees.specs.Rows.{row_at, rows}
use Rattle.xq_trees.specs.RegionTests.{inside, plain_row}
use Rattle.xq_meaning.specs.declared.node_tests.Test.{Test}
use Rattle.xq_trees.specs.Forest.{count}
use Rattle.xq_axes.specs.Reads.{Span}
use Rattle.xq_axes.specs.private.Hits.{is_among, is_hit, row_passes, below_where, IsRising}
use Rattle.xq_axes.specs.private.Downward.{end_of, is_within}

-- the greatest of the places
pub record IsLast (vs : List ℕ) (last : ℕ) : Type 0 where
  pub index : ℕ
  pub within : index < length vs
  pub is : slice_index vs index ≡ last
  pub greatest : (i : ℕ) → i < length vs → slice_index vs i ≤ last

-- the place of the last row that is v or below it
pub record IsEnd (t : Tree) (v last : ℕ) : Type 0 where
  pub is_tree : IsTree t
  pub is : last ≡ end_of t v
  pub within : last < count (nodes t)

-- the least place at which a context's rows end
pub record IsLeastEnd (t : Tree) (vs : List ℕ) (least : ℕ) : Type 0 where
  pub is_tree : IsTree t
  pub is_there : least < count (nodes t)
  pub index : ℕ
  pub within : index < length vs
  pub is : end_of t (slice_index vs index) ≡ least
  pub least_of : (i : ℕ) → i < length vs → least ≤ end_of t (slice_index vs i)

abbrev pub axis_above : Bool → Axis
axis_above true = axis.AncestorOrSelf
axis_above false = axis.Ancestor

abbrev pub is_next_within : List ℕ → ℕ → ℕ → Bool
is_next_within vs index last = is_within (slice_get vs index) last

-- the places of the nodes above v, from the root down
abbrev pub places_above : Tree → ℕ → List ℕ
places_above t v = below_where (λ p. inside (rows t) p v) v

-- these places are those on the axis from the contexts, and the span ends within the tree
pub record AreHits (a : Axis) (t : Tree) (vs : List ℕ) (s : Span) (hits : List ℕ) : Type 0 where
  pub within : s.high < count (nodes t)
  pub rising : IsRising hits
  pub are : (p : ℕ) → is_among hits p ≡ is_hit a t vs p

-- p passes the test, is no attribute, and ends before v
abbrev pub is_before_node : Test → Tree → ℕ → ℕ → Bool
is_before_node test t v p =
    (nat_lt (end_of t p) v && plain_row (rows t) p) && row_passes test (row_at (rows t) p)
