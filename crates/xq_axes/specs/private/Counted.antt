-- How many attributes nodes have, as a source tells it at once.
use Rattle.std.specs.Prelude.{ℕ, ◌<◌, ◌≤◌, ◌≡◌, Bool, true, false, None, List, length, slice_index, slice_index_or}
use Rattle.xq_trees.specs.Forest.{count}
use Rattle.xq_trees.specs.Tree.{Tree, IsTree, nodes}
use Rattle.xq_trees.specs.Rows.{rows}
use Rattle.xq_trees.specs.RegionTests.{plain_row}
use Rattle.xq_trees.specs.declared.Axis.TheVariants as axis
use Rattle.xq_sources.specs.AttributeRows.{AreAttributeRows}
use Rattle.xq_meaning.specs.declared.node_tests.Test.{Test}
use Rattle.xq_meaning.specs.declared.node_tests.Test.TheVariants as test
use Rattle.xq_axes.specs.declared.attributes.Counted.{Counted}
use Rattle.xq_axes.specs.private.Hits.{is_hit}

-- the first places, one after another, each with the number of its node's attributes
pub record AreCounted (t : Tree) (vs : List ℕ) (counted : List Counted) : Type 0 where
  pub is_tree : 0 < length counted → IsTree t
  pub place : (i : ℕ) (d : Counted) → i < length counted
      → (slice_index_or counted i d).place ≡ slice_index vs i
  pub number : (i : ℕ) (d : Counted) → i < length counted
      → AreAttributeRows (rows t) (slice_index_or counted i d).place
      (slice_index_or counted i d).number

-- each number from low to high passes the test
abbrev pub AreAll : (ℕ → Bool) → ℕ → ℕ → Type 0
AreAll f low high = (n : ℕ) → low ≤ n → n ≤ high → f n ≡ true

-- the places from low to high are those of attributes of the nodes
pub record AreHits (t : Tree) (vs : List ℕ) (low high : ℕ) : Type 0 where
  pub there : low ≤ high → high < count (nodes t)
  pub hits : AreAll (is_hit axis.Attributes t vs) low high
  pub none_plain : (p : ℕ) → low ≤ p → p ≤ high → plain_row (rows t) p ≡ false

-- each attribute passes the test, whatever its name
abbrev pub passes_each : Test → Bool
passes_each test.Any = true
passes_each (test.Attribute None) = true
passes_each other = false
