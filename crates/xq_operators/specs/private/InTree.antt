-- Items that are nodes of one tree, in document order.
use Rattle.std.specs.Prelude.{ℕ, ◌≡◌, ◌<◌, List, length, map}
use Rattle.xq_axes.specs.Many.{spot}
use Rattle.xq_trees.specs.Items.{ItemView}
use Rattle.xq_trees.specs.Rising.{AreRising}
use Rattle.xq_operators.specs.Runs.{views_of}

-- the items are the nodes of the tree at these places; there are some places, and they rise
pub record AreInTree (tree : ℕ) (places : List ℕ) (views : List ItemView) : Type 0 where
  pub are : views ≡ views_of tree places
  pub rising : AreRising (map (spot tree) places)
  pub some : 0 < length places
