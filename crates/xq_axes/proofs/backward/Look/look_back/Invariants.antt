use Rattle.std.proofs.Common.{◌≡◌, ℕ, ◌+◌, ◌<◌, length}
use Rattle.xq_trees.specs.Forest.{count}
use Rattle.xq_trees.specs.Tree.{Tree, nodes}
use Rattle.xq_meaning.specs.declared.node_tests.Test.{Test}
use Rattle.xq_axes.specs.private.Waiting.{AreSeen, IsLooked}
use Rattle.xq_axes.proofs.Looking.{RestLooked}
use Rattle.xq_axes.proofs.backward.Look.look_back.Given as goal

-- the rows after these were looked at
abbrev pub invariant-loop-row : goal.invariant-loop-row
invariant-loop-row l =
    let old = l.initial.self in
    record {
      direction : l.self.direction ≡ old.direction;
      places : l.self.contexts.places.now ≡ old.contexts.places.now;
      looked :
          (test : Test) (t : Tree) (low : ℕ) → l.last < count (nodes t) → l.last + 1 ≡ low + length l.rows → AreSeen test t low l.rows
          → IsLooked old.direction test t old.contexts.places.now (l.last + 1) old.contexts.left old.levels old.found.items
          → RestLooked old.direction test t old.contexts.places.now low l.place l.rest l.self.contexts.left l.self.levels l.self.found.items;
    }

abbrev pub decreases-loop-row : goal.decreases-loop-row
decreases-loop-row l = length l.rest
