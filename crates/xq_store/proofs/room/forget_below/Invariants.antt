use Rattle.std.proofs.Common.{◌≡◌, List}
use Rattle.xq_trees.specs.Tree.{Tree}
use Rattle.xq_store.specs.private.Shelves.{AreFronts}
use Rattle.xq_store.proofs.room.forget_below.Given as goal

abbrev pub invariant-loop-other : goal.invariant-loop-other
invariant-loop-other l = record {
  addresses : l.shelf.addresses ≡ l.fn.shelf.addresses;
  stays : l.shelf.stays ≡ l.fn.shelf.stays;
  fronts : (trees : List Tree) → AreFronts trees l.fn.shelf.fronts.items → AreFronts trees l.shelf.fronts.items;
}
