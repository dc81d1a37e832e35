use Rattle.std.proofs.Common.{◌≡◌, ℕ, List, length}
use Rattle.xq_trees.specs.Rows.{Row}
use Rattle.xq_sources.specs.Lent.{unplaced}
use Rattle.xq_sources.specs.Parents.{AreParents, IsParentRow}
use Rattle.xq_sources.proofs.guides.add_parents.Given as goal

-- what is kept so far is right among rows among which the parents of these are the same
abbrev pub invariant-loop-place : goal.invariant-loop-place
invariant-loop-place l = record {
  many : length l.parents.items ≡ l.place;
  right : (rs : List Row) → ((u v : ℕ) → IsParentRow (unplaced l.rows) u v → IsParentRow rs u v) → AreParents rs l.fn.parents.items → AreParents rs l.parents.items;
}
