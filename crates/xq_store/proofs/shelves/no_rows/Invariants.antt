use Rattle.std.proofs.Common.{◌≡◌, length}
use Rattle.std.specs.List.{AllByRecursion}
use Rattle.xq_trees.specs.Tree.{Tree}
use Rattle.xq_store.specs.declared.shelves.CachedDocument.{CachedDocument}
use Rattle.xq_store.specs.private.Shelves.{IsFrontOf}
use Rattle.xq_store.proofs.shelves.no_rows.Given as goal

abbrev pub invariant-loop-made : goal.invariant-loop-made
invariant-loop-made l = record {
  count : length l.fronts.items ≡ l.made;
  none : AllByRecursion (λ (v : CachedDocument). (t : Tree) → IsFrontOf t v) l.fronts.items;
}
