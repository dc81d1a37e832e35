use Rattle.std.proofs.Common.{◌≡◌, ℕ, List, map, string_bytes}
use Rattle.std.specs.List.{AllByRecursion}
use Rattle.xq_trees.specs.Tree.{Tree}
use Rattle.xq_tables.specs.Found.{IsFoundAt, found_address}
use Rattle.xq_store.specs.private.Shelves.{AreFronts}
use Rattle.xq_store.proofs.shelves.cached.Given as goal

abbrev pub invariant-loop-document : goal.invariant-loop-document
invariant-loop-document l = record {
  listed : map string_bytes l.addresses.items ≡ map found_address l.yielded;
  fronts : (f : List ℕ → Tree) → AllByRecursion (λ d. IsFoundAt (f (found_address d)) d) l.yielded → AreFronts (map f (map found_address l.yielded)) l.fronts.items;
}
