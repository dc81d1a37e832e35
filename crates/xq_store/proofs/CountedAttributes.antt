-- The attributes of a node, by the rows that are kept of a tree.
use Rattle.std.proofs.Common.{◌≡◌, ◌+◌, ◌<◌, ◌≤◌, ℕ, Bool, true, false, not, List, length, take, sym, subst, arith, Option, Some, None, IfSome}
use Rattle.sqlite_trees.specs.declared.store.Store.{Ghosts}
use Rattle.xq_trees.specs.Tree.{Tree, IsTree, is_attribute}
use Rattle.xq_trees.specs.Rows.{Row, rows}
use Rattle.xq_trees.specs.RegionTests.{plain_row}
use Rattle.xq_sources.specs.Lent.{unplaced}
use Rattle.xq_sources.specs.AttributeRows.{AreAttributeRows}
use Rattle.xq_sources.specs.Sources.{tree_at as nth_tree}
use Rattle.xq_tables.specs.Documents.{IsClean}
use Rattle.xq_store.specs.Views.{Beginning, HeldDocuments, Viewed, trees_under}
use Rattle.xq_store.specs.declared.shelves.CachedDocument.{CachedDocument}
use Rattle.xq_store.specs.private.Shelves.{IsFront, IsShelved, front_at}
use Rattle.xq_store.proofs.FrontLaws.{as_many, front_is}
use Rattle.xq_store.proofs.Lends.{is_held_tree}
use Rattle.xq_store.proofs.Parents.{row-first, length-first, first-rows, some-front}

plain-first : (n i : ℕ) (xs : List Row) (b : Bool) → i < length (take n xs) → plain_row (take n xs) i ≡ b → plain_row xs i ≡ b
plain-first n i xs b h e = subst (λ (r : Row). not (is_attribute r.label.kind) ≡ b) (row-first n i xs h) e

-- what the first rows of a tree tell of a node's attributes holds in the tree
counted-first : (n : ℕ) (xs : List Row) (v number : ℕ) → AreAttributeRows (take n xs) v number → AreAttributeRows xs v number
counted-first n xs v number a =
    let there = a.there in
    let most = length-first n xs in
    let ev = row-first n v xs (omega (arith, there)) in
    record {
      there = omega (arith, there, most);
      below = subst (λ (r : Row). number ≤ r.size) ev a.below;
      are = λ p x y. plain-first n p xs false (omega (arith, there, y)) (a.are p x y);
      after = λ less. (
          let w = a.after (subst (λ (r : Row). number < r.size) (sym ev) less) in
          let within = w.0 in
          (omega (arith, within, most), plain-first n (v + number + 1) xs true within w.1));
    }

counted-of-front : (t : Tree) (rs : List (ℕ × Row)) → IsFront t rs → (v number : ℕ) → AreAttributeRows (unplaced rs) v number → AreAttributeRows (rows t) v number
counted-of-front t rs front v number a = counted-first (length rs) (rows t) v number (subst (λ xs. AreAttributeRows xs v number) (first-rows t rs front) a)

module _ {S : Type 0} (g : Ghosts S) (b : Beginning) (v : Viewed S) (fronts : List CachedDocument) (stays : Bool) (is : IsShelved g b v fronts stays) (clean : IsClean g v.store) (held : HeldDocuments b) (tree node : ℕ) where
  abbrev trees : List Tree
  trees = trees_under b v.addresses

  within : (number : ℕ) → AreAttributeRows (unplaced (front_at fronts tree)) node number → tree < length fronts
  within number a = some-front fronts tree node (let h = a.there in omega (arith, h))

  -- the number that a view's rows tell, or none
  pub counted_of : (answer : Option ℕ) → IfSome answer (λ number. AreAttributeRows (unplaced (front_at fronts tree)) node number) → IfSome answer (λ number. AreAttributeRows (rows (nth_tree trees tree)) node number)
  counted_of None a = a
  counted_of (Some number) a = counted-of-front (nth_tree trees tree) (front_at fronts tree) (front_is trees fronts tree (is.rows clean held) (within number a)) node number a

  pub tree_of : (answer : Option ℕ) → IfSome answer (λ number. AreAttributeRows (unplaced (front_at fronts tree)) node number) → IfSome answer (λ _. IsTree (nth_tree trees tree))
  tree_of None a = tt
  tree_of (Some number) a = is_held_tree g b v is.view clean held tree (let many = as_many trees fronts (is.rows clean held) in let h = within number a in omega (arith, many, h))
