-- What a view lends once it has read on.
use Rattle.std.proofs.Common.{◌≡◌, ◌<◌, ℕ, zero, suc, Bool, IsTrue, Some, List, [], ◌∷◌, length, refl, sym, ap, subst, ◌∙◌, arith}
use Rattle.std.specs.Prelude.{slice_get}
use Rattle.sqlite_trees.specs.declared.store.Store.{Ghosts}
use Rattle.sqlite.specs.Held.{Held}
use Rattle.xq_trees.specs.Tree.{Tree, IsTree}
use Rattle.xq_trees.specs.Rows.{Row, rows, row_at}
use Rattle.xq_sources.specs.Lenders.{IsRun}
use Rattle.xq_sources.specs.Meters.{Readings}
use Rattle.xq_sources.specs.Sources.{HasTree, HasNode, rows_between, tree_at as nth_tree}
use Rattle.xq_tables.specs.Documents.{Map, IsClean, StandsFor}
use Rattle.xq_store.specs.Views.{Beginning, HeldDocuments, IsView, Viewed, trees_under}
use Rattle.xq_store.specs.declared.shelves.CachedDocument.{CachedDocument}
use Rattle.xq_store.specs.private.Shelves.{AreFronts, AreListed, HasReached, IsFront, IsShelved, front_at, run_of}
use Rattle.xq_store.proofs.FrontLaws.{as_many, front_is, has_node, lends, lends_one}
use Rattle.xq_store.proofs.Keeping.{still_stays}
use Rattle.xq_store.specs.private.Keeps.{LeavesAlone}
use Rattle.xq_store.proofs.ViewLaws.{began_map, is_its_tree, its_tree, stands_held}

some_at : (xs : List (List ℕ)) (i : ℕ) → i < length xs → (a : List ℕ) × (slice_get xs i ≡ Some a)
some_at [] i h = absurd (omega (arith, h))
some_at (x ∷ xs) zero h = (x, refl)
some_at (x ∷ xs) (suc i) h = some_at xs i (omega (arith, h))

under_many : (b : Beginning) (addresses : List (List ℕ)) → length addresses ≡ length (trees_under b addresses)
under_many b [] = refl
under_many b (a ∷ addresses) = ap suc (under_many b addresses)

-- the documents of a view are trees
pub is_held_tree : {S : Type 0} (g : Ghosts S) (b : Beginning) (v : Viewed S) → IsView g b v → IsClean g v.store → HeldDocuments b → (tree : ℕ) → HasTree (trees_under b v.addresses) tree → IsTree (nth_tree (trees_under b v.addresses) tree)
is_held_tree g b v view clean held tree in_it =
    let many = under_many b v.addresses in
    let named = some_at v.addresses tree (omega (arith, many, in_it)) in
    is_its_tree g b v view clean held tree named.0 named.1

-- more was found among what is kept
pub found_more : {S : Type 0} (g : Ghosts S) (b : Beginning) (v : Viewed S) (fronts later : List CachedDocument) (may_stay : Bool) → IsShelved g b v fronts may_stay → ((trees : List Tree) → AreFronts trees fronts → AreFronts trees later)
    → (meter : Readings) (lent : List (ℕ × Row)) → IsShelved g b (record { store = v.store; addresses = v.addresses; meter = meter; lent = lent }) later may_stay
found_more g b v fronts later may_stay is more meter lent = record {
  view = record { was_clean = is.view.was_clean; was_open = is.view.was_open; stands = is.view.stands; listed = is.view.listed };
  rows = λ clean held. more (trees_under b v.addresses) (is.rows clean held);
  stays = is.stays;
}

module _ {S : Type 0} (g : Ghosts S) (b : Beginning) (v : Viewed S) (fronts : List CachedDocument) (may_stay : Bool) (is : IsShelved g b v fronts may_stay) (new : Held S)
    (later : List CachedDocument) (was_clean : IsClean g new → IsClean g v.store) where
  abbrev trees : List Tree
  trees = trees_under b v.addresses

  are_listed : IsClean g v.store → HeldDocuments b → AreListed (began_map b) v.addresses trees
  are_listed clean held = record { count = under_many b v.addresses; found = λ i a here. its_tree g b v is.view clean held i a here }

  module _ (kept : IsClean g new → (m : Map) → StandsFor g v.store m → (trees : List Tree) → AreListed m v.addresses trees → AreFronts trees fronts → AreFronts trees later) where
    are_kept : IsClean g new → HeldDocuments b → AreFronts trees later
    are_kept clean held =
        let early = was_clean clean in
        kept clean (began_map b) (stands_held g b v is.view early held) trees (are_listed early held) (is.rows early held)

    -- the view is one still
    pub shelved : (addresses : List (List ℕ)) (meter : Readings) (lent : List (ℕ × Row)) → addresses ≡ v.addresses → (IsClean g new → (m : Map) → StandsFor g v.store m → StandsFor g new m)
        → (stays : Bool) → (IsTrue stays → IsTrue may_stay) → LeavesAlone g v.store new → IsShelved g b (record { store = new; addresses = addresses; meter = meter; lent = lent }) later stays
    shelved addresses meter lent e same stays so alone = record {
      view = record {
        was_clean = λ now. is.view.was_clean (was_clean now);
        was_open = λ now. is.view.was_open (was_clean now);
        stands = λ now m stood. same now m (is.view.stands (was_clean now) m stood);
        listed = λ now m stood. e ∙ is.view.listed (was_clean now) m stood;
      };
      rows = λ clean held. subst (λ l. AreFronts (trees_under b l) later) (sym e) (are_kept clean held);
      stays = λ it. still_stays g b v.store new alone (is.stays (so it));
    }

    -- a tree that was reached
    module _ (tree place : ℕ) (far : IsClean g new → (m : Map) → StandsFor g v.store m → (trees : List Tree) → AreListed m v.addresses trees → AreFronts trees fronts → HasReached trees later tree place)
        (clean : IsClean g new) (held : HeldDocuments b) where
      reached : HasReached trees later tree place
      reached =
          let early = was_clean clean in
          far clean (began_map b) (stands_held g b v is.view early held) trees (are_listed early held) (is.rows early held)

      pub has_tree : HasTree trees tree
      has_tree = reached.tree_in

      front : IsFront (nth_tree trees tree) (front_at later tree)
      front =
          let are = are_kept clean held in
          let within : tree < length later = let many = as_many trees later are in let in_it = reached.tree_in in omega (arith, many, in_it) in
          front_is trees later tree are within

      pub is_run : (high : ℕ) → IsRun (rows_between (nth_tree trees tree) place high) (run_of (front_at later tree) place high)
      is_run high = lends (nth_tree trees tree) (front_at later tree) front place high reached.reaches

      pub is_one : place < length (front_at later tree) → run_of (front_at later tree) place place ≡ (place, row_at (rows (nth_tree trees tree)) place) ∷ []
      is_one h = lends_one (nth_tree trees tree) (front_at later tree) front place h

      pub has_it : place < length (front_at later tree) → HasNode trees tree place
      has_it h = record { tree_in = reached.tree_in; node_in = has_node (nth_tree trees tree) (front_at later tree) front place h }

      pub is_a_tree : IsTree (nth_tree trees tree)
      is_a_tree = is_held_tree g b v is.view (was_clean clean) held tree reached.tree_in
