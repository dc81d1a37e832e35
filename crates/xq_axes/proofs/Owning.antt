-- Items that are kept one after another, and nodes that have an attribute with a value.
use Rattle.std.proofs.Common.{◌≡◌, ℕ, ◌+◌, ◌<◌, List, [], ◌∷◌, ◌++◌, length, map, take, get_or, Bool, true, false, cond, sym, ◌∙◌, ap}
use Rattle.std.specs.Prelude.{filter}
use Rattle.std.proofs.lemmas.List.{append-nil, map-append, take_more}
use Rattle.std.proofs.lemmas.List.Elements.{filter-append}
use Rattle.xq_atoms.specs.Text.{Text}
use Rattle.xq_trees.specs.Items.{ItemView, Place as NodeAt}
use Rattle.xq_trees.specs.Rows.{rows}
use Rattle.xq_trees.specs.Tree.{Tree}
use Rattle.xq_trees.specs.declared.Axis.TheVariants as axis
use Rattle.xq_trees.specs.declared.items.Node.{Node as Spot}
use Rattle.xq_packed.specs.Values.{valued}
use Rattle.xq_meaning.specs.declared.node_tests.Test.TheVariants as tests
use Rattle.xq_axes.specs.Many.{spot}
use Rattle.xq_axes.specs.Owners.{owns_valued}
use Rattle.xq_axes.specs.private.Hits.{is_among, is_hit}
use Rattle.xq_axes.specs.private.KnownParents.{AreTold}
use Rattle.xq_axes.proofs.KnownParents.{parents_hit}

-- # One item more

module _ {X A : Type 0} (view : X → A) (h : A → Bool) (xs : List X) (i : ℕ) (x : X) (there : i < length xs) (is : x ≡ get_or xs i x) where
  seen_more : filter h (map view (take (i + 1) xs)) ≡ filter h (map view (take i xs)) ++ cond (h (view x)) (view x ∷ []) []
  seen_more =
      ap (λ l. filter h (map view l)) (take_more xs i x there ∙ ap (λ y. take i xs ++ y ∷ []) (sym is))
      ∙ ap (filter h) (map-append view (take i xs) (x ∷ []))
      ∙ filter-append h (map view (take i xs)) (view x ∷ [])

  pub item_kept : (kept new : List X) → h (view x) ≡ true → new ≡ kept ++ x ∷ [] → map view kept ≡ filter h (map view (take i xs)) → map view new ≡ filter h (map view (take (i + 1) xs))
  item_kept kept new holds e so_far =
      ap (map view) e ∙ map-append view kept (x ∷ [])
      ∙ ap (λ l. l ++ view x ∷ []) so_far
      ∙ ap (λ b. filter h (map view (take i xs)) ++ cond b (view x ∷ []) []) (sym holds)
      ∙ sym seen_more

  pub item_left : (kept : List X) → h (view x) ≡ false → map view kept ≡ filter h (map view (take i xs)) → map view kept ≡ filter h (map view (take (i + 1) xs))
  item_left kept fails so_far =
      so_far ∙ sym (append-nil (filter h (map view (take i xs))))
      ∙ ap (λ b. filter h (map view (take i xs)) ++ cond b (view x ∷ []) []) (sym fails)
      ∙ sym seen_more

-- a node of this tree is decided by its place
pub decided : (wanted : ItemView → Bool) (tree : ℕ) (places : List ℕ) (n : Spot) → ((k : ℕ) → wanted (NodeAt (spot tree k)) ≡ is_among places k) → n.tree ≡ tree → wanted (NodeAt n) ≡ is_among places n.pre
decided wanted tree places n all e = ap (λ t. wanted (NodeAt (spot t n.pre))) e ∙ all n.pre

-- # Owners

-- the parents that were told of all attributes with the value
pub owners_told : (t : Tree) (name value : Text) (places told owners : List ℕ) → places ≡ valued (rows t) name value → AreTold t places told → length told ≡ length places → ((n : ℕ) → is_among owners n ≡ is_among told n) → (k : ℕ) → is_among owners k ≡ owns_valued t name value k
owners_told t name value places told owners are all many same k =
    parents_hit tests.Any t owners places told k all many same ∙ ap (λ ps. is_hit axis.Parent t ps k) are
