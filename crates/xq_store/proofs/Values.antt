-- Attributes by their values, of a tree whose rows are all kept.
use Rattle.std.proofs.Common.{◌≡◌, ℕ, List, length, map, ap, sym, subst, ◌∙◌}
use Rattle.std.specs.List.{enumerate_from}
use Rattle.std.specs.HashMap.{get_by_text}
use Rattle.std.specs.Prelude.{Option, IfSome}
use Rattle.xq_trees.specs.Rows.{Row, rows, placed_rows}
use Rattle.std.proofs.lemmas.List.FromFn.{length-enumerate_from}
use Rattle.xq_trees.specs.Forest.{count}
use Rattle.xq_trees.specs.Tree.{Tree, nodes}
use Rattle.xq_trees.proofs.Encoding.{length-rows}
use Rattle.xq_packed.specs.Found.{AreByValue}
use Rattle.xq_store.specs.declared.shelves.CachedDocument.{CachedDocument}
use Rattle.xq_store.specs.private.Shelves.{IsFrontOf}
use Rattle.xq_store.proofs.Parents.{without-places}

-- all rows of a tree, without their places
pub all_rows : (t : Tree) (rs : List Row) → enumerate_from 0 rs ≡ placed_rows t → rs ≡ rows t
all_rows t rs e = sym (without-places 0 rs) ∙ ap (map (λ (p : ℕ × Row). p.1)) e ∙ without-places 0 (rows t)

-- the places that are kept of a name
pub values_told : (t : Tree) (front : CachedDocument) (name : List ℕ) (places : Option (List ℕ)) → places ≡ get_by_text front.values name → IsFrontOf t front → IfSome places (λ found. AreByValue (rows t) name found)
values_told t front name places e is = subst (λ o. IfSome o (λ found. AreByValue (rows t) name found)) (sym e) (is.values name)

-- all rows of a tree are as many as it has
pub all_many : (t : Tree) (rs : List Row) → enumerate_from 0 rs ≡ placed_rows t → length (enumerate_from 0 rs) ≡ count (nodes t)
all_many t rs e = ap length e ∙ length-enumerate_from 0 (rows t) ∙ length-rows t
