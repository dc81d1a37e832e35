-- Trees whose rows lie one after another in one list.
use Rattle.std.proofs.Common.{zero, suc}
use Rattle.std.specs.Prelude.{ℕ, ◌≡◌, ◌≤◌, List, [], ◌∷◌, length, slice_range}
use Rattle.xq_trees.specs.Rows.{Row, tree_of, AreRowsOf}
use Rattle.xq_trees.specs.Tree.{Tree}

-- the tree whose rows lie from one place to before another
abbrev pub tree_between : List Row → ℕ → ℕ → Tree
tree_between rows start end = tree_of (slice_range rows start end)

-- the trees whose rows lie one after another from a place on, by the places where they end
abbrev pub trees_after : List Row → ℕ → List ℕ → List Tree
trees_after rows start [] = []
trees_after rows start (end ∷ ends) = tree_between rows start end ∷ trees_after rows end ends

-- where the rows of the tree with this number begin
abbrev pub start_of : ℕ → List ℕ → ℕ → ℕ
start_of start ends zero = start
start_of start [] (suc n) = start
start_of start (end ∷ ends) (suc n) = start_of end ends n

-- from one place to before another lie the rows of a tree
pub record IsPlanted (rows : List Row) (start end : ℕ) : Type 0 where
  pub rises : start ≤ end
  pub within : end ≤ length rows
  pub are : AreRowsOf (slice_range rows start end) (tree_between rows start end)

-- from a place on lie the rows of trees, to the last row
abbrev pub ArePlanted : List Row → ℕ → List ℕ → Type 0
ArePlanted rows start [] = start ≡ length rows
ArePlanted rows start (end ∷ ends) = IsPlanted rows start end × ArePlanted rows end ends
