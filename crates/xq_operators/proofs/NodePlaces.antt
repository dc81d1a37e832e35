-- What calls give of the nodes of a tree at some places.
use Rattle.std.proofs.Common.{◌≡◌, ℕ, List, [], ◌∷◌, length, Bool, true, false, not, Ok, refl, sym, eqb-true, arith}
use Rattle.std.specs.Prelude.{◌==◌}
use Rattle.xq_atoms.specs.Judged.{◌>>=◌}
use Rattle.xq_trees.specs.Tree.{Tree}
use Rattle.xq_meaning.specs.Arguments.{boolean, effective}
use Rattle.xq_operators.specs.Views.{nodes_in}

-- nodes are true where there are any
pub are_true : (trees : List Tree) (tree : ℕ) (ps : List ℕ) (b : Bool) → b ≡ (length ps == 0) → effective (nodes_in trees tree ps) ≡ Ok (not b)
are_true trees tree [] true h = refl
are_true trees tree [] false h = absurd (let e : false ≡ true = h in cc)
are_true trees tree (p ∷ ps) false h = refl
are_true trees tree (p ∷ ps) true h = absurd (let e : length (p ∷ ps) ≡ 0 = eqb-true _ _ (sym h) in omega (arith, e))

pub are_false : (trees : List Tree) (tree : ℕ) (ps : List ℕ) (b : Bool) → b ≡ (length ps == 0) → (effective (nodes_in trees tree ps) >>= (λ e. Ok (boolean (not e)))) ≡ Ok (boolean b)
are_false trees tree [] true h = refl
are_false trees tree [] false h = absurd (let e : false ≡ true = h in cc)
are_false trees tree (p ∷ ps) false h = refl
are_false trees tree (p ∷ ps) true h = absurd (let e : length (p ∷ ps) ≡ 0 = eqb-true _ _ (sym h) in omega (arith, e))
