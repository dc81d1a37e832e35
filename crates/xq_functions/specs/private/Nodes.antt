-- Comparisons of nodes by their places.
use Rattle.std.specs.Prelude.{List, [], ◌∷◌, Bool, ◌&&◌, ◌||◌, ◌==◌, nat_lt, Ok, Err}
use Rattle.xq_atoms.specs.declared.refusals.Code.TheVariants.{XPTY0004}
use Rattle.xq_atoms.specs.Judged.{Judged, ◌>>=◌}
use Rattle.xq_expressions.specs.declared.operators.NodeComparison.{NodeComparison}
use Rattle.xq_expressions.specs.declared.operators.NodeComparison.TheVariants.{Is, Precedes, Follows}
use Rattle.xq_trees.specs.declared.items.Node.{Node}
use Rattle.xq_trees.specs.Items.{ItemView, Place}
use Rattle.xq_meaning.specs.Items.{Item}
use Rattle.xq_meaning.specs.Arguments.{boolean}

abbrev pub one_place : List ItemView → Judged Node
one_place (Place p ∷ []) = Ok p
one_place views = Err XPTY0004

abbrev pub is_before : Node → Node → Bool
is_before p q = nat_lt p.tree q.tree || (p.tree == q.tree && nat_lt p.pre q.pre)

abbrev pub stands : NodeComparison → Node → Node → Bool
stands Is p q = p.tree == q.tree && p.pre == q.pre
stands Precedes p q = is_before p q
stands Follows p q = is_before q p

abbrev pub by_places : NodeComparison → List ItemView → List ItemView → Judged (List Item)
by_places op [] ys = Ok []
by_places op (x ∷ xs) [] = Ok []
by_places op (x ∷ xs) (y ∷ ys) = do
  p ← one_place (x ∷ xs)
  q ← one_place (y ∷ ys)
  Ok (boolean (stands op p q))
