-- Nodes by their numbers of tree and their places there, in document order.
use Rattle.std.specs.Prelude.{◌≡◌, List, ◌++◌, filter, Bool, not, ◌&&◌, ◌==◌, Ok, Err}
use Rattle.std.specs.List.{AllByRecursion, list_any}
use Rattle.xq_atoms.specs.declared.refusals.Code.{Code}
use Rattle.xq_atoms.specs.declared.refusals.Code.TheVariants.{XPTY0004}
use Rattle.xq_atoms.specs.Judged.{Judged, ◌>>=◌}
use Rattle.xq_expressions.specs.declared.operators.SetOperator.{SetOperator}
use Rattle.xq_expressions.specs.declared.operators.SetOperator.TheVariants.{Intersect, Except}
use Rattle.xq_trees.specs.Items.{ItemView, Place as NodeAt, Value}
use Rattle.xq_trees.specs.Order.{path_at}
use Rattle.xq_trees.specs.Rising.{AreRising}
use Rattle.xq_trees.specs.Tree.{Tree}
use Rattle.xq_sources.specs.Sources.{HasNode}
use Rattle.xq_meaning.specs.Items.{Place, place, nodes_at}
use Rattle.xq_meaning.specs.Arguments.{each}
use Rattle.xq_trees.specs.declared.items.Node.{Node as Spot}

-- the node at a place
abbrev pub view : Spot → ItemView
view s = NodeAt s

abbrev pub place_at : List Tree → Spot → Place
place_at trees s = place s.tree (path_at (nodes_at trees s.tree) s.pre)

-- the places of items that are all nodes
abbrev pub spot_of : Code → ItemView → Judged Spot
spot_of code (NodeAt n) = Ok n
spot_of code (Value a) = Err code

abbrev pub all_spots : Code → List ItemView → Judged (List Spot)
all_spots code views = each (spot_of code) views

-- places, and then those of more items
abbrev pub after : List Spot → Code → List ItemView → Judged (List Spot)
after spots code views = do more ← all_spots code views; Ok (spots ++ more)

abbrev pub SpotsAreIn : List Tree → List Spot → Type 0
SpotsAreIn trees spots = AllByRecursion (λ s. HasNode trees s.tree s.pre) spots

-- # Document order

abbrev pub same_spot : Spot → Spot → Bool
same_spot s t = s.tree == t.tree && s.pre == t.pre

abbrev pub is_among : List Spot → Spot → Bool
is_among spots s = list_any (same_spot s) spots

-- the same places, each once, in order
pub record IsInOrder (spots sorted : List Spot) : Type 0 where
  pub rises : AreRising sorted
  pub same : (s : Spot) → is_among sorted s ≡ is_among spots s

-- # Operators

abbrev pub takes : SetOperator → List Spot → Spot → Bool
takes Intersect others s = is_among others s
takes Except others s = not (is_among others s)

abbrev pub united : List ItemView → List ItemView → Judged (List Spot)
united xs ys = do
  spots ← all_spots XPTY0004 xs
  others ← all_spots XPTY0004 ys
  Ok (spots ++ others)

abbrev pub selected : SetOperator → List ItemView → List ItemView → Judged (List Spot)
selected op xs ys = do
  spots ← all_spots XPTY0004 xs
  others ← all_spots XPTY0004 ys
  Ok (filter (takes op others) spots)
