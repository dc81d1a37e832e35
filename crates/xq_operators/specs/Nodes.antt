-- The nodes among items.
use Rattle.std.specs.Prelude.{List, [], ◌∷◌}
use Rattle.xq_trees.specs.declared.items.Node.{Node}
use Rattle.xq_trees.specs.Items.{ItemView, Place, Value}

abbrev pub nodes_among : List ItemView → List Node
nodes_among [] = []
nodes_among (Place node ∷ views) = node ∷ nodes_among views
nodes_among (Value atom ∷ views) = nodes_among views
