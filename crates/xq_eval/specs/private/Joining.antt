-- Ranges and keys of a join.
use Rattle.std.specs.Prelude.{ℕ, List, [], ◌∷◌, Option, Some, None}
use Rattle.xq_trees.specs.declared.Axis.{Axis}
use Rattle.xq_trees.specs.Items.{ItemView}
use Rattle.xq_trees.specs.Tuples.{Tuple, value_at}
use Rattle.xq_meaning.specs.declared.node_tests.Test.{Test}
use Rattle.xq_meaning.specs.Doing.{Doing}
use Rattle.xq_meaning.specs.Forms as Forms
use Rattle.xq_meaning.specs.Items.{Item}

-- the value of the slot that is carried, where one is
abbrev pub carried_at : Option ℕ → Tuple ItemView → Tuple ItemView
carried_at None slots = []
carried_at (Some n) slots = value_at n slots ∷ []

-- the first of the tuples
abbrev pub first_tuple : List (Tuple ItemView) → Tuple ItemView
first_tuple [] = []
first_tuple (t ∷ ts) = t

-- one scan
abbrev pub scan_one : List Item → Axis × Test → Doing (List Item)
scan_one xs s = Forms.scan s.0 s.1 xs
