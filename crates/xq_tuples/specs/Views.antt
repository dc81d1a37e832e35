-- What contracts see of the program's tuples.
use Rattle.std.specs.Prelude.{List, [], ◌∷◌, map}
use Rattle.xq_trees.specs.Items.{ItemView, item_view, item_views}
use Rattle.xq_trees.specs.Tuples.{Tuple}
use Rattle.xq_tuples.specs.declared.slots.SlotValue.{SlotValue}
use Rattle.xq_tuples.specs.declared.slots.SlotValue.TheVariants.{Lone, Shared}

-- the items of a slot
abbrev pub slot_items : SlotValue → List ItemView
slot_items (Lone item) = item_view item ∷ []
slot_items (Shared items) = item_views items.value

-- the values of slots that stand one after another, as those of a tuple do
abbrev pub values_of : List SlotValue → Tuple ItemView
values_of slots = map slot_items slots
