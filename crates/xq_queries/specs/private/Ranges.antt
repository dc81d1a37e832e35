-- Items of code whose numbers are within the bounds of their types.
use Rattle.std.specs.Prelude.{List}
use Rattle.std.specs.List.{AllByRecursion}
use Rattle.xq_trees.specs.Items.{ItemView, Place, Value}
use Rattle.xq_readback.specs.Results.{IsInRange}

-- an item that is a number is
abbrev pub IsViewInRange : ItemView → Type 0
IsViewInRange (Place node) = Unit {0}
IsViewInRange (Value a) = IsInRange a

-- each item that is one is
abbrev pub AreViewsInRange : List ItemView → Type 0
AreViewsInRange xs = AllByRecursion IsViewInRange xs
