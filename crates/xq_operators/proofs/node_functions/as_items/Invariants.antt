use Rattle.std.proofs.Common.{◌≡◌, map}
use Rattle.xq_atoms.specs.Atom.{atomic_of}
use Rattle.xq_trees.specs.Items.{Value, item_views}
use Rattle.xq_operators.proofs.node_functions.as_items.Given as goal

abbrev pub invariant-loop-atom : goal.invariant-loop-atom
invariant-loop-atom l = item_views l.items ≡ map Value (map atomic_of l.yielded)
