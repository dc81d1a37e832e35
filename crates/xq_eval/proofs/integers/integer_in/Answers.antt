use Rattle.std.proofs.Common.{map, arith}
use Rattle.xq_atoms.specs.Atom.{Integer}
use Rattle.xq_trees.specs.Items.{item_view}
use Rattle.xq_eval.proofs.AtHand.{atom_there}
use Rattle.xq_eval.proofs.integers.integer_in.Goals as goal

pub returns : goal.returns
returns c =
    atom_there Integer c.args.slots.now c.args.slot c.index-slots-slot.result (map item_view c.items.result.now) c.only_integer.result (omega arith) c.index-slots-slot.is c.items.ensures c.only_integer.ensures
