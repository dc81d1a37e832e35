use Rattle.std.proofs.Common.{map, arith}
use Rattle.xq_atoms.specs.Atom.{atomic_of}
use Rattle.xq_trees.specs.Items.{item_view}
use Rattle.xq_eval.proofs.AtHand.{atom_there}
use Rattle.xq_eval.proofs.numbers.number_in.Goals as goal

pub returns : goal.returns
returns c =
    atom_there atomic_of c.args.slots.now c.args.slot c.index-slots-slot.result (map item_view c.items.result.now) c.only_number.result (omega arith) c.index-slots-slot.is c.items.ensures c.only_number.ensures
