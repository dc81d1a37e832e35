use Rattle.std.proofs.Common.{Bor, map, arith}
use Rattle.xq_atoms.specs.declared.atoms.Atom.{Atom}
use Rattle.xq_atoms.specs.Atom.{atomic_of}
use Rattle.xq_trees.specs.Items.{item_view}
use Rattle.xq_eval.proofs.AtHand.{atom_there}
use Rattle.xq_eval.proofs.at_hand.atom_in.Goals as goal

pub returns : goal.returns
returns c =
    atom_there (λ (atom : Bor Atom). atomic_of atom.now) c.args.slots.now c.args.slot c.index-slots-slot.result (map item_view c.items.result.now) c.only_atom.result (omega arith) c.index-slots-slot.is c.items.ensures c.only_atom.ensures
