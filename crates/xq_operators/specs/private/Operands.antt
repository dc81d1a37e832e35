-- What contracts see of an operand that is atomized.
use Rattle.std.specs.Prelude.{List, [], ◌∷◌, map}
use Rattle.xq_atoms.specs.Atom.{Atomic, atomic_of}
use Rattle.xq_operators.specs.declared.operands.Operand.{Operand}
use Rattle.xq_operators.specs.declared.operands.Operand.TheVariants.{One, Any}

-- its atoms
abbrev pub operand_atoms : Operand → List Atomic
operand_atoms (One atom) = atomic_of atom ∷ []
operand_atoms (Any atoms) = map atomic_of atoms.items
