-- Keys of tuples, seen as the definitions see them.
use Rattle.std.specs.Prelude.{ℕ, List, map, slice_index_or, Option, None}
use Rattle.std.specs.Global.{Vec}
use Rattle.std.specs.Option.{option_map}
use Rattle.xq_atoms.specs.declared.atoms.Atom.{Atom}
use Rattle.xq_atoms.specs.Atom.{Atomic, atomic_of}

abbrev pub key_view : Option Atom → Option Atomic
key_view key = option_map atomic_of key

-- the keys of one grouping variable, tuple by tuple
abbrev pub keys_of : Vec (Option Atom) → List (Option Atomic)
keys_of keys = map key_view keys.items

-- that of the tuple with this number
abbrev pub key_at : ℕ → Vec (Option Atom) → Option Atomic
key_at number keys = slice_index_or (keys_of keys) number None

-- those of all grouping variables
abbrev pub keys_at : ℕ → List (Vec (Option Atom)) → List (Option Atomic)
keys_at number columns = map (key_at number) columns
