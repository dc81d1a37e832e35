-- What contracts see of keys.
use Rattle.std.specs.Prelude.{ℕ, zero, suc, List, [], ◌∷◌, map, take, drop, slice_index_or}
use Rattle.std.specs.Global.{Vec}
use Rattle.std.specs.List.{range_with_len}
use Rattle.xq_atoms.specs.declared.atoms.Atom.{Atom}
use Rattle.xq_atoms.specs.Atom.{Atomic, atomic_of}
use Rattle.xq_tuples.specs.declared.rows.Key.{Key}
use Rattle.xq_tuples.specs.declared.rows.Key.TheVariants.{One, Several}

-- the atomic values of atoms that code holds
abbrev pub atomics_of : Vec Atom → List Atomic
atomics_of values = map atomic_of values.items

-- the values of one specification, tuple by tuple
abbrev pub column_of : Vec (Vec Atom) → List (List Atomic)
column_of column = map atomics_of column.items

-- those of each specification
abbrev pub columns_of : Vec (Vec (Vec Atom)) → List (List (List Atomic))
columns_of columns = map column_of columns.items

-- # Keys of an order

-- the atomic values of a key
abbrev pub values_in : Key → List Atomic
values_in (One atom) = atomic_of atom ∷ []
values_in (Several atoms) = atomics_of atoms

-- those of the keys of one tuple
abbrev pub row_of : Vec Key → List (List Atomic)
row_of row = map values_in row.items

-- those of each tuple
abbrev pub rows_in : Vec (Vec Key) → List (List (List Atomic))
rows_in rows = map row_of rows.items

-- from keys that stand one tuple after another, those of each of so many tuples, so many each
abbrev pub by_tuple : {A : Type 0} → ℕ → ℕ → List A → List (List A)
by_tuple zero n keys = []
by_tuple (suc m) n keys = take n keys ∷ by_tuple m n (drop n keys)

-- from the keys of each tuple, those of each of so many specifications; one that a tuple lacks is
-- empty
abbrev pub by_specification : {A : Type 0} → ℕ → List (List (List A)) → List (List (List A))
by_specification n rows = map (λ i. map (λ row. slice_index_or row i []) rows) (range_with_len 0 n)
