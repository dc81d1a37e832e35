-- Keys of an order on their way from those of each tuple to those of each specification.
use Rattle.std.specs.Prelude.{ℕ, zero, suc, List, [], ◌∷◌, ◌++◌, map, drop, slice_index_or}
use Rattle.std.specs.Global.{Global}
use Rattle.std.specs.Vec.Iter.{into_iter_items}
use Rattle.std.specs.declared.vec.IntoIter.{IntoIter}
use Rattle.xq_atoms.specs.Atom.{Atomic}
use Rattle.xq_tuples.specs.Keys.{values_in}
use Rattle.xq_tuples.specs.declared.rows.Key.{Key}

-- the values of the keys that are left of a row
abbrev pub left_of : IntoIter Key Global → List (List Atomic)
left_of keys = map values_in (into_iter_items keys)

-- each column with the next of the values at its end; the empty one where there are no more
abbrev pub filled : {A : Type 0} → List (List (List A)) → List (List A) → List (List (List A))
filled [] values = []
filled (column ∷ columns) values =
    (column ++ slice_index_or values 0 [] ∷ []) ∷ filled columns (drop 1 values)

-- what is left of keys after those of so many tuples, so many each
abbrev pub after_tuples : {A : Type 0} → ℕ → ℕ → List A → List A
after_tuples zero n keys = keys
after_tuples (suc m) n keys = after_tuples m n (drop n keys)
