-- The numbers of tuples in the order of their keys, which lie by specification.
use Rattle.std.specs.Prelude.{ℕ, ℤ, List, map, slice_index_or, if◌then◌else◌}
use Rattle.std.specs.Global.{Vec}
use Rattle.std.specs.List.{enumerate_from}
use Rattle.std.specs.declared.cmp.Ordering.{Ordering}
use Rattle.std.specs.Ordering.{int_cmp, ordering_then}
use Rattle.xq_atoms.specs.declared.atoms.GroupKey.{GroupKey}
use Rattle.xq_atoms.specs.Compare.{Key, Nothing, Number}
use Rattle.xq_trees.specs.Items.{ItemView}
use Rattle.xq_trees.specs.Tuples.{Tuple, keys_cmp}
use Rattle.xq_tuples.specs.declared.rows.OrderSpec.{OrderSpec}
use Rattle.xq_tuples.specs.declared.rows.Ranked.{Ranked}
use Rattle.xq_tuples.specs.Orders.{rule_of}
use Rattle.xq_tuples.specs.private.Groups.{compared_of}

-- a key of a list; the empty one where there is none
abbrev pub key_in : ℕ → List Key → Key
key_in index keys = slice_index_or keys index Nothing

-- the keys of the tuple with this number
abbrev pub keys_at : ℕ → List (Vec GroupKey) → List Key
keys_at number columns = map (λ column. key_in number (compared_of column)) columns

-- each tuple with its keys
abbrev pub with_keys : List (Vec GroupKey) → List (Tuple ItemView)
    → List (Tuple ItemView × List Key)
with_keys columns tuples = map (λ p. (p.1, keys_at p.0 columns)) (enumerate_from 0 tuples)

-- the order of two tuples with their keys
abbrev pub by_keys : List OrderSpec → Tuple ItemView × List Key → Tuple ItemView × List Key
    → Ordering
by_keys specs p q = keys_cmp (map rule_of specs) p.1 q.1

-- the order of the tuples with these numbers
abbrev pub by_keys_at : List OrderSpec → List (Vec GroupKey) → ℕ → ℕ → Ordering
by_keys_at specs columns m n =
    keys_cmp (map rule_of specs) (keys_at m columns) (keys_at n columns)

-- # Where the first keys are numbers

-- a tuple's number and its first key
abbrev pub first_of : Ranked → ℕ × Key
first_of row = (row.number, Number row.first)

-- the order of two numbers by one specification
abbrev pub number_cmp : OrderSpec → ℤ → ℤ → Ordering
number_cmp spec m n = if spec.descending then int_cmp n m else int_cmp m n

-- by the first keys, and then by the later ones
abbrev pub by_numbers : OrderSpec → List OrderSpec → List (Vec GroupKey) → Ranked → Ranked
    → Ordering
by_numbers spec later columns a b = ordering_then (number_cmp spec a.first b.first)
    (by_keys_at later columns a.number b.number)
