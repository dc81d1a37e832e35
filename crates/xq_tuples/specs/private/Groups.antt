-- What contracts see of tuples with keys and of groups, and what the loop over the tuples keeps.
use Rattle.std.specs.Prelude.{◌≡◌, ℕ, List, [], map, slice_index_or, Option}
use Rattle.std.specs.Global.{Vec}
use Rattle.std.specs.List.{enumerate_from}
use Rattle.xq_atoms.specs.declared.atoms.Atom.{Atom}
use Rattle.xq_atoms.specs.declared.atoms.GroupKey.{GroupKey}
use Rattle.xq_atoms.specs.Compare.{Key, key_of}
use Rattle.xq_trees.specs.Tuples.{Tuple, Keyed, comparison_keys, same_keys, firsts, groups as groups_by}
use Rattle.xq_trees.specs.Items.{ItemView}
use Rattle.xq_tuples.specs.private.KeyRows.{keys_at}

abbrev pub compared_of : Vec GroupKey → List Key
compared_of keys = map key_of keys.items

-- each tuple with its keys
abbrev pub all_keyed : List (Vec (Option Atom)) → List (Tuple ItemView) → List (Keyed ItemView)
all_keyed columns tuples = map (λ p. (p.1, keys_at p.0 columns)) (enumerate_from 0 tuples)

module _ (columns : List (Vec (Option Atom))) (stream : List (Tuple ItemView)) where
  -- the tuple with this number, and its keys
  abbrev pub keyed_of : ℕ → Keyed ItemView
  keyed_of number = (slice_index_or stream number [], keys_at number columns)

  -- those of a group
  abbrev pub group_of : Vec ℕ → List (Keyed ItemView)
  group_of group = map keyed_of group.items

  -- the tuples that are done, the keys that were seen, each once, and the groups
  pub record Gathers (done : List (Keyed ItemView)) (seen : List (Vec GroupKey))
      (gathered : List (Vec ℕ)) : Type 0 where
    pub keys : map compared_of seen ≡ map (λ row. comparison_keys row.1) (firsts same_keys done)
    pub groups : map group_of gathered ≡ groups_by same_keys done
