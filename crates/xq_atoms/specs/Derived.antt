-- The comparisons that `GroupKey` derives, by a name for clauses on maps and sorts.
use Rattle.std.specs.Prelude.{Bool}
use Rattle.std.specs.declared.cmp.Ordering.{Ordering}
use Rattle.xq_atoms.specs.declared.atoms.GroupKey.{GroupKey}
use Rattle.xq_atoms.specs.contracts.atoms.GroupKeyPartialEq.TheImpl as equal
use Rattle.xq_atoms.specs.contracts.atoms.GroupKeyOrd.TheImpl as ordered

abbrev pub group_key_eq : GroupKey → GroupKey → Bool
group_key_eq = (equal.ghosts).eq

abbrev pub group_key_cmp : GroupKey → GroupKey → Ordering
group_key_cmp = (ordered.ghosts).cmp
