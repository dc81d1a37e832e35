-- What the program's comparable values stand for.
use Rattle.std.specs.Prelude.{Option, Some, None, if◌then◌else◌}
use Rattle.std.specs.declared.cmp.Ordering.{Ordering}
use Rattle.xq_atoms.specs.declared.comparisons.Comparable.{Comparable}
use Rattle.xq_atoms.specs.declared.comparisons.Comparable.TheVariants.{Number as ANumber, Text as AText, Truth as ATruth}
use Rattle.xq_atoms.specs.Compare.{Key, Number, Characters, Truth, key_cmp, of_one_kind}

abbrev pub key_of_comparable : Comparable → Key
key_of_comparable (ANumber m) = Number m
key_of_comparable (AText s) = Characters s.now
key_of_comparable (ATruth b) = Truth b

abbrev pub ordering_of : Key → Key → Option Ordering
ordering_of j k = if of_one_kind j k then Some (key_cmp j k) else None
