use Rattle.std.proofs.Common.{◌≡◌, ◌∷◌, take}
use Rattle.sqlite.specs.Values.{bound}
use Rattle.sqlite_value.specs.declared.value.Value.TheVariants.{Text}
use Rattle.xq_tables.specs.private.Numbered.{columns_of}
use Rattle.xq_tables.proofs.additions.columns_under.Given as goal

abbrev pub invariant-loop-at : goal.invariant-loop-at
invariant-loop-at l = bound l.values.items ≡ Text l.address ∷ columns_of (take l.at l.rows) (take l.at l.numbers)
