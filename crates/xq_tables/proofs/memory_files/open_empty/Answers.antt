use Rattle.std.proofs.Common.{rules, true, refl}
use Rattle.sqlite_trees.proofs.Doubt.{no_doubt}
use Rattle.sqlite_pool.specs.Pool.{state}
use Rattle.xq_tables.proofs.memory_files.open_empty.Goals as goal

pub returns-then-is_blank-clause-clean : goal.returns-then-is_blank-clause-clean
unfolding state
returns-then-is_blank-clause-clean c = no_doubt true refl

pub returns-then-is_blank-clause-empty : goal.returns-then-is_blank-clause-empty
returns-then-is_blank-clause-empty c =
    let opened = c.in-Ok.ensures.opened (returns-then-is_blank-clause-clean c) in
    (opened.0, opened.1, search rules)
