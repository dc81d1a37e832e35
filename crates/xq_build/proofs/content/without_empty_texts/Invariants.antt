use Rattle.std.proofs.Common.{◌≡◌, map, take}
use Rattle.std.specs.Prelude.{filter}
use Rattle.xq_trees.specs.Levels.{flat}
use Rattle.xq_build.specs.private.Content.{is_kept}
use Rattle.xq_build.proofs.content.without_empty_texts.Given as goal

-- the rows so far, without empty texts
abbrev pub invariant-loop-at : goal.invariant-loop-at
invariant-loop-at l = map flat l.kept.rows ≡ filter is_kept (map flat (take l.at l.rows.rows))
