use Rattle.std.proofs.Common.{◌+◌, drop, sym, subst, ◌∙◌}
use Rattle.std.proofs.lemmas.List.{drop-map}
use Rattle.xq_trees.specs.Rows.{row_of}
use Rattle.xq_trees.specs.Levels.{AreSized}
use Rattle.xq_trees.proofs.SizedRows.{are_sized, deeper_listed}
use Rattle.xq_trees.proofs.levels.size_at.Goals as goal

pub size_below-requires-clause-after : goal.size_below-requires-clause-after
size_below-requires-clause-after c =
    subst AreSized (sym (drop-map row_of (c.args.at + 1) c.args.rows.now)) (are_sized (drop (c.args.at + 1) c.args.rows.now) c.requires.after)

pub returns-clause-value : goal.returns-clause-value
returns-clause-value c = c.size_below.ensures.value ∙ deeper_listed c.args.rows.now c.args.at
