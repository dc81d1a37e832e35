use Rattle.std.proofs.Common.{◌++◌, List, ap, ◌∙◌}
use Rattle.xq_trees.specs.Rows.{Row}
use Rattle.xq_sources.proofs.Planting.{copied}
use Rattle.xq_sources.proofs.planted.append_whole.Goals as goal

pub returns-clause-added : goal.returns-clause-added
returns-clause-added c =
    c.in_ok-append_run.ensures.rows
    ∙ ap (λ (qs : List Row). c.args.list.now.rows ++ qs) (copied c.rows-more.result.now.rows c.len.result c.len.ensures.rows ∙ c.rows-more.ensures.rows)
