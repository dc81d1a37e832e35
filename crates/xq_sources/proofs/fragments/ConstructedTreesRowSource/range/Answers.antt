use Rattle.std.proofs.Common.{◌+◌, ℕ, List, ap, ◌∙◌}
use Rattle.std.specs.Prelude.{slice_range}
use Rattle.xq_trees.specs.Rows.{Row}
use Rattle.xq_sources.specs.Sources.{tree_at}
use Rattle.xq_sources.proofs.ReadRows.{read_between}
use Rattle.xq_sources.proofs.fragments.ConstructedTreesRowSource.range.Goals as goal

pub returns-clause-found : goal.returns-clause-found
returns-clause-found c =
    λ _. c.in_ok-found.ensures ∙ c.between.ensures
    ∙ ap (λ (run : List (ℕ × Row)). slice_range run c.args.low (c.args.high + 1)) c.in_ok-rows.ensures.rows
    ∙ read_between (tree_at c.args.self.now.trees c.args.tree) c.args.low c.args.high
