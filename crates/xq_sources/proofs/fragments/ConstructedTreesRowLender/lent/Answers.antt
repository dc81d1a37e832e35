use Rattle.std.proofs.Common.{◌+◌, ◌∙◌, ℕ, List, ap, sym}
use Rattle.std.specs.Prelude.{slice_range}
use Rattle.xq_trees.specs.Rows.{Row}
use Rattle.xq_sources.specs.Sources.{tree_at}
use Rattle.xq_sources.specs.private.Runs.{rows_of_run}
use Rattle.xq_sources.proofs.ReadRows.{read_between}
use Rattle.xq_sources.proofs.fragments.ConstructedTreesRowLender.lent.Goals as goal

pub returns-in-Ok : goal.returns-in-Ok
returns-in-Ok c =
    let run = c.args.self.now.run in
    c.between.ensures
    ∙ ap (λ (all : List (ℕ × Row)). slice_range all run.low (run.high + 1)) c.in-Ok.ensures.rows
    ∙ read_between (tree_at c.args.self.now.trees run.tree) run.low run.high
    ∙ ap (λ held. rows_of_run held run.low run.high) (sym c.in-Ok.ensures.held)

pub returns-in-Err : goal.returns-in-Err
returns-in-Err c =
    let run = c.args.self.now.run in
    c.new.ensures ∙ ap (λ held. rows_of_run held run.low run.high) (sym c.in-Err.ensures.absent)
