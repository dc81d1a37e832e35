use Rattle.std.proofs.Common.{◌+◌, ◌∙◌, ℕ, List, ap, sym, length, rules}
use Rattle.std.specs.Prelude.{slice_get, slice_range}
use Rattle.xq_trees.specs.Rows.{Row}
use Rattle.xq_sources.specs.Meters.{with_rows}
use Rattle.xq_sources.specs.Sources.{tree_at}
use Rattle.xq_sources.specs.private.Runs.{rows_of_run}
use Rattle.xq_sources.proofs.ReadRows.{no_rows, read_between}
use Rattle.xq_sources.proofs.fragments.ConstructedTreesRowLender.fetch.Goals as goal

pub returns-clause-counts : goal.returns-clause-counts
returns-clause-counts c =
    let run = c.between.ensures
    ∙ ap (λ (run : List (ℕ × Row)). slice_range run c.args.low (c.args.high + 1)) c.in_ok-rows.ensures.rows
    ∙ read_between (tree_at c.args.self.now.trees c.args.tree) c.args.low c.args.high
    ∙ ap (λ held. rows_of_run held c.args.low c.args.high) (sym c.in_ok-rows.ensures.held) in
    c.with_rows-self.ensures ∙ ap (with_rows c.args.self.now.meter) (c.len-count.ensures ∙ ap length run)

pub returns-in_err-rows-clause-refused : goal.returns-in_err-rows-clause-refused
returns-in_err-rows-clause-refused c = let none = no_rows (slice_get c.args.self.now.trees 0) in search rules
