use Rattle.std.proofs.Common.{◌∙◌, ℕ, List, ap, length, arith}
use Rattle.std.specs.Prelude.{slice_get}
use Rattle.xq_trees.specs.Rows.{Row}
use Rattle.xq_sources.specs.Sources.{tree_at}
use Rattle.xq_sources.proofs.ReadRows.{read_row, node_within}
use Rattle.xq_sources.proofs.fragments.ConstructedTreesRowSource.row.Goals as goal

pub returns-clause-exists : goal.returns-clause-exists
returns-clause-exists c =
    let all = ap length c.in_ok-rows.ensures.rows in
    λ _. record {
      tree_in = c.in_ok-rows.ensures.exists;
      node_in = node_within (tree_at c.args.self.now.trees c.args.tree) c.args.node (omega (arith, c.in-Some.ensures.within, all));
    }

pub returns-clause-found : goal.returns-clause-found
returns-clause-found c =
    λ _. c.in_ok-found.ensures
    ∙ read_row (tree_at c.args.self.now.trees c.args.tree) c.args.node c.in-Some.row (c.in-Some.ensures.row ∙ ap (λ (run : List (ℕ × Row)). slice_get run c.args.node) c.in_ok-rows.ensures.rows)
