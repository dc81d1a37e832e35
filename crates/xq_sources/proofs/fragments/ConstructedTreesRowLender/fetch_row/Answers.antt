use Rattle.std.proofs.Common.{◌∙◌, ap, length, rules, arith}
use Rattle.std.specs.Prelude.{slice_get}
use Rattle.xq_sources.specs.Sources.{tree_at}
use Rattle.xq_sources.specs.private.Runs.{rows_of_run}
use Rattle.xq_sources.proofs.ReadRows.{no_rows, read_one, node_within}
use Rattle.xq_sources.proofs.fragments.ConstructedTreesRowLender.fetch_row.Goals as goal

pub returns-clause-exists : goal.returns-clause-exists
returns-clause-exists c =
    let all = ap length c.in_ok-rows.ensures.rows in
    λ _. record {
      tree_in = c.in_ok-rows.ensures.exists;
      node_in = node_within (tree_at c.args.self.now.trees c.args.tree) c.args.node (omega (arith, c.if-node-len.false, c.len.ensures, all));
    }

pub returns-clause-found : goal.returns-clause-found
returns-clause-found c =
    let all = ap length c.in_ok-rows.ensures.rows in
    λ _. ap (λ held. rows_of_run held c.args.node c.args.node) c.in_ok-rows.ensures.held
    ∙ read_one (tree_at c.args.self.now.trees c.args.tree) c.args.node (omega (arith, c.if-node-len.false, c.len.ensures, all))

pub returns-clause-one : goal.returns-clause-one
returns-clause-one c = ap length (returns-clause-found c tt)

pub returns-in_err-rows-clause-refused : goal.returns-in_err-rows-clause-refused
returns-in_err-rows-clause-refused c = let none = no_rows (slice_get c.args.self.now.trees 0) in search rules

pub returns-then-node-len-clause-refused : goal.returns-then-node-len-clause-refused
returns-then-node-len-clause-refused c = let none = no_rows (slice_get c.args.self.now.trees 0) in search rules
