use Rattle.std.proofs.Common.{◌≡◌, ℕ, ap, ◌∙◌}
use Rattle.xq_trees.specs.Rows.{Row, rows, row_at}
use Rattle.xq_sources.specs.Lent.{placed_lent, row_lent}
use Rattle.xq_sources.specs.Sources.{tree_at}
use Rattle.xq_axes.proofs.OneNode.{ends_there}
use Rattle.xq_axes.proofs.Sizes.{one_row}
use Rattle.xq_axes.proofs.near.owner_at.Goals as goal

pub returns-clause-is : goal.returns-clause-is
returns-clause-is g c = λ k. (
    let t = tree_at (g.L.TreeSource.forest c.args.source.now) c.args.tree in
    let v = c.args.place in
    let there = c.in_ok-fetch_row.ensures.exists k in
    let x = c.in-Some.row in
    let read = one_row c.lent.result (placed_lent x) (v, row_at (rows t) v) (c.lent.ensures ∙ c.in_ok-fetch_row.ensures.found k) c.in-Some.ensures.row in
    let rx : row_lent x ≡ row_at (rows t) v = ap (λ (p : ℕ × Row). p.1) read in
    let is_tree = c.in_ok-fetch_row.ensures.is_tree k in
    record {
      is_tree = is_tree;
      is_there = there.node_in;
      level = ap (λ (r : Row). r.level) rx;
      last = ends_there t v x.size c.saturating_add.result (record { is_tree = is_tree; is_there = there.node_in; size = ap (λ (r : Row). r.size) rx }) c.saturating_add.ensures;
    })
