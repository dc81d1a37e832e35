use Rattle.std.proofs.Common.{ℕ, ap, ◌∙◌, arith}
use Rattle.xq_trees.specs.Rows.{Row, rows, row_at}
use Rattle.xq_sources.specs.Lent.{placed_lent}
use Rattle.xq_sources.specs.Sources.{tree_at}
use Rattle.xq_axes.proofs.Sizes.{one_row, node_of}
use Rattle.xq_axes.proofs.passing.end_of_node.Goals as goal

pub returns-clause-end : goal.returns-clause-end
returns-clause-end g c = λ k. (
    let t = tree_at (g.L.TreeSource.forest c.args.source.now) c.args.tree in
    let v = c.args.place in
    let there = (c.in_ok-fetch_row.ensures.exists k).node_in in
    let x = c.in-Some.row in
    let read = one_row c.lent.result (placed_lent x) (v, row_at (rows t) v) (c.lent.ensures ∙ c.in_ok-fetch_row.ensures.found k) c.in-Some.ensures.row in
    let pre = ap (λ (p : ℕ × Row). p.0) read in
    let size = ap (λ (p : ℕ × Row). p.1.size) read in
    let e = c.end_of_row.ensures.end in
    record {
      is_tree = c.in_ok-fetch_row.ensures.is_tree k;
      is = omega (arith, e, pre, size);
      within = (let w = (node_of t v there).ends in omega (arith, e, pre, size, w));
    })
