use Rattle.std.proofs.Common.{ℕ, sym, ap, subst, ◌∙◌}
use Rattle.std.specs.Prelude.{IfSome}
use Rattle.xq_trees.specs.Rows.{Row, rows, row_at}
use Rattle.xq_packed.specs.PackedTrees.{AreLevels}
use Rattle.xq_sources.specs.Lent.{placed_lent}
use Rattle.xq_sources.specs.Meters.{Readings}
use Rattle.xq_sources.specs.Sources.{tree_at}
use Rattle.xq_axes.specs.Reads.{span, span_end, AreCopied}
use Rattle.xq_axes.proofs.Sizes.{one_row, size_read}
use Rattle.xq_axes.proofs.Copying.{copied_none, copied_tree}
use Rattle.xq_axes.proofs.Counts.{copy_counted}
use Rattle.xq_axes.proofs.copies.copy.Goals as goal

pub returns-clause-copied : goal.returns-clause-copied
returns-clause-copied g c = λ k. (
    let trees = g.L.TreeSource.forest c.args.source.now in
    let node = c.args.node in
    let t = tree_at trees node.tree in
    let was = c.in_ok-walk.ensures.was_clean k in
    let there = c.in_ok-fetch_row.ensures.exists was in
    let x = c.in-Some.row in
    let read = one_row c.lent.result (placed_lent x) (node.pre, row_at (rows t) node.pre) (c.lent.ensures ∙ c.in_ok-fetch_row.ensures.found was) c.in-Some.ensures.row in
    let sized = size_read trees node x there read (c.in_ok-fetch_row.ensures.is_tree was) in
    let high = c.saturating_add-high.result in
    let start = subst (AreCopied t (span node.pre high) node.pre x.level) (sym c.new.ensures.rows)
    (copied_none t (span node.pre high) x.level (ap (λ (p : ℕ × Row). p.1.level) read)) in
    let w = subst (λ f. AreCopied (tree_at f node.tree) (span node.pre high) node.pre x.level c.new.result.rows → AreCopied (tree_at f node.tree) (span node.pre high) (span_end (tree_at f node.tree) (span node.pre high)) c.walk.new.visitor.level c.walk.new.visitor.rows.rows) c.in_ok-fetch_row.ensures.keeps (c.in_ok-walk.ensures.read k c.walk.new.visitor) start in
    copied_tree t c.in-Some-2.copy node.pre x.size _ high _ sized c.saturating_add-high.ensures w (subst (λ found. IfSome found (AreLevels c.walk.new.visitor.rows.rows)) c.in-Some-2.is c.in_ok-copy.ensures.some))

pub returns-in_err-walk-clause-rows : goal.returns-in_err-walk-clause-rows
returns-in_err-walk-clause-rows g c = λ k. (
    let trees = g.L.TreeSource.forest c.args.source.now in
    let node = c.args.node in
    let was = c.walk.ensures.was_clean k in
    let x = c.in-Some.row in
    let read = one_row c.lent.result (placed_lent x) (node.pre, row_at (rows (tree_at trees node.tree)) node.pre) (c.lent.ensures ∙ c.in_ok-fetch_row.ensures.found was) c.in-Some.ensures.row in
    copy_counted trees node x (tree_at (g.L.TreeSource.forest c.fetch_row.new.self) node.tree) c.saturating_add-high.result _ (g.L.TreeSource.meter c.fetch_row.new.self).rows _ (c.in_ok-fetch_row.ensures.exists was) read c.saturating_add-high.ensures
    (ap (λ (m : Readings). m.rows) c.in_ok-fetch_row.ensures.counts) (c.walk.ensures.rows k))

pub returns-in_err-copy-clause-rows : goal.returns-in_err-copy-clause-rows
returns-in_err-copy-clause-rows g c = λ k. (
    let trees = g.L.TreeSource.forest c.args.source.now in
    let node = c.args.node in
    let was = c.walk.ensures.was_clean k in
    let x = c.in-Some.row in
    let read = one_row c.lent.result (placed_lent x) (node.pre, row_at (rows (tree_at trees node.tree)) node.pre) (c.lent.ensures ∙ c.in_ok-fetch_row.ensures.found was) c.in-Some.ensures.row in
    copy_counted trees node x (tree_at (g.L.TreeSource.forest c.fetch_row.new.self) node.tree) c.saturating_add-high.result _ (g.L.TreeSource.meter c.fetch_row.new.self).rows _ (c.in_ok-fetch_row.ensures.exists was) read c.saturating_add-high.ensures
    (ap (λ (m : Readings). m.rows) c.in_ok-fetch_row.ensures.counts) (c.walk.ensures.rows k))

pub returns-in_default-2-clause-rows : goal.returns-in_default-2-clause-rows
returns-in_default-2-clause-rows g c = λ k. (
    let trees = g.L.TreeSource.forest c.args.source.now in
    let node = c.args.node in
    let was = c.walk.ensures.was_clean k in
    let x = c.in-Some.row in
    let read = one_row c.lent.result (placed_lent x) (node.pre, row_at (rows (tree_at trees node.tree)) node.pre) (c.lent.ensures ∙ c.in_ok-fetch_row.ensures.found was) c.in-Some.ensures.row in
    copy_counted trees node x (tree_at (g.L.TreeSource.forest c.fetch_row.new.self) node.tree) c.saturating_add-high.result _ (g.L.TreeSource.meter c.fetch_row.new.self).rows _ (c.in_ok-fetch_row.ensures.exists was) read c.saturating_add-high.ensures
    (ap (λ (m : Readings). m.rows) c.in_ok-fetch_row.ensures.counts) (c.walk.ensures.rows k))

pub returns-clause-rows : goal.returns-clause-rows
returns-clause-rows g c = λ k. (
    let trees = g.L.TreeSource.forest c.args.source.now in
    let node = c.args.node in
    let was = c.walk.ensures.was_clean k in
    let x = c.in-Some.row in
    let read = one_row c.lent.result (placed_lent x) (node.pre, row_at (rows (tree_at trees node.tree)) node.pre) (c.lent.ensures ∙ c.in_ok-fetch_row.ensures.found was) c.in-Some.ensures.row in
    copy_counted trees node x (tree_at (g.L.TreeSource.forest c.fetch_row.new.self) node.tree) c.saturating_add-high.result _ (g.L.TreeSource.meter c.fetch_row.new.self).rows _ (c.in_ok-fetch_row.ensures.exists was) read c.saturating_add-high.ensures
    (ap (λ (m : Readings). m.rows) c.in_ok-fetch_row.ensures.counts) (c.walk.ensures.rows k))
