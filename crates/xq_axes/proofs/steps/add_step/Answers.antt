use Rattle.std.proofs.Common.{◌≡◌, ◌≤◌, ◌+◌, length, ◌++◌, ◌||◌, Bool, map, sym, subst, ◌∙◌}
use Rattle.std.specs.List.{list_any}
use Rattle.xq_trees.specs.declared.items.Node.{Node}
use Rattle.xq_trees.specs.Forest.{count}
use Rattle.xq_trees.specs.Tree.{nodes}
use Rattle.xq_sources.specs.Sources.{tree_at}
use Rattle.xq_axes.specs.private.Hits.{is_wanted, below_where, IsRising}
use Rattle.xq_axes.specs.Many.{spot, is_found_from, AreThere}
use Rattle.xq_axes.specs.Scans.{region, rows_from}
use Rattle.xq_sources.specs.Meters.{SeesAtMost}
use Rattle.xq_axes.proofs.Many.{added}
use Rattle.xq_axes.proofs.Sizes.{OnOk-then}
use Rattle.xq_axes.proofs.steps.add_step.Goals as goal

pub returns-clause-found : goal.returns-clause-found
returns-clause-found g c = λ k up there. (
    let trees = g.L.TreeSource.forest c.args.source.now in
    let tree = c.args.contexts.now.tree in
    let t = tree_at trees tree in
    let vs = c.args.contexts.now.places.items in
    let axis = c.args.axis in
    let test = c.args.test.now in
    let old = c.args.found.now.items in
    let new = c.add_nodes.new.found.items in
    let ps = c.as_slice.result.now in
    let v = c.deref.ensures.value in
    let e = c.in_ok-places.ensures.found k (subst (AreThere trees tree) (sym v) there) (subst (λ ws. IsRising ws) (sym v) up) in
    let e_vs = subst (λ ws. c.in_ok-places.places.items ≡ below_where (is_wanted axis test t ws) (count (nodes t))) v e in
    OnOk-then c.add_nodes.result (new ≡ old ++ map (spot tree) ps) ((p : Node → Bool) → list_any p new ≡ (list_any p old || list_any (is_found_from trees axis test p) (map (spot tree) vs)))
    (λ m. added trees axis test tree vs ps old new (c.as_slice.ensures ∙ e_vs) m) c.add_nodes.ensures.nodes)

pub returns-clause-rows : goal.returns-clause-rows
returns-clause-rows g c = λ k up. (
    let t = tree_at (g.L.TreeSource.forest c.args.source.now) c.args.contexts.now.tree in
    let v = c.deref.ensures.value in
    subst (λ ws. (g.L.TreeSource.meter c.search.new.source).rows ≤ (g.L.TreeSource.meter c.args.source.now).rows + length (region c.args.axis t ws)) v (c.in_ok-places.ensures.rows k (subst (λ ws. IsRising ws) (sym v) up)))

pub returns-clause-singles : goal.returns-clause-singles
returns-clause-singles g c = subst (λ ws. (g.L.TreeSource.meter c.search.new.source).singles ≤ (g.L.TreeSource.meter c.args.source.now).singles + length ws) c.deref.ensures.value (c.in_ok-places.ensures.singles)

pub returns-in_err-places-clause-rows : goal.returns-in_err-places-clause-rows
returns-in_err-places-clause-rows g c = λ k up. (
    let t = tree_at (g.L.TreeSource.forest c.args.source.now) c.args.contexts.now.tree in
    let v = c.deref.ensures.value in
    subst (λ ws. (g.L.TreeSource.meter c.search.new.source).rows ≤ (g.L.TreeSource.meter c.args.source.now).rows + length (region c.args.axis t ws)) v (c.in_err-places.ensures.rows k (subst (λ ws. IsRising ws) (sym v) up)))

pub returns-in_err-places-clause-singles : goal.returns-in_err-places-clause-singles
returns-in_err-places-clause-singles g c = subst (λ ws. (g.L.TreeSource.meter c.search.new.source).singles ≤ (g.L.TreeSource.meter c.args.source.now).singles + length ws) c.deref.ensures.value (c.in_err-places.ensures.singles)

pub returns-clause-sees : goal.returns-clause-sees
returns-clause-sees g c = λ k up. (
    let t = tree_at (g.L.TreeSource.forest c.args.source.now) c.args.contexts.now.tree in
    let v = c.deref.ensures.value in
    subst (λ ws. SeesAtMost (g.L.TreeSource.meter c.args.source.now) (g.L.TreeSource.meter c.search.new.source) (rows_from t ws)) v (c.in_ok-places.ensures.sees k (subst (λ ws. IsRising ws) (sym v) up)))

pub returns-in_err-places-clause-sees : goal.returns-in_err-places-clause-sees
returns-in_err-places-clause-sees g c = λ k up. (
    let t = tree_at (g.L.TreeSource.forest c.args.source.now) c.args.contexts.now.tree in
    let v = c.deref.ensures.value in
    subst (λ ws. SeesAtMost (g.L.TreeSource.meter c.args.source.now) (g.L.TreeSource.meter c.search.new.source) (rows_from t ws)) v (c.in_err-places.ensures.sees k (subst (λ ws. IsRising ws) (sym v) up)))
