use Rattle.std.proofs.Common.{◌≡◌, ℕ, ◌-◌, refl, sym, ◌∙◌, arith}
use Rattle.smallvec.specs.SmallVec.{SmallVec}
use Rattle.xq_trees.specs.Forest.{count}
use Rattle.xq_trees.specs.Tree.{nodes}
use Rattle.xq_trees.specs.declared.Axis.TheVariants as axis
use Rattle.xq_sources.specs.Sources.{tree_at}
use Rattle.xq_axes.specs.Reads.{span, span_end}
use Rattle.xq_axes.specs.private.Hits.{is_wanted, below_where}
use Rattle.xq_axes.proofs.Sizes.{OnOk-if}
use Rattle.xq_axes.proofs.Ranges.{preceding_all, preceding_none, unwanted}
use Rattle.xq_axes.proofs.Scans.{before_bound}
use Rattle.xq_axes.proofs.passing.walk_before.Goals as goal

pub returns-then-last-eq0-clause-found : goal.returns-then-last-eq0-clause-found
returns-then-last-eq0-clause-found g c = λ k l. (
    let vs = c.args.places.now in
    let t = tree_at (g.L.TreeSource.forest c.args.source.now) c.args.tree in
    c.new.ensures.items ∙ sym (unwanted axis.Preceding c.args.test.now t vs 0 (count (nodes t)) (omega arith) (λ p x y. preceding_none t vs c.args.last p l (omega arith))))

pub returns-clause-found : goal.returns-clause-found
returns-clause-found g c = λ k l. (
    let vs = c.args.places.now in
    let t = tree_at (g.L.TreeSource.forest c.args.source.now) c.args.tree in
    let last = c.args.last in
    let test = c.args.test.now in
    let w = c.search_rows.ensures.found k (refl, l) refl in
    OnOk-if c.search_rows.result (λ (found : SmallVec ℕ). found.items ≡ below_where (is_wanted axis.Preceding test t vs) (span_end t (span 0 (last - 1)))) (λ (found : SmallVec ℕ). found.items ≡ below_where (is_wanted axis.Preceding test t vs) (count (nodes t)))
    (λ found e. e ∙ preceding_all test t vs last l (omega arith)) w)

pub returns-clause-rows : goal.returns-clause-rows
returns-clause-rows g c = λ k l. (
    let vs = c.args.places.now in
    let t = tree_at (g.L.TreeSource.forest c.args.source.now) c.args.tree in
    let b = before_bound t vs c.args.last l (omega arith) in
    let r = c.search_rows.ensures.rows k in
    omega (arith, b, r))
