use Rattle.xq_sources.specs.Sources.{tree_at}
use Rattle.std.proofs.Common.{◌∙◌}
use Rattle.xq_axes.proofs.Ancestors.{climbed_more, climbed_all}
use Rattle.xq_axes.proofs.climbing.climb.Goals as goal

pub returns-then-parent-eq0-clause-above : goal.returns-then-parent-eq0-clause-above
returns-then-parent-eq0-clause-above g c = λ k.
    let t = tree_at (g.L.TreeSource.forest c.args.source.now) c.args.tree in
    let q = c.in-Some.ensures k (c.parents-kept.ensures k) in
    let climbed = climbed_more t c.args.node c.loop.place c.in-Some.parent c.loop.above.items c.push.new.self.items q c.in_ok-push.ensures.items (c.loop.invariant k) in
    c.reverse.ensures.items ∙ climbed_all t c.args.node c.in-Some.parent c.push.new.self.items c.if-parent-eq0.true climbed

pub loop-preserved : goal.loop-preserved
loop-preserved g c = λ k.
    let t = tree_at (g.L.TreeSource.forest c.args.source.now) c.args.tree in
    let q = c.in-Some.ensures k (c.parents-kept.ensures k) in
    climbed_more t c.args.node c.loop.place c.in-Some.parent c.loop.above.items c.push.new.self.items q c.in_ok-push.ensures.items (c.loop.invariant k)
