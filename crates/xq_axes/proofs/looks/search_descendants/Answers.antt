use Rattle.std.proofs.Common.{◌≤◌, ◌+◌, length, subst}
use Rattle.xq_trees.specs.declared.Axis.TheVariants as axes
use Rattle.xq_sources.specs.Sources.{tree_at}
use Rattle.xq_axes.specs.Scans.{region}
use Rattle.xq_axes.proofs.Seen.{seen_after}
use Rattle.xq_axes.proofs.looks.search_descendants.Goals as goal

pub returns-in-None-clause-sees : goal.returns-in-None-clause-sees
returns-in-None-clause-sees g c = λ k.
    let meter = g.L.TreeSource.meter in
    let tree = c.args.tree in
    let vs = c.args.places.now in
    let was = c.search_below.ensures.was_clean k in
    let now = meter c.look_below.new.source in
    let after = meter c.search_below.new.source in
    let rows = subst (λ f. after.rows ≤ now.rows + length (region axes.Descendant (tree_at f tree) vs)) c.in_ok-found.ensures.keeps (c.search_below.ensures.rows k) in
    seen_after axes.Descendant (tree_at (g.L.TreeSource.forest c.args.source.now) tree) vs (meter c.args.source.now) now after c.in_ok-found.ensures.rows (c.in_ok-found.ensures.unseen was c.in-None.is) rows c.search_below.ensures.looks
