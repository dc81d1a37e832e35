use Rattle.std.proofs.Common.{◌≡◌, ◌∙◌}
use Rattle.xq_trees.specs.Forest.{count}
use Rattle.xq_trees.specs.Tree.{nodes}
use Rattle.xq_sources.specs.Sources.{tree_at}
use Rattle.xq_axes.specs.private.Hits.{below_where}
use Rattle.xq_axes.proofs.Named.{is_named_at, named_below, told}
use Rattle.xq_axes.proofs.names.add_named.Goals as goal

pub returns-clause-added : goal.returns-clause-added
returns-clause-added g c = λ k wanted is h all o _. (
    let t = tree_at (g.L.TreeSource.forest c.args.source.now) c.args.tree in
    let name = c.in-Some.name.now in
    let places : c.in-Some-named.places.now ≡ below_where (is_named_at t name) (count (nodes t)) = c.in-Some-named.ensures k ∙ named_below t name in
    c.in_ok-extend.ensures.ok
    ∙ told t c.args.test.now name wanted c.args.low c.args.high c.args.found.now.items c.places_between.result.now c.in-Some.ensures is h o (c.places_between.ensures (is_named_at t name) (count (nodes t)) places h all))
