use Rattle.std.proofs.Common.{◌≡◌, ◌∙◌, arith}
use Rattle.xq_trees.specs.Forest.{count}
use Rattle.xq_trees.specs.Tree.{nodes}
use Rattle.xq_sources.specs.Sources.{tree_at}
use Rattle.xq_axes.specs.private.Hits.{below_where}
use Rattle.xq_axes.proofs.Named.{is_named_at, named_below}
use Rattle.xq_axes.proofs.NamedAround.{named_apart}
use Rattle.xq_axes.proofs.names.named_before.Goals as goal

pub returns : goal.returns
returns g c = λ k there is. (
    let t = tree_at (g.L.TreeSource.forest c.args.source.now) c.args.tree in
    let name = c.in-Some.name.now in
    let places : c.in-Some-named.places.now ≡ below_where (is_named_at t name) (count (nodes t)) = c.in-Some-named.ensures k ∙ named_below t name in
    c.from_vec.ensures.items
    ∙ named_apart t c.args.test.now name c.args.node c.args.above.now c.in_ok-kept.kept.items c.in-Some.ensures is (c.in_ok-kept.ensures (is_named_at t name) (count (nodes t)) places (omega (arith, there))))
