use Rattle.std.proofs.Common.{◌<◌, length, get_or, arith}
use Rattle.xq_trees.specs.declared.Axis.TheVariants as axes
use Rattle.xq_sources.specs.Sources.{tree_at}
use Rattle.xq_axes.proofs.Seen.{seen_one}
use Rattle.xq_axes.proofs.children.search_children.Goals as goal

pub returns-in-len1-clause-sees : goal.returns-in-len1-clause-sees
returns-in-len1-clause-sees g c = λ k.
    let vs = c.args.places.now in
    let some : 0 < length vs = (let one = c.in-len1.len_at_least in omega (arith, one)) in
    seen_one axes.Child (tree_at (g.L.TreeSource.forest c.args.source.now) c.args.tree) (get_or vs 0 0) vs (g.L.TreeSource.meter c.args.source.now) (g.L.TreeSource.meter c.children_of.new.source) some (c.children_of.ensures.rows k) c.children_of.ensures.looks
