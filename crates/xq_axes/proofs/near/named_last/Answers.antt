use Rattle.std.proofs.Common.{◌≡◌, ◌∷◌, [], suc, ◌∙◌, arith}
use Rattle.std.specs.Prelude.{filter}
use Rattle.std.proofs.lemmas.Option.{IfSome_then}
use Rattle.xq_trees.specs.Forest.{count}
use Rattle.xq_trees.specs.Tree.{nodes}
use Rattle.xq_trees.specs.declared.Axis.TheVariants as axis
use Rattle.xq_sources.specs.Sources.{tree_at}
use Rattle.xq_axes.specs.private.Hits.{is_wanted, below_where}
use Rattle.xq_axes.specs.private.Named.{is_below_one}
use Rattle.xq_axes.specs.private.Near.{EndWith}
use Rattle.xq_axes.proofs.Last.{last_named}
use Rattle.xq_axes.proofs.Named.{is_named_at, named_below}
use Rattle.xq_axes.proofs.OneNode.{starts_there}
use Rattle.xq_axes.proofs.Sizes.{node_of}
use Rattle.xq_axes.proofs.near.named_last.Goals as goal

pub returns : goal.returns
returns g c = λ k is. (
    let t = tree_at (g.L.TreeSource.forest c.args.source.now) c.args.tree in
    let owner = c.args.owner in
    let test = c.args.test.now in
    let name = c.in_ok-name.name.now in
    let all = c.in_ok-named.named.now in
    let part = c.places_between-below.result.now in
    let low = c.saturating_add.result in
    let from : low ≡ suc owner.place = starts_there t owner low is c.saturating_add.ensures in
    let last = is.last in
    let ends = (node_of t owner.place is.is_there).ends in
    let places : all ≡ below_where (is_named_at t name) (count (nodes t)) = c.in_ok-named.ensures k ∙ named_below t name in
    let cut = c.places_between-below.ensures (is_named_at t name) (count (nodes t)) places (omega (arith, from, last)) (omega (arith, last, ends)) in
    IfSome_then c.told_last.result {P = λ child. EndWith (filter (is_below_one t (owner.place ∷ [])) part) child} {Q = λ child. EndWith (below_where (is_wanted axis.Child test t (owner.place ∷ [])) (count (nodes t))) child}
    (c.told_last.ensures k) (λ child end. last_named t owner test name low child part is c.in_ok-name.ensures from cut end))
