use Rattle.std.proofs.Common.{◌≡◌, ◌+◌, sym, ap, ◌∙◌, arith}
use Rattle.xq_sources.specs.Sources.{tree_at}
use Rattle.xq_axes.specs.Reads.{joined_texts}
use Rattle.xq_axes.proofs.Sizes.{rows_to-none, texts_of_walk}
use Rattle.xq_axes.proofs.values.texts_below.Goals as goal

pub returns-clause-value : goal.returns-clause-value
returns-clause-value g c = λ k there size. (
    let t = tree_at (g.L.TreeSource.forest c.args.source.now) c.args.node.tree in
    let v = c.args.node.pre in
    let low = c.in-Some-Some.low in
    let high = c.in-Some-Some.high in
    let from : low ≡ v + 1 = omega (arith, c.in-Some-Some.ensures, c.in-Some-Some.ensures', c.in-Some-Some.low-is) in
    let to : high ≡ v + c.args.size = omega (arith, c.in-Some-Some.ensures, c.in-Some-Some.ensures') in
    let start = c.new.ensures.bytes ∙ sym (ap joined_texts (rows_to-none t low)) in
    texts_of_walk t v c.args.size low high _ there.node_in size from to (c.in_ok-walk.ensures.read k c.walk.new.visitor start))
