use Rattle.std.proofs.lemmas.Result.{IfOk-weaker}
use Rattle.xq_optimise.proofs.EqualitiesFirst.{same_then}
use Rattle.xq_optimise.proofs.Splitting.{filter_same_on}
use Rattle.xq_optimise.proofs.comparisons.spliced_after.Goals as goal

pub returns : goal.returns
returns c =
    let known = c.args.known.now in
    IfOk-weaker c.ordered.result _ _
    (λ found h. filter_same_on known c.args.start.now c.args.predicates found (c.gives_nodes.ensures c.if-not-gives_nodes.false)
    (same_then known c.args.predicates c.in_ok-found.found found c.in_ok-found.ensures h)) c.ordered.ensures
