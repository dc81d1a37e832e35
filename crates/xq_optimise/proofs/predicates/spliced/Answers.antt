use Rattle.std.proofs.lemmas.Result.{IfOk-weaker}
use Rattle.xq_optimise.proofs.EqualitiesFirst.{same_then}
use Rattle.xq_optimise.proofs.predicates.spliced.Goals as goal

pub returns : goal.returns
returns c =
    IfOk-weaker c.all_plain.result _ _
    (λ found h. same_then c.args.known.now c.args.predicates c.in_ok-split.split found c.in_ok-split.ensures h) c.all_plain.ensures
