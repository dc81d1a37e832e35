use Rattle.std.proofs.Common.{◌++◌, refl}
use Rattle.std.proofs.lemmas.Result.{IfOk-weaker}
use Rattle.xq_optimise.specs.private.Conjuncts.{as_one}
use Rattle.xq_optimise.proofs.Splitting.{parts_splice}
use Rattle.xq_optimise.proofs.predicates.split.Goals as goal

pub returns : goal.returns
returns c =
    let made = c.in_ok-conjuncts.conjuncts in
    IfOk-weaker c.with_parted.result _ _
    (λ after h. parts_splice c.args.known.now c.args.parts made.first made.position made.tests c.args.found
    (c.args.found ++ made.first) ((c.args.found ++ made.first) ++ as_one made.position) after
    c.in_ok-conjuncts.ensures refl refl h) c.with_parted.ensures
