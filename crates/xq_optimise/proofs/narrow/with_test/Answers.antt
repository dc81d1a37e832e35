use Rattle.std.proofs.Common.{Option, subst}
use Rattle.std.specs.Prelude.{IfSome}
use Rattle.std.proofs.lemmas.Result.{IfOk-weaker}
use Rattle.xq_meaning.specs.declared.plans.Plan.{Plan}
use Rattle.xq_optimise.specs.private.Ranges.{TellsOfNode}
use Rattle.xq_optimise.proofs.NarrowRanges.{narrows, not_narrowed}
use Rattle.xq_optimise.proofs.narrow.with_test.Goals as goal

pub returns-in-Some : goal.returns-in-Some
returns-in-Some c =
    let known = c.args.known.now in
    let tells = subst (λ (t : Plan). TellsOfNode known t c.in-Some.predicate) c.get.ensures
    (subst (λ (o : Option Plan). IfSome o (λ part. TellsOfNode known c.get.result.now part)) c.in-Some.is c.in_ok-predicate.ensures) in
    IfOk-weaker c.with_kept.result _ _
    (λ after h. narrows known c.args.range c.args.test c.in-Some.predicate tells c.args.left.items after.items h) c.with_kept.ensures

pub returns-in-None : goal.returns-in-None
returns-in-None c =
    IfOk-weaker c.with_both.result _ _
    (λ after h. λ holds leaves. not_narrowed c.args.known.now _ after.items h) c.with_both.ensures
