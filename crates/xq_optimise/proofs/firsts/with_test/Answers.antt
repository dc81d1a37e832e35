use Rattle.std.proofs.Common.{◌++◌, ◌∷◌, [], true, Option, subst}
use Rattle.std.specs.Prelude.{IfSome}
use Rattle.std.proofs.lemmas.Result.{IfOk-weaker}
use Rattle.xq_expressions.specs.declared.operators.AllowingEmpty.TheVariants as allowing
use Rattle.xq_meaning.specs.declared.plans.Plan.{Plan}
use Rattle.xq_meaning.specs.declared.plans.PlanClause.TheVariants as clause
use Rattle.xq_optimise.specs.private.Firsts.{KeepsFirsts}
use Rattle.xq_optimise.specs.private.Ranges.{IsNarrower}
use Rattle.xq_optimise.proofs.FirstItems.{firsts_narrow}
use Rattle.xq_optimise.proofs.firsts.with_test.Goals as goal

pub returns-in-Some : goal.returns-in-Some
returns-in-Some c =
    let known = c.args.known.now in
    let left = c.args.left.items in
    let range = c.in_ok-range.range in
    let test = c.in_ok-test.test in
    let keeps = subst (λ (t : Plan). KeepsFirsts known t c.in-Some.predicate) c.get.ensures
    (subst (λ (o : Option Plan). IfSome o (λ part. KeepsFirsts known c.get.result.now part)) c.in-Some.is c.in_ok-predicate.ensures) in
    IfOk-weaker c.with_kept.result _ _
    (λ after h.
    subst (λ (t : Plan). IsNarrower known ((left ++ clause.Where t ∷ []) ++ clause.For allowing.No true c.args.range ∷ []) after.items) c.in_ok-test.ensures
    (subst (λ (r : Plan). IsNarrower known ((left ++ clause.Where test ∷ []) ++ clause.For allowing.No true r ∷ []) after.items) c.in_ok-range.ensures
    (firsts_narrow known range test c.in-Some.predicate keeps left after.items h))) c.with_kept.ensures
