use Rattle.std.proofs.Common.{◌∷◌, [], false, length, refl, reverse, subst}
use Rattle.std.proofs.lemmas.Result.{IfOk-weaker}
use Rattle.xq_expressions.specs.declared.operators.AllowingEmpty.TheVariants as allowing
use Rattle.xq_meaning.specs.declared.plans.Plan.TheVariants as plan
use Rattle.xq_meaning.specs.declared.plans.PlanClause.TheVariants as clause
use Rattle.xq_optimise.specs.private.FirstTests.{IsPlaced}
use Rattle.xq_optimise.proofs.FirstTests.{first_test, then_clauses}
use Rattle.xq_optimise.proofs.first_tests.with_test.Goals as goal

pub returns-in-Predicate-clause-same : goal.returns-in-Predicate-clause-same
returns-in-Predicate-clause-same c =
    let known = c.args.known.now.items in
    let test = c.args.test in
    let predicate = c.in-Predicate.predicate in
    let rest = reverse c.args.left.items in
    let cs = clause.For allowing.No false c.args.range ∷ clause.Where test ∷ rest in
    let ds = clause.For allowing.No false (plan.Filter c.args.range (predicate ∷ [])) ∷ rest in
    let decides = subst (IsPlaced (length known) test) c.in-Predicate.is (subst (λ k. IsPlaced (length k) test c.in_ok-predicate.field-0) c.deref.ensures.value c.in_ok-predicate.ensures) in
    IfOk-weaker c.with_predicate.result _ _
    (λ after h. then_clauses known cs ds (reverse after.items) (first_test known c.args.range test predicate cs ds rest c.requires decides refl refl) h) c.with_predicate.ensures.same
