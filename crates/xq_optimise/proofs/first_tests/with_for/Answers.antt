use Rattle.std.proofs.Common.{◌∷◌, ap, false, reverse, subst, sym, ◌∙◌}
use Rattle.std.specs.Prelude.{IfOk}
use Rattle.xq_expressions.specs.declared.operators.AllowingEmpty.TheVariants as allowing
use Rattle.xq_meaning.specs.declared.plans.PlanClause.TheVariants as clause
use Rattle.xq_optimise.specs.private.FirstTests.{SameClausesOf}
use Rattle.xq_optimise.proofs.FirstTests.{with_one}
use Rattle.xq_optimise.proofs.first_tests.with_for.Goals as goal

pub returns-in-Where-clause-same : goal.returns-in-Where-clause-same
returns-in-Where-clause-same c =
    let known = c.args.known.now.items in
    let others = c.pop.new.self.items in
    let whole = with_one others c.args.left.items c.in-Some.next c.in-Some.ensures.items ∙ ap (λ x. x ∷ reverse others) c.in-Where.is in
    subst (λ l. IfOk c.with_test.result (λ after. SameClausesOf known (clause.For allowing.No false c.args.range ∷ l) (reverse after.items))) (sym whole) c.with_test.ensures.same
