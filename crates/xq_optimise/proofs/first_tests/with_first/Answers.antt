use Rattle.std.proofs.Common.{◌≡◌, ◌∷◌, ap, false, refl, reverse, rules, subst, sym, ◌∙◌}
use Rattle.std.specs.Prelude.{IfOk}
use Rattle.xq_expressions.specs.declared.operators.AllowingEmpty.TheVariants as allowing
use Rattle.xq_meaning.specs.declared.plans.PlanClause.TheVariants as clause
use Rattle.xq_optimise.specs.private.FirstTests.{SameClausesOf}
use Rattle.xq_optimise.proofs.first_tests.with_first.Goals as goal

pub returns-then-gives_nodes-clause-same : goal.returns-then-gives_nodes-clause-same
returns-then-gives_nodes-clause-same c =
    let known = c.args.known.now.items in
    let alone : c.in-For.at ≡ false = search rules in
    let drops = c.if-drops_empty.ensures refl in
    let is = c.in-For.is ∙ ap (λ e. clause.For e c.in-For.at c.in-For.range) drops ∙ ap (λ b. clause.For allowing.No b c.in-For.range) alone in
    subst (λ x. IfOk c.with_for.result (λ after. SameClausesOf known (x ∷ reverse c.args.left.items) (reverse after.items))) (sym is) c.with_for.ensures.same
