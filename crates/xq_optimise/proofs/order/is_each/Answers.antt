use Rattle.std.proofs.Common.{ap, refl, ◌∙◌}
use Rattle.xq_expressions.specs.declared.operators.AllowingEmpty.TheVariants as allowing
use Rattle.xq_meaning.specs.declared.plans.PlanClause.TheVariants as clause
use Rattle.xq_optimise.proofs.order.is_each.Goals as goal

pub returns : goal.returns
returns c = λ e.
    let range = c.in-For.range in (
      range,
      c.in-For.is ∙ ap (λ x. clause.For x c.in-For.at range) (c.if-not-drops_empty.ensures refl) ∙ ap (λ b. clause.For allowing.No b range) c.if-at.false,
      c.is_nodes.ensures.sure e,
      c.is_nodes.ensures.below e,
    )
