use Rattle.std.proofs.Common.{◌∙◌, sym, ap, subst}
use Rattle.std.specs.Prelude.{IfSome}
use Rattle.xq_expressions.specs.declared.signatures.Function.{Function}
use Rattle.xq_meaning.specs.declared.plans.Plan.TheVariants as plan
use Rattle.xq_eval.specs.private.Told.{CallsOnItem}
use Rattle.xq_eval.proofs.ItemCalls.{on_context}
use Rattle.xq_eval.proofs.told.asked.Goals as goal

pub returns-in-Some : goal.returns-in-Some
returns-in-Some c = subst (λ p. IfSome c.asked_alone.result (λ (f : Function). CallsOnItem f p)) (sym c.in-Some.ensures) c.asked_alone.ensures

pub returns-then-is_on_context : goal.returns-then-is_on_context
returns-then-is_on_context c =
    let function = c.in-Call.function in
    let parts = c.as_slice.result.now in
    subst (CallsOnItem function) (sym (c.in-Call.is ∙ ap (plan.Call function) (sym c.as_slice.ensures))) (on_context function parts (c.is_on_context.ensures c.if-is_on_context.true))
