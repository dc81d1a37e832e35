use Rattle.std.proofs.Common.{sym, ap, ◌∙◌, subst}
use Rattle.xq_meaning.specs.declared.plans.Plan.TheVariants as plan
use Rattle.xq_expressions.specs.Scopes.{last_place}
use Rattle.xq_plan.specs.private.Plans.{IsVariable}
use Rattle.xq_plan.proofs.Forms.{slot_plan, no_slot_plan}
use Rattle.xq_plan.proofs.walk.variable.Goals as goal

pub returns-in-Some : goal.returns-in-Some
returns-in-Some c =
    slot_plan c.args.scope.now c.args.name.now c.in-Some.slot
    (ap (λ v. last_place v 0 c.args.scope.now) (sym c.as_str.ensures) ∙ sym c.slot.ensures ∙ c.in-Some.is)

pub returns-in-None : goal.returns-in-None
returns-in-None c =
    subst (λ parts. IsVariable c.args.scope.now c.args.name.now (plan.Sequence parts)) (sym c.new.ensures)
    (no_slot_plan c.args.scope.now c.args.name.now
    (ap (λ v. last_place v 0 c.args.scope.now) (sym c.as_str.ensures) ∙ sym c.slot.ensures ∙ c.in-None.is))
