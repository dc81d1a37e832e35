use Rattle.std.proofs.Common.{◌≡◌, take, drop, None, Ok, ap, sym, ◌∙◌, arith}
use Rattle.xq_atoms.specs.declared.refusals.Code.TheVariants.{XQST0094}
use Rattle.xq_plan.proofs.Flwor.{group_leads, refused_leads}
use Rattle.xq_plan.proofs.Groups.{slot_found, slot_missing, slots_done}
use Rattle.xq_expressions.specs.Scopes.{last_place, from_place}
use Rattle.xq_plan.proofs.walk.group.Goals as goal

pub returns : goal.returns
returns c =
    group_leads (take c.args.start c.args.scope.now) (drop c.args.start c.args.scope.now) c.args.variables.now c.loop-variable.slots
    (slots_done c.args.scope.now c.args.variables.now c.args.start c.loop-variable.variable-index c.loop-variable.slots c.loop-variable.invariant (omega (arith, c.loop-variable-test.false)))

pub loop-variable-preserved : goal.loop-variable-preserved
loop-variable-preserved c =
    slot_found c.args.scope.now c.args.variables.now c.args.start c.loop-variable.variable-index c.variable-item.result c.loop-variable.slots c.loop-variable.invariant
    (omega (arith, c.loop-variable-test.true)) c.variable-item.is c.in-Some.slot c.requires
    (sym c.in-Some.is ∙ c.slot_from.ensures ∙ ap (λ v. from_place c.args.start (last_place v 0 c.args.scope.now)) c.as_str.ensures)
    ∙ ap Ok (sym c.in_ok-push.ensures.ok)

pub returns-in_default : goal.returns-in_default
returns-in_default c =
    let none : None ≡ c.slot_from.result = sym c.in_default.is in
    refused_leads (take c.args.start c.args.scope.now) (drop c.args.start c.args.scope.now) c.args.variables.now XQST0094
    (slot_missing c.args.scope.now c.args.variables.now c.args.start c.loop-variable.variable-index c.variable-item.result c.loop-variable.slots c.loop-variable.invariant
    (omega (arith, c.loop-variable-test.true)) c.variable-item.is c.requires
    (none ∙ c.slot_from.ensures ∙ ap (λ v. from_place c.args.start (last_place v 0 c.args.scope.now)) c.as_str.ensures))
