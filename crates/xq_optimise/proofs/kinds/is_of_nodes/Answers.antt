use Rattle.std.proofs.Common.{ap, sym, subst, ◌∙◌}
use Rattle.xq_meaning.specs.declared.plans.Plan.TheVariants as plan
use Rattle.xq_optimise.specs.declared.held.Held.TheVariants.{Nodes}
use Rattle.xq_optimise.specs.private.Kinds.{EndsInNodes}
use Rattle.xq_optimise.specs.private.Parts.{IsHeld}
use Rattle.xq_optimise.proofs.KindLaws.{doc_held, step_held}
use Rattle.xq_optimise.proofs.Scans.{nodes_held, path_held_at}
use Rattle.xq_optimise.proofs.kinds.is_of_nodes.Goals as goal

pub returns-in-Slot : goal.returns-in-Slot
returns-in-Slot c = λ e.
    subst (IsHeld c.args.known.now Nodes) (sym c.in-Slot.is) (nodes_held c.args.known.now c.in-Slot.slot (c.has_nodes.ensures e))

pub returns-in-Step : goal.returns-in-Step
returns-in-Step c = λ e.
    step_held c.args.known.now c.args.plan.now c.in-Step.field-0 c.in-Step.field-1 c.in-Step.field-2 c.in-Step.is

pub returns-in-Path : goal.returns-in-Path
returns-in-Path c = λ e.
    path_held_at c.args.known.now c.args.plan.now c.in-Path.field-0 c.in-Path.steps c.in-Path.is
    (subst EndsInNodes c.as_slice.ensures (c.end_in_step.ensures e))

pub returns-in-Call : goal.returns-in-Call
returns-in-Call c = λ e.
    doc_held c.args.known.now c.args.plan.now c.in-Call.field-1
    (c.in-Call.is ∙ ap (λ function. plan.Call function c.in-Call.field-1) (c.gives_documents.ensures e))
