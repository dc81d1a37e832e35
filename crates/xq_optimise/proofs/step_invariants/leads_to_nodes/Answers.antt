use Rattle.std.proofs.Common.{refl}
use Rattle.xq_meaning.specs.declared.plans.Plan.TheVariants as plan
use Rattle.xq_optimise.proofs.Scans.{path_held_at}
use Rattle.xq_optimise.proofs.step_invariants.leads_to_nodes.Goals as goal

pub returns-else-is_empty : goal.returns-else-is_empty
returns-else-is_empty c = λ e.
    path_held_at c.args.known.now (plan.Path c.args.start.now c.args.steps.now) c.args.start.now c.args.steps.now refl (c.end_in_step.ensures e)
