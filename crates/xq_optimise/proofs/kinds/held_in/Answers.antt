use Rattle.std.proofs.Common.{sym}
use Rattle.xq_optimise.proofs.Scans.{anything_held, slot_is_held}
use Rattle.xq_meaning.specs.declared.plans.Plan.TheVariants as plan
use Rattle.xq_optimise.proofs.kinds.held_in.Goals as goal

pub returns-in-Some : goal.returns-in-Some
returns-in-Some c = slot_is_held c.args.known.now c.args.slot c.in-Some.held.now (sym c.in-Some.ensures)

pub returns-in-None : goal.returns-in-None
returns-in-None c = anything_held c.args.known.now (plan.Slot c.args.slot)
