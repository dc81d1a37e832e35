use Rattle.std.proofs.Common.{sym, subst}
use Rattle.xq_optimise.specs.Sure.{SurelyFinds}
use Rattle.xq_optimise.proofs.ItemTests.{context_finds, plain_step_finds}
use Rattle.xq_optimise.proofs.predicates.is_at_node.Goals as goal

pub returns-in-ContextItem : goal.returns-in-ContextItem
returns-in-ContextItem c = λ e. subst SurelyFinds (sym c.in-ContextItem.is) context_finds

pub returns-in_default : goal.returns-in_default
returns-in_default c = λ e. plain_step_finds c.args.plan.now (c.is_plain_step.ensures e)
