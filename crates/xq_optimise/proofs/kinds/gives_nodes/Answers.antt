use Rattle.std.proofs.Common.{subst}
use Rattle.xq_optimise.specs.declared.held.Held.TheVariants.{Nodes}
use Rattle.xq_optimise.specs.private.Parts.{IsHeld}
use Rattle.xq_optimise.proofs.KindLaws.{filter_held}
use Rattle.xq_optimise.proofs.kinds.gives_nodes.Goals as goal

pub returns-in-Filter : goal.returns-in-Filter
returns-in-Filter c = λ e.
    filter_held c.args.known.now c.args.plan.now c.in-Filter.start c.in-Filter.field-1 c.in-Filter.is
    (subst (IsHeld c.args.known.now Nodes) c.get.ensures (c.is_of_nodes.ensures e))
