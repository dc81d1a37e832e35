use Rattle.xq_optimise.proofs.Splitting.{position_sure, keeps_decides}
use Rattle.xq_optimise.proofs.predicates.is_sure.Goals as goal

pub returns-in-Some : goal.returns-in-Some
returns-in-Some c = λ e.
    position_sure c.args.known.now c.in-Some.field-0.relation c.in-Some.field-0.number c.args.part.now c.in-Some.ensures

pub returns-in-None : goal.returns-in-None
returns-in-None c = λ e. keeps_decides c.args.known.now c.args.part.now (c.is_item_test.ensures e)
