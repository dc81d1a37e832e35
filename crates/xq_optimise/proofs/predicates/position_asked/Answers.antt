use Rattle.xq_optimise.proofs.predicates.position_asked.Goals as goal

pub returns-in-Some : goal.returns-in-Some
returns-in-Some c = c.asked_by.ensures c.args.known.now c.in-Some.test.number c.args.part.now c.in-Some.ensures
