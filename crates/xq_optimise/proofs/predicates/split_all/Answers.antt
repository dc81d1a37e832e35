use Rattle.xq_optimise.proofs.Splitting.{predicate_next}
use Rattle.xq_optimise.proofs.predicates.split_all.Goals as goal

pub loop-next-preserved : goal.loop-next-preserved
loop-next-preserved c =
    predicate_next c.args.known.now c.args.predicates c.loop-next.left.items c.pop.new.self.items c.loop-next.found c.in_ok-found.found c.in-Some.next
    c.loop-next.invariant c.in-Some.ensures.items c.in_ok-found.ensures
