use Rattle.xq_optimise.proofs.Splitting.{no_conjuncts, conjunct_next}
use Rattle.xq_optimise.proofs.predicates.parted.Goals as goal

pub loop-part-init : goal.loop-part-init
loop-part-init c =
    no_conjuncts c.args.known.now c.args.parts c.in_ok-left.left.items c.nothing-found.result.first c.nothing-found.result.position c.nothing-found.result.tests
    c.in_ok-left.ensures c.requires c.nothing-found.ensures.first c.nothing-found.ensures.position c.nothing-found.ensures.tests

pub loop-part-preserved : goal.loop-part-preserved
loop-part-preserved c =
    conjunct_next c.args.known.now c.args.parts c.loop-part.left.items c.pop.new.self.items c.loop-part.found.first c.loop-part.found.position c.loop-part.found.tests
    c.in_ok-found.found.first c.in_ok-found.found.position c.in_ok-found.found.tests c.in-Some.part
    c.loop-part.invariant c.in-Some.ensures.items c.in_ok-found.ensures
