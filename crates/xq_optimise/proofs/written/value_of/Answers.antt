use Rattle.std.proofs.Common.{inl, inr, refl, arith}
use Rattle.xq_optimise.proofs.WrittenOut.{bound_found, clause_skipped}
use Rattle.xq_optimise.proofs.written.value_of.Goals.{in-Let+else-not-is_nodes+else-before-eq0, in-Where+else-not-is_test}
use Rattle.xq_optimise.proofs.written.value_of.Goals as goal

pub returns-then-before-eq0 : goal.returns-then-before-eq0
returns-then-before-eq0 c =
    bound_found c.args.known.now c.args.passed.now c.loop-clause.clause-index c.clause-item.result c.in-Let.value c.args.wanted c.loop-clause.before c.requires
    (omega arith) c.clause-item.is c.loop-clause.invariant c.if-before-eq0.true (c.in-Let.is, c.if-not-is_nodes.ensures.sure refl, c.if-not-is_nodes.ensures.below refl)

pub loop-clause-preserved : goal.loop-clause-preserved
loop-clause-preserved c =
    elim c.match-clause.branch [
      | in-Let+else-not-is_nodes+else-before-eq0 w ↦ clause_skipped c.args.known.now c.args.passed.now c.loop-clause.clause-index c.clause-item.result c.args.wanted c.loop-clause.before c.match-clause.before
          (omega arith) c.clause-item.is c.loop-clause.invariant (inr (w.in-Let.value, (w.in-Let.is, w.if-not-is_nodes.ensures.sure refl, w.if-not-is_nodes.ensures.below refl), omega arith))
      | in-Where+else-not-is_test w ↦ clause_skipped c.args.known.now c.args.passed.now c.loop-clause.clause-index c.clause-item.result c.args.wanted c.loop-clause.before c.match-clause.before
          (omega arith) c.clause-item.is c.loop-clause.invariant (inl ((w.in-Where.test, w.in-Where.is, w.if-not-is_test.ensures refl), omega arith))
    ]
