use Rattle.std.proofs.Common.{length, refl, subst}
use Rattle.xq_optimise.specs.private.Joins.{IsOutside}
use Rattle.xq_optimise.proofs.invariants.lifted_pair.Goals as goal

pub lifted_sides-requires-clause-left : goal.lifted_sides-requires-clause-left
lifted_sides-requires-clause-left c = subst (IsOutside (length c.args.known.now)) c.get.ensures (c.if-reads_outside.ensures refl)
