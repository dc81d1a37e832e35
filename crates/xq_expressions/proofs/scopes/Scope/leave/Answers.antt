use Rattle.std.proofs.Common.{arith}
use Rattle.xq_expressions.proofs.LastPlaces.{left_at}
use Rattle.xq_expressions.proofs.scopes.Scope.leave.Goals as goal

pub returns : goal.returns
returns c = left_at c.args.place c.args.self.now c.loop-self.self c.loop-self.invariant.0 (omega (arith, c.loop-self-test.false, c.len.ensures)) c.loop-self.invariant.1 c.loop-self.invariant.2
