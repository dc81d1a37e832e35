use Rattle.std.proofs.Common.{rules, arith}
use Rattle.xq_frame.proofs.Splitting.{same_bytes}
use Rattle.xq_frame.proofs.frames.number_at_start.Goals as goal

pub returns-clause-bytes : goal.returns-clause-bytes
returns-clause-bytes c = same_bytes c.args.bytes.now _ (λ i. let t = c.type_inv.bytes i in omega (arith, t)) c.requires (search rules)
