use Rattle.std.proofs.Common.{sym}
use Rattle.xq_sources.proofs.Forms.{as_many}
use Rattle.xq_sources.proofs.lent.LentRows.len.Goals as goal

pub returns-in-Packed : goal.returns-in-Packed
returns-in-Packed c =
    sym (as_many c.self.inside.form c.in-Packed.field-0 c.in-Packed.field-1 c.in-Packed.low c.in-Packed.high c.args.self.now c.in-Packed.is c.self.view_is c.self.invariant)
