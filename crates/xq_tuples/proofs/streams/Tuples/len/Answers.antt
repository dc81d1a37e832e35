use Rattle.std.proofs.Common.{sym}
use Rattle.xq_tuples.specs.Views.{values_of}
use Rattle.xq_tuples.proofs.Laid.{counted}
use Rattle.xq_tuples.proofs.streams.Tuples.len.Goals as goal

pub returns : goal.returns
returns c = sym (counted c.self.inside.count c.self.inside.width (values_of c.self.inside.slots.items) c.args.self.now c.self.view_is)
