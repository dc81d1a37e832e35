use Rattle.std.proofs.Common.{[], sym, arith}
use Rattle.std.proofs.lemmas.List.{get_or_past}
use Rattle.xq_tuples.specs.Views.{values_of}
use Rattle.xq_tuples.proofs.Laid.{counted}
use Rattle.xq_tuples.proofs.streams.Tuples.found.Goals as goal

pub returns-then-number-self : goal.returns-then-number-self
returns-then-number-self c =
    let i = c.self.inside in
    let self = c.args.self.now in
    sym (get_or_past self c.args.number [] (omega (arith, counted i.count i.width (values_of i.slots.items) self c.self.view_is, c.if-number-self.true)))

pub tuple-requires : goal.tuple-requires
tuple-requires c =
    let i = c.self.inside in
    omega (arith, counted i.count i.width (values_of i.slots.items) c.args.self.now c.self.view_is, c.if-number-self.false)
