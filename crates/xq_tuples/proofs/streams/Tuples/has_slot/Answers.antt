use Rattle.std.proofs.Common.{[], length, ap, ◌∙◌, arith}
use Rattle.std.proofs.lemmas.Bool.{ltb-true, lt-ltb}
use Rattle.std.proofs.lemmas.List.{length-map, get_or_default}
use Rattle.xq_tuples.specs.Views.{slot_items, values_of}
use Rattle.xq_tuples.proofs.Laid.{counted, wide_at}
use Rattle.xq_tuples.proofs.streams.Tuples.has_slot.Goals as goal

pub returns : goal.returns
returns c =
    let i = c.self.inside in
    let self = c.args.self.now in
    let slots = values_of i.slots.items in
    let long = length-map i.slots.items slot_items ∙ c.self.invariant.long in
    let many = counted i.count i.width slots self c.self.view_is in (
      λ h. λ k d within. omega (arith, ltb-true _ _ h, wide_at i.count i.width slots self c.self.view_is long k within, ap length (get_or_default self k d [] within)),
      λ h. lt-ltb _ _ (omega (arith, h 0 [] (omega (arith, many, c.if-self-eq0.false)), wide_at i.count i.width slots self c.self.view_is long 0 (omega (arith, many, c.if-self-eq0.false)))),
    )
