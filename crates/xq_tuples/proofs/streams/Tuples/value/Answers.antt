use Rattle.std.proofs.Common.{◌<◌, length, ap, sym, ◌∙◌, arith}
use Rattle.std.proofs.lemmas.List.{length-map}
use Rattle.xq_trees.specs.Tuples.{value_at}
use Rattle.xq_tuples.specs.Views.{slot_items}
use Rattle.xq_tuples.proofs.Copies.{value_read}
use Rattle.xq_tuples.proofs.streams.Tuples.value.Goals as goal

pub bounds-tuple-slot : goal.bounds-tuple-slot
bounds-tuple-slot c = omega (arith, c.requires.slot, ap length c.tuple.ensures, length-map c.tuple.result.now slot_items)

pub returns : goal.returns
returns c =
    let within : c.args.slot < length c.tuple.result.now = omega (arith, c.requires.slot, ap length c.tuple.ensures, length-map c.tuple.result.now slot_items) in
    c.items.ensures ∙ sym (value_read c.tuple.result.now c.args.slot c.index-tuple-slot.result within c.index-tuple-slot.is) ∙ ap (value_at c.args.slot) c.tuple.ensures
