use Rattle.std.proofs.Common.{◌+◌, ◌*◌, map, length, refl, ap, sym, ◌∙◌, arith}
use Rattle.std.specs.Prelude.{slice_range}
use Rattle.xq_tuples.specs.Views.{slot_items, values_of}
use Rattle.xq_tuples.proofs.Laid.{part_seen, place_within, read_at}
use Rattle.xq_tuples.proofs.streams.Tuples.tuple.Goals as goal

pub overflow_mul-start : goal.overflow_mul-start
overflow_mul-start c =
    let i = c.self.inside in
    omega (arith, place_within i.count i.width (values_of i.slots.items) c.args.self.now c.self.view_is c.args.index (length i.slots.items) c.requires c.self.invariant.long, i.slots.ok.0, i.slots.ok.1, i.slots.small)

pub overflow_add-result : goal.overflow_add-result
overflow_add-result c =
    let i = c.self.inside in
    omega (arith, place_within i.count i.width (values_of i.slots.items) c.args.self.now c.self.view_is c.args.index (length i.slots.items) c.requires c.self.invariant.long, i.slots.ok.0, i.slots.ok.1, i.slots.small)

pub offset_bounds-deref-start : goal.offset_bounds-deref-start
offset_bounds-deref-start c =
    let i = c.self.inside in
    omega (arith, place_within i.count i.width (values_of i.slots.items) c.args.self.now c.self.view_is c.args.index (length i.slots.items) c.requires c.self.invariant.long, ap length c.deref.ensures.value, c.deref.type_inv.1)

pub slice_bounds-result-end : goal.slice_bounds-result-end
slice_bounds-result-end c =
    let i = c.self.inside in
    omega (arith, place_within i.count i.width (values_of i.slots.items) c.args.self.now c.self.view_is c.args.index (length i.slots.items) c.requires c.self.invariant.long, ap length c.deref.ensures.value)

pub returns : goal.returns
returns c =
    let i = c.self.inside in
    let start = c.args.index * i.width in
    ap (λ l. map slot_items (slice_range l start (start + i.width))) c.deref.ensures.value
    ∙ part_seen slot_items i.slots.items start (start + i.width) i.width refl
    ∙ sym (read_at i.count i.width (values_of i.slots.items) c.args.self.now c.self.view_is c.args.index c.requires)
