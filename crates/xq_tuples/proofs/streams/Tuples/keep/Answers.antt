use Rattle.std.proofs.Common.{◌≡◌, ◌+◌, ◌*◌, ◌<◌, length, true, false, refl, sym, ap, subst, ◌∙◌, arith}
use Rattle.std.proofs.lemmas.List.{length-map, get_or_default, take_all, with_items_is}
use Rattle.xq_trees.specs.Tuples.{satisfying}
use Rattle.xq_tuples.specs.Keys.{by_tuple}
use Rattle.xq_tuples.specs.Views.{slot_items, values_of}
use Rattle.xq_tuples.specs.private.Laid.{KeepsInPlace, spread}
use Rattle.xq_tuples.proofs.Lists.{kept-map}
use Rattle.xq_tuples.proofs.Laid.{Stands, counted, next_place, starts_within}
use Rattle.xq_tuples.proofs.Keeping.{KeepsInPlace-all, passes_over, holding, holding_more, kept_tuples, length-spread, spread_within}
use Rattle.xq_tuples.proofs.streams.Tuples.keep.Goals as goal
use Rattle.xq_tuples.proofs.streams.Tuples.keep.Goals.{then-holds, else-holds, After-truncate}

pub move_slots-requires-clause-within : goal.move_slots-requires-clause-within
move_slots-requires-clause-within c =
    let i = c.self.inside in
    let loop = c.loop-holds in
    let many = c.requires ∙ counted i.count i.width (values_of i.slots.items) c.args.self c.self.view_is in
    omega (arith, starts_within i.count i.width loop.holds-index loop.start (length i.slots.items) loop.invariant.start (omega (arith, c.loop-holds-test.true, many)) c.self.invariant.long, loop.invariant.keeps.long, ap length c.deref_mut.ensures.value)

pub overflow_add-kept : goal.overflow_add-kept
overflow_add-kept c =
    let i = c.self.inside in
    let loop = c.loop-holds in
    let many = c.requires ∙ counted i.count i.width (values_of i.slots.items) c.args.self c.self.view_is in
    omega (arith, starts_within i.count i.width loop.holds-index loop.start (length i.slots.items) loop.invariant.start (omega (arith, c.loop-holds-test.true, many)) c.self.invariant.long, loop.invariant.keeps.behind, i.slots.ok.0, i.slots.ok.1, i.slots.small)

pub overflow_add-start : goal.overflow_add-start
overflow_add-start c =
    let i = c.self.inside in
    let loop = c.loop-holds in
    let many = c.requires ∙ counted i.count i.width (values_of i.slots.items) c.args.self c.self.view_is in
    omega (arith, starts_within i.count i.width loop.holds-index loop.start (length i.slots.items) loop.invariant.start (omega (arith, c.loop-holds-test.true, many)) c.self.invariant.long, i.slots.ok.0, i.slots.ok.1, i.slots.small)

pub loop-holds-init : goal.loop-holds-init
loop-holds-init c = record {
  keeps = record { front = refl; rest = refl; behind = omega arith; long = refl };
  kept = omega arith;
  start = omega arith;
  few = omega arith;
  count = refl;
}

pub loop-holds-preserved : goal.loop-holds-preserved
loop-holds-preserved c =
    let i = c.self.inside in
    let w = i.width in
    let tests = c.args.tests.now in
    let loop = c.loop-holds in
    let k = loop.holds-index in
    let many = c.requires ∙ counted i.count w (values_of i.slots.items) c.args.self c.self.view_is in
    let within : k < length tests = omega (arith, c.loop-holds-test.true) in
    let inside = starts_within i.count w k loop.start (length i.slots.items) loop.invariant.start (omega (arith, within, many)) c.self.invariant.long in
    let long : length (spread w tests) ≡ length i.slots.items = length-spread w tests ∙ ap (λ n. n * w) many ∙ sym c.self.invariant.long in
    let next : loop.start + w ≡ (k + 1) * w = omega (arith, loop.invariant.start, next_place k w) in
    elim c.if-holds.branch [
      | then-holds b ↦
          let is = get_or_default tests k true _ within ∙ b.if-holds.true in
          let moved = b.move_slots.new.slots in
          let as_long : length moved ≡ loop.slots.len = omega (arith, b.move_slots.auto.slots, ap length b.deref_mut.ensures.value, loop.slots.ok.0) in
          let before = subst (λ l. KeepsInPlace i.slots.items (spread w tests) l loop.kept loop.start) (sym b.deref_mut.ensures.value) loop.invariant.keeps in
          let after = b.move_slots.ensures.keeps i.slots.items (spread w tests) long (spread_within w tests k loop.start true within loop.invariant.start is) before in
          rw (b.slots-is, b.count-is, b.kept-is) (record {
            keeps = subst (λ l. KeepsInPlace i.slots.items (spread w tests) l (loop.kept + w) (loop.start + w)) (sym (with_items_is loop.slots moved as_long)) after;
            kept = omega (arith, loop.invariant.kept, next_place loop.count w);
            start = next;
            few = omega (arith, loop.invariant.few);
            count = omega (arith, loop.invariant.count, holding_more tests k true within is);
          })
      | else-holds b ↦
          let is = get_or_default tests k false _ within ∙ b.if-holds.false in
          rw (b.slots-is, b.count-is, b.kept-is) (record {
            keeps = passes_over i.slots.items (spread w tests) loop.slots.items loop.kept loop.start w loop.invariant.keeps inside long (spread_within w tests k loop.start false within loop.invariant.start is);
            kept = loop.invariant.kept;
            start = next;
            few = omega (arith, loop.invariant.few);
            count = omega (arith, loop.invariant.count, holding_more tests k false within is);
          })
    ]

-- the tuples that are kept are those that pass the tests
stood : (c : After-truncate) → Stands c.loop-holds.count c.self.inside.width (values_of c.truncate.new.self.items) (satisfying c.args.self c.args.tests.now)
stood c =
    let i = c.self.inside in
    let w = i.width in
    let tests = c.args.tests.now in
    let loop = c.loop-holds in
    let slots = values_of i.slots.items in
    let many = c.requires ∙ counted i.count w slots c.args.self c.self.view_is in
    let ended : loop.holds-index ≡ length tests = omega (arith, loop.auto.holds-index-end, c.loop-holds-test.false) in
    let whole : length tests * w ≡ length i.slots.items = ap (λ n. n * w) many ∙ sym c.self.invariant.long in
    let past : loop.start ≡ length i.slots.items = loop.invariant.start ∙ ap (λ n. n * w) ended ∙ whole in
    let kept = c.truncate.ensures.items ∙ KeepsInPlace-all loop.invariant.keeps (omega (arith, past)) (omega (arith, past, length-spread w tests, whole)) in
    let values : values_of c.truncate.new.self.items ≡ satisfying slots (spread w tests) = ap values_of kept ∙ kept-map slot_items i.slots.items (spread w tests) in
    let count : loop.count ≡ holding tests = loop.invariant.count ∙ ap holding (take_all loop.holds-index tests (omega (arith, ended))) in
    let all = kept_tuples w tests slots (length-map i.slots.items slot_items ∙ sym whole) in
    let stream : by_tuple (length tests) w slots ≡ c.args.self = ap (λ n. by_tuple n w slots) many ∙ c.self.view_is in
    record {
      long = ap length values ∙ all.long ∙ ap (λ n. n * w) (sym count);
      are = (λ t. by_tuple (count t) w (values t)) ∙ all.are ∙ ap (λ s. satisfying s tests) stream;
    }

pub of_slots-requires : goal.of_slots-requires
of_slots-requires c =
    let s = (goal.at.of_slots-requires c).After-truncate in
    record {
      long = sym (length-map s.truncate.new.self.items slot_items) ∙ (stood s).long;
      few = omega (arith, s.loop-holds.invariant.few, s.loop-holds.auto.holds-index-end, s.requires, counted s.self.inside.count s.self.inside.width (values_of s.self.inside.slots.items) s.args.self s.self.view_is, s.self.invariant.few);
    }

pub returns : goal.returns
returns c = c.of_slots.ensures ∙ (stood ((goal.at.returns c).After-truncate)).are
