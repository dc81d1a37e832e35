use Rattle.std.proofs.Common.{◌+◌, ◌<◌, length, true, refl, arith}
use Rattle.xq_tuples.proofs.Keeping.{KeepsInPlace-yes, moved_to}
use Rattle.xq_tuples.proofs.values.move_slots.Goals as goal

pub loop-offset-init : goal.loop-offset-init
loop-offset-init c = record { long = refl; keeps = λ xs tests e all h. moved_to xs tests c.args.slots.now c.args.to c.args.from _ _ (omega arith) (omega arith) h }

pub loop-offset-preserved : goal.loop-offset-preserved
loop-offset-preserved c =
    let loop = c.loop-offset in
    record {
      long = omega (arith, c.swap.ensures.len, loop.invariant.long);
      keeps = λ xs tests e all h.
          (let so_far = loop.invariant.keeps xs tests e all h in
          let within : c.args.from + loop.offset < length xs = omega (arith, so_far.long, loop.invariant.long, c.requires.within, c.loop-offset-test.true) in
          moved_to xs tests _ _ _ _ _ (omega arith) (omega arith)
          (KeepsInPlace-yes _ so_far within (omega (arith, e, within)) (all (c.args.from + loop.offset) true (omega arith) (omega (arith, c.loop-offset-test.true))) c.swap.ensures.by_index));
    }

pub returns : goal.returns
returns c = record {
  keeps = λ xs tests e all h. moved_to xs tests _ _ _ _ _ (omega (arith, c.loop-offset-test.false, c.loop-offset.auto.offset-end)) (omega (arith, c.loop-offset-test.false, c.loop-offset.auto.offset-end)) (c.loop-offset.invariant.keeps xs tests e all h);
}
