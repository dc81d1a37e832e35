use Rattle.std.proofs.Common.{rules, ◌+◌, ◌<◌, length, get_or, ap, arith}
use Rattle.std.proofs.lemmas.List.{get_or_default}
use Rattle.xq_packed.specs.declared.shapes.Shape.{Shape}
use Rattle.xq_packed.proofs.Changing.{no_shape, sunk-here, sunk-more}
use Rattle.xq_packed.proofs.changes.sink.Goals as goal

pub overflow_add-shapes : goal.overflow_add-shapes
overflow_add-shapes c =
    let at = c.loop-at.at in
    let inside : at < length c.loop-at.shapes = omega (arith, c.loop-at-test.true, c.loop-at.invariant.long) in
    let here = sunk-here c.args.shapes.now c.loop-at.shapes at no_shape c.loop-at.invariant inside in
    let low = c.requires at no_shape (omega (arith, inside, c.loop-at.invariant.long)) in
    let small : (get_or c.loop-at.shapes at no_shape).level + 1 < 256 = omega (arith, low, ap (λ (s : Shape). s.level) here) in
    search (rules, small)

pub loop-at-preserved : goal.loop-at-preserved
loop-at-preserved c =
    let at = c.loop-at.at in
    let inside : at < length c.loop-at.shapes = omega (arith, c.loop-at-test.true, c.loop-at.invariant.long) in
    let s = get_or c.loop-at.shapes at no_shape in
    sunk-more c.args.shapes.now c.loop-at.shapes at s c.loop-at.invariant inside (get_or_default c.loop-at.shapes at no_shape s inside)
