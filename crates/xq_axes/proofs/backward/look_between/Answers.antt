use Rattle.std.proofs.Common.{◌≡◌, ◌+◌, length, refl, sym, ap, subst, arith}
use Rattle.xq_sources.specs.Sources.{tree_at}
use Rattle.xq_axes.specs.Reads.{span, span_end}
use Rattle.xq_axes.specs.private.Waiting.{AreSeen}
use Rattle.xq_axes.specs.declared.backward.Part.{Part}
use Rattle.xq_axes.proofs.backward.look_between.Goals as goal

pub returns-clause-looked : goal.returns-clause-looked
returns-clause-looked g c = λ k le hc old. (
    let t = tree_at (g.L.TreeSource.forest c.args.source.now) c.args.tree in
    let test = c.args.test.now in
    let low = c.args.low in
    let high = c.args.high in
    let start : Part = record { test = c.args.test; seen = c.in_ok-with_capacity.field-0 } in
    let empty = ap length c.in_ok-with_capacity.ensures.items in
    let read = c.in_ok-walk.ensures.read k start (refl, omega (arith, empty), subst (AreSeen test t low) (sym c.in_ok-with_capacity.ensures.items) tt) in
    let n : span_end t (span low high) ≡ high + 1 = omega (arith, le, hc) in
    let v = c.deref.ensures.value in
    let len = ap length v in
    let at = read.1 in
    c.look_back.ensures.looked test t low hc (omega (arith, n, at, len)) (subst (AreSeen test t low) (sym v) read.2) old)
