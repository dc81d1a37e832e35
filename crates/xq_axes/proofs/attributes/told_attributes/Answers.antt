use Rattle.std.proofs.Common.{get_or, refl, arith}
use Rattle.xq_sources.specs.Sources.{tree_at}
use Rattle.xq_axes.proofs.CountedAttributes.{counted_more}
use Rattle.xq_axes.proofs.attributes.told_attributes.Goals as goal

pub loop-place-preserved : goal.loop-place-preserved
loop-place-preserved g c =
    let inv = c.loop-place.invariant in
    let i = c.loop-place.place-index in
    let v = get_or c.args.places.now i 0 in
    let t = tree_at (g.L.TreeSource.forest c.args.source.now) c.args.tree in
    record {
      told = λ k. counted_more t c.args.places.now c.loop-place.counted.items (record { place = v; number = c.in-Some.number }) i c.push.new.self.items (inv.told k) inv.all refl (c.in-Some.ensures.is_tree k) (c.in-Some.ensures.told k) c.in_ok-push.ensures.items;
      all = (let n = c.in_ok-push.ensures.len in let a = inv.all in omega (arith, n, a));
    }
