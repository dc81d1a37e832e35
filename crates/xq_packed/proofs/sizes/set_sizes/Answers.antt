use Rattle.std.proofs.Common.{◌≡◌, ◌<◌, ◌+◌, ◌-◌, length, drop, map, ap, ◌∙◌, subst, sym, arith}
use Rattle.std.proofs.lemmas.List.{length-set}
use Rattle.xq_trees.specs.Rows.{row_at}
use Rattle.xq_trees.specs.Levels.{flat, AreSized}
use Rattle.xq_packed.specs.Changes.{with_size, resized}
use Rattle.xq_packed.proofs.Trees.{flat-with_size, sized-with_size}
use Rattle.xq_packed.proofs.sizes.set_sizes.Goals as goal

pub loop-at-preserved : goal.loop-at-preserved
loop-at-preserved c =
    let rs = c.loop-at.rows.rows in
    let at = c.loop-at.at - 1 in
    let size = c.size_below-size.result in
    let i = c.loop-at.invariant in
    let inside : at < length rs = omega (arith, i.within, c.loop-at-test.true) in
    let next : c.loop-at.at ≡ at + 1 = omega (arith, c.loop-at-test.true) in
    let after : AreSized (drop (at + 1) rs) = subst (λ n. AreSized (drop n rs)) next i.sized in
    let new : c.set_size.new.self.rows ≡ with_size at size rs = c.set_size.ensures.rows in
    let long : length c.set_size.new.self.rows ≡ length rs = ap length new ∙ length-set rs at (resized size (row_at rs at)) in
    record {
      within = omega (arith, inside, long);
      sized = subst (λ l. AreSized (drop at l)) (sym new) (sized-with_size at size rs inside c.size_below-size.ensures.value after);
      same = ap (map flat) new ∙ flat-with_size at size rs ∙ i.same;
      room = omega (arith, i.room, long);
    }
