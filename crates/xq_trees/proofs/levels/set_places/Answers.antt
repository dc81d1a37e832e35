use Rattle.std.proofs.Common.{arith, get_or, ◌+◌, ◌-◌, refl, ◌∙◌, length, ◌<◌, ◌≡◌, subst, drop, ℕ, set}
use Rattle.std.proofs.lemmas.List.{length-set}
use Rattle.xq_trees.specs.Rows.{AreNumbered}
use Rattle.xq_trees.specs.declared.NodeRow.{NodeRow}
use Rattle.xq_trees.proofs.SizedRows.{flat_set, placed_set}
use Rattle.xq_trees.proofs.levels.set_places.Goals as goal

pub loop-at-preserved : goal.loop-at-preserved
loop-at-preserved c =
    let i : ℕ = c.loop-at.at - 1 in
    let rs = c.loop-at.rows in
    let d = get_or rs i c.index-rows-at.result in
    let n : NodeRow = record { pre = i; size = d.size; level = d.level; kind = d.kind; name = d.name; value = d.value } in
    let lt : i < length rs = omega arith in
    let next : c.loop-at.at ≡ i + 1 = omega arith in
    let h : AreNumbered (i + 1) (drop (i + 1) rs) = subst (λ k. AreNumbered k (drop k rs)) next c.loop-at.invariant.numbered in
    let len : length (set rs i n) ≡ length rs = length-set rs i n in
    record {
      within = omega (arith, len);
      numbered = placed_set rs i n lt refl h;
      same = flat_set rs i c.index-rows-at.result n refl ∙ c.loop-at.invariant.same;
      long = len ∙ c.loop-at.invariant.long;
    }
