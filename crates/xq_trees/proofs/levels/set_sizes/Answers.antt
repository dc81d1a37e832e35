use Rattle.std.proofs.Common.{arith, get_or, ◌+◌, ◌-◌, refl, ◌∙◌, length, ◌<◌, ◌≡◌, ap, subst, drop, ℕ, set}
use Rattle.std.proofs.lemmas.List.{length-set}
use Rattle.xq_trees.specs.declared.NodeRow.{NodeRow}
use Rattle.xq_trees.specs.private.Sizes.{IsSized, deeper}
use Rattle.xq_trees.proofs.SizedRows.{flat_set, numbered_set, sized_set, level_at}
use Rattle.xq_trees.proofs.levels.set_sizes.Goals as goal

pub loop-at-preserved : goal.loop-at-preserved
loop-at-preserved c =
    let i : ℕ = c.loop-at.at - 1 in
    let rs = c.loop-at.rows in
    let d = get_or rs i c.index-rows-at.result in
    let n : NodeRow = record { pre = d.pre; size = c.size_at-size.result; level = d.level; kind = d.kind; name = d.name; value = d.value } in
    let lt : i < length rs = omega arith in
    let v : n.size ≡ deeper n.level (drop (i + 1) rs) = c.size_at-size.ensures.value ∙ ap (λ l. deeper l (drop (i + 1) rs)) (level_at rs i c.index-rows-at.result lt) in
    let next : c.loop-at.at ≡ i + 1 = omega arith in
    let h : IsSized (drop (i + 1) rs) = subst (λ k. IsSized (drop k rs)) next c.loop-at.invariant.1 in
    let len : length (set rs i n) ≡ length rs = length-set rs i n in
    (omega (arith, len), sized_set rs i n lt v h, flat_set rs i c.index-rows-at.result n refl ∙ c.loop-at.invariant.2, (λ k. numbered_set 0 rs i c.index-rows-at.result n refl (c.loop-at.invariant.3 k)), omega (arith, len))
