use Rattle.std.proofs.Common.{◌≡◌, ◌+◌, ◌-◌, ◌∷◌, [], ℕ, Bool, drop, get_or, ap, ◌∙◌, arith}
use Rattle.std.specs.Prelude.{filter}
use Rattle.xq_sources.specs.Sources.{tree_at}
use Rattle.xq_axes.specs.private.Named.{is_below_one}
use Rattle.xq_axes.proofs.Last.{last_found, none_found, is_it, is_another}
use Rattle.xq_axes.proofs.ManyChildren.{below_told}
use Rattle.xq_axes.proofs.near.told_last.Goals as goal

pub returns-then-branch-place : goal.returns-then-branch-place
returns-then-branch-place g c = λ k. (
    let t = tree_at (g.L.TreeSource.forest c.args.source.now) c.args.tree in
    let v = c.args.place in
    let below : ℕ → Bool = is_below_one t (v ∷ []) in
    let ns = c.args.places.now in
    let i = c.loop-index.index - 1 in
    let next : i + 1 ≡ c.loop-index.index = omega arith in
    last_found below ns i (omega arith) (ap (λ n. filter below (drop n ns)) next ∙ c.loop-index.invariant k)
    (below_told t (v ∷ []) c.in_ok-parent.field-0 (get_or ns i 0) (c.in_ok-parent.ensures k) ∙ is_it v c.in_ok-parent.field-0 c.if-branch-place.true))

pub loop-index-preserved : goal.loop-index-preserved
loop-index-preserved g c = λ k. (
    let t = tree_at (g.L.TreeSource.forest c.args.source.now) c.args.tree in
    let v = c.args.place in
    let below : ℕ → Bool = is_below_one t (v ∷ []) in
    let ns = c.args.places.now in
    let i = c.loop-index.index - 1 in
    let next : i + 1 ≡ c.loop-index.index = omega arith in
    none_found below ns i (omega arith) (ap (λ n. filter below (drop n ns)) next ∙ c.loop-index.invariant k)
    (below_told t (v ∷ []) c.in_ok-parent.field-0 (get_or ns i 0) (c.in_ok-parent.ensures k) ∙ is_another v c.in_ok-parent.field-0 c.if-branch-place.false))
