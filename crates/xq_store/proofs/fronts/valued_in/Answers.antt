use Rattle.std.proofs.Common.{◌≡◌, Some, ◌∙◌, ap, subst, sym}
use Rattle.std.specs.List.{enumerate_from}
use Rattle.xq_trees.specs.Rows.{placed_rows, rows}
use Rattle.xq_packed.specs.Found.{AreByValue}
use Rattle.xq_packed.specs.Values.{valued}
use Rattle.xq_sources.specs.Sources.{tree_at}
use Rattle.xq_store.specs.private.Shelves.{AreFronts, IsFront}
use Rattle.xq_store.proofs.FrontLaws.{its_front}
use Rattle.xq_store.proofs.Values.{all_rows, values_told}
use Rattle.xq_store.proofs.fronts.valued_in.Goals as goal

pub returns : goal.returns
returns c = λ trees are.
    let at = c.args.tree in
    let t = tree_at trees at in
    let name = c.args.name.now in
    let fronts = c.deref.result.now in
    let front = c.in_ok-front.front.now in
    let found = c.in_ok-front.ensures.lookup in
    let is = its_front trees fronts at front (subst (AreFronts trees) (sym c.deref.ensures.value) are) found.3.0 found.1 in
    let told = values_told t front name (Some c.in_ok-places.places.now) c.in_ok-places.ensures.value is in
    let whole : enumerate_from 0 front.rows.rows ≡ placed_rows t = subst (λ l. IsFront t l → l ≡ placed_rows t) c.lent.ensures (c.are_whole.ensures c.if-not-are_whole.false t) is.rows in
    let all = all_rows t front.rows.rows whole in
    c.with_value.ensures name (subst (λ l. AreByValue l name c.in_ok-places.places.now) (sym all) told) ∙ ap (λ l. valued l name c.args.value.now) all
