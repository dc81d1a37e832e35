use Rattle.std.proofs.Common.{Some, ◌∙◌, subst, sym}
use Rattle.xq_sources.specs.Sources.{tree_at}
use Rattle.xq_store.specs.private.Shelves.{AreFronts}
use Rattle.xq_store.proofs.FrontLaws.{its_front, names_told}
use Rattle.xq_store.proofs.fronts.named_in.Goals as goal

pub returns : goal.returns
returns c = λ trees are.
    let at = c.args.tree in
    let fronts = c.deref.result.now in
    let front = c.in_ok-front.front.now in
    let found = c.in_ok-front.ensures.lookup in
    let is = its_front trees fronts at front (subst (AreFronts trees) (sym c.deref.ensures.value) are) found.3.0 found.1 in
    c.deref-2.ensures.value ∙ names_told (tree_at trees at) front c.args.name.now (Some c.in_ok-places.places.now) c.in_ok-places.ensures.value is
