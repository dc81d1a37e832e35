use Rattle.std.proofs.Common.{subst, sym}
use Rattle.xq_trees.specs.Rows.{rows}
use Rattle.xq_sources.specs.Parents.{AreParents}
use Rattle.xq_sources.specs.Sources.{tree_at}
use Rattle.xq_store.specs.private.Shelves.{AreFronts}
use Rattle.xq_store.proofs.FrontLaws.{its_front}
use Rattle.xq_store.proofs.fronts.parents_in.Goals as goal

pub returns-in-Some : goal.returns-in-Some
returns-in-Some c = λ trees are.
    let at = c.args.tree in
    let fronts = c.deref.result.now in
    let front = c.in-Some.front.now in
    let found = c.in-Some.ensures.lookup in
    let is = its_front trees fronts at front (subst (AreFronts trees) (sym c.deref.ensures.value) are) found.3.0 found.1 in
    subst (AreParents (rows (tree_at trees at))) (sym c.places.ensures) is.parents
