use Rattle.std.proofs.Common.{subst, sym}
use Rattle.xq_trees.specs.Rows.{rows}
use Rattle.xq_sources.specs.Sources.{tree_at}
use Rattle.xq_store.specs.private.Shelves.{AreFronts}
use Rattle.xq_store.proofs.FrontLaws.{its_front}
use Rattle.xq_store.proofs.fronts.parent_of.Goals as goal

pub returns-in-Some : goal.returns-in-Some
returns-in-Some c = λ trees are.
    let at = c.args.tree in
    let fronts = c.deref.result.now in
    let front = c.in_ok-front.front.now in
    let found = c.in_ok-front.ensures.lookup in
    let is = its_front trees fronts at front (subst (AreFronts trees) (sym c.deref.ensures.value) are) found.3.0 found.1 in
    c.in-Some.ensures (rows (tree_at trees at)) is.parents

pub returns-in-None : goal.returns-in-None
returns-in-None c = λ trees are.
    let at = c.args.tree in
    let fronts = c.deref.result.now in
    let front = c.in_ok-front.front.now in
    let found = c.in_ok-front.ensures.lookup in
    let is = its_front trees fronts at front (subst (AreFronts trees) (sym c.deref.ensures.value) are) found.3.0 found.1 in
    c.parent_by_rows.ensures (tree_at trees at) is
