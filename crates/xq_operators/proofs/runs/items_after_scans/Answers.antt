use Rattle.std.proofs.Common.{take, sym, ◌∙◌, ap, subst}
use Rattle.xq_operators.specs.Runs.{views_of, ScansGive}
use Rattle.xq_operators.proofs.runs.items_after_scans.Goals as goal

pub returns-clause-gives : goal.returns-clause-gives
returns-clause-gives g c = λ k has.
    let trees = g.L.TreeSource.forest c.args.source.now in
    let n = c.args.node in
    let steps = take c.in_ok-found.found.taken c.args.steps.now in
    subst (ScansGive trees n steps) (sym (c.in_ok-items.ensures ∙ ap (views_of n.tree) c.as_slice.ensures)) (c.in_ok-found.ensures.gives k has)
