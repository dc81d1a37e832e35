use Rattle.std.proofs.Common.{sym, ◌∙◌}
use Rattle.xq_normal.proofs.Lists.{if_ok}
use Rattle.xq_normal.proofs.normal.path.Goals as goal

pub returns-in-Relative-clause-relative : goal.returns-in-Relative-clause-relative
returns-in-Relative-clause-relative c =
    if_ok c.path_along.result (λ core h is. h) c.path_along.ensures.goes_on

pub returns-in-Root-clause-relative : goal.returns-in-Root-clause-relative
returns-in-Root-clause-relative c =
    if_ok c.rooted.result
    (λ core h is. let no : ⊥ = cc (sym c.in-Root.is ∙ is) in absurd no)
    c.rooted.ensures

pub returns-in-RootAndBelow-clause-relative : goal.returns-in-RootAndBelow-clause-relative
returns-in-RootAndBelow-clause-relative c =
    if_ok c.rooted-in-RootAndBelow.result
    (λ core h is. let no : ⊥ = cc (sym c.in-RootAndBelow.is ∙ is) in absurd no)
    c.rooted-in-RootAndBelow.ensures
