use Rattle.std.proofs.Common.{sym, ap, ◌∙◌}
use Rattle.xq_meaning.specs.declared.normal_forms.Core.TheVariants as form
use Rattle.xq_normal.proofs.normal.path_along.Goals as goal

pub returns-then-is_empty-clause-goes_on : goal.returns-then-is_empty-clause-goes_on
returns-then-is_empty-clause-goes_on c = λ first more is.
    let none : ⊥ = cc (sym (c.is_empty.ensures.0 c.if-is_empty.true) ∙ is) in absurd none

pub returns-clause-goes_on : goal.returns-clause-goes_on
returns-clause-goes_on c = λ first more is. ap (λ start. form.Path start c.args.found) c.in_ok-new.ensures
