use Rattle.std.proofs.Common.{refl, sym, subst}
use Rattle.xq_optimise.specs.private.GroupValues.{IsNeverRefused}
use Rattle.xq_optimise.proofs.group_returns.is_never_refused.Goals as goal

pub returns-in-Count : goal.returns-in-Count
returns-in-Count c = λ told. subst IsNeverRefused (sym c.in-Count.is) (λ trees addresses focus xs. (_, refl))

pub returns-in-Exists : goal.returns-in-Exists
returns-in-Exists c = λ told. subst IsNeverRefused (sym c.in-Exists.is) (λ trees addresses focus xs. (_, refl))

pub returns-in-Empty : goal.returns-in-Empty
returns-in-Empty c = λ told. subst IsNeverRefused (sym c.in-Empty.is) (λ trees addresses focus xs. (_, refl))
