use Rattle.std.proofs.Common.{◌≡◌, sym, subst, ℕ, Option}
use Rattle.std.specs.Prelude.{IfSome}
use Rattle.xq_meaning.specs.declared.joins.Join.{Join}
use Rattle.xq_optimise.specs.private.Joins.{Carries, IsKeys}
use Rattle.xq_optimise.proofs.joins.with_join.Goals as goal

pub returns : goal.returns
returns c =
    let keys = subst (λ (o : Option Join). IfSome o (λ join. (join.carried ≡ c.in-Some.carried) × IsKeys join c.args.test)) c.in-Some-2.is c.in_ok-join.ensures in
    c.with_range.ensures c.args.test (subst (λ (o : Option ℕ). Carries c.args.outer o c.args.range) (sym keys.0) c.in-Some.ensures) keys.1
