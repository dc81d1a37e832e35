use Rattle.std.proofs.Common.{refl, subst}
use Rattle.std.proofs.lemmas.Result.{IfOk-weaker}
use Rattle.xq_meaning.specs.declared.plans.PlanClause.TheVariants as clause
use Rattle.xq_optimise.specs.declared.group_joins.LetValue.{LetValue}
use Rattle.xq_optimise.specs.private.GroupValues.{IsLetOf}
use Rattle.xq_optimise.proofs.GroupReturns.{items_stand}
use Rattle.xq_optimise.proofs.group_returns.with_items.Goals as goal

pub returns-in_ok-list-in-Group : goal.returns-in_ok-list-in-Group
returns-in_ok-list-in-Group c =
    let known = c.args.known.now in
    let let_of = subst (λ (v : LetValue). IsLetOf c.args.outer known c.args.value v) c.in-Group.is c.in_ok-range.ensures in
    let list = c.in_ok-list-in-Group.list in
    IfOk-weaker c.flwor.result _ _
    (λ found h. items_stand c.args.outer known c.args.list list c.args.value _ found (clause.GroupJoin c.in-Group.range c.in-Group.join) let_of.0 let_of.1
    c.in_ok-list-in-Group.ensures refl h)
    c.flwor.ensures
