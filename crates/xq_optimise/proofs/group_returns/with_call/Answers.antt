use Rattle.std.proofs.Common.{subst}
use Rattle.std.proofs.lemmas.Result.{IfOk-weaker}
use Rattle.xq_meaning.specs.declared.plans.PlanClause.TheVariants as clause
use Rattle.xq_optimise.specs.declared.group_joins.LetValue.{LetValue}
use Rattle.xq_optimise.specs.private.GroupValues.{IsLetOf}
use Rattle.xq_optimise.proofs.GroupReturns.{call_stands}
use Rattle.xq_optimise.proofs.group_returns.with_call.Goals as goal

pub returns-in_ok-call-in-Group : goal.returns-in_ok-call-in-Group
returns-in_ok-call-in-Group c =
    let known = c.args.known.now in
    let let_of = subst (λ (v : LetValue). IsLetOf c.args.outer known c.args.value v) c.in-Group.is c.in_ok-range.ensures in
    IfOk-weaker c.flwor.result _ _
    (λ found h. call_stands c.args.outer known c.args.list c.in_ok-list-in-Group.list c.args.function c.args.value c.in_ok-call-in-Group.field-0 found
    (clause.GroupJoin c.in-Group.range c.in-Group.join) c.requires let_of.0 let_of.1 c.in_ok-list-in-Group.ensures c.in_ok-call-in-Group.ensures h)
    c.flwor.ensures
