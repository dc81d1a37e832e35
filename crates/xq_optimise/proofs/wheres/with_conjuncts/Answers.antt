use Rattle.std.proofs.Common.{◌≡◌, [], sym, subst, ◌∙◌}
use Rattle.std.proofs.lemmas.Result.{IfOk-weaker}
use Rattle.std.specs.List.{AllByRecursion}
use Rattle.xq_meaning.specs.declared.plans.Plan.TheVariants as plan
use Rattle.xq_optimise.specs.private.Joins.{IsOutside}
use Rattle.xq_optimise.specs.private.Wheres.{TakesTests}
use Rattle.xq_optimise.proofs.Conjuncts.{conjuncts_add, others_add, test_adds}
use Rattle.xq_optimise.proofs.wheres.with_conjuncts.Goals as goal

pub returns-then-not-all_read_outside : goal.returns-then-not-all_read_outside
returns-then-not-all_read_outside c =
    IfOk-weaker c.pushed.result _ _
    (λ after h. test_adds c.args.known.now (plan.And c.args.parts) c.args.found after h) c.pushed.ensures

pub returns-then-is_empty : goal.returns-then-is_empty
returns-then-is_empty c =
    let none : c.in_ok-others.others ≡ [] = c.is_empty.ensures.0 c.if-is_empty.true in
    let left = c.with_leading.new.left.items in
    conjuncts_add c.args.known.now c.args.parts left c.args.found c.in_ok-after.after (sym c.in_ok-others.ensures ∙ none)
    (subst (λ l. TakesTests c.args.known.now l left c.args.found c.in_ok-after.after) c.in_ok-left.ensures c.in_ok-after.ensures)

pub returns : goal.returns
returns c =
    let left = c.with_leading.new.left.items in
    IfOk-weaker c.pushed-2.result _ _
    (λ after h. others_add _ c.args.known.now c.args.parts left c.in_ok-others.others c.args.found c.in_ok-after.after after
    (subst (AllByRecursion (IsOutside _)) c.as_slice.ensures (c.all_read_outside.ensures c.if-not-all_read_outside.false))
    (subst (λ l. TakesTests c.args.known.now l left c.args.found c.in_ok-after.after) c.in_ok-left.ensures c.in_ok-after.ensures)
    c.in_ok-others.ensures h) c.pushed-2.ensures
