use Rattle.std.proofs.Common.{◌≡◌, ◌∷◌, [], arith}
use Rattle.xq_meaning.specs.declared.joins.Join.{Join}
use Rattle.xq_optimise.specs.private.Filters.{ComparesItems, IsStepGroup}
use Rattle.xq_optimise.proofs.JoinLaws.{if_some, only_one}
use Rattle.xq_optimise.proofs.filters.step_join.Goals as goal

pub returns : goal.returns
returns c =
    let test = c.test-item.result in
    let one : c.args.predicates.now ≡ test ∷ [] = only_one c.args.predicates.now test (omega arith) (omega arith) c.test-item.is in
    if_some (λ (join : Join). ComparesItems _ join test) (λ (join : Join). IsStepGroup c.args.outer c.args.known.now c.args.start.now c.args.steps.now c.args.predicates.now join) c.join_of.result
    (λ join h. (
      test,
      one,
      c.is_item_test.ensures c.if-not-is_item_test.false,
      c.reads_outside.ensures c.if-not-reads_outside.false,
      c.steps_read_outside.ensures c.if-not-steps_read_outside.false,
      h,
    )) c.join_of.ensures
