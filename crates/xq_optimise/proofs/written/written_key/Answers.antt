use Rattle.xq_meaning.specs.declared.plans.Plan.{Plan}
use Rattle.xq_optimise.specs.private.Joins.{StartsAt}
use Rattle.xq_optimise.specs.private.Order.{SameAfter, Continues}
use Rattle.xq_optimise.proofs.JoinLaws.{if_some}
use Rattle.xq_optimise.proofs.WrittenOut.{key_copied, key_continues}
use Rattle.xq_optimise.proofs.written.written_key.Goals as goal

pub returns-then-key-known : goal.returns-then-key-known
returns-then-key-known c = λ side at.
    key_copied c.args.known.now c.args.passed.now side c.in_ok-path_from.field-0 c.args.key.slot c.args.key.scans at c.in_ok-path_from.ensures

pub returns : goal.returns
returns c =
    if_some (λ (part : Plan). Continues c.in-Some.value.now c.args.key.slot c.args.key.scans part)
    (λ (part : Plan). (side : Plan) → StartsAt c.args.key.slot c.args.key.scans side → SameAfter c.args.known.now c.args.passed.now side part) c.after_value.result
    (λ part h side at. key_continues c.args.known.now c.args.passed.now c.in-Some.value.now side part c.args.key.slot c.args.key.scans c.in-Some.ensures h at) c.after_value.ensures
