use Rattle.std.proofs.Common.{Option, subst}
use Rattle.std.specs.Prelude.{IfSome}
use Rattle.xq_meaning.specs.declared.plans.Plan.{Plan}
use Rattle.xq_optimise.specs.private.Ranges.{IsNodeSide}
use Rattle.xq_optimise.proofs.NarrowRanges.{sides_tell}
use Rattle.xq_optimise.proofs.narrow.focus_test.Goals as goal

pub returns : goal.returns
returns c =
    let known = c.args.known.now in
    let l = c.in-Some.found.left.now in
    let r = c.in-Some.found.right.now in
    let left = subst (λ (o : Option Plan). IfSome o (λ part. IsNodeSide known l part)) c.in-Some-2.is c.in_ok-left.ensures in
    let right = subst (λ (o : Option Plan). IfSome o (λ part. IsNodeSide known r part)) c.in-Some-3.is c.in_ok-right.ensures in
    sides_tell known c.in-Some.found.relation c.args.test.now c.in_ok-comparison.field-0 l r c.in-Some-2.left c.in-Some-3.right
    c.in-Some.ensures c.in_ok-comparison.ensures left right
