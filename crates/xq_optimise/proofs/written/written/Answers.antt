use Rattle.std.proofs.Common.{Option, subst}
use Rattle.std.specs.Prelude.{IfSome}
use Rattle.xq_meaning.specs.declared.plans.Plan.{Plan}
use Rattle.xq_optimise.specs.Sure.{SurelyNodes, ReadsBelow}
use Rattle.xq_optimise.specs.private.Order.{SameAfter}
use Rattle.xq_optimise.proofs.WrittenOut.{written_stands}
use Rattle.xq_optimise.proofs.written.written.Goals as goal

pub returns : goal.returns
returns c =
    let known = c.args.known.now in
    let passed = c.args.passed.now in
    let l = c.in-Some.found.left.now in
    let r = c.in-Some.found.right.now in
    let left = subst (λ (o : Option Plan). IfSome o (λ part. SurelyNodes known part × ReadsBelow known part × SameAfter known passed l part)) c.in-Some-2.is c.in_ok-left.ensures in
    let right = subst (λ (o : Option Plan). IfSome o (λ part. SurelyNodes known part × ReadsBelow known part × SameAfter known passed r part)) c.in-Some-3.is c.in_ok-right.ensures in
    written_stands known passed c.args.next.now c.in-Where.test l r c.in-Some-2.left c.in-Some-3.right c.in_ok-comparison.field-0 c.in-Some.found.relation
    c.in-Where.is c.in-Some.ensures c.in-Equal.is left right c.in_ok-comparison.ensures c.requires
