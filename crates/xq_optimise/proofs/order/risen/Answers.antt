use Rattle.std.proofs.Common.{refl}
use Rattle.std.proofs.lemmas.Result.{IfOk-weaker}
use Rattle.xq_optimise.proofs.Rising.{none_off, one_off, test_risen, risen_long, taken_back}
use Rattle.xq_optimise.proofs.order.risen.Goals as goal

pub loop-next-init : goal.loop-next-init
loop-next-init c =
    none_off c.args.known.now c.args.left.items c.args.left.items c.new-passed.result.items refl c.new-passed.ensures.items

pub returns-then-is_rising-clause-same : goal.returns-then-is_rising-clause-same
returns-then-is_rising-clause-same c =
    IfOk-weaker c.with_first.result _ _
    (λ after h. test_risen c.args.known.now c.loop-next.plain c.args.left.items c.loop-next.left.items c.pop.new.self.items c.loop-next.passed.items after.items c.in-Some.next
    c.loop-next.invariant c.in-Some.ensures.items (c.if-is_rising.ensures refl) h) c.with_first.ensures

pub returns-then-is_rising-clause-long : goal.returns-then-is_rising-clause-long
returns-then-is_rising-clause-long c =
    IfOk-weaker c.with_first.result _ _
    (λ after h. risen_long c.args.known.now c.loop-next.plain c.args.left.items c.loop-next.left.items c.pop.new.self.items c.loop-next.passed.items after.items c.in-Some.next c.in-Some.next
    c.loop-next.invariant c.in-Some.ensures.items h) c.with_first.ensures

pub returns-then-not-may_pass-clause-same : goal.returns-then-not-may_pass-clause-same
returns-then-not-may_pass-clause-same c =
    IfOk-weaker c.stopped.result _ _
    (λ after h. (taken_back c.args.known.now c.loop-next.plain c.args.left.items c.loop-next.left.items c.pop.new.self.items c.loop-next.passed.items after.items c.in-Some.next
    c.loop-next.invariant c.in-Some.ensures.items h).0) c.stopped.ensures

pub returns-then-not-may_pass-clause-long : goal.returns-then-not-may_pass-clause-long
returns-then-not-may_pass-clause-long c =
    IfOk-weaker c.stopped.result _ _
    (λ after h. (taken_back c.args.known.now c.loop-next.plain c.args.left.items c.loop-next.left.items c.pop.new.self.items c.loop-next.passed.items after.items c.in-Some.next
    c.loop-next.invariant c.in-Some.ensures.items h).1) c.stopped.ensures

pub stopped-requires : goal.stopped-requires
stopped-requires c = c.loop-next.invariant.each

pub loop-next-preserved : goal.loop-next-preserved
loop-next-preserved c =
    one_off c.args.known.now c.loop-next.plain c.stays_plain-plain.result c.args.left.items c.loop-next.left.items c.pop.new.self.items c.loop-next.passed.items c.push.new.self.items c.in-Some.next
    c.loop-next.invariant c.in-Some.ensures.items (c.if-not-may_pass.ensures refl) c.stays_plain-plain.ensures c.in_ok-push.ensures.items
