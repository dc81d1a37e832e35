use Rattle.std.proofs.Common.{◌≡◌, ◌<◌, ◌+◌, ◌*◌, ◌∷◌, ◌++◌, [], Option, ap, arith, refl, subst, ◌∙◌}
use Prim.Native.Nat.{max}
use denote.Param.Weighed.{most}
use Rattle.std.specs.Prelude.{IfSome}
use Rattle.xq_meaning.specs.declared.operators.Operator.{Operator}
use Rattle.xq_meaning.specs.declared.plans.Plan.{Plan, size-Plan}
use Rattle.xq_meaning.specs.declared.plans.Plan.TheVariants as plan
use Rattle.xq_optimise.specs.private.FirstTests.{SameAtNode}
use Rattle.xq_optimise.proofs.AtNodes as nodes
use Rattle.xq_optimise.proofs.JoinLaws.{only_one}
use Rattle.xq_optimise.proofs.at_nodes.+at_nodes.Goals as goal

pub call_at_node-returns : goal.call_at_node-returns
call_at_node-returns t c =
    let slot = c.args.slot in
    let part = c.part-item.result in
    let found = c.in-Some.part in
    let one : c.args.parts.now ≡ part ∷ [] = only_one c.args.parts.now part (omega arith) (omega arith) c.part-item.is in
    let made = c.in_ok-push.ensures.ok ∙ ap (λ l. l ++ found ∷ []) c.new-found.ensures in
    let told = subst (λ (o : Option Plan). IfSome o (λ q. SameAtNode slot part q)) c.in-Some.is c.in_ok-part.ensures in
    nodes.call_at_node slot c.args.function part found (plan.Call c.args.function c.args.parts.now) (plan.Call c.args.function c.push.new.self)
    (ap (plan.Call c.args.function) one) (ap (plan.Call c.args.function) made) told

pub chain_at_node-at_node-requires-2 : goal.chain_at_node-at_node-requires-2
chain_at_node-at_node-requires-2 t c =
    let operand = c.operand-item.result in
    let size = λ (o : Operator × Plan). size-Plan o.1 in
    let at : 2 * max (size-Plan c.args.first.now) (most size c.args.rest.now) + 1 ≡ t = c.decreases in
    let one = ap (most size) (only_one c.args.rest.now operand (omega arith) (omega arith) c.operand-item.is) in
    let below : 2 * size-Plan operand.1 < t = omega (arith, at, one) in
    (below, tt)

pub chain_at_node-returns : goal.chain_at_node-returns
chain_at_node-returns t c =
    let slot = c.args.slot in
    let operand = c.operand-item.result in
    let op = operand.0 in
    let first = c.in-Some.first in
    let last = c.in-Some-2.last in
    let one : c.args.rest.now ≡ operand ∷ [] = only_one c.args.rest.now operand (omega arith) (omega arith) c.operand-item.is in
    let made = c.in_ok-push.ensures.ok ∙ ap (λ l. l ++ (op, last) ∷ []) c.new-found.ensures in
    let left = subst (λ (o : Option Plan). IfSome o (λ q. SameAtNode slot c.args.first.now q)) c.in-Some.is c.in_ok-first.ensures in
    let right = subst (λ (o : Option Plan). IfSome o (λ q. SameAtNode slot operand.1 q)) c.in-Some-2.is c.in_ok-last.ensures in
    nodes.pair_at_node slot op c.args.first.now operand.1 first last (plan.Chain c.args.first.now c.args.rest.now) (plan.Chain c.in_ok-new.field-0 c.push.new.self)
    (ap (plan.Chain c.args.first.now) one)
    (ap (λ p. plan.Chain p c.push.new.self) c.in_ok-new.ensures ∙ ap (plan.Chain first) made) left right

pub path_at_node-returns : goal.path_at_node-returns
path_at_node-returns t c =
    let slot = c.args.slot in
    let start = c.in-Some.start in
    let steps = c.in-Some-2.steps in
    let told = subst (λ (o : Option Plan). IfSome o (λ q. SameAtNode slot c.args.start.now q)) c.in-Some.is c.in_ok-start.ensures in
    let same = subst (λ o. IfSome o (λ l. l ≡ c.args.steps.now)) c.in-Some-2.is c.in_ok-steps.ensures in
    nodes.path_at_node slot c.args.start.now start c.args.steps.now (plan.Path c.args.start.now c.args.steps.now) (plan.Path c.in_ok-new.field-0 steps)
    refl (ap (λ p. plan.Path p steps) c.in_ok-new.ensures ∙ ap (plan.Path start) same) (c.if-not-steps_read_outside.ensures refl) told
