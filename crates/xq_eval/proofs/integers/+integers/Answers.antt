use Rattle.std.proofs.Common.{rules, ◌≡◌, ◌+◌, List, map, drop, sym, ap, ◌∙◌, arith, to_z, of_z, w64, Ok}
use Rattle.std.proofs.lemmas.List.{drop_all}
use Rattle.xq_atoms.specs.Atom.{Integer}
use Rattle.xq_meaning.specs.declared.operators.Operator.{Operator}
use Rattle.xq_meaning.specs.declared.plans.Plan.{Plan}
use Rattle.xq_meaning.specs.declared.plans.Plan.TheVariants as plan
use Rattle.xq_meaning.specs.Arguments.{atomic}
use Rattle.xq_meaning.specs.Doing.{go_on, in_turn}
use Rattle.xq_meaning.specs.Forms as Forms
use Rattle.xq_meaning.specs.PlanMeaning.{plan_mean}
use Rattle.xq_eval.proofs.AtHand.{told_integer, integer_slot, integer_chain, given_operand, left_of, one_further}
use Rattle.xq_eval.proofs.integers.+integers.Goals as goal

pub integer_of-returns-in-Int : goal.integer_of-returns-in-Int
integer_of-returns-in-Int t c = λ trees frame env.
    (let same : to_z w64 (of_z w64 c.in-Int.integer) ≡ c.in-Int.integer = search rules in
    told_integer c.args.plan.now c.in-Int.integer frame trees c.in-Int.is ∙ ap (λ n. (Ok (atomic (Integer n)), trees)) (sym same))

pub integer_of-returns-in-Slot : goal.integer_of-returns-in-Slot
integer_of-returns-in-Slot t c = integer_slot c.args.plan.now c.in-Slot.slot c.args.slots.now c.integer_in.result c.in-Slot.is c.integer_in.ensures

pub integer_of-returns-in-Chain : goal.integer_of-returns-in-Chain
integer_of-returns-in-Chain t c =
    integer_chain c.args.plan.now c.get.result.now c.as_slice.result.now c.args.slots.now c.integer_of_chain.result
    (c.in-Chain.is ∙ ap (λ p. plan.Chain p c.in-Chain.rest) (sym c.get.ensures) ∙ ap (λ rs. plan.Chain c.get.result.now rs) (sym c.as_slice.ensures)) c.integer_of_chain.ensures

pub integer_of_chain-loop-operator-init : goal.integer_of_chain-loop-operator-init
integer_of_chain-loop-operator-init t c = λ trees frame env.
    (let same : to_z w64 (of_z w64 c.in_ok-total.total) ≡ c.in_ok-total.total = search rules in
    ap (λ o. go_on o (λ xs. in_turn (Forms.next_operand frame) xs (map (λ (op, p). (op, plan_mean p)) c.args.rest.now))) (c.in_ok-total.ensures trees frame env)
    ∙ ap (λ n. left_of frame trees (Integer n) c.args.rest.now) (sym same))

pub integer_of_chain-loop-operator-preserved : goal.integer_of_chain-loop-operator-preserved
integer_of_chain-loop-operator-preserved t c = λ trees frame env.
    (let operand = c.loop-operator-item.result in
    let right = c.in_ok-right.right in
    let left = Integer (to_z w64 c.loop-operator.total-bits) in
    let next = Integer c.in_ok-total-2.total in
    let same : to_z w64 (of_z w64 c.in_ok-total-2.total) ≡ c.in_ok-total-2.total = search rules in
    let same_right : to_z w64 (of_z w64 right) ≡ right = search rules in
    let value = c.in_ok-right.ensures trees frame env ∙ ap (λ n. (Ok (atomic (Integer n)), trees)) (sym same_right) in
    let step = given_operand frame trees left (Integer (to_z w64 (of_z w64 right))) next operand.0 operand.1 value (c.in_ok-total-2.ensures trees) in
    c.loop-operator.invariant trees frame env
    ∙ one_further frame trees c.args.rest.now c.loop-operator.operator-index operand left next (omega arith) c.loop-operator-item.is step
    ∙ ap (λ n. left_of frame trees (Integer n) (drop (c.loop-operator.operator-index + 1) c.args.rest.now)) (sym same))

pub integer_of_chain-returns : goal.integer_of_chain-returns
integer_of_chain-returns t c = λ trees frame env.
    c.loop-operator.invariant trees frame env
    ∙ ap (λ (left : List (Operator × Plan)). left_of frame trees (Integer (to_z w64 c.loop-operator.total-bits)) left) (drop_all c.loop-operator.operator-index c.args.rest.now (omega arith))
