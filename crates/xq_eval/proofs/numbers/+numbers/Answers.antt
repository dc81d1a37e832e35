use Rattle.std.proofs.Common.{rules, ◌≡◌, List, map, sym, ap, ◌∙◌, subst, arith, to_z, of_z, w64, Ok, Err}
use Rattle.std.proofs.lemmas.List.{drop_all}
use Rattle.xq_atoms.specs.Atom.{Integer, atomic_of}
use Rattle.xq_meaning.specs.declared.operators.Operator.{Operator}
use Rattle.xq_meaning.specs.declared.plans.Plan.{Plan}
use Rattle.xq_meaning.specs.declared.plans.Plan.TheVariants as plan
use Rattle.xq_meaning.specs.Arguments.{atomic}
use Rattle.xq_meaning.specs.Doing.{in_turn, on_trees}
use Rattle.xq_meaning.specs.Forms as Forms
use Rattle.xq_meaning.specs.Operators.{operated}
use Rattle.xq_meaning.specs.PlanMeaning.{plan_mean}
use Rattle.xq_eval.specs.private.Numbers.{TellsNumber}
use Rattle.xq_eval.proofs.AtHand.{handed_back, told_integer, told_decimal, told_slot, told_chain, told_after, told_refused, told_operand, left_of, one_further, one_refused}
use Rattle.xq_eval.proofs.numbers.+numbers.Goals as goal

pub judged_number-returns-in-Int : goal.judged_number-returns-in-Int
judged_number-returns-in-Int t c = λ trees frame env.
    (let same : to_z w64 (of_z w64 c.in-Int.integer) ≡ c.in-Int.integer = search rules in
    told_integer c.args.plan.now c.in-Int.integer frame trees c.in-Int.is ∙ ap (λ n. (Ok (atomic (Integer n)), trees)) (sym same))

pub judged_number-returns-in-Dec : goal.judged_number-returns-in-Dec
judged_number-returns-in-Dec t c = λ trees frame env. told_decimal c.args.plan.now _ frame trees c.in-Dec.is

pub judged_number-returns-in-Slot : goal.judged_number-returns-in-Slot
judged_number-returns-in-Slot t c = λ trees frame env.
    told_slot c.args.plan.now c.in-Slot.slot frame trees c.args.slots.now c.number_in.result c.in-Slot.is env c.number_in.ensures

pub judged_number-returns-in-Chain : goal.judged_number-returns-in-Chain
judged_number-returns-in-Chain t c = λ trees frame env.
    told_chain c.args.plan.now c.get.result.now c.as_slice.result.now frame trees c.judged_chain.result
    (c.in-Chain.is ∙ ap (λ p. plan.Chain p c.in-Chain.rest) (sym c.get.ensures) ∙ ap (λ rs. plan.Chain c.get.result.now rs) (sym c.as_slice.ensures)) (c.judged_chain.ensures trees frame env)

pub next_number-returns : goal.next_number-returns
next_number-returns t c = λ trees frame env.
    (let value = subst (λ o. TellsNumber (plan_mean c.args.part.now frame trees) trees (Ok o)) c.in-Some.is (c.in_ok-right.ensures trees frame env) in
    told_operand frame (atomic (atomic_of c.args.left.now)) c.args.operator c.args.part.now trees c.in-Some.right c.calculated.result value (c.calculated.ensures trees))

pub next_number-returns-in_err-right : goal.next_number-returns-in_err-right
next_number-returns-in_err-right t c = λ trees frame env.
    (let code = c.in_err-right.field-0.0 in
    let is : c.from_residual.result ≡ Err code = search rules in
    let refused = told_refused (plan_mean c.args.part.now frame trees) (λ ys. on_trees (λ f. operated c.args.operator f (atomic (atomic_of c.args.left.now)) ys)) trees code (c.in_err-right.ensures trees frame env) in
    handed_back _ trees code c.from_residual.result is refused)

pub judged_chain-loop-operator-init : goal.judged_chain-loop-operator-init
judged_chain-loop-operator-init t c = λ trees frame env.
    (let value = subst (λ o. TellsNumber (plan_mean c.args.first.now frame trees) trees (Ok o)) c.in-Some.is (c.in_ok-first.ensures trees frame env) in
    told_after (plan_mean c.args.first.now frame trees) (λ xs. in_turn (Forms.next_operand frame) xs (map (λ (op, p). (op, plan_mean p)) c.args.rest.now)) trees c.in-Some.first value)

pub judged_chain-returns-in_err-first : goal.judged_chain-returns-in_err-first
judged_chain-returns-in_err-first t c = λ trees frame env.
    (let code = c.in_err-first.field-0.0 in
    let is : c.from_residual.result ≡ Err code = search rules in
    let refused = told_refused (plan_mean c.args.first.now frame trees) (λ xs. in_turn (Forms.next_operand frame) xs (map (λ (op, p). (op, plan_mean p)) c.args.rest.now)) trees code (c.in_err-first.ensures trees frame env) in
    handed_back _ trees code c.from_residual.result is refused)

pub judged_chain-loop-operator-preserved : goal.judged_chain-loop-operator-preserved
judged_chain-loop-operator-preserved t c = λ trees frame env.
    (let operand = c.loop-operator-item.result in
    let total = atomic_of c.loop-operator.total in
    let step = subst (λ o. TellsNumber (Forms.next_operand frame (atomic total) (operand.0, plan_mean operand.1) trees) trees (Ok o)) c.in-Some-2.is (c.in_ok-next.ensures trees frame env) in
    c.loop-operator.invariant trees frame env
    ∙ one_further frame trees c.args.rest.now c.loop-operator.operator-index operand total (atomic_of c.in-Some-2.next) (omega arith) c.loop-operator-item.is step)

pub judged_chain-returns-in_err-next : goal.judged_chain-returns-in_err-next
judged_chain-returns-in_err-next t c = λ trees frame env.
    (let operand = c.loop-operator-item.result in
    let code = c.in_err-next.field-0.0 in
    let is : c.from_residual-in_err-next.result ≡ Err code = search rules in
    let refused = one_refused frame trees c.args.rest.now c.loop-operator.operator-index operand (atomic_of c.loop-operator.total) code (omega arith) c.loop-operator-item.is (c.in_err-next.ensures trees frame env) in
    handed_back _ trees code c.from_residual-in_err-next.result is (c.loop-operator.invariant trees frame env ∙ refused))

pub judged_chain-returns : goal.judged_chain-returns
judged_chain-returns t c = λ trees frame env.
    c.loop-operator.invariant trees frame env
    ∙ ap (λ (left : List (Operator × Plan)). left_of frame trees (atomic_of c.loop-operator.total) left) (drop_all c.loop-operator.operator-index c.args.rest.now (omega arith))
