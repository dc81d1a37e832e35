use Rattle.std.proofs.Common.{refl, sym, subst, ◌∙◌, arith}
use Rattle.std.proofs.lemmas.Bool.{false≢true}
use Rattle.std.specs.List.{AllByRecursion}
use Rattle.xq_optimise.specs.Sure.{IgnoresBy}
use Rattle.xq_optimise.specs.private.Invariants.{OperandIgnores}
use Rattle.xq_optimise.proofs.Elements.{all_next}
use Rattle.xq_optimise.proofs.FocusFree as free
use Rattle.xq_optimise.proofs.focus.+focus.Goals as goal

pub ignores-returns-in-Int : goal.ignores-returns-in-Int
ignores-returns-in-Int t c = λ _. free.int_free c.args.at_node c.in-Int.field-0 c.args.plan.now c.in-Int.is

pub ignores-returns-in-Dec : goal.ignores-returns-in-Dec
ignores-returns-in-Dec t c = λ _. free.dec_free c.args.at_node c.in-Dec.field-0 c.args.plan.now c.in-Dec.is

pub ignores-returns-in-Str : goal.ignores-returns-in-Str
ignores-returns-in-Str t c = λ _. free.str_free c.args.at_node c.in-Str.field-0 c.args.plan.now c.in-Str.is

pub ignores-returns-in-Slot : goal.ignores-returns-in-Slot
ignores-returns-in-Slot t c = λ _. free.slot_free c.args.at_node c.in-Slot.field-0 c.args.plan.now c.in-Slot.is

pub all_ignore-loop-part-preserved : goal.all_ignore-loop-part-preserved
all_ignore-loop-part-preserved t c =
    all_next (IgnoresBy c.args.at_node) c.args.parts.now c.loop-part.part-index c.part-item.result c.loop-part.invariant (omega arith) c.part-item.is (c.if-not-ignores.ensures refl)

pub operands_ignore-loop-part-preserved : goal.operands_ignore-loop-part-preserved
operands_ignore-loop-part-preserved t c =
    all_next (OperandIgnores c.args.at_node) c.args.operands.now c.loop-part.part-index c.loop-part-item.result c.loop-part.invariant (omega arith) c.loop-part-item.is (c.if-not-ignores.ensures refl)

pub ignores-returns-in-Path : goal.ignores-returns-in-Path
ignores-returns-in-Path t c = λ e.
    free.path_free c.args.at_node c.in-Path.start c.in-Path.field-1 c.args.plan.now c.in-Path.is (subst (IgnoresBy c.args.at_node) c.get.ensures (c.ignores.ensures e))

pub ignores-returns-then-not-is_empty : goal.ignores-returns-then-not-is_empty
ignores-returns-then-not-is_empty t c = λ e.
    free.call_free c.args.at_node c.in-Call.field-0 c.in-Call.parts c.args.plan.now c.in-Call.is (λ none. false≢true (sym c.if-not-is_empty.true ∙ c.is_empty.ensures.1 none))
    (subst (AllByRecursion (IgnoresBy c.args.at_node)) c.as_slice.ensures (c.all_ignore.ensures e))

pub ignores-returns-in-Sequence : goal.ignores-returns-in-Sequence
ignores-returns-in-Sequence t c = λ e.
    free.sequence_free c.args.at_node c.in-Sequence.parts c.args.plan.now c.in-Sequence.is
    (subst (AllByRecursion (IgnoresBy c.args.at_node)) c.as_slice-in-Sequence.ensures (c.all_ignore-in-Sequence.ensures e))

pub ignores-returns-then-ignores : goal.ignores-returns-then-ignores
ignores-returns-then-ignores t c = λ e.
    free.chain_free c.args.at_node c.in-Chain.first c.in-Chain.rest c.args.plan.now c.in-Chain.is
    (subst (IgnoresBy c.args.at_node) c.get-in-Chain.ensures (c.if-ignores.ensures refl))
    (subst (AllByRecursion (OperandIgnores c.args.at_node)) c.as_slice-then-ignores.ensures (c.operands_ignore.ensures e))

pub ignores-returns-in-ContextItem : goal.ignores-returns-in-ContextItem
ignores-returns-in-ContextItem t c = λ e. free.context_free c.args.at_node c.args.plan.now e c.in-ContextItem.is

pub ignores-returns-in-Step : goal.ignores-returns-in-Step
ignores-returns-in-Step t c = λ e. free.step_free c.args.at_node c.in-Step.field-0 c.in-Step.field-1 c.in-Step.field-2 c.args.plan.now e c.in-Step.is
