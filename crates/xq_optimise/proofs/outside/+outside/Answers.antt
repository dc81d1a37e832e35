use Rattle.std.proofs.Common.{refl, sym, subst, ◌∙◌, arith}
use Rattle.std.proofs.lemmas.Bool.{false≢true}
use Rattle.std.specs.List.{AllByRecursion}
use Rattle.xq_optimise.specs.private.Joins.{IsOutside, OperandOutside, StepOutside}
use Rattle.xq_optimise.proofs.Elements.{all_next}
use Rattle.xq_optimise.proofs.SlotsOutside as slots
use Rattle.xq_optimise.proofs.outside.+outside.Goals.{reads_outside-then-reads_outside, reads_outside-else-reads_outside}
use Rattle.xq_optimise.proofs.outside.+outside.Goals as goal

pub reads_outside-returns-in-Int : goal.reads_outside-returns-in-Int
reads_outside-returns-in-Int t c = λ _. slots.int_outside c.args.outer c.in-Int.field-0 c.args.plan.now c.in-Int.is

pub reads_outside-returns-in-Dec : goal.reads_outside-returns-in-Dec
reads_outside-returns-in-Dec t c = λ _. slots.dec_outside c.args.outer c.in-Dec.field-0 c.args.plan.now c.in-Dec.is

pub reads_outside-returns-in-Str : goal.reads_outside-returns-in-Str
reads_outside-returns-in-Str t c = λ _. slots.str_outside c.args.outer c.in-Str.field-0 c.args.plan.now c.in-Str.is

pub reads_outside-returns-in-ContextItem : goal.reads_outside-returns-in-ContextItem
reads_outside-returns-in-ContextItem t c = λ _. slots.context_outside c.args.outer c.args.plan.now c.in-ContextItem.is

pub reads_outside-returns-in-Root : goal.reads_outside-returns-in-Root
reads_outside-returns-in-Root t c = λ _. slots.root_outside c.args.outer c.args.plan.now c.in-Root.is

pub reads_outside-returns-in-Slot : goal.reads_outside-returns-in-Slot
reads_outside-returns-in-Slot t c = λ e. slots.slot_within c.args.outer c.in-Slot.slot c.args.plan.now c.in-Slot.is e

pub reads_outside-returns-in-Unary : goal.reads_outside-returns-in-Unary
reads_outside-returns-in-Unary t c = λ e.
    slots.unary_outside c.args.outer c.in-Unary.field-0 c.in-Unary.part c.args.plan.now c.in-Unary.is
    (subst (IsOutside c.args.outer) c.get.ensures (c.reads_outside.ensures e))

pub all_read_outside-loop-part-preserved : goal.all_read_outside-loop-part-preserved
all_read_outside-loop-part-preserved t c =
    all_next (IsOutside c.args.outer) c.args.parts.now c.loop-part.part-index c.part-item.result c.loop-part.invariant (omega arith) c.part-item.is (c.if-not-reads_outside.ensures refl)

pub operands_read_outside-loop-part-preserved : goal.operands_read_outside-loop-part-preserved
operands_read_outside-loop-part-preserved t c =
    all_next (OperandOutside c.args.outer) c.args.operands.now c.loop-part.part-index c.loop-part-item.result c.loop-part.invariant (omega arith) c.loop-part-item.is (c.if-not-reads_outside.ensures refl)

pub steps_read_outside-loop-step-preserved : goal.steps_read_outside-loop-step-preserved
steps_read_outside-loop-step-preserved t c =
    all_next (StepOutside c.args.outer) c.args.steps.now c.loop-step.step-index c.step-item.result c.loop-step.invariant (omega arith) c.step-item.is (c.if-not-step_reads_outside.ensures refl)

pub step_reads_outside-returns-in-Scan : goal.step_reads_outside-returns-in-Scan
step_reads_outside-returns-in-Scan t c = λ _. slots.scan_outside c.args.outer c.in-Scan.field-0 c.in-Scan.field-1 c.args.step.now c.in-Scan.is

pub reads_outside-returns-in-Call : goal.reads_outside-returns-in-Call
reads_outside-returns-in-Call t c = λ e.
    slots.call_outside c.args.outer c.in-Call.field-0 c.in-Call.parts c.args.plan.now c.in-Call.is
    (subst (AllByRecursion (IsOutside c.args.outer)) c.as_slice.ensures (c.all_read_outside.ensures e))

pub reads_outside-returns-in-Sequence : goal.reads_outside-returns-in-Sequence
reads_outside-returns-in-Sequence t c = λ e.
    slots.sequence_outside c.args.outer c.in-Sequence.parts c.args.plan.now c.in-Sequence.is
    (subst (AllByRecursion (IsOutside c.args.outer)) c.as_slice-in-Sequence.ensures (c.all_read_outside-in-Sequence.ensures e))

pub reads_outside-returns-in-Or : goal.reads_outside-returns-in-Or
reads_outside-returns-in-Or t c = λ e.
    slots.or_outside c.args.outer c.in-Or.parts c.args.plan.now c.in-Or.is
    (subst (AllByRecursion (IsOutside c.args.outer)) c.as_slice-in-Or.ensures (c.all_read_outside-in-Or.ensures e))

pub reads_outside-returns-in-And : goal.reads_outside-returns-in-And
reads_outside-returns-in-And t c = λ e.
    slots.and_outside c.args.outer c.in-And.parts c.args.plan.now c.in-And.is
    (subst (AllByRecursion (IsOutside c.args.outer)) c.as_slice-in-And.ensures (c.all_read_outside-in-And.ensures e))

pub reads_outside-returns-then-reads_outside-2 : goal.reads_outside-returns-then-reads_outside-2
reads_outside-returns-then-reads_outside-2 t c = λ e.
    elim c.if-reads_outside.branch [
      | reads_outside-then-reads_outside w ↦ slots.if_outside c.args.outer c.in-If.test c.in-If.positive c.in-If.negative c.args.plan.now c.in-If.is
          (subst (IsOutside c.args.outer) c.get-in-If.ensures (w.if-reads_outside.ensures refl))
          (subst (IsOutside c.args.outer) w.get-then-reads_outside.ensures (w.reads_outside-then-reads_outside.ensures (sym w.value-is ∙ c.if-reads_outside-2.true)))
          (subst (IsOutside c.args.outer) c.get-then-reads_outside-2.ensures (c.reads_outside-then-reads_outside-2.ensures e))
      | reads_outside-else-reads_outside w ↦ absurd (false≢true (sym w.if-reads_outside.false ∙ sym w.value-is ∙ c.if-reads_outside-2.true))
    ]

pub reads_outside-returns-then-reads_outside-3 : goal.reads_outside-returns-then-reads_outside-3
reads_outside-returns-then-reads_outside-3 t c = λ e.
    slots.chain_outside c.args.outer c.in-Chain.first c.in-Chain.rest c.args.plan.now c.in-Chain.is
    (subst (IsOutside c.args.outer) c.get-in-Chain.ensures (c.if-reads_outside-3.ensures refl))
    (subst (AllByRecursion (OperandOutside c.args.outer)) c.as_slice-then-reads_outside-3.ensures (c.operands_read_outside.ensures e))

pub reads_outside-returns-then-reads_outside-4 : goal.reads_outside-returns-then-reads_outside-4
reads_outside-returns-then-reads_outside-4 t c = λ e.
    slots.map_outside c.args.outer c.in-Map.start c.in-Map.parts c.args.plan.now c.in-Map.is
    (subst (IsOutside c.args.outer) c.get-in-Map.ensures (c.if-reads_outside-4.ensures refl))
    (subst (AllByRecursion (IsOutside c.args.outer)) c.as_slice-then-reads_outside-4.ensures (c.all_read_outside-then-reads_outside-4.ensures e))

pub reads_outside-returns-then-reads_outside-5 : goal.reads_outside-returns-then-reads_outside-5
reads_outside-returns-then-reads_outside-5 t c = λ e.
    slots.filter_outside c.args.outer c.in-Filter.start c.in-Filter.predicates c.args.plan.now c.in-Filter.is
    (subst (IsOutside c.args.outer) c.get-in-Filter.ensures (c.if-reads_outside-5.ensures refl))
    (subst (AllByRecursion (IsOutside c.args.outer)) c.as_slice-then-reads_outside-5.ensures (c.all_read_outside-then-reads_outside-5.ensures e))

pub reads_outside-returns-in-Step : goal.reads_outside-returns-in-Step
reads_outside-returns-in-Step t c = λ e.
    slots.step_outside c.args.outer c.in-Step.field-0 c.in-Step.field-1 c.in-Step.predicates c.args.plan.now c.in-Step.is
    (subst (AllByRecursion (IsOutside c.args.outer)) c.as_slice-in-Step.ensures (c.all_read_outside-in-Step.ensures e))

pub reads_outside-returns-then-reads_outside-6 : goal.reads_outside-returns-then-reads_outside-6
reads_outside-returns-then-reads_outside-6 t c = λ e.
    slots.path_outside c.args.outer c.in-Path.start c.in-Path.steps c.args.plan.now c.in-Path.is
    (subst (IsOutside c.args.outer) c.get-in-Path.ensures (c.if-reads_outside-6.ensures refl))
    (subst (AllByRecursion (StepOutside c.args.outer)) c.as_slice-then-reads_outside-6.ensures (c.steps_read_outside.ensures e))

pub step_reads_outside-returns-in-Each : goal.step_reads_outside-returns-in-Each
step_reads_outside-returns-in-Each t c = λ e.
    slots.each_outside c.args.outer c.in-Each.part c.args.step.now c.in-Each.is (c.reads_outside.ensures e)
