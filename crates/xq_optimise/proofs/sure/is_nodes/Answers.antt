use Rattle.std.proofs.Common.{refl, sym, subst, ◌∙◌}
use Rattle.std.specs.List.{AllByRecursion}
use Rattle.xq_optimise.specs.Sure.{SurelyNodes, ReadsBelow, IgnoresFocus}
use Rattle.xq_optimise.specs.private.Parts.{IsScan}
use Rattle.xq_optimise.proofs.Scans.{slot_surely}
use Rattle.xq_optimise.proofs.Below.{slot_below, slot_ignores, path_at}
use Rattle.xq_optimise.proofs.sure.is_nodes.Goals as goal

pub returns-in-Slot-clause-sure : goal.returns-in-Slot-clause-sure
returns-in-Slot-clause-sure c = λ e.
    subst (SurelyNodes c.args.known.now) (sym c.in-Slot.is) (slot_surely c.args.known.now c.in-Slot.slot (c.has_nodes.ensures e))

pub returns-in-Slot-clause-below : goal.returns-in-Slot-clause-below
returns-in-Slot-clause-below c = λ e.
    subst (ReadsBelow c.args.known.now) (sym c.in-Slot.is) (slot_below c.args.known.now c.in-Slot.slot (c.has_nodes.ensures e).0 (c.has_nodes.ensures e).1)

pub returns-then-has_nodes-clause-sure : goal.returns-then-has_nodes-clause-sure
returns-then-has_nodes-clause-sure c = λ e.
    let found = path_at c.args.known.now c.args.plan.now c.in-Path.start c.in-Path.steps c.in-Slot-get.slot c.in-Path.is
    (sym c.get.ensures ∙ c.in-Slot-get.is) (c.if-has_nodes.ensures refl)
    (subst (AllByRecursion IsScan) c.as_slice.ensures (c.are_scans.ensures.all e)) in found.0

pub returns-then-has_nodes-clause-below : goal.returns-then-has_nodes-clause-below
returns-then-has_nodes-clause-below c = λ e.
    let found = path_at c.args.known.now c.args.plan.now c.in-Path.start c.in-Path.steps c.in-Slot-get.slot c.in-Path.is
    (sym c.get.ensures ∙ c.in-Slot-get.is) (c.if-has_nodes.ensures refl)
    (subst (AllByRecursion IsScan) c.as_slice.ensures (c.are_scans.ensures.all e)) in found.1

pub returns-in-Slot-clause-free : goal.returns-in-Slot-clause-free
returns-in-Slot-clause-free c = λ e. subst IgnoresFocus (sym c.in-Slot.is) (slot_ignores c.in-Slot.slot)

pub returns-then-has_nodes-clause-free : goal.returns-then-has_nodes-clause-free
returns-then-has_nodes-clause-free c = λ e.
    let found = path_at c.args.known.now c.args.plan.now c.in-Path.start c.in-Path.steps c.in-Slot-get.slot c.in-Path.is
    (sym c.get.ensures ∙ c.in-Slot-get.is) (c.if-has_nodes.ensures refl)
    (subst (AllByRecursion IsScan) c.as_slice.ensures (c.are_scans.ensures.all e)) in found.2
