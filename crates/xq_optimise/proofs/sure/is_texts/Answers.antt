use Rattle.std.proofs.Common.{refl, sym, subst}
use Rattle.xq_optimise.specs.Sure.{SurelyTexts, ReadsBelow}
use Rattle.xq_optimise.proofs.Tests.{string_is_text, nodes_are_texts}
use Rattle.xq_optimise.proofs.Below.{string_below}
use Rattle.xq_optimise.proofs.sure.is_texts.Goals as goal

pub returns-in-Str-clause-sure : goal.returns-in-Str-clause-sure
returns-in-Str-clause-sure c = λ e.
    subst (SurelyTexts c.args.known.now) (sym c.in-Str.is) (string_is_text c.args.known.now c.in-Str.field-0)

pub returns-in-Str-clause-below : goal.returns-in-Str-clause-below
returns-in-Str-clause-below c = λ e.
    subst (ReadsBelow c.args.known.now) (sym c.in-Str.is) (string_below c.args.known.now c.in-Str.field-0)

pub returns-then-is_nodes : goal.returns-then-is_nodes
returns-then-is_nodes c = record {
  sure = λ e. nodes_are_texts c.args.known.now c.args.plan.now (c.if-is_nodes.ensures.sure refl);
  below = λ e. c.if-is_nodes.ensures.below refl;
}

pub returns-else-is_nodes : goal.returns-else-is_nodes
returns-else-is_nodes c = record {
  sure = λ e. (c.is_slot_texts.ensures e).sure;
  below = λ e. (c.is_slot_texts.ensures e).below;
}
