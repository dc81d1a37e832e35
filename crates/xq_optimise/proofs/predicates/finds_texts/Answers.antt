use Rattle.std.proofs.Common.{refl, sym, subst}
use Rattle.xq_optimise.specs.Sure.{SurelyFindsTexts}
use Rattle.xq_optimise.proofs.ItemTests.{found_texts, string_texts, outer_texts}
use Rattle.xq_optimise.proofs.KindLaws.{slot_texts_found}
use Rattle.xq_optimise.proofs.predicates.finds_texts.Goals as goal

pub returns-then-finds_nodes : goal.returns-then-finds_nodes
returns-then-finds_nodes c = λ e. found_texts c.args.known.now c.args.plan.now (c.if-finds_nodes.ensures refl)

pub returns-in-Str : goal.returns-in-Str
returns-in-Str c = λ e. subst (SurelyFindsTexts c.args.known.now) (sym c.in-Str.is) (string_texts c.args.known.now c.in-Str.field-0)

pub returns-then-is_nodes : goal.returns-then-is_nodes
returns-then-is_nodes c = λ e.
    outer_texts c.args.known.now c.args.plan.now (c.if-is_nodes.ensures.sure refl) (c.if-is_nodes.ensures.free refl)

pub returns-else-is_nodes : goal.returns-else-is_nodes
returns-else-is_nodes c = λ e. slot_texts_found c.args.known.now c.args.plan.now (c.is_slot_texts.ensures e)
