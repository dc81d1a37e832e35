use Rattle.std.proofs.Common.{ap, refl}
use Rattle.xq_meaning.specs.declared.plans.Plan.TheVariants as plan
use Rattle.xq_optimise.proofs.KindLaws.{doc_held, text_call, text_held}
use Rattle.xq_optimise.proofs.kinds.held_by_call.Goals as goal

pub returns-then-is_of_text : goal.returns-then-is_of_text
returns-then-is_of_text c =
    let p = plan.Call c.args.function c.args.parts.now in
    text_held c.args.known.now p (text_call c.args.function p c.args.parts.now refl (c.if-is_of_text.ensures refl))

pub returns-in-Doc : goal.returns-in-Doc
returns-in-Doc c =
    doc_held c.args.known.now (plan.Call c.args.function c.args.parts.now) c.args.parts.now (ap (λ function. plan.Call function c.args.parts.now) c.in-Doc.is)
