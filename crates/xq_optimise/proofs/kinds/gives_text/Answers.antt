use Rattle.xq_optimise.proofs.KindLaws.{literal_text, text_call}
use Rattle.xq_optimise.proofs.kinds.gives_text.Goals as goal

pub returns-in-Str : goal.returns-in-Str
returns-in-Str c = λ e. literal_text c.args.plan.now c.in-Str.field-0 c.in-Str.is

pub returns-in-Call : goal.returns-in-Call
returns-in-Call c = λ e. text_call c.in-Call.function c.args.plan.now c.in-Call.field-1 c.in-Call.is (c.is_of_text.ensures e)
