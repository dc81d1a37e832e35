use Rattle.std.proofs.Common.{[], sym, subst}
use Rattle.xq_expressions.specs.declared.signatures.Function.TheVariants.{String as OfString, Data as OfData}
use Rattle.xq_meaning.specs.declared.plans.Plan.TheVariants as plan
use Rattle.xq_eval.specs.private.Told.{CallsOnItem}
use Rattle.xq_eval.proofs.ItemCalls.{alone_string, alone_data}
use Rattle.xq_eval.proofs.told.asked_alone.Goals as goal

pub returns-in-String : goal.returns-in-String
returns-in-String c = subst (λ f. CallsOnItem OfString (plan.Call f [])) (sym c.in-String.is) alone_string

pub returns-in-Data : goal.returns-in-Data
returns-in-Data c = subst (λ f. CallsOnItem OfData (plan.Call f [])) (sym c.in-Data.is) alone_data
