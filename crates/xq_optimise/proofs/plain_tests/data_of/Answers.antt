use Rattle.std.proofs.Common.{◌≡◌, ◌∷◌, [], ap, arith, ◌∙◌}
use Rattle.xq_expressions.specs.declared.signatures.Function.TheVariants as function
use Rattle.xq_meaning.specs.declared.plans.Plan.{Plan}
use Rattle.xq_meaning.specs.declared.plans.Plan.TheVariants as plan
use Rattle.xq_optimise.specs.private.PlainTests.{AtomizesAlike, LeadsAlike}
use Rattle.xq_optimise.proofs.JoinLaws.{if_some, only_one}
use Rattle.xq_optimise.proofs.PlainTests.{data_alike}
use Rattle.xq_optimise.proofs.plain_tests.data_of.Goals as goal

pub returns : goal.returns
returns c =
    let part = c.part-item.result in
    let whole = plan.Call c.args.function c.args.parts.now in
    let one : c.args.parts.now ≡ part ∷ [] = only_one c.args.parts.now part (omega arith) (omega arith) c.part-item.is in
    let is = ap (λ f. plan.Call f c.args.parts.now) c.in-Data.is ∙ ap (plan.Call function.Data) one in
    if_some (λ (q : Plan). LeadsAlike part q) (λ (q : Plan). AtomizesAlike whole q) c.led_from_node.result (λ q h. data_alike whole part q is h) c.led_from_node.ensures
