use Rattle.std.proofs.Common.{◌≡◌, ◌∷◌, [], ap, ◌∙◌, drop}
use Rattle.xq_expressions.specs.declared.signatures.Function.TheVariants.{Last}
use Rattle.xq_meaning.specs.declared.plans.Plan.TheVariants as plan_of
use Rattle.xq_eval.proofs.Choosing.{last_suffices, first_is}
use Rattle.xq_eval.proofs.chosen.is_last.Goals as goal

pub returns-in-Some-Last : goal.returns-in-Some-Last
returns-in-Some-Last c = λ _.
    (let predicates = c.args.predicates.now in
    let first = c.in-Some.first.now in
    let asked : first ≡ plan_of.Call Last [] = (let e = c.in-Some-Last.ensures in let f = c.in-Some-Last.field-0-is in cc) in
    last_suffices predicates (drop 1 predicates) (first_is predicates first c.in-Some.ensures.item.0 c.in-Some.ensures.item.1 ∙ ap (λ p. p ∷ drop 1 predicates) asked))
