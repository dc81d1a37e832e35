use Rattle.std.proofs.Common.{◌≡◌, List, [], ◌∷◌, reverse, sym, ap, ◌∙◌, subst}
use Rattle.std.proofs.lemmas.List.{reverse-append, reverse-reverse}
use Rattle.std.proofs.lemmas.Result.{IfOk-weaker}
use Rattle.std.specs.List.{AllByRecursion}
use Rattle.xq_meaning.specs.declared.plans.Plan.{Plan}
use Rattle.xq_meaning.specs.declared.plans.Plan.TheVariants as plan
use Rattle.xq_meaning.specs.declared.plans.PlanStep.TheVariants as step
use Rattle.xq_optimise.specs.Sure.{SurelyKeeps}
use Rattle.xq_optimise.specs.private.Parts.{MovesOn}
use Rattle.xq_optimise.proofs.WholePaths.{first_moves, pushed_moves}
use Rattle.xq_optimise.proofs.scanned.with_look_up.Goals as goal

pub returns-then-len-lt2 : goal.returns-then-len-lt2
returns-then-len-lt2 c =
    let path = c.args.path in
    IfOk-weaker c.pushed.result _ _
    (λ found h. pushed_moves c.args.known.now (step.Each (plan.Step c.args.axis c.args.test c.args.predicates)) path.start found.start path.steps found.steps h) c.pushed.ensures

pub returns-in-Some : goal.returns-in-Some
returns-in-Some c =
    let known = c.args.known.now in
    let path = c.args.path in
    let first = c.in-Some.first in
    let rest = c.from_vec.result in
    let whole : c.args.predicates ≡ first ∷ rest =
    sym (reverse-reverse c.args.predicates)
    ∙ ap reverse (sym c.in_ok-left.ensures ∙ c.in-Some.ensures.items)
    ∙ reverse-append c.pop.new.self.items (first ∷ [])
    ∙ ap (λ (l : List Plan). first ∷ l) (sym (c.from_vec.ensures ∙ c.reverse.ensures.items)) in
    IfOk-weaker c.with_first.result _ _
    (λ found h. subst (λ (ps : List Plan). MovesOn known (step.Each (plan.Step c.args.axis c.args.test ps)) path.start path.steps found.start found.steps) (sym whole)
    (first_moves known c.args.axis c.args.test first rest (subst (AllByRecursion (SurelyKeeps known)) whole c.requires) path.start found.start path.steps found.steps h)) c.with_first.ensures
