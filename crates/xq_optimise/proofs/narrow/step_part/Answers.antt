use Rattle.std.proofs.Common.{◌≡◌, ◌∷◌, [], ◌∙◌, List, ap, sym, subst}
use Rattle.xq_trees.specs.declared.Axis.{Axis}
use Rattle.xq_meaning.specs.declared.node_tests.Test.{Test}
use Rattle.xq_meaning.specs.declared.plans.Plan.TheVariants as plan
use Rattle.xq_optimise.specs.private.Filters.{LeadsTo}
use Rattle.xq_optimise.proofs.FilterLaws.{path_leads, step_leads}
use Rattle.xq_optimise.proofs.narrow.step_part.Goals as goal

pub returns-then-is_empty : goal.returns-then-is_empty
returns-then-is_empty c =
    let first = c.args.first in
    let p = plan.Step first.0 first.1 c.new.result in
    let none : c.args.more ≡ [] = c.is_empty.ensures.0 c.if-is_empty.true in
    subst (λ (l : List (Axis × Test)). LeadsTo (first ∷ l) p) (sym none)
    (step_leads p first.0 first.1 (ap (plan.Step first.0 first.1) c.new.ensures) (c.passes_documents.ensures c.if-passes_documents.false))

pub returns : goal.returns
returns c =
    let first = c.args.first in
    let start = c.in_ok-new.field-0 in
    let p = plan.Path start c.in_ok-steps.steps in
    path_leads p start (first ∷ []) c.args.more (ap (plan.Path start) c.in_ok-steps.ensures)
    (step_leads start first.0 first.1 (c.in_ok-new.ensures ∙ ap (plan.Step first.0 first.1) c.new.ensures) (c.passes_documents.ensures c.if-passes_documents.false))
