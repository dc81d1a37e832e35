use Rattle.std.proofs.Common.{◌≡◌, ◌∷◌, [], ◌∙◌, List, ap, refl, reverse, rules, sym, subst}
use Rattle.std.specs.Prelude.{IfOk, IfSome}
use Rattle.std.proofs.lemmas.List.{reverse-append, reverse-reverse}
use Rattle.xq_trees.specs.declared.Axis.{Axis}
use Rattle.xq_meaning.specs.declared.node_tests.Test.{Test}
use Rattle.xq_meaning.specs.declared.plans.Plan.TheVariants as plan
use Rattle.xq_optimise.specs.private.Filters.{LeadsTo}
use Rattle.xq_optimise.proofs.FilterLaws.{context_leads}
use Rattle.xq_optimise.proofs.narrow.focus_part.Goals as goal

pub returns-in-Some : goal.returns-in-Some
returns-in-Some c =
    let first = c.in-Some.first in
    let whole : c.args.scans ≡ first ∷ c.from_vec.result =
    sym (reverse-reverse c.args.scans)
    ∙ ap reverse (sym c.in_ok-rest.ensures ∙ c.in-Some.ensures.items)
    ∙ reverse-append c.pop.new.self.items (first ∷ [])
    ∙ ap (λ (l : List (Axis × Test)). first ∷ l) (sym (c.from_vec.ensures ∙ c.reverse.ensures.items)) in
    subst (λ (l : List (Axis × Test)). IfOk c.step_part.result (λ found. IfSome found (λ part. LeadsTo l part))) (sym whole) c.step_part.ensures

pub returns-in-None : goal.returns-in-None
returns-in-None c =
    let none : c.in_ok-rest.rest.items ≡ [] = search rules in
    let whole : c.args.scans ≡ [] = sym (reverse-reverse c.args.scans) ∙ ap reverse (sym c.in_ok-rest.ensures ∙ none) in
    subst (λ (l : List (Axis × Test)). LeadsTo l plan.ContextItem) (sym whole) (context_leads plan.ContextItem refl)
