use Rattle.std.proofs.Common.{◌∙◌, List, ap, sym, subst, Option}
use Rattle.std.specs.Prelude.{◌≡◌, map, IfSome}
use Rattle.xq_trees.specs.declared.Axis.{Axis}
use Rattle.xq_meaning.specs.declared.node_tests.Test.{Test}
use Rattle.xq_meaning.specs.declared.plans.Plan.TheVariants as plan
use Rattle.xq_optimise.specs.private.Filters.{LeadsTo}
use Rattle.xq_optimise.specs.private.Joins.{scan_step}
use Rattle.xq_optimise.proofs.FilterLaws.{path_leads}
use Rattle.xq_optimise.proofs.filters.focus_scans.Goals as goal

pub returns : goal.returns
returns c =
    let p = c.args.plan.now in
    let first = subst (λ (o : Option (List (Axis × Test))). IfSome o (λ scans. LeadsTo scans c.get.result.now)) c.in-Some.is c.in_ok-scans.ensures in
    let more = subst (λ (o : Option (List (Axis × Test))). IfSome o (λ scans. c.as_slice.result.now ≡ map scan_step scans)) c.in-Some-2.is c.in_ok-more.ensures in
    subst (λ (l : List (Axis × Test)). LeadsTo l p) (sym c.in_ok-append.ensures)
    (path_leads p c.in-Path.start c.in-Some.scans c.in-Some-2.more (c.in-Path.is ∙ ap (plan.Path c.in-Path.start) (sym c.as_slice.ensures ∙ more))
    (subst (LeadsTo c.in-Some.scans) c.get.ensures first))
