use Rattle.std.proofs.Common.{◌≡◌, ◌+◌, ◌++◌, ◌∷◌, [], ◌∙◌, map, take, sym, ap, arith, add-one}
use Rattle.std.proofs.Math.Seq.{take-suc}
use Rattle.std.proofs.lemmas.List.{map-append, take_all}
use Rattle.xq_meaning.specs.declared.plans.PlanStep.TheVariants as step
use Rattle.xq_optimise.specs.private.Joins.{scan_step}
use Rattle.xq_optimise.proofs.joins.scans_of.Goals as goal

pub loop-step-preserved : goal.loop-step-preserved
loop-step-preserved c =
    let steps = c.args.steps.now in
    let n = c.loop-step.step-index in
    let s = c.step-item.result in
    let scans = c.loop-step.scans in
    let axis = c.in-Scan.axis in
    let test = c.in_ok-test.field-0 in
    let taken : take (n + 1) steps ≡ take n steps ++ s ∷ [] = rw add-one (take-suc steps n s (omega arith) ∙ ap (λ z. take n steps ++ z ∷ []) (sym c.step-item.is)) in
    taken
    ∙ ap (λ z. take n steps ++ z ∷ []) (c.in-Scan.is ∙ ap (step.Scan axis) (sym c.in_ok-test.ensures))
    ∙ ap (λ l. l ++ scan_step (axis, test) ∷ []) c.loop-step.invariant
    ∙ sym (ap (map scan_step) c.in_ok-push.ensures.ok ∙ map-append scan_step scans ((axis, test) ∷ []))

pub returns : goal.returns
returns c = sym (take_all c.loop-step.step-index c.args.steps.now (omega arith)) ∙ c.loop-step.invariant
