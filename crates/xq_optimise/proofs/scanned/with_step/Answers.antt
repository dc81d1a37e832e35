use Rattle.std.proofs.Common.{sym, subst}
use Rattle.std.proofs.lemmas.Result.{IfOk-weaker}
use Rattle.xq_meaning.specs.declared.plans.PlanStep.TheVariants as step
use Rattle.xq_optimise.specs.private.Parts.{MovesOn}
use Rattle.xq_optimise.proofs.WholePaths.{pushed_moves}
use Rattle.xq_optimise.proofs.scanned.with_step.Goals as goal

pub returns-in-Each : goal.returns-in-Each
returns-in-Each c =
    IfOk-weaker c.with_part.result _ _
    (λ found h. subst (λ s. MovesOn c.args.known.now s c.args.path.start c.args.path.steps found.start found.steps) (sym c.in-Each.is) h) c.with_part.ensures

pub returns-in-Scan : goal.returns-in-Scan
returns-in-Scan c =
    IfOk-weaker c.pushed.result _ _
    (λ found h. subst (λ s. MovesOn c.args.known.now s c.args.path.start c.args.path.steps found.start found.steps) (sym c.in-Scan.is)
    (pushed_moves c.args.known.now (step.Scan c.in-Scan.axis c.in-Scan.test) c.args.path.start found.start c.args.path.steps found.steps h)) c.pushed.ensures
