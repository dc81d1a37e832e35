use Rattle.std.proofs.Common.{◌≡◌, [], rules}
use Rattle.std.proofs.lemmas.Result.{IfOk-weaker}
use Rattle.xq_optimise.proofs.WholePaths.{path_next, path_whole}
use Rattle.xq_optimise.proofs.scanned.path.Goals as goal

pub loop-step-preserved : goal.loop-step-preserved
loop-step-preserved c =
    path_next c.args.known.now c.args.start c.args.steps c.loop-step.left.items c.pop.new.self.items c.in-Some.step c.loop-step.path.start c.in_ok-path.path.start c.loop-step.path.steps c.in_ok-path.path.steps
    c.loop-step.invariant c.in-Some.ensures.items c.in_ok-path.ensures

pub returns : goal.returns
returns c =
    let none : c.loop-step.left.items ≡ [] = search rules in
    IfOk-weaker c.whole.result _ _
    (λ found h. path_whole c.args.known.now c.args.start c.args.steps c.loop-step.left.items c.loop-step.path.start c.loop-step.path.steps found c.loop-step.invariant none h) c.whole.ensures
