use Rattle.std.proofs.lemmas.Result.{IfOk-weaker}
use Rattle.xq_optimise.proofs.WholePaths.{judged_move, same_moves}
use Rattle.xq_optimise.proofs.scanned.with_judged.Goals as goal

pub returns-then-is_looked_up : goal.returns-then-is_looked_up
returns-then-is_looked_up c =
    let known = c.args.known.now in
    let alike = c.in_ok-ordered.ensures known c.requires in
    IfOk-weaker c.with_look_up.result _ _
    (λ found h. same_moves known c.args.axis c.args.test c.args.predicates c.in_ok-ordered.ordered alike.1 c.args.path.start found.start c.args.path.steps found.steps h) c.with_look_up.ensures

pub returns-else-is_looked_up : goal.returns-else-is_looked_up
returns-else-is_looked_up c =
    let known = c.args.known.now in
    let alike = c.in_ok-ordered.ensures known c.requires in
    IfOk-weaker c.with_tests.result _ _
    (λ found h. same_moves known c.args.axis c.args.test c.args.predicates c.in_ok-ordered.ordered alike.1 c.args.path.start found.start c.args.path.steps found.steps
    (judged_move known c.args.axis c.args.test c.in_ok-ordered.ordered alike.0 c.args.path.start found.start c.args.path.steps found.steps h)) c.with_tests.ensures

pub with_look_up-requires : goal.with_look_up-requires
with_look_up-requires c = (c.in_ok-ordered.ensures c.args.known.now c.requires).0
