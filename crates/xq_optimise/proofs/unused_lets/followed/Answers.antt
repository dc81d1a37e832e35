use Rattle.std.proofs.Common.{◌++◌, ◌∷◌, [], ap, ◌∙◌, subst}
use Rattle.xq_meaning.specs.declared.plans.PlanClause.{PlanClause}
use Rattle.xq_optimise.specs.private.Parts.{SameMany}
use Rattle.xq_optimise.proofs.Loops.{clause_next}
use Rattle.xq_optimise.proofs.unused_lets.followed.Goals as goal

pub loop-next-preserved : goal.loop-next-preserved
loop-next-preserved c =
    let next = c.in-Some.next in
    let boxed = c.in_ok-next.ensures in
    clause_next c.args.list c.loop-next.left.items c.pop.new.self.items c.args.outer c.args.known.now.items c.loop-next.known.items c.follow.new.known.items
    c.loop-next.found c.push.new.self (next ∷ []) next c.loop-next.invariant c.in-Some.ensures.items
    (subst (λ (n : PlanClause). SameMany c.args.outer c.loop-next.known.items n (n ∷ []) c.follow.new.known.items) (c.get.ensures ∙ boxed) c.in_ok-follow.ensures.same)
    c.in_ok-follow.ensures.outer (c.in_ok-push.ensures.ok ∙ ap (λ n. c.loop-next.found ++ n ∷ []) (c.into_inner.ensures ∙ boxed))
