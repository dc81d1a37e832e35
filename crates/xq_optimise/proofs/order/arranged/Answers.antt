use Rattle.std.proofs.Common.{◌++◌, ◌∷◌, [], ap, ◌∙◌, subst, arith}
use Rattle.xq_meaning.specs.declared.plans.PlanClause.{PlanClause}
use Rattle.xq_optimise.specs.private.Parts.{SameMany}
use Rattle.xq_optimise.specs.private.Order.{SameRest}
use Rattle.xq_optimise.proofs.NarrowRanges.{rest_then}
use Rattle.xq_optimise.proofs.Rising.{none_arranged, clause_arranged}
use Rattle.xq_optimise.proofs.order.arranged.Goals as goal

pub loop-next-init : goal.loop-next-init
loop-next-init c =
    none_arranged c.args.list c.in_ok-turned.turned.items c.in_ok-left.left.items c.new-found.result c.len-outer.result c.args.known.now.items
    (omega (arith, c.len-outer.ensures, c.args.known.now.ok.0)) c.in_ok-turned.ensures
    (λ n. rest_then n c.args.known.now.items c.in_ok-turned.turned.items c.in_ok-first.first.items c.in_ok-left.left.items
    (subst (λ k. SameRest n k c.in_ok-turned.turned.items c.in_ok-first.first.items) c.deref.ensures.value (c.in_ok-first.ensures.same n))
    (subst (λ k. SameRest n k c.in_ok-first.first.items c.in_ok-left.left.items) c.deref-2.ensures.value (c.in_ok-left.ensures.same n))) c.new-found.ensures

pub loop-next-preserved : goal.loop-next-preserved
loop-next-preserved c =
    let next = c.in-Some.next in
    let boxed = c.in_ok-next.ensures in
    clause_arranged c.args.list c.loop-next.left.items c.pop.new.self.items c.in_ok-left-2.left.items c.loop-next.found c.push.new.self c.len-outer.result
    c.args.known.now.items c.loop-next.known.items c.follow.new.known.items next
    c.loop-next.invariant c.in-Some.ensures.items
    (subst (λ (n : PlanClause). SameMany c.len-outer.result c.loop-next.known.items n (n ∷ []) c.follow.new.known.items) (c.get.ensures ∙ boxed) c.in_ok-follow.ensures.same)
    c.in_ok-follow.ensures.outer (c.in_ok-push.ensures.ok ∙ ap (λ n. c.loop-next.found ++ n ∷ []) (c.into_inner.ensures ∙ boxed))
    (λ n. rest_then n c.follow.new.known.items c.pop.new.self.items c.in_ok-risen.risen.items c.in_ok-left-2.left.items
    (subst (λ k. SameRest n k c.pop.new.self.items c.in_ok-risen.risen.items) c.deref-in-Some.ensures.value (c.in_ok-risen.ensures.same n))
    (subst (λ k. SameRest n k c.in_ok-risen.risen.items c.in_ok-left-2.left.items) c.deref-in-Some-2.ensures.value (c.in_ok-left-2.ensures.same n)))
