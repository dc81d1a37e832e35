use Rattle.std.proofs.Common.{[], refl, arith, subst}
use Rattle.std.proofs.lemmas.List.{take_all}
use Rattle.xq_optimise.proofs.NestedReturns.{Steadily, none_steadily, steadily_next, steadily_steady}
use Rattle.xq_optimise.specs.private.FlworParts.{IsSteady}
use Rattle.xq_optimise.proofs.nested.are_steady.Goals as goal

pub loop-clause-init : goal.loop-clause-init
loop-clause-init c =
    none_steadily c.args.outer c.args.known.now c.in_ok-seen.seen.items [] c.requires c.in_ok-seen.ensures refl

pub loop-clause-preserved : goal.loop-clause-preserved
loop-clause-preserved c =
    steadily_next c.args.outer c.args.known.now c.loop-clause.seen.items c.follow.new.known.items c.args.list.now c.loop-clause.clause-index c.clause-item.result (omega arith) c.clause-item.is
    c.loop-clause.invariant (subst (λ k. IsSteady k c.args.outer c.clause-item.result) c.deref.ensures.value (c.if-not-is_steady.ensures refl))
    c.in_ok-follow.ensures.same c.in_ok-follow.ensures.outer

pub follow-requires : goal.follow-requires
follow-requires c = c.loop-clause.invariant.within

pub returns : goal.returns
returns c = λ _.
    steadily_steady c.args.outer c.args.known.now c.loop-clause.seen.items c.args.list.now
    (subst (Steadily c.args.outer c.args.known.now c.loop-clause.seen.items) (take_all c.loop-clause.clause-index c.args.list.now (omega arith)) c.loop-clause.invariant)
