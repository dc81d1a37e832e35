use Rattle.std.proofs.Common.{◌≡◌, [], rules}
use Rattle.xq_optimise.proofs.EqualitiesFirst.{none_split, first_split, second_split, all_split}
use Rattle.xq_optimise.proofs.comparisons.equalities_first.Goals as goal

pub loop-next-init : goal.loop-next-init
loop-next-init c = λ known sure.
    none_split c.args.predicates c.in_ok-left.left.items c.new-equalities.result c.new-others.result c.in_ok-left.ensures c.new-equalities.ensures c.new-others.ensures known sure

pub loop-next-preserved-in-Continue-branch-2 : goal.loop-next-preserved-in-Continue-branch-2
loop-next-preserved-in-Continue-branch-2 c = λ known sure.
    first_split c.args.predicates c.loop-next.left.items c.pop.new.self.items c.loop-next.equalities c.loop-next.others c.push.new.self c.in-Some.next
    c.in-Some.ensures.items c.in_ok-push.ensures.ok known (c.loop-next.invariant known sure)

pub loop-next-preserved : goal.loop-next-preserved
loop-next-preserved c = λ known sure.
    second_split c.args.predicates c.loop-next.left.items c.pop.new.self.items c.loop-next.equalities c.loop-next.others c.push-else-is_equality.new.self c.in-Some.next
    c.in-Some.ensures.items c.in_ok-push-2.ensures.ok known (c.loop-next.invariant known sure)

pub returns : goal.returns
returns c = λ known sure.
    let none : c.loop-next.left.items ≡ [] = search rules in
    all_split c.args.predicates c.loop-next.left.items c.loop-next.equalities c.loop-next.others c.append.new.self none c.in_ok-append.ensures known (c.loop-next.invariant known sure)
