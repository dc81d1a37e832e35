use Rattle.std.proofs.Common.{◌≡◌, ◌++◌, refl, subst}
use Rattle.std.proofs.lemmas.Result.{on_ok_weaker}
use Rattle.xq_optimise.specs.declared.held.Held.{Held}
use Rattle.xq_optimise.specs.private.Parts.{IsHeld, with_position}
use Rattle.xq_optimise.proofs.JoinLaws.{join_itself}
use Rattle.xq_optimise.proofs.GroupJoins.{group_join_itself}
use Rattle.xq_optimise.proofs.Rising.{for_itself, let_itself, where_itself, order_itself, count_itself, group_itself, refused_itself}
use Rattle.xq_optimise.proofs.order.follow.Goals as goal

pub returns-in-For-clause-same : goal.returns-in-For-clause-same
returns-in-For-clause-same c =
    on_ok_weaker c.bind.result
    (λ bound. for_itself c.args.outer c.args.known.now.items c.bind.new.known.items c.args.next.now c.in-For.field-0 c.in-For.at c.in-For.range c.held_by-held.result c.in-For.is
    (subst (λ k. IsHeld k c.held_by-held.result c.in-For.range) c.deref.ensures.value c.held_by-held.ensures)
    (subst (λ (h : Held). c.bind.new.known.items ≡ c.args.known.now.items ++ with_position h c.in-For.at) c.of_each.ensures bound)) c.bind.ensures

pub returns-in-Join-clause-same : goal.returns-in-Join-clause-same
returns-in-Join-clause-same c =
    on_ok_weaker c.bind-in-Join.result
    (join_itself c.args.outer c.args.known.now.items c.bind-in-Join.new.known.items c.args.next.now c.in-Join.field-0 c.in-Join.field-1 c.in-Join.is) c.bind-in-Join.ensures

pub returns-in-GroupJoin-clause-same : goal.returns-in-GroupJoin-clause-same
returns-in-GroupJoin-clause-same c =
    on_ok_weaker c.bind-in-GroupJoin.result
    (group_join_itself c.args.outer c.args.known.now.items c.bind-in-GroupJoin.new.known.items c.args.next.now c.in-GroupJoin.field-0 c.in-GroupJoin.field-1 c.in-GroupJoin.is) c.bind-in-GroupJoin.ensures

pub returns-in-Let-clause-same : goal.returns-in-Let-clause-same
returns-in-Let-clause-same c =
    on_ok_weaker c.bind-in-Let.result
    (let_itself c.args.outer c.args.known.now.items c.bind-in-Let.new.known.items c.args.next.now c.in-Let.value c.held_by-held-in-Let.result c.in-Let.is
    (subst (λ k. IsHeld k c.held_by-held-in-Let.result c.in-Let.value) c.deref-in-Let.ensures.value c.held_by-held-in-Let.ensures)) c.bind-in-Let.ensures

pub returns-in-Group-clause-same : goal.returns-in-Group-clause-same
returns-in-Group-clause-same c =
    on_ok_weaker c.forget.result
    (group_itself c.args.outer c.args.known.now.items c.forget.new.known.items c.args.next.now c.in-Group.field-0 c.in-Group.is) c.forget.ensures

pub returns-in-Count-clause-same : goal.returns-in-Count-clause-same
returns-in-Count-clause-same c =
    on_ok_weaker c.bind-in-Count.result
    (count_itself c.args.outer c.args.known.now.items c.bind-in-Count.new.known.items c.args.next.now c.in-Count.is) c.bind-in-Count.ensures

pub returns-in-Where-clause-same : goal.returns-in-Where-clause-same
returns-in-Where-clause-same c =
    where_itself c.args.outer c.args.known.now.items c.args.known.now.items c.args.next.now c.in-Where.field-0 c.in-Where.is refl

pub returns-in-Order-clause-same : goal.returns-in-Order-clause-same
returns-in-Order-clause-same c =
    order_itself c.args.outer c.args.known.now.items c.args.known.now.items c.args.next.now c.in-Order.field-0 c.in-Order.is refl

pub returns-in-Refused-clause-same : goal.returns-in-Refused-clause-same
returns-in-Refused-clause-same c =
    refused_itself c.args.outer c.args.known.now.items c.args.known.now.items c.args.next.now c.in-Refused.field-0 c.in-Refused.is refl
