use Rattle.std.proofs.Common.{◌≡◌, inr, refl, rules, subst, sym, true}
use Rattle.xq_meaning.specs.declared.plans.Plan.{Plan}
use Rattle.xq_optimise.specs.private.Invariants.{IsNear, IsNearBy}
use Rattle.xq_optimise.proofs.JoinLaws.{if_some}
use Rattle.xq_optimise.proofs.invariants.near_part.Goals as goal

pub returns-then-ignores_position : goal.returns-then-ignores_position
returns-then-ignores_position c =
    let left = c.args.left.now in
    let early : c.args.early ≡ true = search rules in
    if_some (λ (copy : Plan). copy ≡ left) (λ (near : Plan). IsNear left near × IsNearBy c.args.early near) c.copied.result
    (λ near is. (inr (c.if-ignores_position.ensures refl, is), subst (λ b. IsNearBy b near) (sym early) tt)) c.copied.ensures
