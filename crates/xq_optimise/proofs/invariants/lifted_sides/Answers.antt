use Rattle.std.proofs.Common.{[], ◌∷◌, ◌+◌, length, refl, sym, subst}
use Rattle.std.proofs.lemmas.Result.{IfOk-weaker}
use Rattle.xq_meaning.specs.declared.plans.Plan.TheVariants as plan
use Rattle.xq_optimise.specs.Sure.{IgnoresFocus}
use Rattle.xq_optimise.specs.private.Invariants.{LiftsTo}
use Rattle.xq_optimise.proofs.LiftedParts.{left_lifts, nothing_by}
use Rattle.xq_optimise.proofs.invariants.lifted_sides.Goals as goal

pub returns-then-is_invariant : goal.returns-then-is_invariant
returns-then-is_invariant c =
    let known = c.args.known.now in
    let a = c.args.left in
    let b = c.args.right in
    let p = plan.Chain a ((c.args.operator, b) ∷ []) in
    let q = plan.Chain (plan.Slot (length known + 1)) ((c.args.operator, b) ∷ []) in
    IfOk-weaker c.with_left.result _ _
    (λ found h. subst (LiftsTo known c.args.early p) (sym h)
    (left_lifts known (plan.Sequence []) p a b q c.args.operator refl refl refl c.requires.left c.requires.right (subst IgnoresFocus c.get.ensures (c.if-is_invariant.ensures refl)), nothing_by c.args.early))
    c.with_left.ensures
