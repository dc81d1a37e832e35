-- What a plan gives that took the place of another, where no slot is open.
use Rattle.std.proofs.Common.{◌≡◌, List, [], ◌∷◌, length, ◌∙◌, arith}
use Rattle.xq_meaning.specs.declared.normal_forms.Core.{Core}
use Rattle.xq_meaning.specs.declared.plans.Plan.{Plan}
use Rattle.xq_meaning.specs.PlanMeaning.{Slots}
use Rattle.xq_meaning.specs.Same.{IsPlan}
use Rattle.xq_optimise.specs.Known.{Fits}
use Rattle.xq_optimise.specs.Same.{GivesSame}
use Rattle.xq_optimise.specs.Scans.{KeepsScans}
use Rattle.xq_plan.specs.Scans.{ScansDocument}

no_slots : (slots : Slots) → length slots ≡ 0 → Fits [] slots
no_slots [] h = tt
no_slots (x ∷ slots) h = absurd (omega (arith, h))

pub optimised_plan : (c : Core) (p q : Plan) → IsPlan [] c p → GivesSame [] p q → IsPlan [] c q
optimised_plan c p q is same slots focus addresses trees h =
    same slots focus addresses trees (no_slots slots h) ∙ is slots focus addresses trees h

pub optimised_scans : (c : Core) (p q : Plan) → ScansDocument c p → KeepsScans p q → ScansDocument c q
optimised_scans c p q scans keeps address steps is =
    keeps address steps (scans address steps is) ∙ scans address steps is
