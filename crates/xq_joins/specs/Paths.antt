-- How many steps a path has.
use Rattle.std.specs.Prelude.{ℕ, List, length}
use Rattle.xq_meaning.specs.declared.plans.Plan.{Plan, out-Plan}
use Rattle.xq_meaning.specs.declared.plans.Plan.TheOpen.{Plan-F, PlanClause-F, PlanStep-F}
use Rattle.xq_meaning.specs.declared.plans.PlanClause.{PlanClause}
use Rattle.xq_meaning.specs.declared.plans.PlanStep.{PlanStep}

abbrev pub steps_in : Plan-F Plan PlanClause PlanStep → ℕ
steps_in (Plan-F.Path start steps) = length steps
steps_in other = 0

-- of another plan there are none
abbrev pub steps_of : Plan → ℕ
steps_of p = steps_in (out-Plan p)
