-- Tests of a `where` that are as many clauses.
use Rattle.std.specs.Prelude.{◌≡◌, List, ◌++◌, map, reverse}
use Rattle.std.specs.List.{AllByRecursion}
use Rattle.xq_meaning.specs.declared.plans.Plan.{Plan}
use Rattle.xq_meaning.specs.declared.plans.PlanClause.{PlanClause}
use Rattle.xq_meaning.specs.declared.plans.PlanClause.TheVariants as clause
use Rattle.xq_optimise.specs.declared.held.Held.{Held}
use Rattle.xq_optimise.specs.Sure.{IsTest}

-- of the parts of a list, the last ones are taken off, which are tests that can't be refused, and
-- each is a `where` after the clauses, the last first
abbrev pub TakesTests : List Held → List Plan → List Plan → List PlanClause → List PlanClause →
    Type 0
TakesTests known old new before after =
    (tests : List Plan) × (old ≡ new ++ reverse tests) × AllByRecursion (IsTest known) tests
    × (after ≡ before ++ map clause.Where tests)
