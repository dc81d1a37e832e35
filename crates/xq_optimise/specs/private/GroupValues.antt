-- What a group join is to a `let`.
use Rattle.std.specs.Prelude.{◌≡◌, ℕ, List, [], ◌∷◌, ◌++◌, length, Bool, false, Option, None, Ok}
use Rattle.xq_atoms.specs.Text.{Text}
use Rattle.xq_expressions.specs.declared.operators.AllowingEmpty.{AllowingEmpty}
use Rattle.xq_expressions.specs.declared.operators.AllowingEmpty.TheVariants as allowing
use Rattle.xq_trees.specs.Tree.{Tree}
use Rattle.xq_trees.specs.Tuples.{Tuple}
use Rattle.xq_meaning.specs.declared.joins.Join.{Join}
use Rattle.xq_meaning.specs.declared.plans.Plan.{Plan}
use Rattle.xq_meaning.specs.declared.plans.Plan.TheVariants as plan
use Rattle.xq_meaning.specs.declared.plans.PlanClause.{PlanClause}
use Rattle.xq_meaning.specs.declared.plans.PlanClause.TheVariants as clause
use Rattle.xq_expressions.specs.declared.signatures.Function.{Function}
use Rattle.xq_meaning.specs.Functions.{Focus, called}
use Rattle.xq_meaning.specs.Items.{Item}
use Rattle.xq_meaning.specs.PlanMeaning.{Slots, plan_mean, plan_clause_mean}
use Rattle.xq_meaning.specs.Same.{frame_of}
use Rattle.xq_atoms.specs.Judged.{Judged}
use Rattle.xq_optimise.specs.declared.group_joins.LetValue.{LetValue}
use Rattle.xq_optimise.specs.declared.group_joins.LetValue.TheVariants as let_value
use Rattle.xq_optimise.specs.declared.held.Held.{Held}
use Rattle.xq_optimise.specs.Known.{Fits}
use Rattle.xq_optimise.specs.private.Joins.{IsOutside}
use Rattle.xq_optimise.specs.private.Parts.{AllFit}

-- the one clause is a join, whose range reads no slot of the tuples, and its items are returned
abbrev pub IsGroup : ℕ → ℕ → List PlanClause → Plan → Type 0
IsGroup outer next cs p =
    (range : Plan) × (join : Join) × (cs ≡ clause.Join range join ∷ []) × (join.carried ≡ None)
    × IsOutside outer range × (p ≡ plan.Slot next)

-- from tuples whose slots are as known, the clause gives what a `let` of this value gives
abbrev pub StandsForLet : ℕ → List Held → Plan → PlanClause → Type 0
StandsForLet outer known value d =
    (slots : Slots) (focus : Option Focus) (addresses : List Text) → length slots ≡ outer →
    (tuples : List (Tuple Item)) (trees : List Tree) → AllFit known slots tuples →
    plan_clause_mean d (frame_of slots focus addresses) tuples trees
    ≡ plan_clause_mean (clause.Let value) (frame_of slots focus addresses) tuples trees

-- such a clause is put at the end
abbrev pub AddsValue : ℕ → List Held → Plan → List PlanClause → List PlanClause → Type 0
AddsValue outer known value before after =
    (d : PlanClause) × (after ≡ before ++ d ∷ []) × StandsForLet outer known value d

-- at a tuple whose slots are as known the part gives a value or a code, and leaves the trees
abbrev pub LeavesAt : ℕ → List Held → Plan → Type 0
LeavesAt outer known p =
    (slots : Slots) (focus : Option Focus) (addresses : List Text) → length slots ≡ outer →
    (tuple : Tuple Item) (trees : List Tree) → Fits known (slots ++ tuple) →
    (given : Judged (List Item))
    × (plan_mean p (frame_of (slots ++ tuple) focus addresses) trees ≡ (given, trees))

-- from such tuples the clause gives what a `for` over this range gives
abbrev pub StandsForRange : ℕ → List Held → AllowingEmpty → Bool → Plan → PlanClause → Type 0
StandsForRange outer known empties at range d =
    (slots : Slots) (focus : Option Focus) (addresses : List Text) → length slots ≡ outer →
    (tuples : List (Tuple Item)) (trees : List Tree) → AllFit known slots tuples →
    plan_clause_mean d (frame_of slots focus addresses) tuples trees
    ≡ plan_clause_mean (clause.For empties at range) (frame_of slots focus addresses) tuples trees

-- such a clause is put at the end
abbrev pub AddsRange : ℕ → List Held → AllowingEmpty → Bool → Plan → List PlanClause →
    List PlanClause → Type 0
AddsRange outer known empties at range before after =
    (d : PlanClause) × (after ≡ before ++ d ∷ [])
    × StandsForRange outer known empties at range d

-- what a value is found to be: that of a group join, which leaves the trees, and over which a `for`
-- is a join; or itself
abbrev pub IsLetOf : ℕ → List Held → Plan → LetValue → Type 0
IsLetOf outer known value (let_value.Group range join) =
    StandsForLet outer known value (clause.GroupJoin range join) × LeavesAt outer known value
    × StandsForRange outer known allowing.No false value (clause.Join range join)
IsLetOf outer known value (let_value.Other other) = other ≡ value

-- the function gives a value of any one argument
abbrev pub IsNeverRefused : Function → Type 0
IsNeverRefused function =
    (trees : List Tree) (addresses : List Text) (focus : Option Focus) (xs : List Item) →
    (ys : List Item) × (called function trees addresses focus (xs ∷ []) ≡ Ok ys)
