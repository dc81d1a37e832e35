-- Items up to a position (XQuery 3.1, 3.3.3 and 3.12.2).
use Rattle.std.specs.Prelude.{◌≡◌, ◌⊎◌, ◌+◌, ℕ, ℤ, pos, List, length, Ok}
use Rattle.xq_atoms.specs.Atom.{Integer}
use Rattle.xq_atoms.specs.Compare.{key, key_cmp, holds}
use Rattle.xq_expressions.specs.declared.operators.Relation.{Relation}
use Rattle.xq_expressions.specs.declared.operators.Relation.TheVariants as relation
use Rattle.xq_trees.specs.Tree.{Tree}
use Rattle.xq_trees.specs.Tuples.{value_at}
use Rattle.xq_meaning.specs.Arguments.{boolean, whole}
use Rattle.xq_meaning.specs.Operators.{related_by}
use Rattle.xq_meaning.specs.PlanMeaning.{Frame, plan_mean}
use Rattle.xq_meaning.specs.declared.plans.Plan.{Plan}
use Rattle.xq_optimise.specs.declared.held.Held.{Held}
use Rattle.xq_optimise.specs.private.Positions.{position_comparison}

-- wherever the slot has a position, the part compares it with the number
abbrev pub ComparesSlot : ℕ → Relation → ℤ → Plan → Type 0
ComparesSlot slot by n p =
    (frame : Frame) (trees : List Tree) (i : ℕ) → value_at slot frame.env ≡ whole i →
    plan_mean p frame trees
    ≡ (Ok (boolean (holds (related_by by) (key_cmp (key (Integer (pos i))) (key (Integer n))))), trees)

-- a comparison that holds at no position after one where it fails
abbrev pub IsBound : Relation → Type 0
IsBound by = (by ≡ relation.Less) ⊎ (by ≡ relation.LessEqual)

-- the predicate asks of the position what the test asks of the slot after the next one, and both
-- keep the first items
abbrev pub KeepsFirsts : List Held → Plan → Plan → Type 0
KeepsFirsts known test p =
    (by : Relation) × (n : ℤ) × IsBound by × ComparesSlot (length known + 1) by n test
    × (p ≡ position_comparison by n)
