-- A quantified expression that asks for one pair of texts.
use Rattle.std.specs.Prelude.{◌≡◌, List, [], ◌∷◌, length}
use Rattle.xq_expressions.specs.declared.operators.Relation.{Relation}
use Rattle.xq_meaning.specs.declared.plans.Plan.{Plan}
use Rattle.xq_meaning.specs.declared.plans.Plan.TheVariants as plan
use Rattle.xq_optimise.specs.declared.held.Held.{Held}
use Rattle.xq_optimise.specs.Sure.{SurelyTexts, ReadsBelow}
use Rattle.xq_optimise.specs.private.Parts.{general_comparison}

-- one variable for texts, compared with those of a part that doesn't read it
abbrev pub ComparesOne : List Held → List Plan → Plan → Type 0
ComparesOne known ranges part =
    (by : Relation) × (p : Plan) × (q : Plan) × (ranges ≡ p ∷ [])
    × (part ≡ general_comparison by (plan.Slot (length known)) q)
    × SurelyTexts known p × SurelyTexts known q × ReadsBelow known q
