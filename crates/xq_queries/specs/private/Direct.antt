-- What a plan gives that is made form by form.
use Rattle.std.specs.Prelude.{◌≡◌, List, [], ◌∷◌, Option}
use Rattle.xq_atoms.specs.Text.{Text}
use Rattle.xq_trees.specs.Tree.{Tree}
use Rattle.xq_expressions.specs.declared.expressions.ConstructorName.{ConstructorName}
use Rattle.xq_expressions.specs.declared.expressions.Expr.{Expr}
use Rattle.xq_meaning.specs.declared.plans.Plan.{Plan}
use Rattle.xq_meaning.specs.Functions.{Focus}
use Rattle.xq_meaning.specs.Meaning.{no_variable, mean, name_mean}
use Rattle.xq_meaning.specs.PlanMeaning.{plan_mean}
use Rattle.xq_meaning.specs.Same.{frame_of}

-- where no variable is bound, the plan gives what the expression gives
abbrev pub IsDirect : Expr → Plan → Type 0
IsDirect e p =
    (focus : Option Focus) (addresses : List Text) (trees : List Tree) →
    plan_mean p (frame_of [] focus addresses) trees
    ≡ mean e (frame_of no_variable focus addresses) trees

-- it gives what the name gives
abbrev pub NamesDirectly : ConstructorName → Plan → Type 0
NamesDirectly n p =
    (focus : Option Focus) (addresses : List Text) (trees : List Tree) →
    plan_mean p (frame_of [] focus addresses) trees
    ≡ name_mean n (frame_of no_variable focus addresses) trees

-- each plan gives what its expression gives
abbrev pub AreDirect : List Expr → List Plan → Type 0
AreDirect [] [] = Unit {0}
AreDirect (e ∷ es) (p ∷ ps) = IsDirect e p × AreDirect es ps
AreDirect es ps = ⊥
