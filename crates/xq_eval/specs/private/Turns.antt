-- What a turn of a quantified expression tells of all that is left of it.
use Rattle.std.specs.Prelude.{◌≡◌, List, Bool, Option, Some, None, Result, Ok, Err}
use Rattle.std.specs.Global.{Vec, Global}
use Rattle.std.specs.declared.rc.Rc.{Rc}
use Rattle.xq_atoms.specs.declared.refusals.Fault.{Fault}
use Rattle.xq_atoms.specs.declared.refusals.Fault.TheVariants.{Code as OfCode, Want as OfWant}
use Rattle.xq_trees.specs.declared.items.Item.{Item as Held}
use Rattle.xq_trees.specs.Items.{ItemView, item_views}
use Rattle.xq_trees.specs.Tree.{Tree}
use Rattle.xq_meaning.specs.declared.plans.Plan.{Plan}
use Rattle.xq_meaning.specs.PlanMeaning.{Frame, Meaning}
use Rattle.xq_meaning.specs.Readings.{items_at, AreIn}
use Rattle.xq_joins.specs.Keyed.{first_with}
use Rattle.xq_eval.specs.private.Quantifying.{holds, tried}

abbrev pub values_found : Option (Rc (Vec Held) Global) → Option (List ItemView)
values_found None = None
values_found (Some items) = Some (item_views items.value)

-- from these trees on, the answer is the wanted one; or it is what trying these values of the next
-- variable gives, from the trees after the turn on
abbrev pub IsTurn : Bool → Meaning → List Meaning → Frame → List Tree → List Tree →
    Option (List ItemView) → Type 0
IsTurn wanted test parts frame trees after None =
    holds wanted test parts frame trees ≡ (Ok wanted, after)
IsTurn wanted test parts frame trees after (Some xs) =
    AreIn after xs
    × (holds wanted test parts frame trees
    ≡ tried wanted test (items_at after xs) parts frame after)

-- that, or the code with which it refuses
abbrev pub GivesTurn : Bool → Meaning → List Meaning → Frame → List Tree → List Tree →
    Result (Option (Rc (Vec Held) Global)) Fault → Type 0
GivesTurn wanted test parts frame trees after (Ok found) =
    IsTurn wanted test parts frame trees after (values_found found)
GivesTurn wanted test parts frame trees after (Err (OfCode code)) =
    (holds wanted test parts frame trees).0 ≡ Err code
GivesTurn wanted test parts frame trees after (Err (OfWant want)) = Unit {0}

-- the test has the wanted truth with one of the items as the last variable's value; or it has where
-- it has with one of those that are left
abbrev pub Leaves : Bool → Plan → Frame → List Tree → List ItemView →
    Option (List ItemView) → Type 0
Leaves wanted p frame trees xs None =
    first_with wanted p (items_at trees xs) frame trees ≡ (Ok wanted, trees)
Leaves wanted p frame trees xs (Some ys) =
    AreIn trees ys
    × (first_with wanted p (items_at trees xs) frame trees
    ≡ first_with wanted p (items_at trees ys) frame trees)
