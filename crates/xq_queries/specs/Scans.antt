-- Which plan a query has that is a path from a document along axes (XQuery 3.1, section 3.3).
use Rattle.std.specs.Prelude.{◌≡◌, List, ◌∷◌, map, Some}
use Rattle.xq_atoms.specs.Text.{Text}
use Rattle.xq_expressions.specs.declared.names.QName.{QName}
use Rattle.xq_expressions.specs.declared.operators.AxisStep.{AxisStep}
use Rattle.xq_expressions.specs.declared.expressions.Expr.{Expr}
use Rattle.xq_expressions.specs.declared.signatures.Function.TheVariants.{Doc}
use Rattle.xq_expressions.specs.Signatures.{function_named}
use Rattle.xq_meaning.specs.declared.plans.Plan.{Plan}
use Rattle.xq_normal.specs.DocumentPaths.{path_from_call, written_out}
use Rattle.xq_eval.specs.Reads.{path_of_scans}

-- where the expression is `doc("A")/S1/S2..`, of one step or more along axes, each after a slash
-- and without predicates, the plan is that document and then as many scans
abbrev pub ScansItsDocument : Expr → Plan → Type 0
ScansItsDocument e p =
    (name : QName) (address : Text) (first : AxisStep) (more : List AxisStep) →
    function_named name.prefix name.local ≡ Some Doc →
    e ≡ path_from_call name address (first ∷ more) →
    p ≡ path_of_scans address (map written_out (first ∷ more))
