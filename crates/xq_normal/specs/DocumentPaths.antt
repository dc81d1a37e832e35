-- Which normal form a path has that starts at a document and goes on along axes (XQuery 3.1,
-- sections 3.3 and 3.3.5).
use Rattle.std.specs.Prelude.{◌≡◌, List, [], ◌∷◌, map, Some}
use Rattle.xq_atoms.specs.Text.{Text}
use Rattle.xq_trees.specs.declared.Axis.{Axis}
use Rattle.xq_trees.specs.declared.Axis.TheVariants as axis
use Rattle.xq_expressions.specs.declared.names.QName.{QName}
use Rattle.xq_expressions.specs.declared.operators.AxisStep.{AxisStep}
use Rattle.xq_expressions.specs.declared.operators.AxisStep.TheVariants as along
use Rattle.xq_expressions.specs.declared.operators.PathStart.TheVariants.{Relative}
use Rattle.xq_expressions.specs.declared.operators.Separator.{Separator}
use Rattle.xq_expressions.specs.declared.operators.Separator.TheVariants.{Slash}
use Rattle.xq_expressions.specs.declared.expressions.Expr.{Expr}
use Rattle.xq_expressions.specs.declared.expressions.Expr.TheVariants as expr
use Rattle.xq_expressions.specs.declared.expressions.Step.{Step}
use Rattle.xq_expressions.specs.declared.expressions.Step.TheVariants as step
use Rattle.xq_expressions.specs.declared.signatures.Function.TheVariants.{Doc}
use Rattle.xq_expressions.specs.Signatures.{function_named}
use Rattle.xq_meaning.specs.declared.node_tests.Test.{Test}
use Rattle.xq_meaning.specs.declared.node_tests.Test.TheVariants as test
use Rattle.xq_meaning.specs.declared.normal_forms.Core.{Core}
use Rattle.xq_meaning.specs.declared.normal_forms.Core.TheVariants as core
use Rattle.xq_meaning.specs.Meaning.{axis_of, test_on, default_axis}

-- the axis and the test of a step, whose abbreviations are written out
abbrev pub written_out : AxisStep → Axis × Test
written_out (along.Along axis_name node_test) =
    (axis_of axis_name, test_on (axis_of axis_name) node_test)
written_out (along.Attribute node_test) = (axis.Attributes, test_on axis.Attributes node_test)
written_out along.Parent = (axis.Parent, test.Any)
written_out (along.Abbreviated node_test) =
    (default_axis node_test, test_on (default_axis node_test) node_test)

-- a slash and a step along an axis, without predicates
abbrev pub after_slash : AxisStep → Separator × Step
after_slash s = (Slash, step.Axis s [])

-- the start `name("A")`, without predicates
abbrev pub call_of_literal : QName → Text → Step
call_of_literal name address = step.Primary (expr.Call name (expr.Str address ∷ [])) []

-- `name("A")/S1/S2..`
abbrev pub path_from_call : QName → Text → List AxisStep → Expr
path_from_call name address steps =
    expr.Path Relative (call_of_literal name address) (map after_slash steps)

-- `doc("A")/S1/S2..` as a normal form
abbrev pub path_of_steps : Text → List (Axis × Test) → Core
path_of_steps address steps =
    core.Path (core.Call Doc (core.Str address ∷ [])) (map (λ s. core.Step s.0 s.1 []) steps)

-- where the expression is such a path, of one step or more, the normal form has that call and
-- as many steps
abbrev pub StaysDocumentPath : Expr → Core → Type 0
StaysDocumentPath e c =
    (name : QName) (address : Text) (first : AxisStep) (more : List AxisStep) →
    function_named name.prefix name.local ≡ Some Doc →
    e ≡ path_from_call name address (first ∷ more) →
    c ≡ path_of_steps address (map written_out (first ∷ more))
