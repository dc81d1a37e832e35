-- The places of a query at which static faults are judged (XQuery 3.1, 2.3.1), each with what its
-- judgement looks at.
use Rattle.std.specs.Prelude.{ℕ, List}
use Rattle.xq_atoms.specs.Text.{Text}
use Rattle.xq_expressions.specs.declared.names.QName.{QName}

-- a place, by what stands there
pub data Place : Type 0 where
  -- a name that is bound, tested, or given to a constructed node
  named : QName → Place
  -- `at $p`, and the variable of its `for`
  position : QName → QName → Place
  -- `$v`, and the variables that are in scope there
  variable : QName → List Text → Place
  -- `$v` as a grouping variable, and the variables that its own FLWOR has bound so far
  grouping : QName → List Text → Place
  -- a function's name in a call, and how many arguments stand after it
  call : QName → ℕ → Place
