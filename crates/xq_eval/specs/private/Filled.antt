-- Constructors whose name is known.
use Rattle.xq_atoms.specs.Text.{Text}
use Rattle.xq_expressions.specs.declared.operators.NamedNode.{NamedNode}
use Rattle.xq_meaning.specs.Doing.{◌>>=◌}
use Rattle.xq_meaning.specs.PlanMeaning.{Meaning}
use Rattle.xq_operators.specs.Views.{plant_named}

-- a node of this kind and name, whose content a part gives
abbrev pub filled : NamedNode → Text → Meaning → Meaning
filled kind name part frame = do
  xs ← part frame
  plant_named kind name xs
