-- What a call without arguments gives at a focus.
use Rattle.std.specs.Prelude.{List, Ok}
use Rattle.xq_atoms.specs.Judged.{Judged}
use Rattle.xq_atoms.specs.Text.{Text}
use Rattle.xq_trees.specs.Tree.{Tree}
use Rattle.xq_expressions.specs.declared.signatures.Function.{Function}
use Rattle.xq_expressions.specs.declared.signatures.Function.TheVariants as f
use Rattle.xq_meaning.specs.Items.{Item}
use Rattle.xq_meaning.specs.Arguments.{whole}
use Rattle.xq_meaning.specs.Functions.{Focus, of_context}

abbrev pub at_focus : Function → List Tree → List Text → Focus → Judged (List Item)
at_focus f.Position trees addresses here = Ok (whole here.position)
at_focus f.Last trees addresses here = Ok (whole here.last)
at_focus function trees addresses here = of_context function trees addresses here
