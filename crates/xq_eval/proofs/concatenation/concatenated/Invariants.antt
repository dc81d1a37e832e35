use Rattle.std.proofs.Common.{◌≡◌, List}
use Rattle.std.specs.Prelude.{string_bytes}
use Rattle.xq_trees.specs.Tree.{Tree}
use Rattle.xq_tuples.specs.Views.{values_of}
use Rattle.xq_meaning.specs.PlanMeaning.{Frame}
use Rattle.xq_operators.specs.Views.{tuple_at}
use Rattle.xq_eval.proofs.Pieces.{Pieces}
use Rattle.xq_eval.proofs.concatenation.concatenated.Given as goal

abbrev pub invariant-loop-part : goal.invariant-loop-part
invariant-loop-part l = (trees : List Tree) (frame : Frame) → frame.env ≡ tuple_at trees (values_of l.slots) → Pieces frame trees l.parts l.part-index (string_bytes l.text)
