use Rattle.xq_functions.specs.private.Places.{same_spot}
use Rattle.xq_trees.proofs.Rising.{same_any}
use Rattle.xq_functions.proofs.sets.sorted.Goals as goal

pub returns : goal.returns
returns c = record {
  rises = c.merge.ensures.rising;
  same = λ s. same_any (same_spot s) c.merge.result.items c.args.spots.items c.merge.ensures.members;
}
