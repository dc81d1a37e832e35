use Rattle.std.proofs.Common.{length, map}
use Rattle.xq_trees.specs.Tuples.{bound}
use Rattle.xq_trees.specs.Items.{item_views}
use Rattle.xq_tuples.specs.Views.{values_of}
use Rattle.xq_tuples.proofs.Laid.{IsLaid}
use Rattle.xq_tuples.proofs.streams.Tuples.bind.Given as goal

abbrev pub invariant-loop-index : goal.invariant-loop-index
invariant-loop-index l = IsLaid (length l.yielded) (values_of l.slots.items) (bound l.fn.self (map (λ p. item_views p.1) l.yielded))
