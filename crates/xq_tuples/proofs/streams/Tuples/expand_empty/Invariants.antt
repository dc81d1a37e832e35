use Rattle.std.proofs.Common.{map, true}
use Rattle.xq_trees.specs.Tuples.{expanded}
use Rattle.xq_trees.specs.Items.{Value, item_views}
use Rattle.xq_tuples.specs.Views.{values_of}
use Rattle.xq_tuples.proofs.Laid.{IsLaid}
use Rattle.xq_tuples.proofs.streams.Tuples.expand_empty.Given as goal

abbrev pub invariant-loop-index : goal.invariant-loop-index
invariant-loop-index l = IsLaid l.count (values_of l.slots.items) (expanded Value true l.at l.fn.self (map (λ p. item_views p.1) l.yielded))
