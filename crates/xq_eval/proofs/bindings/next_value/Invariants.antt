use Rattle.std.proofs.Common.{◌≤◌, vec_len, drop}
use Rattle.xq_trees.specs.Items.{item_views}
use Rattle.xq_eval.specs.private.Bindings.{stack_of, Falls}
use Rattle.xq_eval.proofs.bindings.next_value.Given as goal

abbrev pub invariant-variables : goal.invariant-variables
invariant-variables l = record {
  within : l.next ≤ vec_len l.items.value;
  shorter : vec_len l.stack ≤ vec_len l.initial.stack;
  falls : Falls (stack_of l.initial.stack) (item_views l.fn.items.value) (stack_of l.stack) (drop l.next (item_views l.items.value));
}

abbrev pub decreases-variables : goal.decreases-variables
decreases-variables l = goal.left-variables l
