use Rattle.std.proofs.Common.{◌≡◌, map, take}
use Rattle.xq_tuples.specs.Orders.{rule_of}
use Rattle.xq_meaning.specs.Forms as Forms
use Rattle.xq_operators.specs.Views.{order_specs}
use Rattle.xq_operators.proofs.clauses.rules_of.Given as goal

abbrev pub invariant-loop-modifier : goal.invariant-loop-modifier
invariant-loop-modifier l = map rule_of l.rules.items ≡ Forms.rules_of (order_specs (take l.modifier-index l.specs))
