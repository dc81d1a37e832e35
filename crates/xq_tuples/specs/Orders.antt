-- What contracts see of the specifications of an order.
use Rattle.xq_trees.specs.Tuples.{OrderRule}
use Rattle.xq_tuples.specs.declared.rows.OrderSpec.{OrderSpec}

-- how a specification of the program orders
abbrev pub rule_of : OrderSpec → OrderRule
rule_of spec = record { descending = spec.descending; greatest = spec.greatest }
