use Rattle.std.proofs.Common.{◌≡◌, ◌+◌, ◌*◌, map, take}
use Rattle.std.specs.List.{flat_map}
use Rattle.xq_meaning.specs.declared.operators.Operator.TheVariants as operator
use Rattle.xq_meaning.specs.Meaning.{clauses, later_parts, mean, clause_mean, group_mean}
use Rattle.xq_meaning.specs.CoreMeaning.{core_mean, core_clause_mean}
use Rattle.xq_normal.specs.private.Parts as parts
use Rattle.xq_expressions.specs.declared.expressions.Expr.{size-Expr}
use denote.Param.Weighed.{most}
use Rattle.xq_normal.proofs.Arrows.{CallsLeft, call_depth}
use Rattle.xq_normal.proofs.Shapes.{LiteralsLeft, StepsLeft}
use Rattle.xq_normal.proofs.normal.+normal.Given as goal

abbrev pub invariant-expressions-loop-expr : goal.invariant-expressions-loop-expr
invariant-expressions-loop-expr l = record {
  same : map core_mean l.cores ≡ map mean (take l.expr-index l.exprs);
  literals : LiteralsLeft l.exprs l.expr-index l.cores;
}

abbrev pub invariant-following-loop-expr : goal.invariant-following-loop-expr
invariant-following-loop-expr l =
    parts.core_operands l.operands ≡ parts.following l.operator (take l.expr-index l.exprs)

abbrev pub invariant-addends-loop-sign : goal.invariant-addends-loop-sign
invariant-addends-loop-sign l =
    parts.core_operands l.found ≡ parts.operands operator.Sum (take l.sign-index l.operands)

abbrev pub invariant-factors-loop-operator : goal.invariant-factors-loop-operator
invariant-factors-loop-operator l =
    parts.core_operands l.found ≡ parts.operands operator.Product (take l.operator-index l.operands)

abbrev pub invariant-set_operands-loop-operator : goal.invariant-set_operands-loop-operator
invariant-set_operands-loop-operator l =
    parts.core_operands l.found
    ≡ parts.operands operator.SetOperation (take l.operator-index l.operands)

abbrev pub invariant-later_calls-loop-name : goal.invariant-later_calls-loop-name
invariant-later_calls-loop-name l = record {
  left : CallsLeft (core_mean l.fn.value) l.calls l.name-index l.found;
  kept : l.start ≡ l.fn.value;
}

abbrev pub invariant-steps-loop-separator : goal.invariant-steps-loop-separator
invariant-steps-loop-separator l = record {
  same : map core_mean l.found ≡ later_parts (parts.steps (take l.separator-index l.more));
  plain : StepsLeft l.more l.separator-index l.found;
}

abbrev pub invariant-clauses-loop-next : goal.invariant-clauses-loop-next
invariant-clauses-loop-next l =
    clauses (map core_clause_mean l.found) ≡ clauses (map clause_mean (take l.next-index l.list))

abbrev pub invariant-ranges-loop-variable : goal.invariant-ranges-loop-variable
invariant-ranges-loop-variable l =
    map core_clause_mean l.found ≡ parts.ranges (take l.variable-index l.list)

abbrev pub invariant-assignments-loop-variable : goal.invariant-assignments-loop-variable
invariant-assignments-loop-variable l =
    map core_clause_mean l.found ≡ parts.assignments (take l.variable-index l.list)

abbrev pub invariant-group-loop-spec : goal.invariant-group-loop-spec
invariant-group-loop-spec l =
    map core_clause_mean l.found
    ≡ flat_map (λ spec. parts.lets (group_mean spec)) (take l.spec-index l.specs)

abbrev pub invariant-keys-loop-key : goal.invariant-keys-loop-key
invariant-keys-loop-key l = parts.core_keys l.found ≡ parts.keys (take l.key-index l.specs)

abbrev pub invariant-bindings-loop-variable : goal.invariant-bindings-loop-variable
invariant-bindings-loop-variable l =
    parts.core_bindings l.found ≡ parts.bindings (take l.variable-index l.list)

-- # Measures: at one depth a function calls those of lower rank

abbrev pub decreases-expression : goal.decreases-expression
decreases-expression a = 4 * goal.size-expression a

abbrev pub decreases-boxed : goal.decreases-boxed
decreases-boxed a = 4 * goal.size-boxed a + 1

abbrev pub decreases-expressions : goal.decreases-expressions
decreases-expressions a = 4 * goal.size-expressions a + 1

abbrev pub decreases-joined : goal.decreases-joined
decreases-joined a = 4 * goal.size-joined a + 2

abbrev pub decreases-following : goal.decreases-following
decreases-following a = 4 * goal.size-following a + 1

abbrev pub decreases-addends : goal.decreases-addends
decreases-addends a = 4 * goal.size-addends a + 1

abbrev pub decreases-factors : goal.decreases-factors
decreases-factors a = 4 * goal.size-factors a + 1

abbrev pub decreases-set_operands : goal.decreases-set_operands
decreases-set_operands a = 4 * goal.size-set_operands a + 1

abbrev pub decreases-call : goal.decreases-call
decreases-call a = 4 * goal.size-call a + 2

abbrev pub decreases-arrow : goal.decreases-arrow
decreases-arrow a = 4 * most call_depth a.calls.now + 3

abbrev pub decreases-call_on : goal.decreases-call_on
decreases-call_on a = 4 * most size-Expr a.arguments.now + 2

abbrev pub decreases-later_calls : goal.decreases-later_calls
decreases-later_calls a = 4 * most call_depth a.calls.now + 2

abbrev pub decreases-constructor_name : goal.decreases-constructor_name
decreases-constructor_name a = 4 * goal.size-constructor_name a

abbrev pub decreases-steps : goal.decreases-steps
decreases-steps a = 4 * goal.size-steps a + 1

abbrev pub decreases-step : goal.decreases-step
decreases-step a = 4 * goal.size-step a

abbrev pub decreases-clauses : goal.decreases-clauses
decreases-clauses a = 4 * goal.size-clauses a + 1

abbrev pub decreases-clause : goal.decreases-clause
decreases-clause a = 4 * goal.size-clause a

abbrev pub decreases-ranges : goal.decreases-ranges
decreases-ranges a = 4 * goal.size-ranges a + 1

abbrev pub decreases-assignments : goal.decreases-assignments
decreases-assignments a = 4 * goal.size-assignments a + 1

abbrev pub decreases-group : goal.decreases-group
decreases-group a = 4 * goal.size-group a + 1

abbrev pub decreases-lets : goal.decreases-lets
decreases-lets a = 4 * goal.size-lets a

abbrev pub decreases-keys : goal.decreases-keys
decreases-keys a = 4 * goal.size-keys a + 1

abbrev pub decreases-bindings : goal.decreases-bindings
decreases-bindings a = 4 * goal.size-bindings a + 1
