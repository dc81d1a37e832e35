use Rattle.std.proofs.Common.{refl, arith}
use Rattle.xq_trees.proofs.AttributeRuns.{named_rows, not_named}
use Rattle.xq_trees.proofs.encodings.are_names_distinct.Goals as goal

pub returns-then-not-branch-clause-distinct : goal.returns-then-not-branch-clause-distinct
returns-then-not-branch-clause-distinct g c =
    not_named (g.R.TreeRows.listed c.args.rows.now) c.loop-at.at c.in_ok-has_distinct_attributes.field-0 (omega (arith, c.loop-at-test.true, c.count-at-end.ensures)) c.in_ok-has_distinct_attributes.ensures.distinct c.if-not-branch.true

pub returns-clause-distinct : goal.returns-clause-distinct
returns-clause-distinct g c = (λ t. named_rows (g.R.TreeRows.listed c.args.rows.now) (λ i l. c.loop-at.invariant i (omega (arith, c.count-at-end.ensures))), λ a. refl)
