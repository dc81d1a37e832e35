use Rattle.std.proofs.Common.{sym, ◌∙◌}
use Rattle.xq_sources.proofs.AttributeRows.{one_more, told}
use Rattle.xq_sources.proofs.Unplaced.{row_got}
use Rattle.xq_sources.proofs.attributes.count_attributes.Goals as goal

pub returns-then-not-is_of_attribute : goal.returns-then-not-is_of_attribute
returns-then-not-is_of_attribute c = told _ _ _ _ _ c.loop-number.invariant.is (row_got _ _ c.in_ok-row.row c.in_ok-row.ensures.row) c.loop-number-test.true (row_got _ _ c.in_ok-next.next c.in_ok-next.ensures.row) (sym c.is_of_attribute.ensures ∙ c.if-not-is_of_attribute.true)

pub loop-number-preserved : goal.loop-number-preserved
loop-number-preserved c = record { is = one_more _ _ _ _ c.loop-number.invariant.is (row_got _ _ c.in_ok-next.next c.in_ok-next.ensures.row) (sym c.is_of_attribute.ensures ∙ c.if-not-is_of_attribute.false) }
