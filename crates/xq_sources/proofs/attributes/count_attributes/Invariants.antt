use Rattle.xq_sources.specs.Lent.{unplaced}
use Rattle.xq_sources.proofs.AttributeRows.{AreSoFar}
use Rattle.xq_sources.proofs.attributes.count_attributes.Given as goal

-- so many rows after the node's are those of attributes
abbrev pub invariant-loop-number : goal.invariant-loop-number
invariant-loop-number l = record {
  is : AreSoFar (unplaced l.rows) l.node l.number;
}
