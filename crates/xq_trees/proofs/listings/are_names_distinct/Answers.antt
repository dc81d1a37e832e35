use Rattle.std.proofs.Common.{◌↔◌, map, refl, arith, subst}
use Rattle.std.specs.Prelude.{IsTrue}
use Rattle.xq_trees.specs.Rows.{row_of}
use Rattle.xq_trees.specs.private.Checks.{IsNamedAt}
use Rattle.xq_trees.proofs.Walks.{length-map}
use Rattle.xq_trees.proofs.AttributeRuns.{named_rows, not_named}
use Rattle.xq_trees.proofs.listings.are_names_distinct.Goals as goal

pub returns-then-not-has_distinct_attributes-clause-distinct : goal.returns-then-not-has_distinct_attributes-clause-distinct
returns-then-not-has_distinct_attributes-clause-distinct c =
    let r = c.has_distinct_attributes.result in
    let at_row : IsTrue r ↔ IsNamedAt (map row_of c.args.rows.now) c.loop-at.at =
    subst (λ xs. IsTrue r ↔ IsNamedAt (map row_of xs) c.loop-at.at) c.loop-at.invariant.0 c.has_distinct_attributes.ensures.distinct in
    not_named (map row_of c.args.rows.now) c.loop-at.at r (let n = length-map row_of c.args.rows.now in omega (arith, c.loop-at-test.true)) at_row c.if-not-has_distinct_attributes.true

pub returns-clause-distinct : goal.returns-clause-distinct
returns-clause-distinct c = (λ t. named_rows (map row_of c.args.rows.now) (λ i l. c.loop-at.invariant.1 i (let n = length-map row_of c.args.rows.now in omega arith)), λ a. refl)
