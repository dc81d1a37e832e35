use Rattle.std.proofs.Common.{◌≡◌, ◌+◌, ◌++◌, map, true, false, sym, ◌∙◌, ap, arith}
use Rattle.std.specs.Prelude.{slice_range}
use Rattle.xq_trees.specs.Rows.{row_at, row_name}
use Rattle.xq_trees.specs.Tree.{is_attribute}
use Rattle.xq_trees.proofs.AttributeRuns.{names_from, next_names, no_names, names_at_stop, checked_next, names_more, names_end}
use Rattle.xq_trees.proofs.encodings.attributes_end.Goals as goal

pub returns-then-not-is_attribute-clause-names : goal.returns-then-not-is_attribute-clause-names
returns-then-not-is_attribute-clause-names g c =
    let i = c.loop-at.invariant in
    let rs = g.R.TreeRows.listed c.args.rows.now in
    let a : is_attribute (row_at rs c.loop-at.at).label.kind ≡ false = ap is_attribute (sym c.kind.ensures) ∙ sym c.is_attribute.ensures ∙ c.if-not-is_attribute.true in
    names_end _ _ _ i.names (no_names rs c.loop-at.at c.args.stop c.loop-at-test.true c.requires.within i.checked i.in_front a)

pub loop-at-preserved : goal.loop-at-preserved
loop-at-preserved g c =
    let i = c.loop-at.invariant in
    let rs = g.R.TreeRows.listed c.args.rows.now in
    let at = c.loop-at.at in
    let a : is_attribute (row_at rs at).label.kind ≡ true = ap is_attribute (sym c.kind.ensures) ∙ sym c.is_attribute.ensures ∙ c.if-not-is_attribute.false in
    let n = next_names rs at c.args.stop c.loop-at-test.true c.requires.within i.checked i.in_front a in
    record {
      after = omega arith;
      before = omega arith;
      checked = checked_next _ at i.checked;
      in_front = n.0;
      names = i.names ∙ ap (λ rest. map row_name (slice_range rs c.args.from at) ++ rest) n.1 ∙ names_more rs c.args.from at (names_from rs (at + 1) c.args.stop) i.after (omega arith);
    }

pub returns-clause-names : goal.returns-clause-names
returns-clause-names g c = names_end _ _ _ c.loop-at.invariant.names (names_at_stop (g.R.TreeRows.listed c.args.rows.now) c.loop-at.at c.args.stop (omega arith))
