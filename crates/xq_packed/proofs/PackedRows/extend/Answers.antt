use Rattle.std.proofs.Common.{◌<◌, length, subst}
use Rattle.std.proofs.lemmas.List.Elements.{All-more}
use Rattle.xq_trees.specs.declared.NodeRow.{NodeRow}
use Rattle.xq_trees.specs.Tree.{most_levels}
use Rattle.xq_packed.proofs.Extending.{extended-more}
use Rattle.xq_packed.proofs.PackedRows.extend.Goals as goal

pub loop-row-preserved : goal.loop-row-preserved
loop-row-preserved c =
    let rows = c.args.rows.now in
    let at = c.loop-row.row-index in
    let within : at < length rows = c.loop-row-test.true in
    record {
      added = extended-more _ _ _ rows at c.row-item.result within c.row-item.is c.loop-row.invariant.added c.in_ok-push.ensures.rows c.in_ok-push.ensures.names;
      fit = All-more (λ (row : NodeRow). row.level < most_levels) rows at c.row-item.result within c.loop-row.invariant.fit (subst (λ (row : NodeRow). row.level < most_levels) c.row-item.is c.in_ok-push.ensures.fits);
    }
