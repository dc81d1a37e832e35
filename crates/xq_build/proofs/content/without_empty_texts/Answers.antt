use Rattle.std.proofs.Common.{arith}
use Rattle.xq_build.proofs.Contents.{kept_more}
use Rattle.xq_build.proofs.content.without_empty_texts.Goals as goal

pub loop-at-preserved : goal.loop-at-preserved
loop-at-preserved c =
    kept_more c.loop-at.kept.rows c.append_kept.new.rows.rows c.args.rows.now.rows c.loop-at.at c.new.result.row (omega arith) c.new.ensures.row
    c.in_ok-append_kept.ensures c.loop-at.invariant
