use Rattle.std.proofs.Common.{◌∙◌, ◌+◌, ◌++◌, List, ap, sym, map, subst, take, arith}
use Rattle.std.proofs.lemmas.List.{take_all}
use Rattle.xq_trees.specs.Rows.{Row}
use Rattle.xq_trees.specs.Levels.{flat}
use Rattle.xq_build.specs.private.Content.{merged_leaves, AreApart}
use Rattle.xq_build.proofs.Contents.{row_more, merged_next, merged_all}
use Rattle.xq_build.proofs.content.merged.Goals as goal

pub loop-at-init : goal.loop-at-init
loop-at-init c = record {
  merges = λ others. ap (λ (rs : List Row). merged_leaves (map flat rs ++ others)) c.new-all.ensures.rows;
  apart = subst (λ (rs : List Row). AreApart (map flat rs)) (sym c.new-all.ensures.rows) tt;
}

pub loop-at-preserved : goal.loop-at-preserved
loop-at-preserved c =
    let rows = c.args.rows.now.rows in
    let i = c.loop-at.at in
    let more = row_more rows i c.new.result.row (omega arith) c.new.ensures.row in
    record {
      merges = merged_next (map flat c.loop-at.all.rows) (map flat c.append_merged.new.rows.rows) (map flat (take i rows)) (map flat (take (i + 1) rows)) (flat c.new.result.row)
          c.in_ok-append_merged.ensures.merges c.loop-at.invariant.merges more;
      apart = c.in_ok-append_merged.ensures.apart c.loop-at.invariant.apart;
    }

pub returns : goal.returns
returns c =
    let rows = c.args.rows.now.rows in
    merged_all (map flat c.loop-at.all.rows) (map flat (take c.loop-at.at rows)) c.loop-at.invariant.merges c.loop-at.invariant.apart
    ∙ ap (λ (rs : List Row). merged_leaves (map flat rs)) (take_all c.loop-at.at rows (omega arith))
