use Rattle.std.proofs.Common.{get_or, ap}
use Rattle.xq_trees.proofs.Numbered.{numbered_more, not_numbered, all_numbered}
use Rattle.xq_trees.proofs.listings.are_numbered.Goals as goal

pub returns-then-rows-at : goal.returns-then-rows-at
returns-then-rows-at c =
    let xs = c.args.rows.now in
    let at = c.loop-at.at in
    not_numbered xs at (get_or xs at c.index-rows-at.result) c.loop-at-test.true (ap (get_or xs at) c.index-rows-at.is) c.if-rows-at.true

pub loop-at-preserved : goal.loop-at-preserved
loop-at-preserved c =
    let xs = c.args.rows.now in
    let at = c.loop-at.at in
    numbered_more xs at (get_or xs at c.index-rows-at.result) c.loop-at-test.true (ap (get_or xs at) c.index-rows-at.is) c.if-rows-at.false c.loop-at.invariant

pub returns : goal.returns
returns c = all_numbered c.args.rows.now c.loop-at.at c.loop-at-test.false c.loop-at.invariant
