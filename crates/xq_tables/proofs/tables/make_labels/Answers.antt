use Rattle.std.proofs.Common.{arith}
use Rattle.sqlite.specs.Held.{state}
use Rattle.sqlite.specs.State.{HasCleanDisk}
use Rattle.xq_tables.proofs.Creates.{all_made}
use Rattle.xq_tables.proofs.tables.make_labels.Goals as goal

pub returns-clause-made : goal.returns-clause-made
returns-clause-made g c clean =
    let first = state g.S.Store c.args.transaction.now.conn.now in
    let second = state g.S.Store c.make_label.new.transaction.conn.now in
    let third = state g.S.Store c.make_nodes.new.transaction.conn.now in
    let last = state g.S.Store c.write_zero.new.transaction.conn.now in
    let later : HasCleanDisk third = omega (arith, c.write_zero.ensures.inside.clean, clean) in
    let early : HasCleanDisk second = omega (arith, c.make_nodes.ensures.inside.clean, later) in
    all_made first.now second.now third.now last.now (c.in_ok-_label.ensures.made early) (c.in_ok-_nodes.ensures.made later) (c.in_ok-_zero.ensures.made clean)
