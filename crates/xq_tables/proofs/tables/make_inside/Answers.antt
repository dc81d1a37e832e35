use Rattle.std.proofs.Common.{arith}
use Rattle.sqlite.specs.Held.{state}
use Rattle.sqlite.specs.State.{HasCleanDisk}
use Rattle.xq_tables.proofs.Creates.{store_made}
use Rattle.xq_tables.proofs.tables.make_inside.Goals as goal

pub returns-clause-made : goal.returns-clause-made
returns-clause-made g c clean =
    let first = state g.S.Store c.args.transaction.now.conn.now in
    let one = state g.S.Store c.make_layout.new.transaction.conn.now in
    let two = state g.S.Store c.make_labels.new.transaction.conn.now in
    let three = state g.S.Store c.write_edition.new.transaction.conn.now in
    let later : HasCleanDisk two = omega (arith, c.write_edition.ensures.inside.clean, clean) in
    let early : HasCleanDisk one = omega (arith, c.make_labels.ensures.inside.clean, later) in
    store_made first.now one.now two.now three.now (c.in_ok-_layout.ensures.made early) (c.in_ok-make_labels.ensures.made later) (c.in_ok-_edition.ensures.made clean)
