use Rattle.std.proofs.Common.{map, string_bytes, arith}
use Rattle.sqlite.specs.Held.{state}
use Rattle.sqlite.specs.State.{HasCleanDisk}
use Rattle.xq_tables.proofs.Carrying.{moved}
use Rattle.xq_tables.proofs.carries.carry_inside.Goals as goal

pub returns-clause-moved : goal.returns-clause-moved
returns-clause-moved g c clean =
    let a = state g.S.Store c.args.transaction.now.conn.now in
    let b = state g.S.Store c.make_labels.new.transaction.conn.now in
    let d = state g.S.Store c.carry_documents.new.transaction.conn.now in
    let e = state g.S.Store c.forget_edition.new.transaction.conn.now in
    let f = state g.S.Store c.write_edition.new.transaction.conn.now in
    let h = state g.S.Store c.empty_nodes.new.transaction.conn.now in
    let of_f : HasCleanDisk f = omega (arith, c.empty_nodes.ensures.inside.clean, clean) in
    let of_e : HasCleanDisk e = omega (arith, c.write_edition.ensures.inside.clean, of_f) in
    let of_d : HasCleanDisk d = omega (arith, c.forget_edition.ensures.inside.clean, of_e) in
    let of_b : HasCleanDisk b = omega (arith, c.carry_documents.ensures.inside.clean, of_d) in
    moved (map string_bytes c.args.addresses.now) a.now b.now d.now e.now f.now h.now (c.in_ok-make_labels.ensures.made of_b) (c.in_ok-carry_documents.ensures.carried of_d).did (c.in_ok-_gone.ensures.made of_e) (c.in_ok-_edition.ensures.made of_f) (c.in_ok-_empty.ensures.made clean)
