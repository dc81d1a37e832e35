use Rattle.std.proofs.Common.{◌≡◌, ◌+◌, ◌∙◌, length, map, sym, ap, arith}
use Rattle.sqlite.specs.State.{HasCleanDisk}
use Rattle.sqlite.specs.Held.{state}
use Rattle.std.proofs.lemmas.List.{length-map}
use Rattle.xq_trees.specs.Rows.{placed}
use Rattle.xq_tables.specs.Nodes.{cells}
use Rattle.xq_tables.proofs.Renewals.{part_renewed}
use Rattle.xq_tables.proofs.replacements.renew_part.Goals as goal

pub returns-clause-renewed : goal.returns-clause-renewed
returns-clause-renewed g c clean =
    let first = state g.S.Store c.args.transaction.now.conn.now in
    let began = state g.S.Store c.read_part.new.transaction.conn.now in
    let last = state g.S.Store c.renew_rows.new.transaction.conn.now in
    let earlier : HasCleanDisk began = omega (arith, c.renew_rows.ensures.inside.clean, clean) in
    let given = c.in_ok-read.ensures.rows earlier in
    let shown : c.new.result ≡ map placed c.in_ok-rows_there.rows_there.items = c.new.ensures ∙ ap (map placed) c.deref-2.ensures.value in
    let size : c.args.low + c.len.result ≡ c.args.low + length c.args.rows.now = ap (λ n. c.args.low + n) c.len.ensures in
    part_renewed c.args.address.now c.args.low _ c.len-2.result c.args.rows.now c.new.result c.in_ok-read.read.items c.args.names.now.entries c.renew_rows.new.names.entries first.now began.now last.now c.requires.numbered size
    given.same given.are (ap (map cells) shown ∙ (rw c.deref.ensures.value at c.in_ok-rows_there.ensures)) (c.in_ok-renew_rows.ensures.renewed clean)
    (c.len-2.ensures ∙ c.in_ok-rows_there.rows_there.ok.0 ∙ sym (length-map c.in_ok-rows_there.rows_there.items placed) ∙ ap length (sym shown))
