use Rattle.std.proofs.Common.{◌+◌, ◌-◌, ◌∙◌, ◌<◌, length, refl, sym, subst, arith}
use Rattle.sqlite.specs.State.{HasCleanDisk}
use Rattle.sqlite.specs.Held.{state}
use Rattle.xq_trees.specs.Rows.{no_row}
use Rattle.xq_sources.specs.Lent.{placed_lent}
use Rattle.xq_tables.proofs.Inserts.{kept_then}
use Rattle.xq_tables.specs.private.Statements.{RenewsRow}
use Rattle.xq_tables.proofs.Renewals.{none_renewed, one_renewed, rows_renewed, same_renewed, shown_at, IsRenewed}
use Rattle.xq_tables.proofs.replacements.renew_each.Goals as goal

pub loop-at-init : goal.loop-at-init
loop-at-init g c =
    let here = state g.S.Store c.args.transaction.now.conn.now in
    let at = c.same_until-at.result in
    record {
      same_reference = refl;
      clean = omega arith;
      kept = λ clean. record { was_open = λ up. up; committed = λ up. refl };
      within = c.same_until-at.ensures.mine;
      so_far = λ clean. same_renewed c.args.address.now at 0 at c.args.rows_there.now c.args.rows.now (0, no_row) c.args.names.now.entries c.args.names.now.entries here.now here.now (omega arith) c.same_until-at.ensures.mine c.requires c.same_until-at.ensures.same
          (none_renewed c.args.address.now c.args.rows_there.now c.args.rows.now c.args.names.now.entries here.now);
    }

pub loop-at-preserved : goal.loop-at-preserved
loop-at-preserved g c =
    let first = state g.S.Store c.args.transaction.now.conn.now in
    let now = state g.S.Store c.loop-at.transaction.conn.now in
    let last = state g.S.Store c.renew_row.new.transaction.conn.now in
    let held = c.loop-at.invariant in
    let step = c.renew_row.ensures.inside in
    let at = c.loop-at.at in
    let stop = c.same_until-at-in-loop-at.result in
    let there = c.args.rows_there.now in
    let rows = c.args.rows.now in
    let before = c.args.names.now.entries in
    let after = c.renew_row.new.names.entries in
    let inside : at < length rows = omega (arith, c.loop-at-test.true) in
    let shown = shown_at there at (placed_lent c.row-there.result) (0, no_row) (omega (arith, inside, c.requires)) c.row-there.ensures in
    record {
      same_reference = step.same_reference ∙ held.same_reference;
      clean = omega (arith, held.clean, step.clean);
      kept = λ clean. (
          let early : HasCleanDisk now = omega (arith, step.clean) in
          kept_then first now last (held.kept early) (step.kept clean));
      within = c.same_until-at-in-loop-at.ensures.mine;
      so_far = λ clean. (
          let early : HasCleanDisk now = omega (arith, step.clean) in
          let one : IsRenewed c.args.address.now there rows (at + 1) before after first.now last.now =
          one_renewed c.args.address.now at there rows (placed_lent c.row.result) (0, no_row) before c.loop-at.names.entries after first.now now.now last.now
          inside c.row.ensures (held.so_far early) (subst (λ o. RenewsRow c.args.address.now (placed_lent c.row.result) o c.loop-at.names.entries after now.now last.now) (sym shown) (c.in_ok-renew_row.ensures.renewed clean)) in
          same_renewed c.args.address.now (stop - (at + 1)) (at + 1) stop there rows (0, no_row) before after first.now last.now (omega (arith, c.same_until-at-in-loop-at.ensures.after)) c.same_until-at-in-loop-at.ensures.mine c.requires c.same_until-at-in-loop-at.ensures.same one);
    }

pub returns-clause-renewed : goal.returns-clause-renewed
returns-clause-renewed g c clean =
    let first = state g.S.Store c.args.transaction.now.conn.now in
    let now = state g.S.Store c.loop-at.transaction.conn.now in
    rows_renewed c.args.address.now c.loop-at.at c.args.rows_there.now c.args.rows.now c.args.names.now.entries c.loop-at.names.entries first.now now.now (omega (arith, c.loop-at-test.false, c.loop-at.invariant.within)) (c.loop-at.invariant.so_far clean)
