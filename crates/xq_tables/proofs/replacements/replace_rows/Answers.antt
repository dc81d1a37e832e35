use Rattle.std.proofs.Common.{◌≡◌, ◌+◌, ◌∙◌, take, length, map, refl, sym, ap, subst, subst₂, arith}
use Rattle.std.specs.List.{slice_range}
use Rattle.sqlite.specs.State.{HasCleanDisk}
use Rattle.sqlite.specs.Held.{state}
use Rattle.xq_tables.proofs.Inserts.{kept_then}
use Rattle.xq_tables.specs.Nodes.{cells}
use Rattle.xq_tables.specs.Writes.{AreFrom}
use Rattle.xq_tables.specs.private.Statements.{RenewsPart, RenewsRows}
use Rattle.xq_tables.proofs.Parts.{last_part, many_between}
use Rattle.xq_tables.proofs.Renewals.{first_part, numbered_slice, part_more}
use Rattle.xq_tables.proofs.replacements.replace_rows.Goals as goal

pub loop-at-init : goal.loop-at-init
loop-at-init g c =
    let first = state g.S.Store c.args.transaction.now.conn.now in
    let now = state g.S.Store c.renew_rows.new.transaction.conn.now in
    let step = c.renew_rows.ensures.inside in
    let at = c.min-at.result in
    let renews : HasCleanDisk now → RenewsRows c.args.address.now (take at c.args.kept.now) (take at c.args.rows.now) c.new-names.result.entries c.renew_rows.new.names.entries first.now now.now =
    λ clean. subst₂ (λ there rows. RenewsRows c.args.address.now there rows c.new-names.result.entries c.renew_rows.new.names.entries first.now now.now) c.first.ensures c.first-2.ensures (c.in_ok-renew_rows.ensures.renewed clean) in
    record {
      same_reference = step.same_reference;
      clean = step.clean;
      kept = step.kept;
      within = omega (arith, c.min-at.ensures);
      so_far = λ clean. first_part c.args.address.now c.args.kept.now c.args.rows.now c.min-at.result _ _ c.renew_rows.new.names.entries first.now now.now c.requires.numbered (omega (arith, c.min-at.ensures)) (omega (arith, c.min-at.ensures)) refl
          c.new-names.ensures.empty (renews clean);
    }

pub loop-at-preserved : goal.loop-at-preserved
loop-at-preserved g c =
    let first = state g.S.Store c.args.transaction.now.conn.now in
    let now = state g.S.Store c.loop-at.transaction.conn.now in
    let last = state g.S.Store c.renew_part.new.transaction.conn.now in
    let held = c.loop-at.invariant in
    let step = c.renew_part.ensures.inside in
    let at = c.loop-at.at in
    let stop = c.min-stop.result in
    let part = slice_range c.args.rows.now at stop in
    let size : at + length part ≡ stop = many_between c.args.rows.now at stop (omega (arith, c.min-stop.ensures)) (omega (arith, c.min-stop.ensures)) in
    let renewed : HasCleanDisk last → RenewsPart c.args.address.now at stop (map cells part) c.loop-at.names.entries c.renew_part.new.names.entries now.now last.now c.in_ok-count.count =
    λ clean.
    let here : RenewsPart c.args.address.now at (at + length part) (map cells part) c.loop-at.names.entries c.renew_part.new.names.entries now.now last.now c.in_ok-count.count =
    subst (λ l. RenewsPart c.args.address.now at (at + length l) (map cells l) c.loop-at.names.entries c.renew_part.new.names.entries now.now last.now c.in_ok-count.count) c.between-part.ensures (c.in_ok-count.ensures.renewed clean) in
    subst (λ k. RenewsPart c.args.address.now at k (map cells part) c.loop-at.names.entries c.renew_part.new.names.entries now.now last.now c.in_ok-count.count) size here in
    record {
      same_reference = step.same_reference ∙ held.same_reference;
      clean = omega (arith, held.clean, step.clean);
      kept = λ clean. (
          let early : HasCleanDisk now = omega (arith, step.clean) in
          kept_then first now last (held.kept early) (step.kept clean));
      within = omega (arith, c.min-stop.ensures);
      so_far = λ clean. (
          let early : HasCleanDisk now = omega (arith, step.clean) in
          part_more c.args.address.now c.args.kept.now c.args.rows.now at stop c.in_ok-count.count c.loop-at.replaced _ c.loop-at.names.entries c.renew_part.new.names.entries first.now now.now last.now c.requires.numbered (omega (arith, c.min-stop.ensures)) refl
          (held.so_far early) (renewed clean));
    }

pub returns-clause-replaced : goal.returns-clause-replaced
returns-clause-replaced g c clean =
    let first = state g.S.Store c.args.transaction.now.conn.now in
    let now = state g.S.Store c.loop-at.transaction.conn.now in
    let last = state g.S.Store c.delete_part.new.transaction.conn.now in
    let early : HasCleanDisk now = omega (arith, c.delete_part.ensures.inside.clean) in
    let done = c.in_ok-beyond.ensures.dropped clean in
    record {
      inside = done.inside.mode;
      did = λ there. last_part c.args.address.now c.args.rows.now c.requires.numbered c.loop-at.at _ c.in_ok-beyond.beyond (omega (arith, c.loop-at.invariant.within, c.requires.few)) c.loop-at.replaced _ refl
          first.now now.now last.now (λ store. (c.loop-at.invariant.so_far early there store).0) done.did (omega (arith, c.loop-at-test.false)) (omega arith);
    }

pub renew_part-requires-clause-numbered : goal.renew_part-requires-clause-numbered
renew_part-requires-clause-numbered g c =
    subst (AreFrom c.loop-at.at) (sym c.between-part.ensures) (numbered_slice 0 c.loop-at.at _ c.min-stop.result c.args.rows.now (omega arith) c.requires.numbered)

pub renew_part-requires-clause-few : goal.renew_part-requires-clause-few
renew_part-requires-clause-few g c =
    let size = ap length c.between-part.ensures in
    let many = many_between c.args.rows.now c.loop-at.at c.min-stop.result (omega (arith, c.min-stop.ensures)) (omega (arith, c.min-stop.ensures)) in
    omega (arith, size, many, c.min-stop.ensures, c.requires.few)
