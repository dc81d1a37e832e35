use Rattle.std.proofs.Common.{◌≡◌, ◌+◌, ◌∙◌, take, length, refl, sym, subst₂, arith}
use Rattle.std.specs.List.{slice_range}
use Rattle.std.proofs.lemmas.List.{length-take-le, take_all}
use Rattle.sqlite.specs.State.{HasCleanDisk}
use Rattle.sqlite.specs.Held.{state}
use Rattle.xq_tables.specs.private.Numbered.{AddsRows}
use Rattle.xq_tables.proofs.Creates.{kept_same}
use Rattle.xq_tables.proofs.Inserts.{kept_then}
use Rattle.xq_tables.proofs.Numberings.{rows_none, rows_rest, rows_then}
use Rattle.xq_tables.proofs.Parts.{take_then}
use Rattle.xq_tables.proofs.additions.insert_numbered.Goals as goal

pub loop-at-init : goal.loop-at-init
loop-at-init g c =
    let here = state g.S.Store c.args.transaction.now.conn.now in
    record {
      same_reference = refl;
      clean = omega arith;
      kept = λ clean. kept_same here;
      within = omega arith;
      added = λ clean. rows_none c.args.address.now here;
    }

pub loop-at-preserved : goal.loop-at-preserved
loop-at-preserved g c =
    let first = state g.S.Store c.args.transaction.now.conn.now in
    let mid = state g.S.Store c.loop-at.transaction.conn.now in
    let last = state g.S.Store c.insert_together.new.transaction.conn.now in
    let held = c.loop-at.invariant in
    let step = c.insert_together.ensures.inside in
    let rows = c.args.rows.now in
    let numbers = c.args.numbers.now in
    let i = c.loop-at.at in
    let j = i + 8 in
    record {
      same_reference = step.same_reference ∙ held.same_reference;
      clean = omega (arith, held.clean, step.clean);
      kept = λ clean. (
          let early : HasCleanDisk mid = omega (arith, step.clean) in
          kept_then first mid last (held.kept early) (step.kept clean));
      within = omega (arith, c.loop-at-test.true, c.len-end.ensures);
      added = λ clean. (
          let early : HasCleanDisk mid = omega (arith, step.clean) in
          let same : length (take i rows) ≡ length (take i numbers) = length-take-le i rows held.within ∙ sym (length-take-le i numbers (omega (arith, c.requires, held.within))) in
          let one = rw c.between-part.ensures at (c.in_ok-insert_together.ensures.added clean) in
          subst₂ (λ xs ys. AddsRows c.args.address.now xs ys first last) (sym (take_then i j rows (omega arith))) (sym (take_then i j numbers (omega arith)))
          (rows_then c.args.address.now (take i rows) (slice_range rows i j) (take i numbers) (slice_range numbers i j) first mid last same (held.added early) one));
    }

pub returns-clause-added : goal.returns-clause-added
returns-clause-added g c clean =
    let first = state g.S.Store c.args.transaction.now.conn.now in
    let mid = state g.S.Store c.loop-at.transaction.conn.now in
    let last = state g.S.Store c.insert_each.new.transaction.conn.now in
    let held = c.loop-at.invariant in
    let early : HasCleanDisk mid = omega (arith, c.insert_each.ensures.inside.clean, clean) in
    let rows = c.args.rows.now in
    let numbers = c.args.numbers.now in
    let i = c.loop-at.at in
    let same : length (take i rows) ≡ length (take i numbers) = length-take-le i rows held.within ∙ sym (length-take-le i numbers (omega (arith, c.requires, held.within))) in
    let ns = sym (take_then i (length rows) rows held.within) ∙ take_all (length rows) rows (omega arith) in
    let ms = sym (take_then i (length rows) numbers held.within) ∙ take_all (length rows) numbers (omega (arith, c.requires)) in
    rows_rest c.args.address.now (take i rows) (slice_range rows i (length rows)) (take i numbers) (slice_range numbers i (length rows)) rows numbers first mid last c.insert_each.result same ns ms (held.added early)
    (rw (c.between.ensures, c.len-end.ensures) at (c.insert_each.ensures.added clean))
