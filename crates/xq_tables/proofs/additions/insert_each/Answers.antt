use Rattle.std.proofs.Common.{◌≡◌, ◌+◌, ◌++◌, ◌∷◌, [], ◌∙◌, take, length, get_or, refl, sym, ap, subst₂, arith}
use Rattle.std.proofs.lemmas.List.{length-take-le, take_all, take_more}
use Rattle.sqlite.specs.State.{HasCleanDisk}
use Rattle.sqlite.specs.Held.{state}
use Rattle.xq_trees.specs.Rows.{no_row}
use Rattle.xq_sources.specs.Lent.{placed_lent}
use Rattle.xq_tables.specs.private.Numbered.{AddsRows}
use Rattle.xq_tables.proofs.Creates.{kept_same}
use Rattle.xq_tables.proofs.Inserts.{kept_then}
use Rattle.xq_tables.proofs.Numberings.{one_row, rows_none, rows_then}
use Rattle.xq_tables.proofs.additions.insert_each.Goals as goal

pub loop-at-init : goal.loop-at-init
loop-at-init g c =
    let here = state g.S.Store c.args.transaction.now.conn.now in
    record {
      same_reference = refl;
      clean = omega arith;
      kept = λ clean. kept_same here;
      added = λ clean. rows_none c.args.address.now here;
    }

pub loop-at-preserved : goal.loop-at-preserved
loop-at-preserved g c =
    let first = state g.S.Store c.args.transaction.now.conn.now in
    let mid = state g.S.Store c.loop-at.transaction.conn.now in
    let last = state g.S.Store c.insert_row.new.transaction.conn.now in
    let held = c.loop-at.invariant in
    let step = c.insert_row.ensures.inside in
    let rows = c.args.rows.now in
    let numbers = c.args.numbers.now in
    let i = c.loop-at.at in
    let n = placed_lent c.row.result in
    let m = get_or numbers i 0 in
    record {
      same_reference = step.same_reference ∙ held.same_reference;
      clean = omega (arith, held.clean, step.clean);
      kept = λ clean. (
          let early : HasCleanDisk mid = omega (arith, step.clean) in
          kept_then first mid last (held.kept early) (step.kept clean));
      added = λ clean. (
          let early : HasCleanDisk mid = omega (arith, step.clean) in
          let ns : take (i + 1) rows ≡ take i rows ++ n ∷ [] = take_more rows i (0, no_row) (omega arith) ∙ ap (λ y. take i rows ++ y ∷ []) (sym c.row.ensures) in
          let ms : take (i + 1) numbers ≡ take i numbers ++ m ∷ [] = take_more numbers i 0 (omega arith) in
          let same : length (take i rows) ≡ length (take i numbers) = length-take-le i rows (omega arith) ∙ sym (length-take-le i numbers (omega arith)) in
          subst₂ (λ xs ys. AddsRows c.args.address.now xs ys first last) (sym ns) (sym ms)
          (rows_then c.args.address.now (take i rows) (n ∷ []) (take i numbers) (m ∷ []) first mid last same (held.added early) (one_row c.args.address.now n m mid last (c.in_ok-_count.ensures.added clean))));
    }

pub returns-clause-added : goal.returns-clause-added
returns-clause-added g c clean =
    let first = state g.S.Store c.args.transaction.now.conn.now in
    let now = state g.S.Store c.loop-at.transaction.conn.now in
    subst₂ (λ ns ms. AddsRows c.args.address.now ns ms first now) (take_all c.loop-at.at c.args.rows.now (omega (arith, c.loop-at-test.false))) (take_all c.loop-at.at c.args.numbers.now (omega (arith, c.loop-at-test.false))) (c.loop-at.invariant.added clean)
