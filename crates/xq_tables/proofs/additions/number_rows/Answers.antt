use Rattle.std.proofs.Common.{◌≡◌, ◌+◌, ◌++◌, ◌∷◌, [], ◌∙◌, take, length, refl, sym, ap, subst, subst₂, arith}
use Rattle.std.proofs.lemmas.List.{length-append, take_all, take_more}
use Rattle.sqlite.specs.State.{HasCleanDisk}
use Rattle.sqlite.specs.Held.{state}
use Rattle.xq_trees.specs.Rows.{no_row}
use Rattle.xq_sources.specs.Lent.{placed_lent}
use Rattle.xq_tables.specs.private.Numbered.{NumbersRows}
use Rattle.xq_tables.proofs.Creates.{kept_same}
use Rattle.xq_tables.proofs.Inserts.{kept_then}
use Rattle.xq_tables.proofs.Numberings.{numbers_more, numbers_none}
use Rattle.xq_tables.proofs.additions.number_rows.Goals as goal

pub loop-at-init : goal.loop-at-init
loop-at-init g c =
    let here = state g.S.Store c.args.transaction.now.conn.now in
    record {
      same_reference = refl;
      clean = omega arith;
      kept = λ clean. kept_same here;
      count = ap length c.new-numbers.ensures.items;
      numbered = λ clean. subst (λ l. NumbersRows [] l c.args.names.now.entries c.args.names.now.entries here here) (sym c.new-numbers.ensures.items) (numbers_none c.args.names.now.entries here);
    }

pub loop-at-preserved : goal.loop-at-preserved
loop-at-preserved g c =
    let first = state g.S.Store c.args.transaction.now.conn.now in
    let mid = state g.S.Store c.loop-at.transaction.conn.now in
    let last = state g.S.Store c.number_in_hand.new.transaction.conn.now in
    let held = c.loop-at.invariant in
    let step = c.number_in_hand.ensures.inside in
    let rows = c.args.rows.now in
    let i = c.loop-at.at in
    let n = placed_lent c.row.result in
    let number = c.in_ok-number.number in
    let before = c.loop-at.numbers.items in
    let pushed : c.push.new.self.items ≡ before ++ number ∷ [] = c.in_ok-push.ensures.items in
    record {
      same_reference = step.same_reference ∙ held.same_reference;
      clean = omega (arith, held.clean, step.clean);
      kept = λ clean. (
          let early : HasCleanDisk mid = omega (arith, step.clean) in
          kept_then first mid last (held.kept early) (step.kept clean));
      count = omega (arith, ap length pushed, length-append before (number ∷ []), held.count);
      numbered = λ clean. (
          let early : HasCleanDisk mid = omega (arith, step.clean) in
          let next : take (i + 1) rows ≡ take i rows ++ n ∷ [] = take_more rows i (0, no_row) (omega arith) ∙ ap (λ y. take i rows ++ y ∷ []) (sym c.row.ensures) in
          subst₂ (λ ns ls. NumbersRows ns ls c.args.names.now.entries c.number_in_hand.new.names.entries first last) (sym next) (sym pushed)
          (numbers_more (take i rows) before n number c.args.names.now.entries c.loop-at.names.entries c.number_in_hand.new.names.entries first mid last (held.numbered early) (rw c.name.ensures at (c.in_ok-number.ensures.numbered clean))));
    }

pub returns-clause-count : goal.returns-clause-count
returns-clause-count g c = omega (arith, c.loop-at.invariant.count, c.loop-at-test.false, c.loop-at.auto.at-end)

pub returns-clause-numbered : goal.returns-clause-numbered
returns-clause-numbered g c clean =
    let first = state g.S.Store c.args.transaction.now.conn.now in
    let now = state g.S.Store c.loop-at.transaction.conn.now in
    subst (λ ns. NumbersRows ns c.loop-at.numbers.items c.args.names.now.entries c.loop-at.names.entries first now) (take_all c.loop-at.at c.args.rows.now (omega (arith, c.loop-at-test.false))) (c.loop-at.invariant.numbered clean)
