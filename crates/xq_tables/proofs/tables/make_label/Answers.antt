use Rattle.std.proofs.Common.{[], subst, sym}
use Rattle.sqlite.specs.Held.{Held, state}
use Rattle.sqlite.specs.State.{KeepsCommit}
use Rattle.xq_tables.specs.private.Statements.{MakesLabel}
use Rattle.xq_tables.proofs.LabelTexts.{label_text}
use Rattle.xq_tables.proofs.Creates.{ran_inside, makes_label, kept_inside, kept_same}
use Rattle.xq_tables.proofs.tables.make_label.Goals as goal

pub returns-clause-made : goal.returns-clause-made
returns-clause-made g c clean =
    let old = state g.S.Store c.args.transaction.now.conn.now in
    let new = state g.S.Store c.execute.new.self.conn.now in
    ran_inside label_text (MakesLabel old.now new.now) old new _ c.execute.result (λ out. (c.execute.ensures.ended out).0) (c.execute.ensures.runs clean) (λ count h. makes_label old new count h)

pub returns-clause-inside : goal.returns-clause-inside
returns-clause-inside g c =
    let old = state g.S.Store c.args.transaction.now.conn.now in
    let new = state g.S.Store c.execute.new.self.conn.now in
    record {
      same_reference = c.execute.ensures.same_reference;
      clean = c.execute.ensures.survives.clean;
      kept = λ clean. kept_inside label_text [] old new c.execute.result (λ out. subst (λ (h : Held _). KeepsCommit old (state g.S.Store h)) (sym (c.execute.ensures.ended out).1) (kept_same old)) (c.execute.ensures.runs clean);
    }
