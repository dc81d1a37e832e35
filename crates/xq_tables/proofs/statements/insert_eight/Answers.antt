use Rattle.std.proofs.Common.{subst, sym}
use Rattle.sqlite.specs.Held.{Held, state}
use Rattle.sqlite.specs.State.{KeepsCommit}
use Rattle.sqlite.specs.Values.{bound}
use Rattle.xq_tables.proofs.Creates.{kept_inside, kept_same}
use Rattle.xq_tables.proofs.EightTexts.{eight_text}
use Rattle.xq_tables.proofs.Together.{eight_inside}
use Rattle.xq_tables.proofs.statements.insert_eight.Goals as goal

pub returns-clause-added : goal.returns-clause-added
returns-clause-added g c clean =
    eight_inside (state g.S.Store c.args.transaction.now.conn.now) (state g.S.Store c.execute.new.self.conn.now) (bound c.args.values.now) _ c.execute.result (λ out. (c.execute.ensures.ended out).0) (c.execute.ensures.runs clean)

pub returns-clause-inside : goal.returns-clause-inside
returns-clause-inside g c =
    let old = state g.S.Store c.args.transaction.now.conn.now in
    let new = state g.S.Store c.execute.new.self.conn.now in
    record {
      same_reference = c.execute.ensures.same_reference;
      clean = c.execute.ensures.survives.clean;
      kept = λ clean. kept_inside eight_text (bound c.args.values.now) old new c.execute.result (λ out. subst (λ (h : Held _). KeepsCommit old (state g.S.Store h)) (sym (c.execute.ensures.ended out).1) (kept_same old)) (c.execute.ensures.runs clean);
    }
