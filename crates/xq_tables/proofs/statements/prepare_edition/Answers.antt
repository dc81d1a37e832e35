use Rattle.std.proofs.Common.{[], not, ap, ◌∙◌}
use Rattle.sqlite.specs.Held.{state}
use Rattle.xq_tables.proofs.Prepares.{not_run}
use Rattle.xq_tables.proofs.statements.prepare_edition.Goals as goal

pub returns-in_err-_statement-clause-outside : goal.returns-in_err-_statement-clause-outside
returns-in_err-_statement-clause-outside g c =
    let outside = c.is_autocommit-idle.ensures.value ∙ ap not c.requires in
    record {
      mode = c.prepare.ensures.mode c.requires;
      clean = c.prepare.ensures.survives.clean;
      was_open = λ ready. (not_run (state g.S.Store c.args.conn.now) (state g.S.Store c.prepare.new.self) _ [] _ (c.is_autocommit-idle.ensures.settled outside) ready.1 (c.in_err-_statement.ensures.err ready.0 [])).1;
    }

pub returns-in_err-_statement-clause-same : goal.returns-in_err-_statement-clause-same
returns-in_err-_statement-clause-same g c ready =
    let outside = c.is_autocommit-idle.ensures.value ∙ ap not c.requires in
    (not_run (state g.S.Store c.args.conn.now) (state g.S.Store c.prepare.new.self) _ [] _ (c.is_autocommit-idle.ensures.settled outside) ready.1 (c.in_err-_statement.ensures.err ready.0 [])).0
