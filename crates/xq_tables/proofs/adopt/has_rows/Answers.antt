use Rattle.std.proofs.Common.{[], not, ap, ◌∙◌, Vec, Global, arith}
use Rattle.sqlite_value.specs.Order.{Row}
use Rattle.sqlite.specs.Held.{state}
use Rattle.xq_tables.proofs.Selects.{query_keeps, query_opens}
use Rattle.xq_tables.proofs.adopt.has_rows.Goals as goal

pub returns-in_err-rows-clause-outside : goal.returns-in_err-rows-clause-outside
returns-in_err-rows-clause-outside g c =
    record {
      mode = c.query_all.ensures.mode c.requires.outside;
      clean = c.query_all.ensures.survives.clean;
      was_open = λ up. query_opens (λ (v : Vec Row Global). v.items) (state g.S.Store c.args.conn.now) (state g.S.Store c.query_all.new.self) c.args.text.now [] c.query_all.result up.1 (c.query_all.ensures.ok up.0) (c.query_all.ensures.err up.0);
    }

pub returns-clause-outside : goal.returns-clause-outside
returns-clause-outside g c =
    record {
      mode = c.query_all.ensures.mode c.requires.outside;
      clean = c.query_all.ensures.survives.clean;
      was_open = λ up. query_opens (λ (v : Vec Row Global). v.items) (state g.S.Store c.args.conn.now) (state g.S.Store c.query_all.new.self) c.args.text.now [] c.query_all.result up.1 (c.query_all.ensures.ok up.0) (c.query_all.ensures.err up.0);
    }

pub returns-in_err-rows-clause-same : goal.returns-in_err-rows-clause-same
returns-in_err-rows-clause-same g c up =
    let outside = c.is_autocommit-idle.ensures.value ∙ ap not c.requires.outside in
    query_keeps (λ (v : Vec Row Global). v.items) (state g.S.Store c.args.conn.now) (state g.S.Store c.query_all.new.self) c.args.text.now [] c.query_all.result (c.requires.plain (omega (arith, c.query_all.ensures.survives.clean, up.0), query_opens (λ (v : Vec Row Global). v.items) (state g.S.Store c.args.conn.now) (state g.S.Store c.query_all.new.self) c.args.text.now [] c.query_all.result up.1 (c.query_all.ensures.ok up.0) (c.query_all.ensures.err up.0)))
    (c.is_autocommit-idle.ensures.settled outside) up.1 (c.query_all.ensures.ok up.0) (c.query_all.ensures.err up.0)

pub returns-clause-same : goal.returns-clause-same
returns-clause-same g c up =
    let outside = c.is_autocommit-idle.ensures.value ∙ ap not c.requires.outside in
    query_keeps (λ (v : Vec Row Global). v.items) (state g.S.Store c.args.conn.now) (state g.S.Store c.query_all.new.self) c.args.text.now [] c.query_all.result (c.requires.plain (omega (arith, c.query_all.ensures.survives.clean, up.0), query_opens (λ (v : Vec Row Global). v.items) (state g.S.Store c.args.conn.now) (state g.S.Store c.query_all.new.self) c.args.text.now [] c.query_all.result up.1 (c.query_all.ensures.ok up.0) (c.query_all.ensures.err up.0)))
    (c.is_autocommit-idle.ensures.settled outside) up.1 (c.query_all.ensures.ok up.0) (c.query_all.ensures.err up.0)
