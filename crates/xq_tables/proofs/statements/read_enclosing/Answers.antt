use Rattle.std.proofs.Common.{[], ◌∷◌, pos, not, ap, ◌∙◌, Vec, Global}
use Rattle.sqlite_value.specs.declared.value.Value.TheVariants.{Text, Int}
use Rattle.sqlite_value.specs.Order.{Row}
use Rattle.sqlite.specs.Held.{state}
use Rattle.xq_tables.proofs.LabelTexts.{above2_text, above2_plain}
use Rattle.xq_tables.proofs.Ranges.{all_aboves}
use Rattle.xq_tables.proofs.Selects.{plain_under, query_keeps, query_opens, query_ends}
use Rattle.xq_tables.proofs.statements.read_enclosing.Goals as goal

pub returns-clause-same : goal.returns-clause-same
returns-clause-same g c up has =
    let outside = c.is_autocommit-idle.ensures.value ∙ ap not c.requires in
    query_keeps (λ (v : Vec Row Global). v.items) (state g.S.Store c.args.conn.now) (state g.S.Store c.query_all.new.self) above2_text (Text c.args.address.now ∷ Int (pos c.args.node) ∷ []) c.query_all.result (plain_under c.args.conn.now.schema above2_text above2_plain has)
    (c.is_autocommit-idle.ensures.settled outside) up.1 (rw (c.params-to_sql.ensures, c.params-to_sql-2.ensures) at (c.query_all.ensures.ok up.0)) (rw (c.params-to_sql.ensures, c.params-to_sql-2.ensures) at (c.query_all.ensures.err up.0))

pub returns-clause-rows : goal.returns-clause-rows
returns-clause-rows g c up = all_aboves (λ (v : Vec Row Global). v.items) (state g.S.Store c.args.conn.now) (state g.S.Store c.query_all.new.self) c.args.address.now c.args.node c.query_all.result (rw (c.params-to_sql.ensures, c.params-to_sql-2.ensures) at (c.query_all.ensures.ok up.0))

pub returns-clause-outside : goal.returns-clause-outside
returns-clause-outside g c =
    record {
      mode = c.query_all.ensures.mode c.requires;
      clean = c.query_all.ensures.survives.clean;
      was_open = λ up. query_opens (λ (v : Vec Row Global). v.items) (state g.S.Store c.args.conn.now) (state g.S.Store c.query_all.new.self) above2_text (Text c.args.address.now ∷ Int (pos c.args.node) ∷ []) c.query_all.result up.1 (rw (c.params-to_sql.ensures, c.params-to_sql-2.ensures) at (c.query_all.ensures.ok up.0)) (rw (c.params-to_sql.ensures, c.params-to_sql-2.ensures) at (c.query_all.ensures.err up.0));
    }

pub returns-clause-ends_open : goal.returns-clause-ends_open
returns-clause-ends_open g c clean =
    query_ends (λ (v : Vec Row Global). v.items) (state g.S.Store c.args.conn.now) (state g.S.Store c.query_all.new.self) above2_text (Text c.args.address.now ∷ Int (pos c.args.node) ∷ []) c.query_all.result (rw (c.params-to_sql.ensures, c.params-to_sql-2.ensures) at (c.query_all.ensures.ok clean))
