use Rattle.std.proofs.Common.{[], ◌∷◌, not, ap, map, ◌∙◌, Vec, Global}
use Rattle.std.specs.List.Sorted.{IsPermutation}
use Rattle.sqlite_value.specs.Order.{Row, column}
use Rattle.sqlite.specs.Held.{state}
use Rattle.sqlite.specs.State.{Shown}
use Rattle.xq_tables.specs.Tables.{layout_rows}
use Rattle.xq_tables.proofs.AdoptReads.{edition_plain, edition_query, each_ok, reads_edition}
use Rattle.xq_tables.proofs.Selects.{query_keeps, query_opens}
use Rattle.xq_tables.proofs.adopt.read_layout.Goals as goal

pub returns-clause-rows : goal.returns-clause-rows
returns-clause-rows g c clean =
    let old = state g.S.Store c.args.conn.now in
    let new = state g.S.Store c.query_all.new.self in
    each_ok (λ (v : Vec Row Global). Shown edition_query [] old new v.items) (λ (v : Vec Row Global). IsPermutation (map (λ r. column r 1 ∷ []) (layout_rows old.now)) v.items) c.query_all.result
    (λ v h. reads_edition old new v.items c.requires.tables h) (c.query_all.ensures.ok clean)

pub returns-clause-outside : goal.returns-clause-outside
returns-clause-outside g c =
    record {
      mode = c.query_all.ensures.mode c.requires.outside;
      clean = c.query_all.ensures.survives.clean;
      was_open = λ up. query_opens (λ (v : Vec Row Global). v.items) (state g.S.Store c.args.conn.now) (state g.S.Store c.query_all.new.self) edition_query [] c.query_all.result up.1 (c.query_all.ensures.ok up.0) (c.query_all.ensures.err up.0);
    }

pub returns-clause-same : goal.returns-clause-same
returns-clause-same g c up =
    let outside = c.is_autocommit-idle.ensures.value ∙ ap not c.requires.outside in
    query_keeps (λ (v : Vec Row Global). v.items) (state g.S.Store c.args.conn.now) (state g.S.Store c.query_all.new.self) edition_query [] c.query_all.result (edition_plain c.args.conn.now.schema c.requires.tables)
    (c.is_autocommit-idle.ensures.settled outside) up.1 (c.query_all.ensures.ok up.0) (c.query_all.ensures.err up.0)
