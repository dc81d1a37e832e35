use Rattle.std.proofs.Common.{◌≢◌, refl, rules, subst}
use Rattle.xq_tables.specs.Labels.{IsStoreSchema}
use Rattle.xq_tables.specs.Tables.{no_schema, IsOldSchema}
use Rattle.xq_store.proofs.Adopted.{both_open, found_same, found_whole, keeping_adopted, kept_up, known, made_empty, neither, old_emptied, told_none}
use Rattle.xq_tables.proofs.Calls.{was_clean, was_open}
use Rattle.xq_tables.specs.Editions.{AreTables}
use Rattle.xq_store.proofs.stores.Store.adopt.Goals as goal

pub adopt_tables-requires-clause-tables : goal.adopt_tables-requires-clause-tables
adopt_tables-requires-clause-tables g c = subst (AreTables c.in-Some.tables) c.schema.ensures.value c.in-Some.ensures.some

pub returns-in-Ok-clause-made : goal.returns-in-Ok-clause-made
returns-in-Ok-clause-made g c = made_empty g.S.Store c.args.conn c.adopt_tables.new.conn c.in-Ok.ensures.ends_open c.in-Ok.ensures.adopted

pub returns-in-Ok-clause-found : goal.returns-in-Ok-clause-found
returns-in-Ok-clause-found g c = found_whole g.S.Store c.args.conn c.adopt_tables.new.conn c.in-Ok.ensures.ends_open c.in-Ok.ensures.adopted

pub returns-in-Ok-clause-same : goal.returns-in-Ok-clause-same
returns-in-Ok-clause-same g c = found_same g.S.Store c.args.conn c.adopt_tables.new.conn c.in-Ok.ensures.ends_open c.in-Ok.ensures.adopted

pub returns-in-Ok-clause-emptied : goal.returns-in-Ok-clause-emptied
returns-in-Ok-clause-emptied g c = old_emptied g.S.Store c.args.conn c.adopt_tables.new.conn c.in-Ok.ensures.ends_open c.in-Ok.ensures.adopted

pub returns-in-Ok-clause-known : goal.returns-in-Ok-clause-known
returns-in-Ok-clause-known g c = known g.S.Store c.args.conn c.adopt_tables.new.conn c.in-Some.tables (subst (AreTables c.in-Some.tables) c.schema.ensures.value c.in-Some.ensures.some)

pub returns-in-Ok-clause-open : goal.returns-in-Ok-clause-open
returns-in-Ok-clause-open g c = both_open g.S.Store c.args.conn c.adopt_tables.new.conn c.in-Ok.ensures.ends_open c.adopt_tables.ensures.outside.was_open

pub returns-in-Ok-clause-was_clean : goal.returns-in-Ok-clause-was_clean
returns-in-Ok-clause-was_clean g c = was_clean g.S.Store c.args.conn c.args.conn c.adopt_tables.new.conn refl c.adopt_tables.ensures.outside.clean

pub returns-in-Err-clause-still_clean : goal.returns-in-Err-clause-still_clean
returns-in-Err-clause-still_clean g c = was_clean g.S.Store c.args.conn c.args.conn c.adopt_tables.new.conn refl c.adopt_tables.ensures.outside.clean

pub returns-in-Err-clause-still_open : goal.returns-in-Err-clause-still_open
returns-in-Err-clause-still_open g c = was_open g.S.Store c.args.conn c.args.conn c.adopt_tables.new.conn refl c.adopt_tables.ensures.outside.was_open

pub returns-in-Err-clause-no_store : goal.returns-in-Err-clause-no_store
returns-in-Err-clause-no_store g c up none = told_none g.S.Store c.args.conn c.adopt_tables.new.conn c.in-Err.ensures.refused up none

pub returns-in-Err-clause-kept : goal.returns-in-Err-clause-kept
returns-in-Err-clause-kept g c up = kept_up g.S.Store c.args.conn c.adopt_tables.new.conn c.in-Err.ensures.kept up

pub returns-in_default-clause-no_store : goal.returns-in_default-clause-no_store
returns-in_default-clause-no_store g c up none =
    let other : (c.args.conn.schema ≢ no_schema) × ¬ IsOldSchema c.args.conn.schema × ¬ IsStoreSchema c.args.conn.schema = search (rules, c.tables_in.ensures.none, c.schema.ensures.value) in
    neither g.S.Store c.args.conn other.0 other.1 other.2

pub invariant_of-result : goal.invariant_of-result
invariant_of-result g c =
    keeping_adopted g.S.Store c.args.conn c.adopt_tables.new.conn c.in-Ok.ensures.ends_open c.in-Ok.ensures.adopted c.in-Some.tables (subst (AreTables c.in-Some.tables) c.schema.ensures.value c.in-Some.ensures.some)
    c.adopt_tables.ensures.outside.mode c.in-Ok.shelf c.in-Ok.ensures.shelf
