use Rattle.std.proofs.Common.{[], ◌∷◌, not, ap, map, ◌≡◌, ◌∙◌, arith, rules, Vec, Global, String, string_bytes}
use Rattle.std.proofs.lemmas.Result.{IfOk-weaker}
use Rattle.sqlite_value.specs.declared.value.Value.TheVariants.{Text}
use Rattle.sqlite_value.specs.Order.{Row, column}
use Rattle.sqlite.specs.Held.{state}
use Rattle.sqlite.specs.State.{HasCleanDisk}
use Rattle.sqlite.proofs.Callers.{IsPlain}
use Rattle.sqlite.specs.Listing.{understood}
use Rattle.xq_tables.specs.Reads.{AreAddresses}
use Rattle.xq_tables.specs.Labels.{IsStoreSchema}
use Rattle.xq_tables.specs.private.Streams.{GivesRows}
use Rattle.xq_tables.specs.Documents.{IsReady}
use Rattle.xq_tables.proofs.LabelTexts.{addresses2_text, addresses2_plain}
use Rattle.xq_tables.proofs.Keys.{read_addresses_is}
use Rattle.xq_tables.proofs.Queries.{lists}
use Rattle.xq_tables.proofs.Selects.{plain_under, refused_keeps, refused_opens}
use Rattle.xq_tables.proofs.Streams.{begun_opens, gives_shown, stays_same}
use Rattle.xq_tables.proofs.statements.read_addresses.Goals as goal

pub returns-in_err-rows-clause-outside : goal.returns-in_err-rows-clause-outside
returns-in_err-rows-clause-outside g c =
    let refused = rw c.in_err-rows.was at c.query.follows.holds-at-none in
    record {
      mode = refused.mode c.requires;
      clean = refused.survives.clean;
      was_open = λ up. refused_opens (state g.S.Store c.args.conn.now) (state g.S.Store c.query.follows.lender-at-none) addresses2_text _ _ up.1 (refused.err up.0);
    }

pub returns-in_err-rows-clause-same : goal.returns-in_err-rows-clause-same
returns-in_err-rows-clause-same g c up has =
    let failed = (rw c.in_err-rows.was at c.query.follows.holds-at-none).err up.0 in
    let outside = c.is_autocommit-idle.ensures.value ∙ ap not c.requires in
    refused_keeps (state g.S.Store c.args.conn.now) (state g.S.Store c.query.follows.lender-at-none) addresses2_text _ _ (plain_under c.args.conn.now.schema addresses2_text addresses2_plain has) (c.is_autocommit-idle.ensures.settled outside) up.1 failed

pub returns-clause-outside : goal.returns-clause-outside
returns-clause-outside g c =
    record {
      mode = search rules;
      clean = search rules;
      was_open = λ up.
          let late : IsReady (state g.S.Store c.rest_as_texts.new.rows.conn.now) = search rules in
          let early : HasCleanDisk (state g.S.Store c.in_ok-rows.rows.conn.now) = omega (arith, late.0, c.rest_as_texts.ensures.clean) in
          begun_opens g.S.Store addresses2_text _ c.args.conn.now c.in_ok-rows.rows.conn.now (c.in_ok-rows.ensures.begun early) (c.rest_as_texts.ensures.stays late).0;
    }

pub returns-clause-same : goal.returns-clause-same
returns-clause-same g c up has =
    let late : IsReady (state g.S.Store c.rest_as_texts.new.rows.conn.now) = search rules in
    let early : HasCleanDisk (state g.S.Store c.in_ok-rows.rows.conn.now) = omega (arith, late.0, c.rest_as_texts.ensures.clean) in
    let outside = c.is_autocommit-idle.ensures.value ∙ ap not c.requires in
    let plain = plain_under c.args.conn.now.schema addresses2_text addresses2_plain has in
    let same = stays_same g.S.Store addresses2_text _ c.args.conn.now c.in_ok-rows.rows.conn.now (c.in_ok-rows.ensures.begun early) plain c.rest_as_texts.new.rows.conn.now (c.is_autocommit-idle.ensures.settled outside) (c.rest_as_texts.ensures.stays late) in
    search (rules, same)

pub returns-clause-all : goal.returns-clause-all
returns-clause-all g c up =
    let late : IsReady (state g.S.Store c.rest_as_texts.new.rows.conn.now) = search rules in
    let early : HasCleanDisk (state g.S.Store c.in_ok-rows.rows.conn.now) = omega (arith, late.0, c.rest_as_texts.ensures.clean) in
    let begun = c.in_ok-rows.ensures.begun early in
    let db = (state g.S.Store c.args.conn.now).now in
    let plain : IsStoreSchema c.args.conn.now.schema → IsPlain (understood c.args.conn.now.schema addresses2_text) = plain_under c.args.conn.now.schema addresses2_text addresses2_plain in
    IfOk-weaker c.rest_as_texts.result (λ (texts : Vec (String Global) Global). GivesRows g.S.Store c.in_ok-rows.rows.conn.now c.rest_as_texts.new.rows.conn.now (λ given. map Text (map string_bytes texts.items) ≡ map (λ (r : Row). column r 0) given))
    (λ (texts : Vec (String Global) Global). AreAddresses db (map (λ bytes. Text bytes ∷ []) (map string_bytes texts.items)))
    (λ texts gives has.
    let all = gives_shown g.S.Store addresses2_text [] c.args.conn.now c.in_ok-rows.rows.conn.now begun (plain has.sound.schema) c.rest_as_texts.new.rows.conn.now _ gives in
    let shown = lists (state g.S.Store c.args.conn.now) (state g.S.Store c.rest_as_texts.new.rows.conn.now) all.0 all.1 in
    read_addresses_is db all.0 (map string_bytes texts.items) shown all.2 has)
    (c.rest_as_texts.ensures.texts late.0)
