use Rattle.std.proofs.Common.{[], not, ap, map, ◌≡◌, ◌∙◌, arith, rules, Vec, Global, String, string_bytes}
use Rattle.std.proofs.lemmas.Result.{IfOk-weaker}
use Rattle.std.specs.FinMap.{keys}
use Rattle.sqlite_value.specs.declared.value.Value.TheVariants.{Text}
use Rattle.sqlite_value.specs.Order.{Row, column}
use Rattle.sqlite.specs.Held.{state}
use Rattle.sqlite.specs.State.{HasCleanDisk}
use Rattle.sqlite.specs.Listing.{understood}
use Rattle.sqlite.proofs.Callers.{IsPlain}
use Rattle.xq_tables.specs.Documents.{documents_of, IsReady}
use Rattle.xq_tables.specs.private.Streams.{GivesRows}
use Rattle.xq_tables.proofs.AdoptReads.{old_plain_for}
use Rattle.xq_tables.proofs.Carrying.{listed_old}
use Rattle.xq_tables.proofs.Moving.{old_addresses_are, old_addresses_text}
use Rattle.xq_tables.proofs.Selects.{refused_keeps, refused_opens}
use Rattle.xq_tables.proofs.Streams.{begun_opens, gives_shown, stays_same}
use Rattle.xq_tables.proofs.carries.read_old_addresses.Goals as goal

pub returns-in_err-rows-clause-outside : goal.returns-in_err-rows-clause-outside
returns-in_err-rows-clause-outside g c =
    let refused = rw c.in_err-rows.was at c.query.follows.holds-at-none in
    record {
      mode = refused.mode c.requires.outside;
      clean = refused.survives.clean;
      was_open = λ up. refused_opens (state g.S.Store c.args.conn.now) (state g.S.Store c.query.follows.lender-at-none) old_addresses_text _ _ up.1 (refused.err up.0);
    }

pub returns-in_err-rows-clause-same : goal.returns-in_err-rows-clause-same
returns-in_err-rows-clause-same g c up =
    let refused = rw c.in_err-rows.was at c.query.follows.holds-at-none in
    let failed = refused.err up.0 in
    let outside = c.is_autocommit-idle.ensures.value ∙ ap not c.requires.outside in
    let early : IsReady (state g.S.Store c.args.conn.now) = (omega (arith, refused.survives.clean, up.0), refused_opens (state g.S.Store c.args.conn.now) (state g.S.Store c.query.follows.lender-at-none) old_addresses_text _ _ up.1 failed) in
    let plain = old_plain_for old_addresses_text (λ kind. (old_addresses_are kind).2) c.args.conn.now.schema (c.requires.tables early) in
    refused_keeps (state g.S.Store c.args.conn.now) (state g.S.Store c.query.follows.lender-at-none) old_addresses_text _ _ plain (c.is_autocommit-idle.ensures.settled outside) up.1 failed

pub returns-clause-outside : goal.returns-clause-outside
returns-clause-outside g c =
    record {
      mode = search rules;
      clean = search rules;
      was_open = λ up.
          let late : IsReady (state g.S.Store c.rest_as_texts.new.rows.conn.now) = search rules in
          let early : HasCleanDisk (state g.S.Store c.in_ok-rows.rows.conn.now) = omega (arith, late.0, c.rest_as_texts.ensures.clean) in
          begun_opens g.S.Store old_addresses_text _ c.args.conn.now c.in_ok-rows.rows.conn.now (c.in_ok-rows.ensures.begun early) (c.rest_as_texts.ensures.stays late).0;
    }

pub returns-clause-same : goal.returns-clause-same
returns-clause-same g c up =
    let late : IsReady (state g.S.Store c.rest_as_texts.new.rows.conn.now) = search rules in
    let early : HasCleanDisk (state g.S.Store c.in_ok-rows.rows.conn.now) = omega (arith, late.0, c.rest_as_texts.ensures.clean) in
    let outside = c.is_autocommit-idle.ensures.value ∙ ap not c.requires.outside in
    let first : IsReady (state g.S.Store c.args.conn.now) = (omega (arith, early, c.in_ok-rows.ensures.survives.clean), begun_opens g.S.Store old_addresses_text _ c.args.conn.now c.in_ok-rows.rows.conn.now (c.in_ok-rows.ensures.begun early) (c.rest_as_texts.ensures.stays late).0) in
    let plain = old_plain_for old_addresses_text (λ kind. (old_addresses_are kind).2) c.args.conn.now.schema (c.requires.tables first) in
    let same = stays_same g.S.Store old_addresses_text _ c.args.conn.now c.in_ok-rows.rows.conn.now (c.in_ok-rows.ensures.begun early) plain c.rest_as_texts.new.rows.conn.now (c.is_autocommit-idle.ensures.settled outside) (c.rest_as_texts.ensures.stays late) in
    search (rules, same)

pub returns-clause-all : goal.returns-clause-all
returns-clause-all g c up is =
    let late : IsReady (state g.S.Store c.rest_as_texts.new.rows.conn.now) = search rules in
    let early : HasCleanDisk (state g.S.Store c.in_ok-rows.rows.conn.now) = omega (arith, late.0, c.rest_as_texts.ensures.clean) in
    let begun = c.in_ok-rows.ensures.begun early in
    let old = state g.S.Store c.args.conn.now in
    let plain : IsPlain (understood c.args.conn.now.schema old_addresses_text) = old_plain_for old_addresses_text (λ kind. (old_addresses_are kind).2) c.args.conn.now.schema is.schema in
    IfOk-weaker c.rest_as_texts.result (λ (texts : Vec (String Global) Global). GivesRows g.S.Store c.in_ok-rows.rows.conn.now c.rest_as_texts.new.rows.conn.now (λ given. map Text (map string_bytes texts.items) ≡ map (λ (r : Row). column r 0) given))
    (λ (texts : Vec (String Global) Global). map string_bytes texts.items ≡ keys (documents_of old.now))
    (λ texts gives.
    let all = gives_shown g.S.Store old_addresses_text [] c.args.conn.now c.in_ok-rows.rows.conn.now begun plain c.rest_as_texts.new.rows.conn.now _ gives in
    listed_old old (state g.S.Store c.rest_as_texts.new.rows.conn.now) all.0 (map string_bytes texts.items) is all.1 all.2)
    (c.rest_as_texts.ensures.texts late.0)
