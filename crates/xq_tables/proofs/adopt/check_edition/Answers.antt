use Rattle.std.proofs.Common.{◌≡◌, ◌∙◌, sym, rules}
use Rattle.std.proofs.lemmas.Int.{to_z-of_z}
use mir.Val.{of_z, to_z}
use mir.Syntax.{w64}
use Rattle.sqlite.specs.Held.{state}
use Rattle.xq_tables.proofs.Adopts.{edition_seen, edition_shown}
use Rattle.xq_tables.proofs.adopt.check_edition.Goals as goal

pub returns-then-is_edition-clause-ok : goal.returns-then-is_edition-clause-ok
returns-then-is_edition-clause-ok g c clean =
    let same : to_z w64 (of_z w64 c.args.edition) ≡ c.args.edition = search (rules, to_z-of_z) in
    let told = rw (c.deref.ensures.value, same) at c.is_edition.ensures in
    edition_seen (state g.S.Store c.args.conn.now).now c.in_ok-rows.rows.items c.args.edition (c.in_ok-rows.ensures.rows clean) (told.0 c.if-is_edition.true)

pub returns-clause-err : goal.returns-clause-err
returns-clause-err g c clean none edition =
    let same : to_z w64 (of_z w64 c.args.edition) ≡ c.args.edition = search (rules, to_z-of_z) in
    let told = rw (c.deref.ensures.value, same) at c.is_edition.ensures in
    let yes = told.1 (edition_shown (state g.S.Store c.args.conn.now).now c.in_ok-rows.rows.items c.args.edition (c.in_ok-rows.ensures.rows clean) edition) in
    absurd (let f = sym yes ∙ c.if-is_edition.false in cc)
