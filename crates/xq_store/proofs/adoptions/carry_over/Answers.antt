use Rattle.std.proofs.Common.{◌≡◌, ◌∙◌, map, string_bytes, sym, subst, rules}
use Rattle.std.proofs.lemmas.Result.{err_from_is_err_and}
use Rattle.sqlite.specs.Effect.{Database}
use Rattle.xq_tables.specs.Tables.{IsOldSchema}
use Rattle.xq_tables.proofs.AdoptReads.{was_ready}
use Rattle.xq_store.proofs.Carried.{all_carried, all_kept}
use Rattle.xq_store.proofs.adoptions.carry_over.Goals as goal

pub check_layout-requires-clause-tables : goal.check_layout-requires-clause-tables
check_layout-requires-clause-tables g c ready = subst (λ (d : Database). IsOldSchema d.schema) (sym (c.check_old.ensures.same ready)) c.requires.tables

pub list_old-requires-clause-tables : goal.list_old-requires-clause-tables
list_old-requires-clause-tables g c ready =
    let early = was_ready g.S.Store c.check_old.new.conn c.check_layout.new.conn c.check_layout.ensures.outside ready in
    subst (λ (d : Database). IsOldSchema d.schema) (sym (c.check_layout.ensures.same ready ∙ c.check_old.ensures.same early)) c.requires.tables

pub returns-in_err-check_old-clause-err : goal.returns-in_err-check_old-clause-err
returns-in_err-check_old-clause-err g c ready =
    let p = err_from_is_err_and c.from_residual.result c.from_residual.ensures.1 in
    rw (p.1, p.2) (λ none store. c.in_err-check_old.ensures.err ready none store)

pub returns-clause-carried : goal.returns-clause-carried
returns-clause-carried g c ready =
    let here : map string_bytes c.as_slice.result.now ≡ c.in_ok-shelf.shelf.addresses.value = search rules in
    all_carried g.S.Store c.args.conn.now c.check_old.new.conn c.check_layout.new.conn c.list_old.new.conn c.move_documents.new.conn c.check_layout.ensures.outside c.list_old.ensures.outside c.move_documents.ensures.outside
    c.check_old.ensures.same c.check_layout.ensures.same c.list_old.ensures.same c.in_ok-check_old.ensures.ok c.in_ok-check_layout.ensures.ok c.in_ok-shelf.shelf c.in_ok-shelf.ensures.listed _ here c.in_ok-move_documents.ensures.moved ready

pub returns-clause-shelf : goal.returns-clause-shelf
returns-clause-shelf g c ready =
    let here : map string_bytes c.as_slice.result.now ≡ c.in_ok-shelf.shelf.addresses.value = search rules in
    all_kept g.S.Store c.args.conn.now c.check_old.new.conn c.check_layout.new.conn c.list_old.new.conn c.move_documents.new.conn c.check_layout.ensures.outside c.list_old.ensures.outside c.move_documents.ensures.outside
    c.check_old.ensures.same c.check_layout.ensures.same c.list_old.ensures.same c.in_ok-check_old.ensures.ok c.in_ok-check_layout.ensures.ok c.in_ok-shelf.shelf c.in_ok-shelf.ensures.listed _ here c.in_ok-move_documents.ensures.moved ready c.in_ok-shelf.ensures.fronts
