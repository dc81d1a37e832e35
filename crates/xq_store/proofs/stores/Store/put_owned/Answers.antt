use Rattle.std.proofs.Common.{◌≡◌, ◌∙◌, subst, sym, ap, if◌then◌else◌}
use Rattle.std.specs.List.{enumerate_from}
use Rattle.xq_trees.specs.Tree.{IsDocument}
use Rattle.xq_trees.specs.Rows.{placed_rows}
use Rattle.xq_store.specs.declared.stores.Put.TheVariants.{Replaced, Stored}
use Rattle.xq_tables.specs.Documents.{StandsFor}
use Rattle.xq_tables.proofs.Calls.{on_err, was_clean, was_open, kept_stands, put_stands, put_answer, leaves_open}
use Rattle.xq_tables.proofs.Parts.{few, from_root}
use Rattle.xq_store.proofs.Keeping.{has_put, puts_over, roomier}
use Rattle.xq_store.specs.private.Keeps.{IsKeeping}
use Rattle.xq_store.proofs.stores.Store.put_owned.Goals as goal

pub returns-in_err-replaced-clause-kept : goal.returns-in_err-replaced-clause-kept
returns-in_err-replaced-clause-kept g c clean m stands =
    on_err (StandsFor g.S.Store c.put_rows.new.conn m) _ (kept_stands g.S.Store c.self.inside.conn c.args.self.now c.put_rows.new.conn c.self.view_is c.put_rows.ensures.outside.was_open c.in_err-replaced.ensures.kept clean m stands)

pub returns-clause-put : goal.returns-clause-put
returns-clause-put g c =
    let same : c.all_of-rows.result ≡ placed_rows c.args.document = c.all_of-rows.ensures ∙ ap (enumerate_from 0) c.rows.ensures.rows in
    let is : IsDocument c.args.document = record { is_tree = c.rows.ensures.is_tree; root = c.requires.document } in
    let keeping = subst (IsKeeping g.S.Store c.self.inside.conn) (sym c.take-others.ensures.value) c.self.invariant in
    let did = puts_over g.S.Store c.self.inside.conn c.put_rows.new.conn c.put_rows.ensures.outside c.take-others.result keeping c.args.address.now c.kept_of-there.result c.kept_of-there.ensures _ c.in_ok-replaced.replaced c.in_ok-replaced.ensures.put in
    put_stands g.S.Store c.self.inside.conn c.args.self.now c.put_rows.new.conn c.self.view_is c.put_rows.ensures.outside.was_open c.in_ok-replaced.ensures.ends_open c.args.address.now c.requires.address c.args.document is c.all_of-rows.result same c.in_ok-replaced.replaced did

pub returns-clause-answer : goal.returns-clause-answer
returns-clause-answer g c clean m stands =
    let same : c.all_of-rows.result ≡ placed_rows c.args.document = c.all_of-rows.ensures ∙ ap (enumerate_from 0) c.rows.ensures.rows in
    let is : IsDocument c.args.document = record { is_tree = c.rows.ensures.is_tree; root = c.requires.document } in
    let keeping = subst (IsKeeping g.S.Store c.self.inside.conn) (sym c.take-others.ensures.value) c.self.invariant in
    let did = puts_over g.S.Store c.self.inside.conn c.put_rows.new.conn c.put_rows.ensures.outside c.take-others.result keeping c.args.address.now c.kept_of-there.result c.kept_of-there.ensures _ c.in_ok-replaced.replaced c.in_ok-replaced.ensures.put in
    let there = put_answer g.S.Store c.self.inside.conn c.args.self.now c.put_rows.new.conn c.self.view_is c.put_rows.ensures.outside.was_open c.in_ok-replaced.ensures.ends_open c.args.address.now c.requires.address c.args.document is c.all_of-rows.result same c.in_ok-replaced.replaced did clean m stands in
    c.of.ensures ∙ ap (λ b. if b then Replaced else Stored) there

pub put_rows-requires-clause-few : goal.put_rows-requires-clause-few
put_rows-requires-clause-few g c = few c.all_of-rows.result c.args.document c.rows.ensures.is_tree (c.all_of-rows.ensures ∙ ap (enumerate_from 0) c.rows.ensures.rows)

pub put_rows-requires-clause-numbered : goal.put_rows-requires-clause-numbered
put_rows-requires-clause-numbered g c = from_root c.all_of-rows.result c.args.document (c.all_of-rows.ensures ∙ ap (enumerate_from 0) c.rows.ensures.rows)

pub returns-clause-answered : goal.returns-clause-answered
returns-clause-answered g c = leaves_open g.S.Store c.put_rows.new.conn c.in_ok-replaced.ensures.ends_open

pub returns-in_err-replaced-clause-was_open : goal.returns-in_err-replaced-clause-was_open
returns-in_err-replaced-clause-was_open g c = was_open g.S.Store c.self.inside.conn c.args.self.now c.put_rows.new.conn c.self.view_is c.put_rows.ensures.outside.was_open

pub returns-in_err-replaced-clause-was_clean : goal.returns-in_err-replaced-clause-was_clean
returns-in_err-replaced-clause-was_clean g c = was_clean g.S.Store c.self.inside.conn c.args.self.now c.put_rows.new.conn c.self.view_is c.put_rows.ensures.outside.clean

pub returns-clause-was_open : goal.returns-clause-was_open
returns-clause-was_open g c = was_open g.S.Store c.self.inside.conn c.args.self.now c.put_rows.new.conn c.self.view_is c.put_rows.ensures.outside.was_open

pub returns-clause-was_clean : goal.returns-clause-was_clean
returns-clause-was_clean g c = was_clean g.S.Store c.self.inside.conn c.args.self.now c.put_rows.new.conn c.self.view_is c.put_rows.ensures.outside.clean

pub invariant_of-self-2 : goal.invariant_of-self-2
invariant_of-self-2 g c =
    let same : c.all_of-rows.result ≡ placed_rows c.args.document = c.all_of-rows.ensures ∙ ap (enumerate_from 0) c.rows.ensures.rows in
    let is : IsDocument c.args.document = record { is_tree = c.rows.ensures.is_tree; root = c.requires.document } in
    let keeping = subst (IsKeeping g.S.Store c.self.inside.conn) (sym c.take-others.ensures.value) c.self.invariant in
    let did = puts_over g.S.Store c.self.inside.conn c.put_rows.new.conn c.put_rows.ensures.outside c.take-others.result keeping c.args.address.now c.kept_of-there.result c.kept_of-there.ensures _ c.in_ok-replaced.replaced c.in_ok-replaced.ensures.put in
    has_put g.S.Store c.self.inside.conn c.put_rows.new.conn c.put_rows.ensures.outside c.with_room-shelf.result
    (roomier g.S.Store c.self.inside.conn c.take-others.result c.with_room-shelf.result keeping c.with_room-shelf.ensures)
    c.args.address.now c.requires.address c.args.document is c.all_of-rows.result same c.in_ok-replaced.replaced did
    c.whole-front.result c.whole-front.ensures c.shelf_with.result c.shelf_with.ensures
