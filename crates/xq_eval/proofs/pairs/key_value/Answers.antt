use Rattle.std.proofs.Common.{◌≡◌, ◌∙◌, ap, sym, subst, map, Ok}
use Rattle.xq_trees.specs.Items.{item_view, item_views}
use Rattle.xq_meaning.specs.Doing.{go_on, in_turn}
use Rattle.xq_meaning.specs.PlanMeaning.{formed, key_from}
use Rattle.xq_meaning.specs.Readings.{items_at, AreIn}
use Rattle.xq_operators.specs.Views.{GivesSequence}
use Rattle.xq_operators.proofs.Growth.{stays, goes_on_to, frame_in_grown}
use Rattle.xq_eval.specs.private.Joining.{scan_one}
use Rattle.xq_eval.proofs.Loops.{cut}
use Rattle.xq_eval.proofs.pairs.key_value.Goals as goal

pub returns-in_err-start-clause-goes : goal.returns-in_err-start-clause-goes
returns-in_err-start-clause-goes g c = stays _ _

pub returns-in_err-found-clause-goes : goal.returns-in_err-found-clause-goes
returns-in_err-found-clause-goes g c = c.in_err-found.ensures.goes

pub returns-in_err-found-clause-gives : goal.returns-in_err-found-clause-gives
returns-in_err-found-clause-gives g c = λ clean inside is_in.
    let f = g.W.TreeSource.forest c.args.world.now in
    let f' = g.W.TreeSource.forest c.scanned.new.world in
    let key = c.args.key.now in
    let views = map item_view c.args.items.now in
    let start = item_views c.in_ok-start.start in
    let scans = c.as_slice.result.now in
    let start_in = subst (AreIn f) (sym c.in_ok-start.ensures) is_in in
    cut item_views items_at AreIn item_views items_at AreIn (key_from key (items_at f views) f) (in_turn scan_one (items_at f start) scans f) (formed key.form) f' c.in_err-found.field-0.0 c.from_residual-in_err-found.result
    (ap (λ xs. key_from key (items_at f xs) f) (sym c.in_ok-start.ensures) ∙ ap (λ ss. go_on (in_turn scan_one (items_at f start) ss f) (formed key.form)) (sym c.as_slice.ensures)) c.from_residual-in_err-found.ensures.1
    (c.in_err-found.ensures.gives clean start_in)

pub returns-clause-goes : goal.returns-clause-goes
returns-clause-goes g c = goes_on_to c.scanned.ensures.goes c.formed.ensures.goes

pub returns-clause-gives : goal.returns-clause-gives
returns-clause-gives g c = λ clean inside is_in.
    let f = g.W.TreeSource.forest c.args.world.now in
    let f1 = g.W.TreeSource.forest c.scanned.new.world in
    let key = c.args.key.now in
    let views = map item_view c.args.items.now in
    let start = item_views c.in_ok-start.start in
    let start_in = subst (AreIn f) (sym c.in_ok-start.ensures) is_in in
    let found = c.in_ok-found.ensures.gives (c.formed.ensures.goes.was_clean clean) start_in in
    let value : in_turn scan_one (items_at f views) key.scans f ≡ (Ok (items_at f1 (item_views c.in_ok-found.found)), f1) =
    ap (λ xs. in_turn scan_one (items_at f xs) key.scans f) (sym c.in_ok-start.ensures) ∙ ap (λ ss. in_turn scan_one (items_at f start) ss f) (sym c.as_slice.ensures) ∙ found.1 in
    subst (λ o. GivesSequence o (g.W.TreeSource.forest c.formed.new.world) c.formed.result) (sym (ap (λ o. go_on o (formed key.form)) value))
    (c.formed.ensures.gives clean (frame_in_grown c.scanned.ensures.goes.grows c.args.frame inside) found.0)
