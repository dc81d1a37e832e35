use Rattle.std.proofs.Common.{◌≡◌, map, subst, arith, rules}
use Rattle.std.specs.Prelude.{IfOk}
use Rattle.xq_trees.specs.Items.{item_view}
use Rattle.xq_meaning.specs.Readings.{items_at}
use Rattle.xq_queries.specs.Values.{document}
use Rattle.xq_queries.proofs.Asked.{then_copied_over, without_last}
use Rattle.xq_queries.proofs.asking.make.Goals as goal

pub returns-in-Some-clause-grows : goal.returns-in-Some-clause-grows
returns-in-Some-clause-grows g c =
    without_last _ _ _ c.in-Some.tree c.eval.ensures.goes.grows (omega (arith, c.trees-earlier.ensures, c.in-Some.ensures.taken.0)) c.in-Some.ensures.taken.1

pub returns-in-Some-2-clause-gives : goal.returns-in-Some-2-clause-gives
returns-in-Some-2-clause-gives g c = λ clean fits.
    (let found = subst (λ f. IfOk c.document_of.result (λ found. found ≡ document (items_at f (map item_view c.deref-2.result.now), f))) c.in_default.ensures.kept (c.document_of.ensures.found clean) in
    search rules)

pub returns-clause-gives : goal.returns-clause-gives
returns-clause-gives g c = λ clean fits.
    (let found = subst (λ f. IfOk c.document_of.result (λ found. found ≡ document (items_at f (map item_view c.deref-2.result.now), f))) c.in_default.ensures.kept (c.document_of.ensures.found clean) in
    search rules)

pub returns-in-Some-2-clause-reads : goal.returns-in-Some-2-clause-reads
returns-in-Some-2-clause-reads g c = λ clean fits.
    (let early = c.uprooted.ensures.was_clean (c.document_of.ensures.was_clean clean) in
    then_copied_over c.args.plan.now c.args.addresses.now (g.W.TreeSource.forest c.args.world.now) (g.W.TreeSource.forest c.eval.new.world) _ c.in_ok-items.items.items c.deref-2.result.now
    _ (g.W.TreeSource.meter c.eval.new.world) _ _ c.in_default.ensures.kept c.uprooted.ensures.meter c.deref-2.ensures.value
    (c.in_ok-items.ensures.gives early fits).1 (c.in_ok-items.ensures.reads early fits) (c.document_of.ensures.reads clean))

pub returns-clause-reads : goal.returns-clause-reads
returns-clause-reads g c = λ clean fits.
    (let early = c.uprooted.ensures.was_clean (c.document_of.ensures.was_clean clean) in
    then_copied_over c.args.plan.now c.args.addresses.now (g.W.TreeSource.forest c.args.world.now) (g.W.TreeSource.forest c.eval.new.world) _ c.in_ok-items.items.items c.deref-2.result.now
    _ (g.W.TreeSource.meter c.eval.new.world) _ _ c.in_default.ensures.kept c.uprooted.ensures.meter c.deref-2.ensures.value
    (c.in_ok-items.ensures.gives early fits).1 (c.in_ok-items.ensures.reads early fits) (c.document_of.ensures.reads clean))
