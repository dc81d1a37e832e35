use Rattle.std.proofs.Common.{◌∙◌, subst}
use Rattle.std.specs.FinMap.{values}
use Rattle.xq_readback.specs.Legible.{AreTrees}
use Rattle.xq_tables.specs.Documents.{IsClean}
use Rattle.xq_store.specs.Views.{HeldDocuments}
use Rattle.xq_server.proofs.Evaluating.{was_clean, was_open, stood, held, made_over, if_any, stood_trees}
use Rattle.xq_server.proofs.evaluations.over_view.Goals as goal

pub returns-in-Err-shared_addresses-clause-was_clean : goal.returns-in-Err-shared_addresses-clause-was_clean
returns-in-Err-shared_addresses-clause-was_clean g c = λ clean.
    was_clean g.S.Store g.O.Origin.beginning c.args.store c.requires (c.into_store.ensures.was_clean clean)

pub returns-in-Err-shared_addresses-clause-was_open : goal.returns-in-Err-shared_addresses-clause-was_open
returns-in-Err-shared_addresses-clause-was_open g c = λ clean opened.
    was_open g.S.Store g.O.Origin.beginning c.args.store c.requires (c.into_store.ensures.was_open clean)

-- The store is clean at the end, so a view that was answered began on an open store, which held documents: so the view is a
-- clean source at the end, and was one at the start, where its trees and addresses are those of the map.
pub returns-clause-made : goal.returns-clause-made
returns-clause-made g c = λ clean m stands.
    let stood_for = stood g.S.Store g.O.Origin.beginning c.args.store c.requires (c.into_store-2.ensures.was_open clean) m stands in
    let view_at_end : IsClean g.S.Store c.into_source.result.store × HeldDocuments g.O.Origin.beginning = (subst (IsClean g.S.Store) c.into_store-2.ensures.store clean, held g.O.Origin.beginning m stood_for) in
    let world_at_end = c.into_source.ensures.clean.0 view_at_end in
    let view_at_start = c.run_on_view-world.ensures.was_clean world_at_end in
    made_over g.P.Product.makes c.args.plan.now m c.deref.result.now _ c.run_on_view-world.result.1
    (c.deref.ensures ∙ c.in-Ok-shared_addresses.ensures ∙ c.in-Ok.ensures.addresses view_at_start.0 m stood_for)
    (c.in-Ok.ensures.trees view_at_start.0 m stood_for)
    (c.run_on_view-world.ensures.made world_at_end)

-- the documents of such a store are trees
pub returns-clause-trees : goal.returns-clause-trees
returns-clause-trees g c = λ clean m stands.
    let stood_for = stood g.S.Store g.O.Origin.beginning c.args.store c.requires (c.into_store-2.ensures.was_open clean) m stands in
    if_any c.run_on_view-world.result.1 (AreTrees (values m)) (stood_trees g.O.Origin.beginning m stood_for)

pub returns-clause-same : goal.returns-clause-same
returns-clause-same g c = λ clean m stands.
    c.into_store-2.ensures.same clean m
    (stood g.S.Store g.O.Origin.beginning c.args.store c.requires (c.into_store-2.ensures.was_open clean) m stands)

pub returns-clause-was_clean : goal.returns-clause-was_clean
returns-clause-was_clean g c = λ clean.
    was_clean g.S.Store g.O.Origin.beginning c.args.store c.requires (c.into_store-2.ensures.was_clean clean)

pub returns-clause-was_open : goal.returns-clause-was_open
returns-clause-was_open g c = λ clean opened.
    was_open g.S.Store g.O.Origin.beginning c.args.store c.requires (c.into_store-2.ensures.was_open clean)
