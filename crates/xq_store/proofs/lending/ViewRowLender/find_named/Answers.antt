use Rattle.std.proofs.Common.{◌≡◌, subst}
use Rattle.std.specs.Prelude.{IfOk, IfSome}
use Rattle.xq_trees.specs.Forest.{count}
use Rattle.xq_trees.specs.Rows.{placed_rows}
use Rattle.xq_trees.specs.Tree.{nodes}
use Rattle.xq_sources.specs.Lenders.{after_search}
use Rattle.xq_sources.specs.Meters.{GivesNone}
use Rattle.xq_sources.specs.Names.{named as named_places}
use Rattle.xq_sources.specs.Sources.{tree_at as nth_tree}
use Rattle.xq_store.specs.Views.{Viewed, trees_under}
use Rattle.xq_store.proofs.Lends.{found_more}
use Rattle.xq_store.proofs.lending.ViewRowLender.find_named.Goals as goal

pub invariant_of-self : goal.invariant_of-self
invariant_of-self g c = found_more g.S.Store g.O.Origin.beginning _ _ c.find_in_front.new.fronts.items _ c.self.invariant c.find_in_front.ensures.kept _ _

pub returns-clause-found : goal.returns-clause-found
returns-clause-found g c = λ clean.
    let b = g.O.Origin.beginning in
    subst (λ (w : Viewed _). IfOk c.find_in_front.result (λ looked. IfSome looked (λ places. places.items ≡ named_places (placed_rows (nth_tree (trees_under b w.addresses) c.args.tree)) c.args.name.now))) c.self.view_is
    (c.find_in_front.ensures.found _ (c.self.invariant.rows clean.0 clean.1))

pub returns-clause-counts : goal.returns-clause-counts
returns-clause-counts g c = λ clean.
    let b = g.O.Origin.beginning in
    subst (λ (w : Viewed _). c.find_in_front.new.meter ≡ after_search w.meter (count (nodes (nth_tree (trees_under b w.addresses) c.args.tree))) c.find_in_front.result) c.self.view_is
    (c.find_in_front.ensures.counts _ (c.self.invariant.rows clean.0 clean.1))

pub returns-clause-gives : goal.returns-clause-gives
returns-clause-gives g c = subst (λ (w : Viewed _). GivesNone w.meter c.find_in_front.new.meter) c.self.view_is c.find_in_front.ensures.gives
