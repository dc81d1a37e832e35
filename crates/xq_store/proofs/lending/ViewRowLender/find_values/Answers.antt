use Rattle.std.proofs.Common.{◌≤◌, ◌+◌, ◌*◌, subst}
use Rattle.xq_trees.specs.Forest.{count}
use Rattle.xq_trees.specs.Tree.{nodes}
use Rattle.xq_sources.specs.Meters.{GivesNone}
use Rattle.xq_sources.specs.Sources.{tree_at as nth_tree}
use Rattle.xq_store.specs.Views.{Viewed, trees_under}
use Rattle.xq_store.proofs.Lends.{found_more}
use Rattle.xq_store.proofs.lending.ViewRowLender.find_values.Goals as goal

pub invariant_of-self : goal.invariant_of-self
invariant_of-self g c = found_more g.S.Store g.O.Origin.beginning _ _ c.find_values_in.new.fronts.items _ c.self.invariant c.find_values_in.ensures.kept _ _

pub returns-clause-counts : goal.returns-clause-counts
returns-clause-counts g c = λ clean.
    let b = g.O.Origin.beginning in
    subst (λ (w : Viewed _). c.find_values_in.new.meter.looks ≤ w.meter.looks + 2 * count (nodes (nth_tree (trees_under b w.addresses) c.args.tree))) c.self.view_is
    (c.find_values_in.ensures.counts _ (c.self.invariant.rows clean.0 clean.1))

pub returns-clause-gives : goal.returns-clause-gives
returns-clause-gives g c = subst (λ (w : Viewed _). GivesNone w.meter c.find_values_in.new.meter) c.self.view_is c.find_values_in.ensures.gives
