use Rattle.std.proofs.Common.{◌≡◌, length, ap, subst, ◌∙◌, rc_value}
use Rattle.xq_sources.specs.Lenders.{IsRun}
use Rattle.xq_sources.specs.Meters.{with_rows}
use Rattle.xq_sources.specs.Sources.{HasTree, rows_between, tree_at as nth_tree}
use Rattle.xq_store.specs.Views.{Viewed, trees_under}
use Rattle.xq_store.specs.private.Shelves.{front_at, run_of}
use Rattle.xq_store.proofs.Lends.{shelved, has_tree, is_run}
use Rattle.xq_store.proofs.lending.ViewRowLender.fetch.Goals as goal

pub invariant_of-self : goal.invariant_of-self
invariant_of-self g c = shelved g.S.Store g.O.Origin.beginning _ _ _ c.self.invariant c.read_on.new.store c.read_on.new.shelf.fronts.items c.read_on.ensures.was_clean c.read_on.ensures.fronts _ _ _
    (ap rc_value c.read_on.ensures.addresses) c.read_on.ensures.same _ c.read_on.ensures.stays c.read_on.ensures.alone

pub invariant_of-self-2 : goal.invariant_of-self-2
invariant_of-self-2 g c = shelved g.S.Store g.O.Origin.beginning _ _ _ c.self.invariant c.read_on.new.store c.read_on.new.shelf.fronts.items c.read_on.ensures.was_clean c.read_on.ensures.fronts _ _ _
    (ap rc_value c.read_on.ensures.addresses) c.read_on.ensures.same _ c.read_on.ensures.stays c.read_on.ensures.alone

pub returns-clause-exists : goal.returns-clause-exists
returns-clause-exists g c = λ clean.
    let b = g.O.Origin.beginning in
    subst (λ (w : Viewed _). HasTree (trees_under b w.addresses) c.args.tree) c.self.view_is (has_tree g.S.Store b _ _ _ c.self.invariant c.read_on.new.store c.read_on.new.shelf.fronts.items c.read_on.ensures.was_clean c.read_on.ensures.fronts c.args.tree c.args.low c.in_ok-read_on.ensures.reached clean.0 clean.1)

pub returns-clause-found : goal.returns-clause-found
returns-clause-found g c = λ clean.
    let b = g.O.Origin.beginning in
    let run = run_of (front_at c.read_on.new.shelf.fronts.items c.args.tree) c.args.low c.args.high in
    subst (λ (w : Viewed _). IsRun (rows_between (nth_tree (trees_under b w.addresses) c.args.tree) c.args.low c.args.high) run) c.self.view_is
    (is_run g.S.Store b _ _ _ c.self.invariant c.read_on.new.store c.read_on.new.shelf.fronts.items c.read_on.ensures.was_clean c.read_on.ensures.fronts c.args.tree c.args.low c.in_ok-read_on.ensures.reached clean.0 clean.1 c.args.high)

pub returns-clause-counts : goal.returns-clause-counts
returns-clause-counts g c =
    let run = run_of (front_at c.read_on.new.shelf.fronts.items c.args.tree) c.args.low c.args.high in
    let rows : c.kept_run.result ≡ run = c.kept_run.ensures ∙ ap (λ fronts. run_of (front_at fronts c.args.tree) c.args.low c.args.high) c.deref.ensures.value in
    c.with_rows-self-inside.ensures ∙ ap (with_rows c.self.inside.meter) (c.len-count.ensures ∙ ap length rows) ∙ ap (λ (w : Viewed _). with_rows w.meter (length run)) c.self.view_is
