use Rattle.std.proofs.Common.{◌≡◌, ◌+◌, ◌≤◌, [], ◌∷◌, ◌∙◌, ap, sym, subst, length, map, Ok, Err, rules}
use Rattle.std.specs.List.{flat_map}
use Rattle.xq_atoms.specs.declared.refusals.Fault.TheVariants.{Code as OfCode}
use Rattle.xq_atoms.specs.declared.refusals.Code.TheVariants.{XPTY0019}
use Rattle.xq_axes.specs.Nodes.{HaveAll}
use Rattle.xq_axes.specs.Scans.{region}
use Rattle.xq_sources.specs.Meters.{SeesAtMost}
use Rattle.xq_sources.specs.Sources.{tree_at}
use Rattle.xq_meaning.specs.Arguments.{all_nodes}
use Rattle.xq_trees.specs.Items.{Place, item_view, item_views}
use Rattle.xq_meaning.specs.Items.{in_document_order}
use Rattle.xq_meaning.specs.Readings.{node_at, items_at, AreIn}
use Rattle.xq_meaning.specs.Steps.{axis_nodes}
use Rattle.xq_meaning.specs.Forms as Forms
use Rattle.xq_operators.specs.Views.{forget, GivesSequence}
use Rattle.xq_operators.specs.Nodes.{nodes_among}
use Rattle.xq_operators.specs.Reads.{rows_of, AreOf}
use Rattle.xq_operators.proofs.NodeLemmas.{among_in, scan_gives, scan_stops}
use Rattle.xq_operators.proofs.OneTree.{not_grown, contexts_of, contexts_have, step_grown, step_found}
use Rattle.xq_operators.proofs.steps.scan.Goals as goal

pub returns-in_err-only_nodes-clause-gives : goal.returns-in_err-only_nodes-clause-gives
returns-in_err-only_nodes-clause-gives g c = λ k inside.
    let old = g.W.TreeSource.forest c.args.world.now in
    let xs = items_at old (map item_view c.args.items.now) in
    let code = c.in_err-only_nodes.field-0.0 in
    let is : c.from_residual-in_err-only_nodes.result ≡ Err (OfCode code) = search rules in
    subst (GivesSequence (Forms.scan c.args.axis c.args.test.now xs old) old) (sym is) (scan_stops old c.args.axis c.args.test.now xs code (c.in_err-only_nodes.ensures old))

pub returns-clause-gives : goal.returns-clause-gives
returns-clause-gives g c = λ k inside.
    let old = g.W.TreeSource.forest c.args.world.now in
    let views = map item_view c.args.items.now in
    let found = item_views c.in_ok-as_items.field-0 in
    let nodes = c.in_ok-nodes.nodes.items in
    let contexts = c.deref.ensures.value ∙ c.in_ok-contexts.ensures in
    let have = subst (HaveAll old) (sym contexts) (among_in old views inside) in
    let step = c.in_ok-nodes.ensures.nodes k have ∙ ap (λ ns. in_document_order old (flat_map (axis_nodes old c.args.axis c.args.test.now) (map (node_at old) ns))) contexts in
    subst (λ f. AreIn f found × (Forms.scan c.args.axis c.args.test.now (items_at old views) old ≡ (Ok (items_at f found), f))) (sym c.step.ensures.keeps)
    (scan_gives old c.args.axis c.args.test.now views nodes found (c.in_ok-only_nodes.ensures old) step (c.in_ok-nodes.ensures.there k have) (c.in_ok-as_items.ensures ∙ ap (map Place) c.deref-2.ensures.value))

pub returns-in_err-only_nodes-clause-reads : goal.returns-in_err-only_nodes-clause-reads
returns-in_err-only_nodes-clause-reads g c = λ k tree h. not_grown _ _

pub returns-in_err-contexts-clause-reads : goal.returns-in_err-contexts-clause-reads
returns-in_err-contexts-clause-reads g c = λ k tree h. not_grown _ _

pub returns-in_err-nodes-clause-reads : goal.returns-in_err-nodes-clause-reads
returns-in_err-nodes-clause-reads g c = λ k tree h.
    let old = g.W.TreeSource.forest c.args.world.now in
    let views = map item_view c.args.items.now in
    let contexts = c.deref.ensures.value ∙ c.in_ok-contexts.ensures in
    step_grown old tree views c.deref.result.now contexts h c.args.axis (g.W.TreeSource.meter c.args.world.now) (g.W.TreeSource.meter c.step.new.source) (c.step.ensures.rows k tree (contexts_of old tree views c.deref.result.now contexts h)) c.step.ensures.singles (c.step.ensures.sees k tree (contexts_of old tree views c.deref.result.now contexts h))

pub returns-in_err-as_items-clause-reads : goal.returns-in_err-as_items-clause-reads
returns-in_err-as_items-clause-reads g c = λ k tree h.
    let old = g.W.TreeSource.forest c.args.world.now in
    let views = map item_view c.args.items.now in
    let contexts = c.deref.ensures.value ∙ c.in_ok-contexts.ensures in
    step_grown old tree views c.deref.result.now contexts h c.args.axis (g.W.TreeSource.meter c.args.world.now) (g.W.TreeSource.meter c.step.new.source) (c.step.ensures.rows k tree (contexts_of old tree views c.deref.result.now contexts h)) c.step.ensures.singles (c.step.ensures.sees k tree (contexts_of old tree views c.deref.result.now contexts h))

pub returns-clause-reads : goal.returns-clause-reads
returns-clause-reads g c = λ k tree h.
    let old = g.W.TreeSource.forest c.args.world.now in
    let views = map item_view c.args.items.now in
    let contexts = c.deref.ensures.value ∙ c.in_ok-contexts.ensures in
    step_grown old tree views c.deref.result.now contexts h c.args.axis (g.W.TreeSource.meter c.args.world.now) (g.W.TreeSource.meter c.step.new.source) (c.step.ensures.rows k tree (contexts_of old tree views c.deref.result.now contexts h)) c.step.ensures.singles (c.step.ensures.sees k tree (contexts_of old tree views c.deref.result.now contexts h))

pub returns-clause-of_tree : goal.returns-clause-of_tree
returns-clause-of_tree g c = λ k tree h.
    let old = g.W.TreeSource.forest c.args.world.now in
    let views = map item_view c.args.items.now in
    let found = item_views c.in_ok-as_items.field-0 in
    let nodes = c.in_ok-nodes.nodes.items in
    let contexts = c.deref.ensures.value ∙ c.in_ok-contexts.ensures in
    let have = contexts_have old tree views c.deref.result.now contexts h in
    subst (λ f. AreOf f tree found) (sym c.step.ensures.keeps)
    (step_found old tree views c.deref.result.now contexts h c.args.axis c.args.test.now nodes found (c.in_ok-nodes.ensures.nodes k have) (c.in_ok-nodes.ensures.there k have) c.in_ok-nodes.ensures.rising (c.in_ok-as_items.ensures ∙ ap (map Place) c.deref-2.ensures.value))

pub returns-in-Some-clause-gives : goal.returns-in-Some-clause-gives
returns-in-Some-clause-gives g c = λ k inside.
    let old = g.W.TreeSource.forest c.args.world.now in
    let axis = c.args.axis in
    let test = c.args.test.now in
    let node = c.in-Some.node in
    let views = map item_view c.args.items.now in
    let items = item_views c.in_ok-items_on_axis.field-0 in
    let one : views ≡ Place node ∷ [] = c.in-Some.ensures in
    let found = c.in_ok-items_on_axis.ensures.items k (subst (AreIn old) one inside).0 in
    let all = ap (λ vs. forget (all_nodes XPTY0019 (items_at old vs))) one in
    let step = found.in_order ∙ ap (λ vs. in_document_order old (flat_map (axis_nodes old axis test) (map (node_at old) (nodes_among vs)))) (sym one) in
    subst (λ f. AreIn f items × (Forms.scan axis test (items_at old views) old ≡ (Ok (items_at f items), f))) (sym c.items_on_axis.ensures.keeps)
    (scan_gives old axis test views found.nodes items all step found.there found.are)

pub returns-in-Some-clause-reads : goal.returns-in-Some-clause-reads
returns-in-Some-clause-reads g c = λ k tree h.
    let old = g.W.TreeSource.forest c.args.world.now in
    let before = g.W.TreeSource.meter c.args.world.now in
    let after = g.W.TreeSource.meter c.items_on_axis.new.source in
    let axis = c.args.axis in
    let node = c.in-Some.node in
    let views = map item_view c.args.items.now in
    let is = ap nodes_among (sym c.in-Some.ensures) in
    let of_tree = contexts_of old tree views (node ∷ []) is h in
    step_grown old tree views (node ∷ []) is h axis before after (subst (λ t. after.rows ≤ before.rows + length (region axis (tree_at old t) (node.pre ∷ []))) of_tree.0 (c.in_ok-items_on_axis.ensures.rows k)) c.in_ok-items_on_axis.ensures.singles
    (subst (λ t. SeesAtMost before after (rows_of old t)) of_tree.0 (c.in_ok-items_on_axis.ensures.sees k))

pub returns-in_err-items_on_axis-clause-reads : goal.returns-in_err-items_on_axis-clause-reads
returns-in_err-items_on_axis-clause-reads g c = λ k tree h.
    let old = g.W.TreeSource.forest c.args.world.now in
    let before = g.W.TreeSource.meter c.args.world.now in
    let after = g.W.TreeSource.meter c.items_on_axis.new.source in
    let axis = c.args.axis in
    let node = c.in-Some.node in
    let views = map item_view c.args.items.now in
    let is = ap nodes_among (sym c.in-Some.ensures) in
    let of_tree = contexts_of old tree views (node ∷ []) is h in
    step_grown old tree views (node ∷ []) is h axis before after (subst (λ t. after.rows ≤ before.rows + length (region axis (tree_at old t) (node.pre ∷ []))) of_tree.0 (c.in_err-items_on_axis.ensures.rows k)) c.in_err-items_on_axis.ensures.singles
    (subst (λ t. SeesAtMost before after (rows_of old t)) of_tree.0 (c.in_err-items_on_axis.ensures.sees k))

pub returns-in-Some-clause-of_tree : goal.returns-in-Some-clause-of_tree
returns-in-Some-clause-of_tree g c = λ k tree h.
    let old = g.W.TreeSource.forest c.args.world.now in
    let node = c.in-Some.node in
    let views = map item_view c.args.items.now in
    let items = item_views c.in_ok-items_on_axis.field-0 in
    let is = ap nodes_among (sym c.in-Some.ensures) in
    let have = contexts_have old tree views (node ∷ []) is h in
    let found = c.in_ok-items_on_axis.ensures.items k have.0 in
    subst (λ f. AreOf f tree items) (sym c.items_on_axis.ensures.keeps)
    (step_found old tree views (node ∷ []) is h c.args.axis c.args.test.now found.nodes items found.in_order found.there found.rising found.are)
