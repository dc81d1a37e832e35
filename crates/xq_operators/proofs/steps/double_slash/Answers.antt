use Rattle.std.proofs.Common.{◌≡◌, [], ◌∷◌, ◌*◌, ◌∙◌, ap, sym, subst, map, Ok, Err, rules}
use Rattle.xq_atoms.specs.declared.refusals.Fault.TheVariants.{Code as OfCode}
use Rattle.xq_axes.specs.DoubleSlash.{after_double_slash as after_places}
use Rattle.xq_axes.specs.Nodes.{HaveAll}
use Rattle.xq_trees.specs.Items.{Place, item_view, item_views}
use Rattle.xq_meaning.specs.Readings.{node_at, items_at, AreIn}
use Rattle.xq_operators.specs.Views.{GivesSequence, after_double_slash}
use Rattle.xq_operators.specs.Nodes.{nodes_among}
use Rattle.xq_operators.specs.Reads.{rows_of, AreOf, HasGrown}
use Rattle.xq_operators.proofs.OneTree.{not_grown, contexts_of, contexts_have, double_slash_grown, double_slash_found}
use Rattle.xq_operators.proofs.NodeLemmas.{among_in, double_slash_gives, double_slash_stops}
use Rattle.xq_operators.proofs.steps.double_slash.Goals as goal

pub returns-in_err-only_nodes-clause-gives : goal.returns-in_err-only_nodes-clause-gives
returns-in_err-only_nodes-clause-gives g c = λ k inside.
    let old = g.W.TreeSource.forest c.args.world.now in
    let test = c.args.test.now in
    let xs = items_at old (map item_view c.args.items.now) in
    let code = c.in_err-only_nodes.field-0.0 in
    let is : c.from_residual-in_err-only_nodes.result ≡ Err (OfCode code) = search rules in
    subst (GivesSequence (after_double_slash test xs old) old) (sym is) (double_slash_stops old test xs code (c.in_err-only_nodes.ensures old))

pub returns-clause-gives : goal.returns-clause-gives
returns-clause-gives g c = λ k inside.
    let old = g.W.TreeSource.forest c.args.world.now in
    let test = c.args.test.now in
    let views = map item_view c.args.items.now in
    let found = item_views c.in_ok-as_items.field-0 in
    let nodes = c.in_ok-nodes.nodes.items in
    let contexts = c.deref.ensures.value ∙ c.in_ok-contexts.ensures in
    let have = subst (HaveAll old) (sym contexts) (among_in old views inside) in
    let step = c.in_ok-nodes.ensures.nodes k have ∙ ap (λ ns. after_places old test (map (node_at old) ns)) contexts in
    subst (λ f. AreIn f found × (after_double_slash test (items_at old views) old ≡ (Ok (items_at f found), f))) (sym c.double_slash.ensures.keeps)
    (double_slash_gives old test views nodes found (c.in_ok-only_nodes.ensures old) step (c.in_ok-nodes.ensures.there k have) (c.in_ok-as_items.ensures ∙ ap (map Place) c.deref-2.ensures.value))

pub returns-in_err-only_nodes-clause-reads : goal.returns-in_err-only_nodes-clause-reads
returns-in_err-only_nodes-clause-reads g c = λ k tree h. not_grown _ _

pub returns-in_err-contexts-clause-reads : goal.returns-in_err-contexts-clause-reads
returns-in_err-contexts-clause-reads g c = λ k tree h. not_grown _ _

pub returns-in_err-nodes-clause-reads : goal.returns-in_err-nodes-clause-reads
returns-in_err-nodes-clause-reads g c = λ k tree h.
    let old = g.W.TreeSource.forest c.args.world.now in
    let views = map item_view c.args.items.now in
    let contexts = c.deref.ensures.value ∙ c.in_ok-contexts.ensures in
    double_slash_grown old tree views c.deref.result.now contexts h (g.W.TreeSource.meter c.args.world.now) (g.W.TreeSource.meter c.double_slash.new.source) (c.double_slash.ensures.rows k tree (contexts_of old tree views c.deref.result.now contexts h)) c.double_slash.ensures.singles (c.double_slash.ensures.sees k tree (contexts_of old tree views c.deref.result.now contexts h))

pub returns-in_err-as_items-clause-reads : goal.returns-in_err-as_items-clause-reads
returns-in_err-as_items-clause-reads g c = λ k tree h.
    let old = g.W.TreeSource.forest c.args.world.now in
    let views = map item_view c.args.items.now in
    let contexts = c.deref.ensures.value ∙ c.in_ok-contexts.ensures in
    double_slash_grown old tree views c.deref.result.now contexts h (g.W.TreeSource.meter c.args.world.now) (g.W.TreeSource.meter c.double_slash.new.source) (c.double_slash.ensures.rows k tree (contexts_of old tree views c.deref.result.now contexts h)) c.double_slash.ensures.singles (c.double_slash.ensures.sees k tree (contexts_of old tree views c.deref.result.now contexts h))

pub returns-clause-reads : goal.returns-clause-reads
returns-clause-reads g c = λ k tree h.
    let old = g.W.TreeSource.forest c.args.world.now in
    let views = map item_view c.args.items.now in
    let contexts = c.deref.ensures.value ∙ c.in_ok-contexts.ensures in
    double_slash_grown old tree views c.deref.result.now contexts h (g.W.TreeSource.meter c.args.world.now) (g.W.TreeSource.meter c.double_slash.new.source) (c.double_slash.ensures.rows k tree (contexts_of old tree views c.deref.result.now contexts h)) c.double_slash.ensures.singles (c.double_slash.ensures.sees k tree (contexts_of old tree views c.deref.result.now contexts h))

pub returns-clause-of_tree : goal.returns-clause-of_tree
returns-clause-of_tree g c = λ k tree h.
    let old = g.W.TreeSource.forest c.args.world.now in
    let views = map item_view c.args.items.now in
    let found = item_views c.in_ok-as_items.field-0 in
    let nodes = c.in_ok-nodes.nodes.items in
    let contexts = c.deref.ensures.value ∙ c.in_ok-contexts.ensures in
    let have = contexts_have old tree views c.deref.result.now contexts h in
    subst (λ f. AreOf f tree found) (sym c.double_slash.ensures.keeps)
    (double_slash_found old tree views c.deref.result.now contexts h c.args.test.now nodes found (c.in_ok-nodes.ensures.nodes k have) (c.in_ok-nodes.ensures.there k have) c.in_ok-nodes.ensures.rising (c.in_ok-as_items.ensures ∙ ap (map Place) c.deref-2.ensures.value))

pub returns-in-Some-clause-gives : goal.returns-in-Some-clause-gives
returns-in-Some-clause-gives g c = λ k inside.
    let old = g.W.TreeSource.forest c.args.world.now in
    let new = g.W.TreeSource.forest c.double_slash_from.new.world in
    let test = c.args.test.now in
    let one = c.in-Some.ensures in
    let found = item_views c.in_ok-double_slash_from.field-0 in
    subst (λ views. AreIn new found × (after_double_slash test (items_at old views) old ≡ (Ok (items_at new found), new))) (sym one)
    (c.in_ok-double_slash_from.ensures.gives k (subst (AreIn old) one inside).0)

pub returns-in-Some-clause-reads : goal.returns-in-Some-clause-reads
returns-in-Some-clause-reads g c = λ k tree h.
    let old = g.W.TreeSource.forest c.args.world.now in
    let before = g.W.TreeSource.meter c.args.world.now in
    let after = g.W.TreeSource.meter c.double_slash_from.new.world in
    let node = c.in-Some.node in
    let views = map item_view c.args.items.now in
    let is = ap nodes_among (sym c.in-Some.ensures) in
    subst (λ t. HasGrown before after (2 * rows_of old t)) (contexts_of old tree views (node ∷ []) is h).0 (c.in_ok-double_slash_from.ensures.reads k (contexts_have old tree views (node ∷ []) is h).0)

pub returns-in_err-double_slash_from-clause-reads : goal.returns-in_err-double_slash_from-clause-reads
returns-in_err-double_slash_from-clause-reads g c = λ k tree h.
    let old = g.W.TreeSource.forest c.args.world.now in
    let before = g.W.TreeSource.meter c.args.world.now in
    let after = g.W.TreeSource.meter c.double_slash_from.new.world in
    let node = c.in-Some.node in
    let views = map item_view c.args.items.now in
    let is = ap nodes_among (sym c.in-Some.ensures) in
    subst (λ t. HasGrown before after (2 * rows_of old t)) (contexts_of old tree views (node ∷ []) is h).0 (c.in_err-double_slash_from.ensures.reads k (contexts_have old tree views (node ∷ []) is h).0)

pub returns-in-Some-clause-of_tree : goal.returns-in-Some-clause-of_tree
returns-in-Some-clause-of_tree g c = λ k tree h.
    let old = g.W.TreeSource.forest c.args.world.now in
    let new = g.W.TreeSource.forest c.double_slash_from.new.world in
    let node = c.in-Some.node in
    let views = map item_view c.args.items.now in
    let is = ap nodes_among (sym c.in-Some.ensures) in
    let found = item_views c.in_ok-double_slash_from.field-0 in
    subst (λ t. AreOf new t found) (contexts_of old tree views (node ∷ []) is h).0 (c.in_ok-double_slash_from.ensures.of_tree k (contexts_have old tree views (node ∷ []) is h).0)
