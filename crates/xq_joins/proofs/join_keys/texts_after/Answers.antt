use Rattle.std.proofs.Common.{◌∙◌, ap, sym, subst, map, List, refl}
use Rattle.std.specs.Prelude.{String, string_bytes}
use Rattle.std.specs.Global.{Global, Vec}
use Rattle.xq_axes.specs.Nodes.{HaveAll}
use Rattle.xq_trees.specs.Items.{item_view}
use Rattle.xq_trees.specs.Tree.{Tree}
use Rattle.xq_meaning.specs.Items.{atomized}
use Rattle.xq_meaning.specs.Readings.{node_at, items_at}
use Rattle.xq_operators.proofs.NodeLemmas.{among_in}
use Rattle.xq_joins.specs.Keys.{text_at}
use Rattle.xq_joins.specs.private.Keys.{nodes_after}
use Rattle.xq_joins.specs.private.JoinKeys.{AreTexts, LeadsTo}
use Rattle.xq_joins.proofs.Lists.{if_some, none_left}
use Rattle.xq_joins.proofs.Found.{places_are}
use Rattle.xq_joins.proofs.JoinKeys.{nodes_lead, atoms_lead}
use Rattle.xq_joins.proofs.join_keys.texts_after.Goals as goal

pub returns-then-are_nodes-clause-texts : goal.returns-then-are_nodes-clause-texts
returns-then-are_nodes-clause-texts g c = λ k inside.
    let f = g.L.TreeSource.forest c.args.source.now in
    let views = map item_view c.args.items.now in
    let scans = c.args.scans.now in
    let start = c.in_ok-start.start.items in
    let given = c.deref.result.now in
    let have = subst (HaveAll f) (sym c.in_ok-start.ensures) (among_in f views inside) in
    let nodes = c.in_ok-nodes.ensures.nodes (c.texts_of.ensures.was_clean k) have ∙ ap (nodes_after f scans) (ap (map (node_at f)) c.in_ok-start.ensures ∙ sym (places_are f views)) in
    nodes_lead f scans views (map string_bytes c.in_ok-texts_of.field-0.items) (c.if-are_nodes.ensures refl)
    (c.in_ok-texts_of.ensures.texts k ∙ ap (λ (t : List Tree). map (text_at t) (map (node_at t) given)) c.nodes_after.ensures.keeps
    ∙ ap (λ ns. map (text_at f) (map (node_at f) ns)) c.deref.ensures.value ∙ ap (map (text_at f)) nodes)

pub returns-clause-texts : goal.returns-clause-texts
returns-clause-texts g c = λ k inside.
    let f = g.L.TreeSource.forest c.args.source.now in
    let views = map item_view c.args.items.now in
    let scans = c.args.scans.now in
    if_some (λ (ts : Vec (String Global)). AreTexts (atomized f (items_at f views)) (map string_bytes ts.items)) (λ (ts : Vec (String Global)). LeadsTo f scans views (map string_bytes ts.items)) c.texts_in.result
    (λ ts are. atoms_lead f scans views (map string_bytes ts.items) (none_left scans c.in-empty.len_below) are) (c.texts_in.ensures f)
