use Rattle.std.proofs.Common.{◌≡◌, ◌∙◌, ap, sym, subst, map, List}
use Rattle.std.specs.Prelude.{String, string_bytes}
use Rattle.std.specs.Global.{Global, Vec}
use Rattle.xq_axes.specs.Nodes.{HaveAll}
use Rattle.xq_trees.specs.Items.{item_view}
use Rattle.xq_trees.specs.Tree.{Tree}
use Rattle.xq_meaning.specs.Readings.{node_at}
use Rattle.xq_operators.proofs.NodeLemmas.{among_in}
use Rattle.xq_joins.specs.Keys.{text_at}
use Rattle.xq_joins.specs.private.Keys.{scans, nodes_after, texts_from}
use Rattle.xq_joins.proofs.Lists.{if_ok}
use Rattle.xq_joins.proofs.Found.{places_are}
use Rattle.xq_joins.proofs.keys.key_texts.Goals as goal

pub returns-clause-texts : goal.returns-clause-texts
returns-clause-texts g c = λ k inside.
    let f = g.L.TreeSource.forest c.args.source.now in
    let views = map item_view c.args.items.now in
    let steps = c.args.steps.now in
    let start = c.in_ok-start.start.items in
    let after = c.in_ok-nodes.nodes.items in
    let given = c.deref.result.now in
    let have = subst (HaveAll f) (sym c.in_ok-start.ensures) (among_in f views inside) in
    let nodes = c.in_ok-nodes.ensures.nodes (c.texts_of.ensures.was_clean k) have ∙ ap (nodes_after f (scans steps)) (ap (map (node_at f)) c.in_ok-start.ensures ∙ sym (places_are f views)) in
    if_ok (λ (texts : Vec (String Global)). map string_bytes texts.items ≡ map (text_at (g.L.TreeSource.forest c.nodes_after.new.source)) (map (node_at (g.L.TreeSource.forest c.nodes_after.new.source)) given))
    (λ (texts : Vec (String Global)). map string_bytes texts.items ≡ texts_from f steps views) c.texts_of.result
    (λ texts e. e ∙ ap (λ (t : List Tree). map (text_at t) (map (node_at t) given)) c.nodes_after.ensures.keeps
    ∙ ap (λ ns. map (text_at f) (map (node_at f) ns)) c.deref.ensures.value ∙ ap (map (text_at f)) nodes)
    (c.texts_of.ensures.texts k)
