use Rattle.std.proofs.Common.{◌≡◌, ◌∙◌, ℕ, ap, subst, map, Bool, List}
use Rattle.std.specs.Prelude.{string_bytes}
use Rattle.xq_trees.specs.Tree.{Tree}
use Rattle.xq_meaning.specs.Items.{Place}
use Rattle.xq_meaning.specs.Readings.{node_at}
use Rattle.std.specs.HashSet.{contains_text}
use Rattle.std.specs.List.{list_any}
use Rattle.xq_joins.specs.Keyed.{leads_to_key}
use Rattle.xq_joins.specs.Keys.{meet, text_at}
use Rattle.xq_joins.specs.private.TextSets.{IsSetFor}
use Rattle.xq_joins.proofs.Lists.{if_ok}
use Rattle.xq_joins.proofs.TextSets.{set_meets}
use Rattle.xq_joins.proofs.keyed.leads_to_key.Goals as goal

pub returns-clause-answer : goal.returns-clause-answer
returns-clause-answer g c = λ k held there.
    let f = g.L.TreeSource.forest c.args.source.now in
    let f1 = g.L.TreeSource.forest c.places_on_axis.new.source in
    let node = c.args.node in
    let found = c.args.found.now in
    let same : f1 ≡ f = c.places_on_axis.ensures.keeps in
    let texts = map string_bytes found.texts.items in
    let placed : List Tree → ℕ → Place = λ h p. node_at h (record { tree = node.tree; pre = p }) in
    let on = c.in_ok-led.ensures.nodes (c.have_one.ensures.was_clean k) there in
    if_ok (λ (answer : Bool). answer ≡ meet (map string_bytes c.as_slice.result.now) (map (text_at f1) (map (placed f1) c.as_slice-places.result.now))) (λ (answer : Bool). answer ≡ leads_to_key f found (node_at f node)) c.have_one.result
    (λ answer e. e ∙ (λ i. meet (map string_bytes (c.as_slice.ensures.value i)) (map (text_at (same i)) (map (placed (same i)) (c.as_slice-places.ensures i)))) ∙ ap (λ ps. meet texts (map (text_at f) ps)) on)
    (c.have_one.ensures.answer k)

pub returns-in-Some-clause-answer : goal.returns-in-Some-clause-answer
returns-in-Some-clause-answer g c = λ k held there.
    let f = g.L.TreeSource.forest c.args.source.now in
    let f1 = g.L.TreeSource.forest c.places_on_axis.new.source in
    let node = c.args.node in
    let found = c.args.found.now in
    let set = c.in-Some.set in
    let same : f1 ≡ f = c.places_on_axis.ensures.keeps in
    let texts = map string_bytes found.texts.items in
    let placed : List Tree → ℕ → Place = λ h p. node_at h (record { tree = node.tree; pre = p }) in
    let on = c.in_ok-led.ensures.nodes (c.have_text_in.ensures.was_clean k) there in
    let is = subst (λ o. IsSetFor o found) c.in-Some.is held in
    if_ok (λ (answer : Bool). answer ≡ list_any (contains_text set) (map (text_at f1) (map (placed f1) c.as_slice-places.result.now))) (λ (answer : Bool). answer ≡ leads_to_key f found (node_at f node)) c.have_text_in.result
    (λ answer e. e ∙ (λ i. list_any (contains_text set) (map (text_at (same i)) (map (placed (same i)) (c.as_slice-places.ensures i)))) ∙ set_meets set texts (map (text_at f) (map (placed f) c.in_ok-led.led.items)) is ∙ ap (λ ps. meet texts (map (text_at f) ps)) on)
    (c.have_text_in.ensures.answer k)
