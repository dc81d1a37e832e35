use Rattle.std.proofs.Common.{◌≡◌, ◌-◌, ◌∷◌, [], ℕ, Option, length, map, sym, ap, ◌∙◌}
use Rattle.std.specs.Prelude.{slice_get}
use Rattle.std.proofs.lemmas.Result.{IfOk-weaker}
use Rattle.xq_trees.specs.Items.{Place as NodeAt, item_view, item_views}
use Rattle.xq_trees.specs.declared.Axis.TheVariants as axes
use Rattle.xq_sources.specs.Sources.{tree_at}
use Rattle.xq_axes.specs.Nodes.{IsLastOnAxis}
use Rattle.xq_axes.specs.Many.{spot, places_from}
use Rattle.xq_axes.proofs.First.{last_from_one}
use Rattle.xq_axes.proofs.Last.{last_one, last_none}
use Rattle.xq_axes.proofs.steps.last_child.Goals as goal

pub returns-in-Some-clause-items : goal.returns-in-Some-clause-items
returns-in-Some-clause-items g c = λ k there.
    let trees = g.L.TreeSource.forest c.args.source.now in
    let v = c.args.node in
    let test = c.args.test.now in
    let p = c.in-Some.place in
    let all = places_from axes.Child test (tree_at trees v.tree) v.pre in
    let found : c.in_ok-place.field-0 ≡ slice_get all (length all - 1) = c.in_ok-place.ensures.found k in
    let e = last_one all p (sym {A = Option ℕ} c.in-Some.is ∙ found) in
    IfOk-weaker c.as_items.result (λ found. item_views found ≡ map (λ p. NodeAt (spot v.tree p)) (p ∷ [])) (λ found. IsLastOnAxis trees axes.Child test v (item_views found))
    (λ found is. last_from_one trees axes.Child test v (p ∷ []) (item_views found) there e is) c.as_items.ensures

pub returns-in-None-clause-items : goal.returns-in-None-clause-items
returns-in-None-clause-items g c = λ k there.
    let trees = g.L.TreeSource.forest c.args.source.now in
    let v = c.args.node in
    let test = c.args.test.now in
    let all = places_from axes.Child test (tree_at trees v.tree) v.pre in
    let found : c.in_ok-place.field-0 ≡ slice_get all (length all - 1) = c.in_ok-place.ensures.found k in
    let e = last_none all (sym {A = Option ℕ} c.in-None.is ∙ found) in
    last_from_one trees axes.Child test v [] (item_views c.new.result) there e (ap (map item_view) c.new.ensures.items)
