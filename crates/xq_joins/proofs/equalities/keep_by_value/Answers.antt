use Rattle.std.proofs.Common.{◌≡◌, ◌∙◌, map, IfSome}
use Rattle.std.specs.Prelude.{filter}
use Rattle.std.proofs.lemmas.Option.{IfSome_then}
use Rattle.std.proofs.lemmas.Result.{IfOk-weaker}
use Rattle.xq_trees.specs.Items.{item_view, item_views}
use Rattle.xq_axes.specs.Owners.{has_valued}
use Rattle.xq_joins.specs.Equalities.{passes_text}
use Rattle.xq_joins.proofs.Valued.{valued_pass}
use Rattle.xq_joins.proofs.equalities.keep_by_value.Goals as goal

pub returns-clause-kept : goal.returns-clause-kept
returns-clause-kept g c = λ k inside.
    let trees = g.L.TreeSource.forest c.args.source.now in
    let found = c.args.found in
    let name = c.in-Some.name.now in
    let xs = map item_view c.args.items.now in
    let is = c.in-Some.ensures in
    IfOk-weaker c.with_value.result
    (λ told. IfSome told (λ kept. item_views kept ≡ filter (has_valued trees name found.text.now) xs))
    (λ told. IfSome told (λ kept. item_views kept ≡ filter (passes_text trees found) xs))
    (λ told h. IfSome_then told h (λ kept e. e ∙ valued_pass trees found name is.0 is.1 xs inside))
    (c.with_value.ensures.kept k)
