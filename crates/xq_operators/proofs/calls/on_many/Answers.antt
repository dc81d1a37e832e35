use Rattle.std.proofs.Common.{◌≤◌, ◌∙◌, ap, sym, arith, length, map}
use Rattle.std.proofs.lemmas.List.{length-map}
use Rattle.xq_trees.specs.Items.{item_views}
use Rattle.xq_tuples.specs.Keys.{atomics_of}
use Rattle.xq_meaning.specs.Functions as Functions
use Rattle.xq_meaning.specs.Readings.{items_at}
use Rattle.xq_functions.specs.Answers.{items_of}
use Rattle.xq_operators.specs.Views.{tuple_at}
use Rattle.xq_operators.proofs.Giving.{told}
use Rattle.xq_operators.proofs.calls.on_many.Goals as goal

pub returns-clause-gives : goal.returns-clause-gives
returns-clause-gives g c = λ k many addresses focus.
    let old = g.L.TreeSource.forest c.args.source.now in
    let views = map item_views c.args.arguments.items in
    let values = tuple_at old views in
    let more : 2 ≤ length values = omega (arith, many, length-map views (items_at old), length-map c.args.arguments.items item_views) in
    told (items_of old) (Functions.called c.args.function old addresses focus values) c.call_on_lists.result
    (c.call_on_lists.ensures old addresses focus values more (sym (ap (map atomics_of) c.deref.ensures.value ∙ c.in_ok-atoms.ensures.value k)))
