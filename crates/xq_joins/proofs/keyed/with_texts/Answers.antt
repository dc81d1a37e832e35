use Rattle.std.proofs.Common.{◌≡◌, ◌∙◌, refl, ap, sym, subst, map}
use Rattle.std.specs.List.{AllByRecursion}
use Rattle.std.proofs.lemmas.List.{append-nil}
use Rattle.xq_trees.specs.Items.{item_view}
use Rattle.xq_trees.specs.Tuples.{value_at}
use Rattle.xq_tuples.specs.Views.{values_of}
use Rattle.xq_meaning.specs.Readings.{AreIn}
use Rattle.xq_operators.proofs.Growth.{value_in}
use Rattle.xq_joins.specs.Keys.{IsNode}
use Rattle.xq_joins.specs.private.Keys.{texts_from}
use Rattle.xq_joins.proofs.keyed.with_texts.Goals as goal

pub returns-clause-texts : goal.returns-clause-texts
returns-clause-texts g c = λ k inside.
    let f = g.L.TreeSource.forest c.args.source.now in
    let slots = values_of c.args.slots.now in
    let key = c.args.found.key in
    let is : map item_view c.value-start.result.now ≡ value_at key.slot slots = c.value-start.ensures ∙ ap (value_at key.slot) (append-nil slots) in
    record {
      on_axis = refl;
      of_test = refl;
      nodes = subst (AllByRecursion IsNode) is (c.if-not-are_nodes-2.ensures refl);
      texts = c.in_ok-texts.ensures.texts k (subst (AreIn f) (sym is) (value_in f key.slot slots inside).0) ∙ ap (texts_from f key.steps.now) is;
    }
