use Rattle.std.proofs.Common.{ℕ, ◌+◌, ◌++◌, map, ap, sym, ◌∙◌}
use Rattle.std.specs.List.{flat_map, enumerate_from}
use Rattle.std.proofs.lemmas.Iterator.Adapters.{YieldsList-from_vec}
use Rattle.std.proofs.lemmas.Iterator.Consumers.{YieldsList-end, YieldsList-from_enumerate}
use Rattle.std.proofs.lemmas.List.Folds.{flat_map-map}
use Rattle.xq_trees.specs.Tuples.{Tuple, item_values}
use Rattle.xq_trees.specs.Items.{ItemView, Value, item_view}
use Rattle.xq_tuples.specs.Views.{values_of}
use Rattle.xq_tuples.proofs.Lists.{counted-yielded}
use Rattle.xq_tuples.proofs.values.push_each.Goals as goal

pub returns-clause-slots : goal.returns-clause-slots
returns-clause-slots c =
    let xs = c.args.items.items in
    let ended = YieldsList-end (YieldsList-from_enumerate (YieldsList-from_vec xs (cc) (cc)) (cc)) c.loop-index.yielded c.loop-index.index-iterator c.loop-index.yielded_by c.next.result c.next.new.self c.in-None.is c.next.ensures.steps in
    let longer = λ (p : ℕ × ItemView). values_of c.args.tuple.now ++ item_values Value c.args.at p.0 p.1 in
    let all = counted-yielded item_view xs c.loop-index.yielded ended.0 in
    c.loop-index.invariant
    ∙ ap (λ l. values_of c.args.slots.now.items ++ l) (sym (flat_map-map longer (λ p. (p.0 + 1, item_view p.1)) c.loop-index.yielded) ∙ ap (flat_map longer) all ∙ sym (flat_map-map (λ (t : Tuple ItemView). t) longer (enumerate_from 1 (map item_view xs))))
