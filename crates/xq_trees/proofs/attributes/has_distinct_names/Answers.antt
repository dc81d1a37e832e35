use Rattle.xq_trees.proofs.Distinctness.{distinct_at_once, distinct_if_ascending, back_in_place}
use Rattle.std.proofs.lemmas.List.Sorted.{IsPermutation-trans}
use Rattle.xq_trees.proofs.attributes.has_distinct_names.Goals as goal

pub returns-then-names_ascend-clause-distinct : goal.returns-then-names_ascend-clause-distinct
returns-then-names_ascend-clause-distinct c = distinct_at_once c.args.run.now c.names_ascend.result c.names_ascend.ensures c.if-names_ascend.true

pub returns-clause-distinct : goal.returns-clause-distinct
returns-clause-distinct c =
    distinct_if_ascending c.args.run.now c.sort_by_name.new.run c.sort_by_name.ensures.permutation c.sort_by_name.ensures.sorted
    c.names_ascend-distinct.result c.names_ascend-distinct.ensures

pub returns-clause-kept : goal.returns-clause-kept
returns-clause-kept c =
    back_in_place c.args.run.now c.sort_by_place.new.run c.requires
    (IsPermutation-trans c.args.run.now c.sort_by_name.new.run c.sort_by_place.new.run c.sort_by_name.ensures.permutation c.sort_by_place.ensures.permutation)
    c.sort_by_place.ensures.sorted
