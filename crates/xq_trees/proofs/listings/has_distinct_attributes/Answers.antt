use Rattle.std.proofs.Common.{◌≡◌, ◌+◌, get_or, map, sym, ap, arith}
use Rattle.std.specs.Prelude.{slice_range}
use Rattle.xq_trees.specs.Rows.{Row, row_of, row_at}
use Rattle.xq_trees.specs.private.Checks.{name_of}
use Rattle.xq_trees.proofs.Walks.{length-map, row_at-map}
use Rattle.xq_trees.proofs.AttributeRuns.{Below, below, places_rise, names_at}
use Rattle.xq_trees.proofs.listings.has_distinct_attributes.Goals as goal
use Rattle.xq_trees.proofs.listings.has_distinct_attributes.Goals.{After-index-rows-at}

-- where the rows below the row end
stop_is : (c : After-index-rows-at) → c.args.at + 1 + (get_or c.args.rows.now c.args.at c.index-rows-at.result).size ≡ c.args.at + 1 + (row_at (map row_of c.args.rows.now) c.args.at).size
stop_is c =
    let xs = c.args.rows.now in
    let x = get_or xs c.args.at c.index-rows-at.result in
    let here : x ≡ get_or xs c.args.at x = ap (get_or xs c.args.at) c.index-rows-at.is in
    ap (λ n. c.args.at + 1 + n) (sym (ap (λ (r : Row). r.size) (row_at-map xs c.args.at x c.requires.at_in here)))

its_rows : (c : After-index-rows-at) → Below (map row_of c.args.rows.now) c.args.at (c.args.at + 1 + (get_or c.args.rows.now c.args.at c.index-rows-at.result).size)
its_rows c =
    below (map row_of c.args.rows.now) c.args.at _ (omega (arith, c.requires.at_in, length-map row_of c.args.rows.now)) (stop_is c) c.requires.checked

pub attributes_end_in-end-requires-clause-within : goal.attributes_end_in-end-requires-clause-within
attributes_end_in-end-requires-clause-within c = omega (arith, (its_rows (goal.at.attributes_end_in-end-requires-clause-within c).After-index-rows-at).within, length-map row_of c.args.rows.now)

pub attributes_end_in-end-requires-clause-checked : goal.attributes_end_in-end-requires-clause-checked
attributes_end_in-end-requires-clause-checked c = (its_rows (goal.at.attributes_end_in-end-requires-clause-checked c).After-index-rows-at).checked

pub attributes_end_in-end-requires-clause-in_front : goal.attributes_end_in-end-requires-clause-in_front
attributes_end_in-end-requires-clause-in_front c = (its_rows (goal.at.attributes_end_in-end-requires-clause-in_front c).After-index-rows-at).in_front

pub slice_bounds-has_distinct_names-end : goal.slice_bounds-has_distinct_names-end
slice_bounds-has_distinct_names-end c =
    let rows = its_rows (goal.at.slice_bounds-has_distinct_names-end c).After-index-rows-at in
    omega (arith, rows.within, length-map row_of c.args.rows.now, c.attributes_end_in-end.ensures.before)

pub has_distinct_names-requires : goal.has_distinct_names-requires
has_distinct_names-requires c = places_rise c.args.rows.now (c.args.at + 1) c.attributes_end_in-end.result c.requires.numbered

pub returns-clause-distinct : goal.returns-clause-distinct
returns-clause-distinct c =
    names_at (map row_of c.args.rows.now) c.args.at _ (map name_of (slice_range c.args.rows.now (c.args.at + 1) c.attributes_end_in-end.result)) c.has_distinct_names.result
    (stop_is (goal.at.returns-clause-distinct c).After-index-rows-at) c.attributes_end_in-end.ensures.names c.has_distinct_names.ensures.distinct
