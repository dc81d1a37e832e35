use Rattle.std.proofs.Common.{rules, ◌↔◌, ◌≤◌, ◌+◌, map, ap, arith}
use Rattle.std.specs.Prelude.{slice_range, IsTrue}
use Rattle.std.specs.List.{IsDistinct}
use Rattle.std.specs.Str.{bytes_eq}
use Rattle.xq_trees.specs.Rows.{row_name}
use Rattle.xq_trees.specs.private.Checks.{IsNamedAt}
use Rattle.xq_trees.proofs.AttributeRuns.{below, names_at, if_ok}
use Rattle.xq_trees.proofs.encodings.has_distinct_attributes.Goals as goal

pub overflow_add-from : goal.overflow_add-from
overflow_add-from g c =
    let fits : c.args.at + 1 ≤ 18446744073709551615 = omega (arith, c.requires.at_in, c.requires.room) in
    search (rules, fits)

pub overflow_add-from-2 : goal.overflow_add-from-2
overflow_add-from-2 g c =
    let b = below (g.R.TreeRows.listed c.args.rows.now) c.args.at (c.args.at + 1 + c.size.result) c.requires.at_in (ap (λ n. c.args.at + 1 + n) c.size.ensures) c.requires.checked in
    let fits : c.args.at + 1 + c.size.result ≤ 18446744073709551615 = omega (arith, b.within, c.requires.room) in
    search (rules, fits)

pub attributes_end-end-requires-clause-within : goal.attributes_end-end-requires-clause-within
attributes_end-end-requires-clause-within g c =
    (below (g.R.TreeRows.listed c.args.rows.now) c.args.at (c.args.at + 1 + c.size.result) c.requires.at_in (ap (λ n. c.args.at + 1 + n) c.size.ensures) c.requires.checked).within

pub attributes_end-end-requires-clause-checked : goal.attributes_end-end-requires-clause-checked
attributes_end-end-requires-clause-checked g c =
    (below (g.R.TreeRows.listed c.args.rows.now) c.args.at (c.args.at + 1 + c.size.result) c.requires.at_in (ap (λ n. c.args.at + 1 + n) c.size.ensures) c.requires.checked).checked

pub attributes_end-end-requires-clause-in_front : goal.attributes_end-end-requires-clause-in_front
attributes_end-end-requires-clause-in_front g c =
    (below (g.R.TreeRows.listed c.args.rows.now) c.args.at (c.args.at + 1 + c.size.result) c.requires.at_in (ap (λ n. c.args.at + 1 + n) c.size.ensures) c.requires.checked).in_front

pub has_distinct_names-requires-clause-within : goal.has_distinct_names-requires-clause-within
has_distinct_names-requires-clause-within g c =
    let b = below (g.R.TreeRows.listed c.args.rows.now) c.args.at (c.args.at + 1 + c.size.result) c.requires.at_in (ap (λ n. c.args.at + 1 + n) c.size.ensures) c.requires.checked in
    omega (arith, b.within, c.attributes_end-end.ensures.before)

pub returns-clause-distinct : goal.returns-clause-distinct
returns-clause-distinct g c =
    let rs = g.R.TreeRows.listed c.args.rows.now in
    let stop = c.args.at + 1 + c.size.result in
    let end = c.attributes_end-end.result in
    let names = map row_name (slice_range rs (c.args.at + 1) end) in
    if_ok (λ d. IsTrue d ↔ IsDistinct bytes_eq names) (λ d. IsTrue d ↔ IsNamedAt rs c.args.at)
    (λ d h. names_at rs c.args.at stop names d (ap (λ n. c.args.at + 1 + n) c.size.ensures) c.attributes_end-end.ensures.names h)
    c.has_distinct_names.result c.has_distinct_names.ensures.distinct
