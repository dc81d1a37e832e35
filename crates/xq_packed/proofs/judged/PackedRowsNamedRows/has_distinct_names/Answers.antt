use Rattle.std.proofs.Common.{rules, ◌≡◌, ◌↔◌, ◌≤◌, List, Bool, true, map, length, string_bytes, refl, sym, ap, ◌∙◌, subst, arith}
use Rattle.std.specs.Prelude.{bytes_eq, nat_eq, IsTrue, slice_range}
use Rattle.std.specs.List.{IsDistinct}
use Rattle.xq_trees.specs.Rows.{row_name}
use Rattle.xq_packed.specs.declared.shapes.Shape.{Shape}
use Rattle.xq_packed.specs.Packed.{Packed}
use Rattle.xq_packed.specs.private.Shapes.{value_start, rows_of_shapes, number_of}
use Rattle.xq_packed.proofs.Standing.{rows-length}
use Rattle.xq_packed.proofs.Appending.{run-of}
use Rattle.xq_packed.proofs.Judging.{distinct-rows, if_ok}
use Rattle.xq_packed.proofs.judged.PackedRowsNamedRows.has_distinct_names.Goals as goal
use Rattle.xq_packed.proofs.judged.PackedRowsNamedRows.has_distinct_names.Goals.{After-deref}

within : (c : After-deref) → c.args.high ≤ length c.deref.result.now
within c =
    let text = string_bytes c.self.inside.text in
    let names = c.self.inside.names in
    let count = ap (λ (p : Packed). length p.rows) c.self.view_is in
    omega (arith, c.requires.within, count, rows-length text names 0 c.self.inside.shapes.items, ap length c.deref.ensures.value)

-- an answer on the numbers is one on the names
told : (c : After-deref) (r : Bool) → IsTrue r ↔ IsDistinct nat_eq (map number_of (slice_range c.deref.result.now c.args.low c.args.high)) → IsTrue r ↔ IsDistinct bytes_eq (map row_name (slice_range c.args.self.now.rows c.args.low c.args.high))
told c r h =
    let text = string_bytes c.self.inside.text in
    let names = c.self.inside.names in
    let shapes = c.self.inside.shapes.items in
    let run = slice_range shapes c.args.low c.args.high in
    let is = run-of text names shapes c.args.low c.args.high c.requires.rises c.self.invariant.shapes in
    let numbers : IsTrue r ↔ IsDistinct nat_eq (map number_of run) = subst (λ (ss : List Shape). IsTrue r ↔ IsDistinct nat_eq (map number_of (slice_range ss c.args.low c.args.high))) c.deref.ensures.value h in
    let rows : slice_range c.args.self.now.rows c.args.low c.args.high ≡ rows_of_shapes text names (value_start 0 shapes c.args.low) run =
    ap (λ (p : Packed). slice_range p.rows c.args.low c.args.high) (sym c.self.view_is) ∙ is.rows in
    distinct-rows text names c.allocator-alloc.ensures (value_start 0 shapes c.args.low) run (slice_range c.args.self.now.rows c.args.low c.args.high) r is.stand rows numbers

pub offset_bounds-deref-low : goal.offset_bounds-deref-low
offset_bounds-deref-low c =
    let le : c.args.low ≤ length c.deref.result.now = omega (arith, c.requires.rises, within c) in
    search (rules, le)

pub slice_bounds-run-end : goal.slice_bounds-run-end
slice_bounds-run-end c =
    let le : c.args.high ≤ length c.deref.result.now = within c in
    omega (arith, le, c.requires.rises)

pub returns-then-numbers_ascend-clause-distinct : goal.returns-then-numbers_ascend-clause-distinct
returns-then-numbers_ascend-clause-distinct c =
    told (goal.at.returns-then-numbers_ascend-clause-distinct c).After-deref true (λ t. c.numbers_ascend.ensures c.if-numbers_ascend.true, λ d. refl)

pub returns-clause-distinct : goal.returns-clause-distinct
returns-clause-distinct c =
    let at = (goal.at.returns-clause-distinct c).After-deref in
    if_ok (λ r. IsTrue r ↔ IsDistinct nat_eq (map number_of (slice_range c.deref.result.now c.args.low c.args.high))) (λ r. IsTrue r ↔ IsDistinct bytes_eq (map row_name (slice_range c.args.self.now.rows c.args.low c.args.high)))
    (told at) c.are_numbers_distinct.result c.are_numbers_distinct.ensures.distinct

pub returns-then-run-le-FEW-clause-distinct : goal.returns-then-run-le-FEW-clause-distinct
returns-then-run-le-FEW-clause-distinct c =
    told (goal.at.returns-then-run-le-FEW-clause-distinct c).After-deref c.are_few_distinct.result c.are_few_distinct.ensures
