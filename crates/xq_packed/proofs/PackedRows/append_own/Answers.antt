use Rattle.std.proofs.Common.{rules, ◌≡◌, ◌≤◌, ◌<◌, ◌+◌, ◌-◌, ◌^◌, ◌++◌, ℕ, map, drop, length, string_bytes, sym, ap, ◌∙◌, subst, arith}
use Rattle.std.specs.Prelude.{All, slice_range, IsCharBoundary}
use Rattle.std.proofs.lemmas.Str.{IsUtf8-string_bytes}
use Rattle.std.proofs.lemmas.List.{length-take}
use Rattle.std.proofs.lemmas.List.Elements.{All-weaker}
use Rattle.xq_trees.specs.Tree.{most_levels}
use Rattle.xq_packed.specs.declared.shapes.Shape.{Shape}
use Rattle.xq_packed.specs.Packed.{Packed}
use Rattle.xq_packed.specs.Changes.{moved, AreMovable}
use Rattle.xq_packed.specs.private.Shapes.{value_end, last_end, value_start, text_between, rows_of_shapes, AreShapes}
use Rattle.xq_packed.specs.private.Copies.{IsReadable, AreShiftedAfter}
use Rattle.xq_packed.proofs.Changing.{movable-rows, movable-shapes}
use Rattle.xq_packed.proofs.Appending.{IsCut, IsRun, IsAppended, run-of, run-found, start-cut, first-cut, readable, run-repeated}
use Rattle.xq_packed.proofs.Repeating.{shifted-moved, boundary}
use Rattle.xq_packed.proofs.PackedRows.append_own.Goals as goal
use Rattle.xq_packed.proofs.PackedRows.append_own.Goals.{After-start_at-end, In_ok-reserve-2, In_ok-extend_from_within}

-- # The run

found : (c : After-start_at-end) → IsRun (string_bytes c.self.inside.text) c.self.inside.names c.self.inside.shapes.items (slice_range c.self.inside.shapes.items c.min-low.result c.min-high.result) c.min-low.result c.min-high.result
found c =
    run-of (string_bytes c.self.inside.text) c.self.inside.names c.self.inside.shapes.items c.min-low.result c.min-high.result (omega (arith, c.min-low.ensures)) c.self.invariant.shapes

start : (c : After-start_at-end) → c.start_at-start.result ≡ value_start 0 c.self.inside.shapes.items c.min-low.result
start c = c.start_at-start.ensures ∙ ap (λ ss. value_start 0 ss c.min-low.result) c.deref.ensures.value

stop : (c : After-start_at-end) → c.start_at-end.result ≡ value_start 0 c.self.inside.shapes.items c.min-high.result
stop c = c.start_at-end.ensures ∙ ap (λ ss. value_start 0 ss c.min-high.result) c.deref-2.ensures.value

rises : (c : After-start_at-end) → c.start_at-start.result ≤ c.start_at-end.result
rises c = omega (arith, (found c).rises, start c, stop c)

-- its rows are those that are asked for
asked : (c : After-start_at-end) → slice_range c.args.self.now.rows c.args.low c.args.high ≡ rows_of_shapes (string_bytes c.self.inside.text) c.self.inside.names (value_start 0 c.self.inside.shapes.items c.min-low.result) (slice_range c.self.inside.shapes.items c.min-low.result c.min-high.result)
asked c =
    let count : c.len-count.result ≡ length c.self.inside.shapes.items = search (rules, c.len-count.ensures) in
    run-found (string_bytes c.self.inside.text) c.self.inside.names c.self.inside.shapes.items c.args.self.now c.args.low c.args.high c.len-count.result c.min-low.result c.min-high.result c.self.invariant.shapes c.self.view_is count c.min-high.ensures c.min-low.ensures

can_read : (c : After-start_at-end) → All (IsReadable c.self.inside.names c.start_at-start.result) (slice_range c.self.inside.shapes.items c.min-low.result c.min-high.result)
can_read c =
    readable (string_bytes c.self.inside.text) c.self.inside.names c.start_at-start.result (value_start 0 c.self.inside.shapes.items c.min-low.result) (slice_range c.self.inside.shapes.items c.min-low.result c.min-high.result) (omega (arith, start c)) (found c).stand

pub overflow_sub-end : goal.overflow_sub-end
overflow_sub-end c = rises (goal.at.overflow_sub-end c).After-start_at-end

pub repeat_shapes-done-requires-clause-ends : goal.repeat_shapes-done-requires-clause-ends
repeat_shapes-done-requires-clause-ends c =
    let names = c.self.inside.names in
    let low = c.start_at-start.result in
    let all = can_read (goal.at.repeat_shapes-done-requires-clause-ends c).After-start_at-end in
    subst (λ ss. All (λ (s : Shape). low ≤ value_end s) (slice_range ss c.min-low.result c.min-high.result)) (sym c.reserve.ensures.items)
    (All-weaker (IsReadable names low) (λ (s : Shape). low ≤ value_end s) (λ s r. r.0) (slice_range c.self.inside.shapes.items c.min-low.result c.min-high.result) all)

pub returns-in-Err-clause-want : goal.returns-in-Err-clause-want
returns-in-Err-clause-want c = λ may.
    (let text = string_bytes c.self.inside.text in
    let names = c.self.inside.names in
    let from = value_start 0 c.self.inside.shapes.items c.min-low.result in
    let run = slice_range c.self.inside.shapes.items c.min-low.result c.min-high.result in
    let is = asked (goal.at.returns-in-Err-clause-want c).After-start_at-end in
    let low : All (λ (s : Shape). s.level - c.args.from + c.args.to < most_levels) run = movable-shapes text names c.args.from c.args.to from run (subst (AreMovable c.args.from c.args.to) is may) in
    c.in-Err.ensures.want (subst (λ ss. All (λ (s : Shape). s.level - c.args.from + c.args.to < most_levels) (slice_range ss c.min-low.result c.min-high.result)) (sym c.reserve.ensures.items) low))

-- # The text

may_cut : (c : In_ok-reserve-2) (count at : ℕ) → at ≡ value_start 0 c.self.inside.shapes.items count → IsCharBoundary (string_bytes c.reserve-2.new.self) at
may_cut c count at e =
    boundary (string_bytes c.self.inside.text) (string_bytes c.reserve-2.new.self) c.self.inside.names c.self.inside.shapes.items count at (IsUtf8-string_bytes c.self.inside.text) c.self.invariant.shapes c.reserve-2.ensures.bytes e

pub extend_from_within-requires-clause-start_le_end : goal.extend_from_within-requires-clause-start_le_end
extend_from_within-requires-clause-start_le_end c = rises (goal.at.extend_from_within-requires-clause-start_le_end c).After-start_at-end

pub extend_from_within-requires-clause-in_bounds : goal.extend_from_within-requires-clause-in_bounds
extend_from_within-requires-clause-in_bounds c =
    let at = goal.at.extend_from_within-requires-clause-in_bounds c in
    let b = may_cut at.In_ok-reserve-2 c.min-high.result c.start_at-end.result (stop at.After-start_at-end) in
    search (rules, b.0)

pub extend_from_within-requires-clause-start_boundary : goal.extend_from_within-requires-clause-start_boundary
extend_from_within-requires-clause-start_boundary c =
    let at = goal.at.extend_from_within-requires-clause-start_boundary c in
    let b = may_cut at.In_ok-reserve-2 c.min-low.result c.start_at-start.result (start at.After-start_at-end) in
    (b.0, λ _. b.1)

pub extend_from_within-requires-clause-end_boundary : goal.extend_from_within-requires-clause-end_boundary
extend_from_within-requires-clause-end_boundary c =
    let at = goal.at.extend_from_within-requires-clause-end_boundary c in
    let b = may_cut at.In_ok-reserve-2 c.min-high.result c.start_at-end.result (stop at.After-start_at-end) in
    (b.0, λ _. b.1)

-- # Where it was added

added : (c : In_ok-extend_from_within) → IsAppended (string_bytes c.extend_from_within.new.self) c.self.inside.names c.repeat_shapes-done.new.shapes.items (rows_of_shapes (string_bytes c.self.inside.text) c.self.inside.names 0 c.self.inside.shapes.items) (map (moved c.args.from c.args.to) (rows_of_shapes (string_bytes c.self.inside.text) c.self.inside.names c.start_at-start.result (slice_range c.self.inside.shapes.items c.min-low.result c.min-high.result)))
added c =
    let at = (goal.at.invariant_of-self-2 c).After-start_at-end in
    let text = string_bytes c.self.inside.text in
    let names = c.self.inside.names in
    let mine = c.self.inside.shapes.items in
    let run = slice_range mine c.min-low.result c.min-high.result in
    let low = c.start_at-start.result in
    let high = c.start_at-end.result in
    let is = found at in
    let stand : AreShapes text names low run = subst (λ i. AreShapes text names i run) (sym (start at)) is.stand in
    let ends : last_end low run ≡ high = ap (λ i. last_end i run) (start at) ∙ is.end ∙ sym (stop at) in
    let piece : string_bytes c.extend_from_within.new.self ≡ text ++ text_between text low high =
    c.in_ok-extend_from_within.ensures.bytes ∙ ap (λ t. t ++ text_between t low high) c.reserve-2.ensures.bytes in
    let base : c.len.result ≡ length text = search (rules, c.len.ensures, ap length c.reserve-2.ensures.bytes) in
    let after : AreShiftedAfter low (length text) c.args.from c.args.to mine run c.repeat_shapes-done.new.shapes.items =
    subst (λ ss. AreShiftedAfter low (length text) c.args.from c.args.to ss (slice_range ss c.min-low.result c.min-high.result) c.repeat_shapes-done.new.shapes.items) c.reserve.ensures.items
    (subst (λ n. AreShiftedAfter low n c.args.from c.args.to c.reserve.new.self.items (slice_range c.reserve.new.self.items c.min-low.result c.min-high.result) c.repeat_shapes-done.new.shapes.items) base c.in_default.ensures.moved) in
    let count : c.len-count.result ≡ length mine = search (rules, c.len-count.ensures) in
    let room : length mine + length run < 2 ^ 32 = omega (arith, count, c.if-high-low.false, length-take (c.min-high.result - c.min-low.result) (drop c.min-low.result mine), c.self.invariant.room) in
    let cut : IsCut text low = subst (IsCut text) (sym (start at)) (start-cut text names 0 mine c.min-low.result (first-cut text) c.self.invariant.shapes) in
    let end : IsCut text high = subst (IsCut text) (sym (stop at)) (start-cut text names 0 mine c.min-high.result (first-cut text) c.self.invariant.shapes) in
    run-repeated text text names names mine run low high c.args.from c.args.to (IsUtf8-string_bytes c.self.inside.text) (IsUtf8-string_bytes c.self.inside.text) c.self.invariant cut end stand ends (string_bytes c.extend_from_within.new.self) c.repeat_shapes-done.new.shapes.items after.0 piece after.1 (shifted-moved names low (length text) c.args.from c.args.to run after.0 (can_read at) after.2) room

pub invariant_of-self-2 : goal.invariant_of-self-2
invariant_of-self-2 c = (added c).kept

pub returns-clause-rows : goal.returns-clause-rows
returns-clause-rows c =
    let at = (goal.at.returns-clause-rows c).After-start_at-end in
    let text = string_bytes c.self.inside.text in
    let names = c.self.inside.names in
    let run = slice_range c.self.inside.shapes.items c.min-low.result c.min-high.result in
    let rows = rows_of_shapes text names 0 c.self.inside.shapes.items in
    (added c).rows
    ∙ ap (λ i. rows ++ map (moved c.args.from c.args.to) (rows_of_shapes text names i run)) (start at)
    ∙ ap (λ rs. rows ++ map (moved c.args.from c.args.to) rs) (sym (asked at))
    ∙ ap (λ (p : Packed). p.rows ++ map (moved c.args.from c.args.to) (slice_range c.args.self.now.rows c.args.low c.args.high)) c.self.view_is

pub returns-clause-fit : goal.returns-clause-fit
returns-clause-fit c =
    let text = string_bytes c.self.inside.text in
    let names = c.self.inside.names in
    let from = value_start 0 c.self.inside.shapes.items c.min-low.result in
    let run = slice_range c.self.inside.shapes.items c.min-low.result c.min-high.result in
    let low : All (λ (s : Shape). s.level - c.args.from + c.args.to < most_levels) run = subst (λ ss. All (λ (s : Shape). s.level - c.args.from + c.args.to < most_levels) (slice_range ss c.min-low.result c.min-high.result)) c.reserve.ensures.items c.in_default.ensures.fit in
    subst (AreMovable c.args.from c.args.to) (sym (asked (goal.at.returns-clause-fit c).After-start_at-end)) (movable-rows text names c.args.from c.args.to from run low)
