use Rattle.std.proofs.Common.{rules, ◌≡◌, ◌≤◌, ◌<◌, ◌+◌, ◌-◌, ◌^◌, ℕ, [], ◌++◌, map, take, length, min, string_bytes, refl, sym, ap, ◌∙◌, subst, arith}
use Rattle.std.specs.Prelude.{All, slice_range, IsCharBoundary}
use Rattle.std.proofs.lemmas.Str.{IsUtf8-string_bytes, IsCharBoundary-from_take}
use Rattle.std.proofs.lemmas.List.{append-nil, take_at}
use Rattle.xq_trees.specs.Tree.{most_levels}
use Rattle.xq_packed.specs.declared.shapes.Shape.{Shape}
use Rattle.xq_packed.specs.Packed.{Packed, with_names}
use Rattle.xq_packed.specs.Changes.{moved, AreMovable}
use Rattle.xq_packed.specs.private.Shapes.{last_end, value_start, text_between, rows_of_shapes, AreShapes}
use Rattle.xq_packed.specs.private.Copies.{IsReadable, AreMovedAfter, with_named}
use Rattle.xq_packed.proofs.Changing.{movable-rows, movable-shapes}
use Rattle.xq_packed.proofs.Copying.{with_named-rows}
use Rattle.xq_packed.proofs.Appending.{IsCut, IsRun, IsAppended, run-of, run-found, rows-take, start-cut, first-cut, readable, names-kept, run-appended}
use Rattle.xq_packed.proofs.PackedRows.append_run.Goals as goal
use Rattle.xq_packed.proofs.PackedRows.append_run.Goals.{After-start_at, After-truncate, In_ok-push_str}

-- # The run

high : (c : After-start_at) → c.min-high.result ≡ min c.args.high (length c.other.inside.shapes.items)
high c =
    let count : c.len.result ≡ length c.other.inside.shapes.items = search (rules, c.len.ensures) in
    c.min-high.ensures ∙ ap (min c.args.high) count

low_le : (c : After-start_at) → c.min-low.result ≤ c.min-high.result
low_le c = omega (arith, c.min-low.ensures)

found : (c : After-start_at) → IsRun (string_bytes c.other.inside.text) c.other.inside.names c.other.inside.shapes.items (slice_range c.other.inside.shapes.items c.min-low.result c.min-high.result) c.min-low.result c.min-high.result
found c =
    run-of (string_bytes c.other.inside.text) c.other.inside.names c.other.inside.shapes.items c.min-low.result c.min-high.result (low_le c) c.other.invariant.shapes

start : (c : After-start_at) → c.start_at-start.result ≡ value_start 0 c.other.inside.shapes.items c.min-low.result
start c = c.start_at-start.ensures ∙ ap (λ ss. value_start 0 ss c.min-low.result) c.deref-2.ensures.value

stop : (c : After-start_at) → c.start_at.result ≡ value_start 0 c.other.inside.shapes.items c.min-high.result
stop c = c.start_at.ensures ∙ ap (λ ss. value_start 0 ss c.min-high.result) c.deref-4.ensures.value

cut_at : (c : After-start_at) (place at : ℕ) → at ≡ value_start 0 c.other.inside.shapes.items place → IsCut (string_bytes c.other.inside.text) at
cut_at c place at e =
    let o = string_bytes c.other.inside.text in
    subst (IsCut o) (sym e) (start-cut o c.other.inside.names 0 c.other.inside.shapes.items place (first-cut o) c.other.invariant.shapes)

-- its rows are those that are asked for
asked : (c : After-start_at) → slice_range c.args.other.now.rows c.args.low c.args.high ≡ rows_of_shapes (string_bytes c.other.inside.text) c.other.inside.names (value_start 0 c.other.inside.shapes.items c.min-low.result) (slice_range c.other.inside.shapes.items c.min-low.result c.min-high.result)
asked c =
    run-found (string_bytes c.other.inside.text) c.other.inside.names c.other.inside.shapes.items c.args.other.now c.args.low c.args.high (length c.other.inside.shapes.items) c.min-low.result c.min-high.result c.other.invariant.shapes c.other.view_is refl (high c) c.min-low.ensures

-- the run as it is passed on
passed : (c : After-start_at) → slice_range c.deref.result.now c.min-low.result c.min-high.result ≡ slice_range c.other.inside.shapes.items c.min-low.result c.min-high.result
passed c = ap (λ ss. slice_range ss c.min-low.result c.min-high.result) c.deref.ensures.value

boundary : (c : After-start_at) (at : ℕ) → IsCut (string_bytes c.other.inside.text) at → IsCharBoundary c.deref-3.result.now at
boundary c at cut =
    subst (λ s. IsCharBoundary s at) (sym c.deref-3.ensures) (IsCharBoundary-from_take (string_bytes c.other.inside.text) at (IsUtf8-string_bytes c.other.inside.text) cut.within cut.cut)

pub range-values-requires-clause-start_le_end : goal.range-values-requires-clause-start_le_end
range-values-requires-clause-start_le_end c =
    omega (arith, (found c).rises, start c, stop c)

pub range-values-requires-clause-start_boundary : goal.range-values-requires-clause-start_boundary
range-values-requires-clause-start_boundary c above = boundary c c.start_at-start.result (cut_at c c.min-low.result c.start_at-start.result (start c))

pub range-values-requires-clause-end_boundary : goal.range-values-requires-clause-end_boundary
range-values-requires-clause-end_boundary c = boundary c c.start_at.result (cut_at c c.min-high.result c.start_at.result (stop c))

pub append_shapes-done-requires : goal.append_shapes-done-requires
append_shapes-done-requires c =
    let at = (goal.at.append_shapes-done-requires c).After-start_at in
    let o = string_bytes c.other.inside.text in
    let others = c.other.inside.names in
    let run = slice_range c.other.inside.shapes.items c.min-low.result c.min-high.result in
    let all : All (IsReadable others c.start_at-start.result) run = readable o others c.start_at-start.result (value_start 0 c.other.inside.shapes.items c.min-low.result) run (omega (arith, start at)) (found at).stand in
    subst (All (IsReadable others c.start_at-start.result)) (sym (passed at)) all

-- # Where it is refused

refused : (c : After-truncate) → IsAppended (string_bytes c.reserve-2.new.self) c.append_shapes-done.new.names c.truncate.new.self.items (rows_of_shapes (string_bytes c.self.inside.text) c.self.inside.names 0 c.self.inside.shapes.items) []
refused c =
    let text = string_bytes c.self.inside.text in
    let names = c.self.inside.names in
    let mine = c.self.inside.shapes.items in
    let others = c.other.inside.names in
    let later = c.append_shapes-done.new.names in
    let some = c.in-Err.ensures.some in
    let more = c.append_shapes-done.ensures.front in
    let count : length c.reserve.new.self.items ≡ c.len-count.result = sym (search (rules, c.len-count.ensures)) in
    let back : c.truncate.new.self.items ≡ mine =
    c.truncate.ensures.items ∙ ap (take c.len-count.result) more.1 ∙ take_at c.reserve.new.self.items more.0 c.len-count.result count ∙ c.reserve.ensures.items in
    let rows = rows_of_shapes text names 0 mine in
    let kept : IsAppended text later mine rows [] = names-kept text others names later mine (take some.0 (slice_range c.deref.result.now c.min-low.result c.min-high.result)) c.self.invariant some.1 in
    subst (λ t. IsAppended t later c.truncate.new.self.items rows []) (sym c.reserve-2.ensures.bytes)
    (subst (λ ss. IsAppended text later ss rows []) (sym back) kept)

pub invariant_of-self-in-Err : goal.invariant_of-self-in-Err
invariant_of-self-in-Err c = (refused c).kept

pub returns-in-Err-clause-err : goal.returns-in-Err-clause-err
returns-in-Err-clause-err c =
    (refused c).rows ∙ append-nil (rows_of_shapes (string_bytes c.self.inside.text) c.self.inside.names 0 c.self.inside.shapes.items)
    ∙ ap (λ (p : Packed). p.rows) c.self.view_is

pub returns-in-Err-clause-some : goal.returns-in-Err-clause-some
returns-in-Err-clause-some c =
    let at = (goal.at.returns-in-Err-clause-some c).After-start_at in
    let o = string_bytes c.other.inside.text in
    let names = c.self.inside.names in
    let others = c.other.inside.names in
    let from = value_start 0 c.other.inside.shapes.items c.min-low.result in
    let run = slice_range c.other.inside.shapes.items c.min-low.result c.min-high.result in
    let some = c.in-Err.ensures.some in (
      some.0,
      some.1 ∙ ap (λ ss. with_named others names (take some.0 ss)) (passed at)
          ∙ with_named-rows o others names from (take some.0 run)
          ∙ ap (with_names names) (sym (rows-take o others from run some.0) ∙ ap (take some.0) (sym (asked at)))
          ∙ ap (λ (p : Packed). with_names p.names (take some.0 (slice_range c.args.other.now.rows c.args.low c.args.high))) c.self.view_is,
    )

-- which levels may be moved
movable : (c : After-start_at) → AreMovable c.args.from c.args.to (slice_range c.args.other.now.rows c.args.low c.args.high) → All (λ (s : Shape). s.level - c.args.from + c.args.to < most_levels) (slice_range c.deref.result.now c.min-low.result c.min-high.result)
movable c may =
    let o = string_bytes c.other.inside.text in
    let others = c.other.inside.names in
    let from = value_start 0 c.other.inside.shapes.items c.min-low.result in
    let run = slice_range c.other.inside.shapes.items c.min-low.result c.min-high.result in
    subst (All (λ (s : Shape). s.level - c.args.from + c.args.to < most_levels)) (sym (passed c))
    (movable-shapes o others c.args.from c.args.to from run (subst (AreMovable c.args.from c.args.to) (asked c) may))

pub returns-in-Err-clause-want : goal.returns-in-Err-clause-want
returns-in-Err-clause-want c = λ may. c.in-Err.ensures.want (movable (goal.at.returns-in-Err-clause-want c).After-start_at may)

-- # Where it was added

added : (c : In_ok-push_str) → IsAppended (string_bytes c.push_str.new.self) c.append_shapes-done.new.names c.append_shapes-done.new.shapes.items (rows_of_shapes (string_bytes c.self.inside.text) c.self.inside.names 0 c.self.inside.shapes.items) (map (moved c.args.from c.args.to) (rows_of_shapes (string_bytes c.other.inside.text) c.other.inside.names c.start_at-start.result (slice_range c.other.inside.shapes.items c.min-low.result c.min-high.result)))
added c =
    let at = (goal.at.invariant_of-self-2 c).After-start_at in
    let text = string_bytes c.self.inside.text in
    let names = c.self.inside.names in
    let mine = c.self.inside.shapes.items in
    let o = string_bytes c.other.inside.text in
    let others = c.other.inside.names in
    let later = c.append_shapes-done.new.names in
    let run = slice_range c.other.inside.shapes.items c.min-low.result c.min-high.result in
    let low = c.start_at-start.result in
    let high = c.start_at.result in
    let is = found at in
    let stand : AreShapes o others low run = subst (λ i. AreShapes o others i run) (sym (start at)) is.stand in
    let ends : last_end low run ≡ high = ap (λ i. last_end i run) (start at) ∙ is.end ∙ sym (stop at) in
    let piece : string_bytes c.push_str.new.self ≡ text ++ text_between o low high =
    c.in_ok-push_str.ensures.bytes ∙ ap (λ t. t ++ c.range-values.result.now) c.reserve-2.ensures.bytes
    ∙ ap (λ t. text ++ t) (c.range-values.ensures.value ∙ ap (λ t. slice_range t low high) c.deref-3.ensures) in
    let named : later ≡ with_named others names run = c.in_default.ensures.names ∙ ap (with_named others names) (passed at) in
    let base : c.len-3.result ≡ length text = search (rules, c.len-3.ensures, ap length c.reserve-2.ensures.bytes) in
    let after : AreMovedAfter others later low (length text) c.args.from c.args.to mine run c.append_shapes-done.new.shapes.items =
    subst (λ ss. AreMovedAfter others later low (length text) c.args.from c.args.to mine ss c.append_shapes-done.new.shapes.items) (passed at)
    (subst (λ ss. AreMovedAfter others later low (length text) c.args.from c.args.to ss (slice_range c.deref.result.now c.min-low.result c.min-high.result) c.append_shapes-done.new.shapes.items) c.reserve.ensures.items
    (subst (λ n. AreMovedAfter others later low n c.args.from c.args.to c.reserve.new.self.items (slice_range c.deref.result.now c.min-low.result c.min-high.result) c.append_shapes-done.new.shapes.items) base c.in_default.ensures.moved)) in
    let count : c.len-2.result ≡ length mine = search (rules, c.len-2.ensures) in
    let room : length mine + length run < 2 ^ 32 = omega (arith, count, c.if-run-len.false, ap length (passed at), c.self.invariant.room) in
    run-appended text o others names mine run low high c.args.from c.args.to (IsUtf8-string_bytes c.self.inside.text) (IsUtf8-string_bytes c.other.inside.text) c.self.invariant (cut_at at c.min-low.result low (start at)) (cut_at at c.min-high.result high (stop at)) stand ends (string_bytes c.push_str.new.self) later c.append_shapes-done.new.shapes.items piece named after room

pub invariant_of-self-2 : goal.invariant_of-self-2
invariant_of-self-2 c = (added c).kept

pub returns-clause-rows : goal.returns-clause-rows
returns-clause-rows c =
    let at = (goal.at.invariant_of-self-2 c).After-start_at in
    let o = string_bytes c.other.inside.text in
    let others = c.other.inside.names in
    let run = slice_range c.other.inside.shapes.items c.min-low.result c.min-high.result in
    let rows = rows_of_shapes (string_bytes c.self.inside.text) c.self.inside.names 0 c.self.inside.shapes.items in
    (added c).rows
    ∙ ap (λ i. rows ++ map (moved c.args.from c.args.to) (rows_of_shapes o others i run)) (start at)
    ∙ ap (λ rs. rows ++ map (moved c.args.from c.args.to) rs) (sym (asked at))
    ∙ ap (λ (p : Packed). p.rows ++ map (moved c.args.from c.args.to) (slice_range c.args.other.now.rows c.args.low c.args.high)) c.self.view_is

pub returns-clause-names : goal.returns-clause-names
returns-clause-names c =
    let at = (goal.at.invariant_of-self-2 c).After-start_at in
    let o = string_bytes c.other.inside.text in
    let others = c.other.inside.names in
    let names = c.self.inside.names in
    let from = value_start 0 c.other.inside.shapes.items c.min-low.result in
    let run = slice_range c.other.inside.shapes.items c.min-low.result c.min-high.result in
    c.in_default.ensures.names ∙ ap (with_named others names) (passed at)
    ∙ with_named-rows o others names from run
    ∙ ap (with_names names) (sym (asked at))
    ∙ ap (λ (p : Packed). with_names p.names (slice_range c.args.other.now.rows c.args.low c.args.high)) c.self.view_is

pub returns-clause-fit : goal.returns-clause-fit
returns-clause-fit c =
    let at = (goal.at.invariant_of-self-2 c).After-start_at in
    let o = string_bytes c.other.inside.text in
    let others = c.other.inside.names in
    let from = value_start 0 c.other.inside.shapes.items c.min-low.result in
    let run = slice_range c.other.inside.shapes.items c.min-low.result c.min-high.result in
    let low : All (λ (s : Shape). s.level - c.args.from + c.args.to < most_levels) run = subst (All (λ (s : Shape). s.level - c.args.from + c.args.to < most_levels)) (passed at) c.in_default.ensures.fit in
    subst (AreMovable c.args.from c.args.to) (sym (asked at)) (movable-rows o others c.args.from c.args.to from run low)
