use Rattle.std.proofs.Common.{rules, ◌≡◌, ◌<◌, ◌+◌, ◌^◌, [], ◌∷◌, map, length, string_bytes, refl, sym, ap, ◌∙◌, subst, arith}
use Rattle.std.specs.Prelude.{All}
use Rattle.std.specs.Vec.{with_items}
use Rattle.std.proofs.lemmas.Bool.{true≢false}
use Rattle.std.proofs.lemmas.List.{with_items_is}
use Rattle.xq_trees.specs.Tree.{most_levels}
use Rattle.xq_packed.specs.declared.shapes.Shape.{Shape}
use Rattle.xq_packed.specs.Packed.{Packed, row}
use Rattle.xq_packed.specs.Changes.{moved, AreMovable}
use Rattle.xq_packed.specs.private.Shapes.{sunk}
use Rattle.xq_packed.proofs.Changing.{IsRooted, rooted, sinkable-rows, sinkable-shapes}
use Rattle.xq_packed.proofs.PackedRows.put_root.Goals as goal
use Rattle.xq_packed.proofs.PackedRows.put_root.Goals.{In_ok-insert}

pub returns-then-not-may_sink-clause-want : goal.returns-then-not-may_sink-clause-want
returns-then-not-may_sink-clause-want c = λ may.
    (let text = string_bytes c.self.inside.text in
    let names = c.self.inside.names in
    let shapes = c.self.inside.shapes.items in
    let low : All (λ (s : Shape). s.level + 1 < most_levels) shapes = sinkable-shapes text names 0 shapes (subst (λ (p : Packed). AreMovable 0 1 p.rows) (sym c.self.view_is) may) in
    absurd (true≢false (sym (c.may_sink.ensures.1 (subst (All (λ (s : Shape). s.level + 1 < most_levels)) (sym c.deref.ensures.value) low)) ∙ c.if-not-may_sink.true)))

-- what is kept then, and the rows
with_root : (c : In_ok-insert) → IsRooted (string_bytes c.self.inside.text) c.self.inside.names c.self.inside.shapes.items c.number_among.new.self c.insert.new.self.items (row c.args.size 0 c.args.kind c.args.name.now [])
with_root c =
    let text = string_bytes c.self.inside.text in
    let names = c.self.inside.names in
    let shapes = c.self.inside.shapes.items in
    let s : Shape = record { size = c.args.size; name = c.in_ok-name.name; end_low = 0; end_high = 0; level = 0; kind = c.args.kind } in
    let long : length c.sink.new.shapes ≡ c.reserve.new.self.len = omega (arith, c.sink.auto.shapes, ap length c.deref_mut.ensures.value, c.reserve.new.self.ok.0) in
    let before : (with_items c.reserve.new.self c.sink.new.shapes).items ≡ map sunk shapes =
    with_items_is c.reserve.new.self c.sink.new.shapes long ∙ c.sink.ensures ∙ ap (map sunk) (c.deref_mut.ensures.value ∙ c.reserve.ensures.items) in
    let after : c.insert.new.self.items ≡ s ∷ map sunk shapes = c.in_ok-insert.ensures.items ∙ ap (λ ss. s ∷ ss) before in
    let count : c.len.result ≡ length shapes = search (rules, c.len.ensures) in
    let room : length shapes + 1 < 2 ^ 32 = omega (arith, count, c.if-len-ge-MOST_ROWS.false) in
    rooted text names shapes s c.args.name.now c.self.invariant (record { level = refl; end = refl }) c.number_among.new.self c.insert.new.self.items c.in_ok-name.ensures.names after c.in_ok-name.ensures.number room

pub invariant_of-self-2 : goal.invariant_of-self-2
invariant_of-self-2 c = (with_root c).0

pub returns-clause-rows : goal.returns-clause-rows
returns-clause-rows c =
    (with_root c).1
    ∙ ap (λ (p : Packed). row c.args.size 0 c.args.kind c.args.name.now [] ∷ map (moved 0 1) p.rows) c.self.view_is

pub returns-clause-fits : goal.returns-clause-fits
returns-clause-fits c =
    let text = string_bytes c.self.inside.text in
    let names = c.self.inside.names in
    let shapes = c.self.inside.shapes.items in
    let low : All (λ (s : Shape). s.level + 1 < most_levels) shapes = subst (All (λ (s : Shape). s.level + 1 < most_levels)) c.deref.ensures.value (c.may_sink.ensures.0 c.if-not-may_sink.false) in
    subst (λ (p : Packed). AreMovable 0 1 p.rows) c.self.view_is (sinkable-rows text names 0 shapes low)
