use Rattle.std.proofs.Common.{rules, ◌≡◌, ◌<◌, ◌+◌, ◌^◌, [], ◌∷◌, ◌++◌, length, string_bytes, ap, ◌∙◌, arith}
use Rattle.std.proofs.lemmas.Str.{IsUtf8-string_bytes}
use Rattle.xq_packed.specs.Packed.{Packed, row}
use Rattle.xq_packed.specs.declared.shapes.Shape.{Shape}
use Rattle.xq_packed.specs.private.Shapes.{value_end}
use Rattle.xq_packed.proofs.Standing.{IsPushed, push-keeps}
use Rattle.xq_packed.proofs.PackedRows.push_parts.Goals as goal
use Rattle.xq_packed.proofs.PackedRows.push_parts.Goals.{After-push_reserved}

-- what is kept then, and the rows
pushed : (c : After-push_reserved) → IsPushed (string_bytes c.self.inside.text) c.self.inside.names c.self.inside.shapes.items (string_bytes c.push_str.new.self) c.number_among.new.self c.push_reserved.new.self.items (row c.args.size c.args.level c.args.kind c.args.name.now c.args.value.now)
pushed c =
    let text = c.self.inside.text in
    let value = c.args.value.now in
    let s : Shape = record { size = c.args.size; name = c.in_ok-name.name; end_low = c.in_ok-end_low.end_low; end_high = c.in_ok-end_low.end_high; level = c.args.level; kind = c.args.kind } in
    let texts : string_bytes c.push_str.new.self ≡ string_bytes text ++ value = c.in_ok-push_str.ensures.bytes ∙ ap (λ t. t ++ value) c.reserve-2.ensures.bytes in
    let shapes : c.push_reserved.new.self.items ≡ c.self.inside.shapes.items ++ s ∷ [] = c.push_reserved.ensures.items ∙ ap (λ ss. ss ++ s ∷ []) c.reserve.ensures.items in
    let ends : value_end s ≡ length (string_bytes text) + length value = search (rules, c.in_ok-end_low.ensures.parts) in
    let count : c.len.result ≡ length c.self.inside.shapes.items = search (rules, c.len.ensures) in
    let room : length c.self.inside.shapes.items + 1 < 2 ^ 32 = omega (arith, count, c.if-len-ge-MOST_ROWS.false) in
    push-keeps (string_bytes text) value _ c.self.inside.names _ c.args.name.now c.self.inside.shapes.items _ s (IsUtf8-string_bytes text) c.utf8.value c.self.invariant texts c.in_ok-name.ensures.names shapes ends c.in_ok-name.ensures.number room

pub invariant_of-self-2 : goal.invariant_of-self-2
invariant_of-self-2 c = (pushed c).0

pub returns-clause-rows : goal.returns-clause-rows
returns-clause-rows c =
    (pushed c).1
    ∙ ap (λ (p : Packed). p.rows ++ row c.args.size c.args.level c.args.kind c.args.name.now c.args.value.now ∷ []) c.self.view_is
