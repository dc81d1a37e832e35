use Rattle.std.proofs.Common.{rules, ◌≡◌, refl, take, length, min, string_bytes, ap, ◌∙◌}
use Rattle.std.proofs.lemmas.Str.{IsUtf8-string_bytes}
use Rattle.xq_packed.specs.private.Shapes.{value_start}
use Rattle.xq_packed.proofs.Repeating.{IsShortened, boundary, shortened-to}
use Rattle.xq_packed.proofs.PackedRows.truncate.Goals as goal
use Rattle.xq_packed.proofs.PackedRows.truncate.Goals.{After-start_at-end, After-truncate-2}

end : (c : After-start_at-end) → c.start_at-end.result ≡ value_start 0 c.self.inside.shapes.items c.min-count.result
end c = c.start_at-end.ensures ∙ ap (λ ss. value_start 0 ss c.min-count.result) c.deref.ensures.value

pub truncate-requires-2 : goal.truncate-requires-2
truncate-requires-2 c = λ _.
    (let text = string_bytes c.self.inside.text in
    let b = boundary text text c.self.inside.names c.self.inside.shapes.items c.min-count.result c.start_at-end.result (IsUtf8-string_bytes c.self.inside.text) c.self.invariant.shapes refl (end (goal.at.truncate-requires-2 c).After-start_at-end) in
    (b.0, λ _. b.1))

fewer : (c : After-truncate-2) → IsShortened (string_bytes c.truncate-2.new.self) c.self.inside.names c.truncate.new.self.items (take c.args.count c.args.self.now.rows)
fewer c =
    let mine = c.self.inside.shapes.items in
    let count : c.len.result ≡ length mine = search (rules, c.len.ensures) in
    shortened-to (string_bytes c.self.inside.text) (string_bytes c.truncate-2.new.self) c.self.inside.names mine c.truncate.new.self.items c.args.self.now c.args.count c.min-count.result c.start_at-end.result c.self.invariant c.self.view_is (c.min-count.ensures ∙ ap (min c.args.count) count) (end (goal.at.invariant_of-self c).After-start_at-end) c.truncate-2.ensures.bytes c.truncate.ensures.items

pub invariant_of-self : goal.invariant_of-self
invariant_of-self c = (fewer c).kept

pub returns-clause-rows : goal.returns-clause-rows
returns-clause-rows c = (fewer c).rows
