use Rattle.std.proofs.Common.{rules, ◌≡◌, ◌+◌, ◌-◌, suc, ◌++◌, length, set, get_or, string_bytes, sym, ap, ◌∙◌, subst, arith}
use Rattle.std.proofs.lemmas.Str.{IsUtf8-string_bytes}
use Rattle.xq_packed.specs.declared.shapes.Shape.{Shape}
use Rattle.xq_packed.specs.Packed.{Packed}
use Rattle.xq_packed.specs.Changes.{with_longer_last}
use Rattle.xq_packed.specs.private.Shapes.{value_end, rows_of_shapes}
use Rattle.xq_packed.proofs.Changing.{IsAlike, kept-longer, IsLonger-kept}
use Rattle.xq_packed.proofs.PackedRows.extend_last.Goals as goal
use Rattle.xq_packed.proofs.PackedRows.extend_last.Goals.{After-self-1}

-- what is kept then, and the rows
longer_one : (c : After-self-1) → IsLonger-kept (string_bytes c.push_str.new.self) c.self.inside.names (set c.self.inside.shapes.items (c.len-count.result - 1) (record { size = c.index-last.result.now.size; name = c.index-last.result.now.name; end_low = c.in_ok-end_low.end_low; end_high = c.in_ok-end_low.end_high; level = c.index-last.result.now.level; kind = c.index-last.result.now.kind })) (with_longer_last c.args.value.now (rows_of_shapes (string_bytes c.self.inside.text) c.self.inside.names 0 c.self.inside.shapes.items))
longer_one c =
    let text = string_bytes c.self.inside.text in
    let names = c.self.inside.names in
    let shapes = c.self.inside.shapes.items in
    let value = c.args.value.now in
    let last = c.index-last.result.now in
    let at = c.len-count.result - 1 in
    let t : Shape = record { size = last.size; name = last.name; end_low = c.in_ok-end_low.end_low; end_high = c.in_ok-end_low.end_high; level = last.level; kind = last.kind } in
    let count : c.len-count.result ≡ length shapes = search (rules, c.len-count.ensures) in
    let one : suc at ≡ length shapes = omega (arith, count, c.if-count-eq0.false) in
    let is : last ≡ get_or shapes at last = c.index-last.ensures in
    let like : IsAlike (get_or shapes at last) t = record {
      size = ap (λ (s : Shape). s.size) is;
      name = ap (λ (s : Shape). s.name) is;
      level = ap (λ (s : Shape). s.level) is;
      kind = ap (λ (s : Shape). s.kind) is;
    } in
    let ends : value_end t ≡ length text + length value = search (rules, c.in_ok-end_low.ensures.parts) in
    let whole : string_bytes c.push_str.new.self ≡ text ++ value = c.in_ok-push_str.ensures.bytes in
    let kept = kept-longer text value names (IsUtf8-string_bytes c.self.inside.text) c.utf8.value shapes at last t one c.self.invariant like ends in
    subst (λ w. IsLonger-kept w names (set shapes at t) (with_longer_last value (rows_of_shapes text names 0 shapes))) (sym whole) (record { kept = kept.0; rows = kept.1 })

pub invariant_of-self-2 : goal.invariant_of-self-2
invariant_of-self-2 c = (longer_one c).kept

pub returns-clause-rows : goal.returns-clause-rows
returns-clause-rows c =
    (longer_one c).rows ∙ ap (λ (p : Packed). with_longer_last c.args.value.now p.rows) c.self.view_is
