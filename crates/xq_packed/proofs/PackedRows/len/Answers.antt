use Rattle.std.proofs.Common.{rules, ◌≡◌, length, string_bytes, sym, ap, ◌∙◌, arith}
use Rattle.xq_packed.specs.Packed.{Packed}
use Rattle.xq_packed.proofs.Standing.{rows-length}
use Rattle.xq_packed.proofs.PackedRows.len.Goals as goal

pub returns-clause-rows : goal.returns-clause-rows
returns-clause-rows c =
    (let counted : c.len.result ≡ length c.self.inside.shapes.items = search (rules, c.len.ensures) in counted)
    ∙ sym (rows-length (string_bytes c.self.inside.text) c.self.inside.names 0 c.self.inside.shapes.items)
    ∙ ap (λ (p : Packed). length p.rows) c.self.view_is

pub returns-clause-room : goal.returns-clause-room
returns-clause-room c =
    let counted : c.len.result ≡ length c.self.inside.shapes.items = search (rules, c.len.ensures) in
    omega (arith, counted, c.self.invariant.room)
